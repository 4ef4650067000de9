-- The code of what a keeper in memory holds, by which a proof tells two of them apart. Nothing here
-- says what it does.
use Rattle.std.specs.Prelude.{ℕ, List, refl}
use Rattle.std.specs.FinMap as map
use Rattle.std.specs.Coded.{Coded, code_by, coded×, coded_ℕ, coded_list}
use Rattle.off_defs.specs.contracts.keys.Key as key
use Rattle.off_defs.specs.contracts.tables.Row as row
use Rattle.off_defs.specs.State.{Tables}
use Rattle.off_keepmem.specs.KeeperInMemory.{MemKeeperHeld}

abbrev pub keeper_code : Coded MemKeeperHeld
keeper_code =
    code_by ((Tables × ℕ) × ((List ℕ × ℕ) × (ℕ × ℕ)))
    (coded× (coded× (map.code key.the_row.coded row.the_row.coded) coded_ℕ)
    (coded× (coded× (coded_list coded_ℕ) coded_ℕ) (coded× coded_ℕ coded_ℕ)))
    (λ m. ((m.tables, m.spare), ((m.calls.listed, m.calls.made), (m.faults, m.commits))))
    (λ p. record {
      tables = p.0.0;
      spare = p.0.1;
      calls = record { listed = p.1.0.0; made = p.1.0.1 };
      faults = p.1.1.0;
      commits = p.1.1.1;
    })
    (λ _. refl)
