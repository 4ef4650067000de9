-- What a keeper with all rows in memory tells of a commit, and at first.
use Rattle.std.proofs.Common.{◌≡◌, ℕ, List, refl, sym, ap, ◌∙◌, arith}
use Rattle.off_defs.specs.declared.writes.Write.{Write}
use Rattle.off_defs.specs.State.{Tables}
use Rattle.off_defs.specs.Tables.{write_all}
use Rattle.off_defs.specs.Counts.{one_more}
use Rattle.off_outside.specs.KeeperSeen.{KeeperSeen}
use Rattle.off_outside.specs.KeeperCalls.{Crash, Reads, NotDone, Committed}
use Rattle.off_outside.specs.declared.keeper.KeepErr.{KeepErr}
use Rattle.off_cached.specs.Cached.{whole_seen, ReadWhole, LeftToStore}

crash_whole : {P : Tables → Tables → Type 0} (s v : KeeperSeen) (r u : Tables) (a b m n : ℕ) → Crash P (whole_seen s r a m) (whole_seen v u b n)
crash_whole s v r u a b m n = record {
  later = omega arith;
  past = λ m u before opened. opened;
  within = λ t told m u behind before opened. absurd opened;
  doubts = λ t told u doubt. absurd doubt;
}

-- the rows of a plan, for which memory was taken, behind the store's commit
pub store_did : {writes : List Write} (s v : KeeperSeen) (r u w : Tables) (a b m n : ℕ) → u ≡ r → w ≡ write_all u writes → n ≡ one_more m → Committed writes s v
    → Committed writes (whole_seen s r a m) (whole_seen v w b n)
store_did {writes} s v r u w a b m n same written more done = record {
  tables = record {
    each = λ t told. record {
      value = w;
      told = refl;
      fits = written ∙ ap (λ (x : Tables). write_all x writes) (same ∙ sym told);
    };
  };
  up = λ up. up;
  faults = done.faults;
  commits = more;
  waits = refl;
  crash = crash_whole s v r w a b m n;
  sure = λ t told u doubt. doubt;
}

pub all_read : (s v : KeeperSeen) (r : Tables) → Reads (λ t. r ≡ t) s v → ReadWhole s (whole_seen v r 0 0)
all_read s v r read = record {
  tables = record { value = r; told = refl; fits = λ t told. (read.tables t told).1 };
  up = tt;
  faults = read.quiet.faults;
  calls = refl;
  commits = refl;
}

pub not_read : (s v : KeeperSeen) (err : KeepErr) → NotDone err s v → LeftToStore s v
not_read s v err undone = (err, undone)
