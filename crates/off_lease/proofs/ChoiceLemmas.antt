-- The least free address of a pool, as it's kept and as the rules have it.
use Rattle.std.proofs.Common.{◌≡◌, ℕ, ◌&&◌, nat_le, Option, Some, None, MatchOption, refl, sym, ap, ◌∙◌, arith}
use Rattle.std.proofs.lemmas.Bool.{and_parts}
use Rattle.std.proofs.lemmas.Bool.Decides.{nat_tests}
use Rattle.off_base.specs.declared.addresses.Ip4.{Ip4}
use Rattle.off_defs.specs.declared.tables.Pool.{Pool}
use Rattle.off_defs.specs.State.{Tables}
use Rattle.off_asking.specs.Asking.{ip}
use Rattle.off_defs.specs.declared.tables.Lease.{Lease}
use Rattle.off_account_rules.specs.Rows.{lease_in, has_address}
use Rattle.off_asking.proofs.ChoiceLemmas.{least_is as first_is}
use Rattle.off_runs.specs.Runs.{is_open}
use Rattle.off_runs.specs.Held.{NoneOpen, IsLeastOpen}
use Rattle.off_runs.specs.Leases.{expiry_in, expiry_of}
use Rattle.off_lease_rules.specs.Free.{has_ended, is_free, least_free}

-- an address by what is kept of it, and by its row
ended_by : (now : ℕ) (lease : Option Lease) → nat_le (expiry_of lease) now ≡ has_ended now lease
ended_by now None = grind (arith, nat_tests)
ended_by now (Some lease) = refl

pub open_is_free : (t : Tables) (now : ℕ) (pool : Pool) (a : Ip4) → is_open (expiry_in t) now pool a.0 ≡ is_free t now pool a
open_is_free t now pool a = ap (λ b. has_address pool a && b) (ended_by now (lease_in t a))

-- the least that is kept as free is the least free one of the rules
pub least_is : (t : Tables) (now : ℕ) (pool : Pool) (least : Option Ip4) → MatchOption least (NoneOpen (expiry_in t) now pool) (IsLeastOpen (expiry_in t) now pool) → least ≡ least_free t now pool
least_is t now pool None none = first_is (is_free t now pool) pool None (λ b. sym (open_is_free t now pool (ip b)) ∙ none b)
least_is t now pool (Some a) least =
    let passes = sym (open_is_free t now pool a) ∙ least.free in
    first_is (is_free t now pool) pool (Some a) (record {
      passes = passes;
      within = (and_parts (has_address pool a) (has_ended now (lease_in t a)) passes).0;
      least = λ b free. least.least b (open_is_free t now pool (ip b) ∙ free);
    })
