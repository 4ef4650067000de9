-- The lease that the writes so far leave to the address.
use Rattle.std.proofs.Common.{◌≡◌, take, unwrap_or}
use Rattle.off_defs.specs.State.{Tables}
use Rattle.off_defs.specs.Tables.{write_all}
use Rattle.off_account_rules.specs.Rows.{device_in}
use Rattle.off_behind.proofs.formers.written_before.Given as goal

abbrev pub invariant-loop-before : goal.invariant-loop-before
invariant-loop-before l = (t : Tables) → device_in (write_all t (take l.before l.writes)) l.address ≡ unwrap_or l.found (device_in t l.address)
