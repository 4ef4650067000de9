-- The leases so far and those that are left say what all leases say.
use Rattle.std.proofs.Common.{◌≡◌, ◌≤◌, ◌+◌, drop}
use Rattle.std.specs.List.{find}
use Rattle.std.specs.Option.{option_or}
use Rattle.off_cpe_rules.specs.Behind.{is_owned, others_among}
use Rattle.off_behind.proofs.leases.neighbours_among.Given as goal

abbrev pub invariant-loop-entry : goal.invariant-loop-entry
invariant-loop-entry l = record {
  own : option_or l.own (find (λ entry. is_owned l.modem l.device entry.1) (drop l.entry-index l.leases)) ≡ find (λ entry. is_owned l.modem l.device entry.1) l.leases;
  others : l.others + others_among l.now.0 l.modem l.device (drop l.entry-index l.leases) ≡ others_among l.now.0 l.modem l.device l.leases;
  few : l.others ≤ l.entry-index;
}
