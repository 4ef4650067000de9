use Rattle.std.proofs.Common.{◌≡◌, ℕ, Option, Some, IfSome, option_map, subst}
use Rattle.off_defs.specs.declared.tables.Modem.{Modem}
use Rattle.off_account_rules.specs.Rows.{modem_in}
use Rattle.off_readers.proofs.LooksLemmas.{looks_as}
use Rattle.off_cpe.proofs.RowLemmas.{by_number}
use Rattle.off_cpe.proofs.gathering.subscriber_of.Goals as goal

pub returns-in-Some-clause-told : goal.returns-in-Some-clause-told
returns-in-Some-clause-told g c =
    looks_as _ _ c.read_subscriber.result _ _ c.read_subscriber.ensures.told (λ subscriber t is read.
    by_number t c.in-Some.number (modem_in t c.args.modem.mac) subscriber
    (subst (λ (o : Option ℕ). IfSome o (λ n. option_map (λ (r : Modem). r.subscriber) (modem_in t c.args.modem.mac) ≡ Some n)) c.in-Some.is read) is)
