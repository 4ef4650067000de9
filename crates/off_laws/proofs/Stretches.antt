-- What holds of leases over each stretch of a run.
use Rattle.std.proofs.Common.{◌≡◌, List, ◌∷◌, codes, All, subst}
use Rattle.off_defs.specs.State.{State}
use Rattle.off_dhcp.specs.Datagram.{Received}
use Rattle.off_account_rules.specs.Good.{Good}
use Rattle.off_asking.specs.Asking.{client}
use Rattle.off_book.specs.Run.{Turn, Run}
use Rattle.off_laws.specs.Leases.{TakesMessage, DoesNotServe, IsGiven, LeasesHoldThrough}
use Rattle.off_laws.proofs.RunLaws.{run_keeps_good}
use Rattle.off_laws.proofs.Standings.{leases_stay_right}
use Rattle.off_laws.proofs.Outlasting.{bindings_outlast}
use Rattle.off_laws.proofs.Acknowledged.{acknowledged_is_given}

given_at : (from to : State) (stretch turns : List Turn) (turn : Turn) (m : Received) → Good from.tables → Run from stretch to → stretch ≡ turn ∷ turns
    → TakesMessage m turn → turn.said.line ≡ codes "dhcp ack" → All (DoesNotServe (client m)) turns → IsGiven from m turn to
given_at from to stretch turns turn m good run is takes says quiet =
    acknowledged_is_given from to turn turns m good (subst (λ (ts : List Turn). Run from ts to) is run) takes says quiet

pub leases_hold_through : (s : State) (turns : List Turn) → Good s.tables → LeasesHoldThrough s turns
leases_hold_through s turns good before stretch later from to parts up_to onward =
    let fine : Good from.tables = run_keeps_good s from before up_to good in
    record {
      right = leases_stay_right s from before good up_to;
      right_again = leases_stay_right from to stretch fine onward;
      outlast = λ mac address expiry bound quiet live. bindings_outlast from to stretch mac address expiry fine onward bound quiet live;
      given = λ turn turns m is takes says quiet. given_at from to stretch turns turn m fine onward is takes says quiet;
    }
