-- The time of day (RFC 868): any datagram to the time port is answered by the time at the office's
-- moment.
use Rattle.std.specs.Prelude.{◌≡◌, ℕ, [], ◌∷◌, codes}
use Rattle.off_base.specs.declared.addresses.Peer.{Peer}
use Rattle.off_defs.specs.declared.results.Sent.{Sent}
use Rattle.off_defs.specs.declared.results.Sent.TheVariants as sent
use Rattle.off_defs.specs.declared.events.Service.TheVariants as service
use Rattle.off_defs.specs.State.{State, Effect}
use Rattle.off_defs.specs.Clock.{time_bytes}

-- the answer to whoever asked
abbrev pub time_answer : ℕ → Peer → Sent
time_answer now from = sent.Datagram service.Time from (time_bytes now)

-- a datagram to the time port was answered
abbrev pub TimeDid : State → Peer → Effect → Type 0
TimeDid s from effect =
    effect
    ≡ record {
      said = record { items = time_answer s.held.now from ∷ []; line = codes "time sent" };
      commit = [];
      after = s;
    }
