-- The office does something with each event.
use Rattle.std.proofs.Common.{◌≡◌, ℕ, Bool, true, false, List, ◌++◌, Option, Some, None, refl, subst}
use Rattle.off_defs.specs.declared.events.Service.TheVariants.{Dhcp, Time, Tftp}
use Rattle.off_defs.specs.declared.events.What.{What}
use Rattle.off_defs.specs.declared.events.What.TheVariants.{Datagram, Piece, Closed, Tick, End}
use Rattle.off_defs.specs.declared.results.Outcome.TheVariants.{Did}
use Rattle.off_defs.specs.State.{State, Effect, at_moment}
use Rattle.off_transfer_rules.specs.Requests.{datagram_at}
use Rattle.off_http.specs.Request.{Meaning, RequestIs}
use Rattle.off_cpe_rules.specs.declared.results.DeviceStep.{DeviceStep}
use Rattle.off_book.specs.Dhcp.{MessageDid, DatagramDid, device_of, device_effect, query_effect, dhcp_effect}
use Rattle.off_lease_rules.specs.Steps.{dhcp_step}
use Rattle.off_query_rules.specs.Asked.{query_of}
use Rattle.off_query_rules.specs.Answers.{query_step}
use Rattle.off_book.specs.Http.{heard_of, by_meaning, closed_as_busy, is_full, TakesPiece}
use Rattle.off_book.specs.Step.{Step, Does}
use Rattle.off_book.specs.Tftp.{transfers_effect, tftp_said, tick_said}
use Rattle.off_transfer_laws.proofs.StepLaws.{step_is_there}
use Rattle.off_transfer_laws.proofs.TickLaws.{tick_is_there}
use Rattle.off_laws.specs.Laws.{Brings, SomeResult}

abbrev Says : List ℕ → Type 0
Says heard = (meaning : Meaning) × RequestIs heard meaning

piece_some : (full : Bool) (s : State) (conn : ℕ) (piece heard : List ℕ) → heard ≡ heard_of s.held conn ++ piece → Says heard → (effect : Effect) × TakesPiece full s conn piece effect
piece_some true s conn piece heard same says = (closed_as_busy s conn, refl)
piece_some false s conn piece heard same says = (
  by_meaning s conn (heard_of s.held conn ++ piece) says.0,
  record { meaning = says.0; says = subst (λ (x : List ℕ). RequestIs x says.0) same says.1; does = refl },
)

message_some : (s : State) (bytes : List ℕ) (step : Option DeviceStep) → (effect : Effect) × MessageDid s bytes effect step
message_some s bytes (Some step) = (device_effect s step, refl)
message_some s bytes None = (dhcp_effect s (dhcp_step s.tables s.held.now bytes), refl)

pub datagram_some : (s : State) (bytes : List ℕ) (query : Option (List ℕ)) → (effect : Effect) × DatagramDid s bytes effect query
datagram_some s bytes (Some q) = (query_effect s (query_step s.tables s.held.now q), refl)
datagram_some s bytes None = message_some s bytes (device_of s.tables s.held.now bytes)

does_some : (s : State) (what : What) (heard : List ℕ) → Brings s what heard → Says heard → (effect : Effect) × Does s what Did effect
does_some s (Datagram Dhcp from bytes) heard brings says = datagram_some s bytes (query_of bytes)
does_some s (Datagram Time from bytes) heard brings says = (_, refl)
does_some s (Datagram Tftp from bytes) heard brings says =
    let there = step_is_there s.tables s.held.transfers (datagram_at s.held.now from bytes) in (
      transfers_effect s there.0.transfers (tftp_said there.0),
      record { given = there.0; step = there.1; does = refl },
    )
does_some s (Piece conn piece) heard brings says = piece_some (is_full s.held.connections conn) s conn piece heard brings says
does_some s (Closed conn) heard brings says = (_, refl)
does_some s Tick heard brings says =
    let there = tick_is_there s.held.now s.held.transfers in (
      transfers_effect s there.after (tick_said there.items there.ticked),
      record { transfers = there.after; items = there.items; ticked = there.ticked; step = there.step; does = refl },
    )
does_some s End heard brings says = (_, refl)

brings_then : (s : State) (at : ℕ) (what : What) (heard : List ℕ) → Brings s what heard → Brings (at_moment s at) what heard
brings_then s at (Datagram service from bytes) heard brings = tt
brings_then s at (Piece conn piece) heard brings = brings
brings_then s at (Closed conn) heard brings = tt
brings_then s at Tick heard brings = tt
brings_then s at End heard brings = tt

pub some_result : (heard : List ℕ) → Says heard → SomeResult heard
unfolding Step
some_result heard says s event brings = does_some (at_moment s event.at.0) event.what heard (brings_then s event.at.0 event.what heard brings) says
