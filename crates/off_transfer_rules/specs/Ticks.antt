-- What a Tick does to transfers: a packet that wasn't answered for the transfer's seconds is sent
-- again, five times at most, and then its transfer is closed (RFC 1350 sections 2 and 7; RFC 2349
-- for seconds that are asked for; how often is this project's profile).
use Rattle.std.specs.Prelude.{◌≡◌, ℕ, Bool, not, ◌&&◌, nat_le, nat_lt, List, [], ◌∷◌, count_by, Option, Some, None, option_and_then, if◌then◌else◌}
use Rattle.std.specs.List.{flat_map}
use Rattle.std.specs.FinMap as map
use Rattle.off_base.specs.declared.addresses.Peer.{Peer}
use Rattle.off_defs.specs.declared.results.Sent.{Sent}
use Rattle.off_defs.specs.Clock.{later_by}
use Rattle.off_defs.specs.State.{Transfer}
use Rattle.off_transfer_rules.specs.Transfers.{Transfers, seconds_of, last_packet, sent_again, packet_to}
use Rattle.off_transfer_rules.specs.declared.ticks.Ticked.{Ticked}

abbrev pub is_due : ℕ → Transfer → Bool
is_due now x = nat_le (later_by (seconds_of x) x.last_send) now

abbrev pub has_resend : Transfer → Bool
has_resend x = nat_lt x.resends 5

abbrev pub is_resent : ℕ → Transfer → Bool
is_resent now x = is_due now x && has_resend x

abbrev pub is_closed : ℕ → Transfer → Bool
is_closed now x = is_due now x && not (has_resend x)

-- what a Tick leaves of a transfer
abbrev pub tick_of : ℕ → Transfer → Option Transfer
tick_of now x =
    if is_resent now x then Some (sent_again now x)
    else if is_closed now x then None
    else Some x

-- what it sends for one
abbrev pub tick_items : ℕ → Peer × Transfer → List Sent
tick_items now live =
    if is_resent now live.1 then packet_to live.0 (last_packet live.1) ∷ [] else []

-- each transfer by itself; what is sent goes in the order of peers, by address and then by port
pub record TickStep (now : ℕ) (old new : Transfers) (items : List Sent) (ticked : Ticked)
    : Type 0 where
  pub each : (peer : Peer) → map.get new peer ≡ option_and_then (tick_of now) (map.get old peer)
  pub sends : items ≡ flat_map (tick_items now) (map.entries old)
  pub again : ticked.again ≡ count_by (λ live. is_resent now live.1) (map.entries old)
  pub closed : ticked.closed ≡ count_by (λ live. is_closed now live.1) (map.entries old)
