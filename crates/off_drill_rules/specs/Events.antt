-- The events of a drill: modem by modem, what it sends.
use Rattle.std.specs.Prelude.{ℕ, zero, suc, Bool, List, [], ◌∷◌, ◌++◌, map, if◌then◌else◌}
use Rattle.std.specs.List.{range_with_len}
use Rattle.off_defs.specs.declared.events.Event.{Event}
use Rattle.off_defs.specs.declared.events.What.{What}
use Rattle.off_defs.specs.declared.events.What.TheVariants.{Datagram}
use Rattle.off_defs.specs.declared.events.Service.TheVariants.{Dhcp, Tftp}
use Rattle.off_drill_rules.specs.Rows.{moment, is_active}
use Rattle.off_drill_rules.specs.Messages.{by_relay, by_modem, discover, request, read_request, acknowledgement}

abbrev pub at_modem : ℕ → What → Event
at_modem i what = record { at = record { 0 = moment i }; what = what }

abbrev pub asks_for_offer : ℕ → Event
asks_for_offer i = at_modem i (Datagram Dhcp by_relay (discover i))

abbrev pub asks_for_lease : ℕ → Event
asks_for_lease i = at_modem i (Datagram Dhcp by_relay (request i))

abbrev pub asks_for_file : ℕ → Event
asks_for_file i = at_modem i (Datagram Tftp (by_modem i) (read_request i))

abbrev pub acknowledges : ℕ → ℕ → Event
acknowledges i number = at_modem i (Datagram Tftp (by_modem i) (acknowledgement number))

-- in how many blocks its file comes, of which the last has fewer bytes than the others
abbrev pub blocks_of : Bool → ℕ
blocks_of active = if active then 3 else 2

-- it acknowledges the OACK, which has number 0, and each block
abbrev pub numbers_from : ℕ → ℕ → List ℕ
numbers_from first count = range_with_len first count

abbrev pub acknowledgements : ℕ → List ℕ → List Event
acknowledgements i numbers = map (acknowledges i) numbers

abbrev pub modem_events : ℕ → List Event
modem_events i =
    asks_for_offer i ∷ asks_for_lease i ∷ asks_for_file i
    ∷ acknowledgements i (numbers_from 0 (suc (blocks_of (is_active i))))

-- so many modems behind modem k, in order
abbrev pub events_from : ℕ → ℕ → List Event
events_from k zero = []
events_from k (suc more) = modem_events (suc k) ++ events_from (suc k) more

-- all that the modems of a drill send
abbrev pub drill_events : ℕ → List Event
drill_events n = events_from 0 n
