-- What a modem asks of the office in a drill: the event, and the line for which it hopes.
use Rattle.std.specs.Prelude.{ℕ, List}
use Rattle.off_defs.specs.declared.events.Event.{Event}
use Rattle.off_drill_rules.specs.Events.{asks_for_offer, asks_for_lease, asks_for_file, acknowledges}
use Rattle.off_drill_rules.specs.Numbers.{offer_line, ack_line, oack_line, done_line}
use Rattle.off_drill_parts.specs.declared.messages.Ask.{Ask}
use Rattle.off_drill_parts.specs.declared.messages.Ask.TheVariants as ask

abbrev pub event_for : Ask → ℕ → Event
event_for ask.Offer i = asks_for_offer i
event_for ask.Lease i = asks_for_lease i
event_for ask.File i = asks_for_file i
event_for (ask.Next number) i = acknowledges i number

abbrev pub hoped_line : Ask → List ℕ
hoped_line ask.Offer = offer_line
hoped_line ask.Lease = ack_line
hoped_line ask.File = oack_line
hoped_line (ask.Next number) = done_line
