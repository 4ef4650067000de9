-- The end of events.
use Rattle.off_defs.specs.declared.events.Event.{Event}
use Rattle.off_defs.specs.declared.events.What.TheVariants.{End}

-- the event that a link gives where none is left
abbrev pub end_event : Event
end_event = record { at = record { 0 = 0 }; what = End }
