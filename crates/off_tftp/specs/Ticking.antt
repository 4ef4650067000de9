-- What is done to transfers, and goes again, at a Tick.
use Rattle.std.specs.Prelude.{◌≡◌, ℕ, List, []}
use Rattle.off_defs.specs.declared.results.Sent.{Sent}
use Rattle.off_defs.specs.State.{Said, says_nothing}
use Rattle.off_transfer_rules.specs.Transfers.{Transfers}
use Rattle.off_transfer_rules.specs.Ticks.{TickStep}
use Rattle.off_tftp.specs.declared.ticking.TickDone.{TickDone}

-- so much to send, and no line
abbrev pub says_items : List Sent → Said
says_items items = record { items = items; line = [] }

pub record Ticks (now : ℕ) (old new : Transfers) (done : TickDone) : Type 0 where
  pub step : TickStep now old new done.packets.items done.ticked
  pub says : done.packets ≡ says_items done.packets.items

-- a Tick that found nothing to do
abbrev pub nothing_done : TickDone
nothing_done = record { packets = says_nothing; ticked = record { again = 0; closed = 0 } }
