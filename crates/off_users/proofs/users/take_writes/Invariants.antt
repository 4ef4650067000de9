-- The writes so far are taken, and for the modems that those ahead put there is room.
use Rattle.std.proofs.Common.{◌≤◌, take, drop}
use Rattle.off_defs.specs.State.{Tables}
use Rattle.off_defs.specs.Tables.{write_all}
use Rattle.off_users.specs.Users.{StandsFor}
use Rattle.off_users.specs.Writes.{modem_puts}
use Rattle.off_users.proofs.users.take_writes.Given as goal

abbrev pub invariant-loop-place : goal.invariant-loop-place
invariant-loop-place l = record {
  stands : (t : Tables) → StandsFor l.fn.users t → StandsFor l.users (write_all t (take l.place l.writes));
  room : modem_puts (drop l.place l.writes) ≤ l.users.room;
}
