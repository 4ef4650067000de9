-- What a link in memory has sent: a list of items whose bytes stand one behind another in one
-- buffer.
use Rattle.std.specs.Prelude.{ℕ, ◌+◌, ◌≤◌, List, take, drop, length}
use Rattle.off_defs.specs.declared.results.Sent.{Sent}
use Rattle.off_defs.specs.declared.results.Sent.TheVariants as sent
use Rattle.off_outside.specs.declared.outbox.Item.{Item}
use Rattle.off_outside.specs.declared.outbox.Item.TheVariants.{Datagram, Answer, Close}
use Rattle.off_outside.specs.declared.outbox.SentRef.{SentRef}
use Rattle.off_outside.specs.declared.outbox.SentRef.TheVariants as lent

-- the item that stands in the buffer
abbrev pub item_in : List ℕ → Item → Sent
item_in octets (Datagram service to at len) = sent.Datagram service to (take len (drop at octets))
item_in octets (Answer conn at len) = sent.Answer conn (take len (drop at octets))
item_in octets (Close conn) = sent.Close conn

-- an item's bytes are within the buffer
abbrev pub IsWithin : List ℕ → Item → Type 0
IsWithin octets (Datagram service to at len) = at + len ≤ length octets
IsWithin octets (Answer conn at len) = at + len ≤ length octets
IsWithin octets (Close conn) = Unit {0}

-- the item that is lent
abbrev pub lent_item : SentRef → Sent
lent_item (lent.Datagram service to bytes) = sent.Datagram service to bytes.now
lent_item (lent.Answer conn bytes) = sent.Answer conn bytes.now
lent_item (lent.Close conn) = sent.Close conn
