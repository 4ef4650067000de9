-- What is cut off in front of a packet's bytes.
use Rattle.std.specs.Prelude.{◌≡◌, ℕ, ◌≤◌, ⊤, List, ◌∷◌, IfSome}
use Rattle.off_packets.specs.Packets.{two_byte_number}
use Rattle.off_packets.specs.declared.packets.Packet.{Packet}
use Rattle.off_packets.specs.declared.packets.Packet.TheVariants as packet

-- a number in two bytes stands in front of the rest
pub record IsNumbered (bytes : List ℕ) (number : ℕ) (rest : List ℕ) : Type 0 where
  pub high : ℕ
  pub low : ℕ
  pub spells : bytes ≡ high ∷ low ∷ rest
  pub value : number ≡ two_byte_number high low

-- no block is asked for that is shorter than any may be
abbrev pub AsksEnough : Packet → Type 0
AsksEnough (packet.Read name options) = IfSome options.blksize (λ size. 8 ≤ size)
AsksEnough packet.Write = ⊤
AsksEnough (packet.Ack number) = ⊤
AsksEnough packet.Error = ⊤
AsksEnough packet.Other = ⊤
