-- What a connection has still to be sent.
use Rattle.std.specs.Prelude.{◌≡◌, ◌≢◌, ℕ, ◌-◌, ◌<◌, ◌≤◌, List, [], ◌++◌, drop, length}
use Rattle.off_peers.specs.declared.unsent.Sending.{Sending}
use Rattle.off_peers.specs.declared.unsent.Sending.TheVariants.{Whole, Rest, Broken}

-- the bytes, and how many more there is room for
pub record UnsentHeld : Type 0 where
  pub left : List ℕ
  pub room : ℕ

-- a part was put behind the bytes
pub record Put (part : List ℕ) (old new : UnsentHeld) : Type 0 where
  pub fits : length part ≤ old.room
  pub left : new.left ≡ old.left ++ part
  pub room : new.room ≡ old.room - length part

-- a part is too long, and nothing changed
pub record DoesNotFit (part : List ℕ) (old new : UnsentHeld) : Type 0 where
  pub long : old.room < length part
  pub same : new ≡ old

-- a front of the bytes was sent, and there are more
pub record SentFront (old new : UnsentHeld) : Type 0 where
  pub front : (count : ℕ) × (new.left ≡ drop count old.left)
  pub more : new.left ≢ []
  pub room : new.room ≡ old.room

-- all bytes were sent
pub record SentAll (old new : UnsentHeld) : Type 0 where
  pub left : new.left ≡ []
  pub room : new.room ≡ old.room

abbrev pub Sends : Sending → UnsentHeld → UnsentHeld → Type 0
Sends Whole old new = SentAll old new
Sends Rest old new = SentFront old new
Sends Broken old new = new ≡ old
