-- What a connection gives.
use Rattle.std.specs.Prelude.{◌≡◌, ℕ, ◌+◌, ◌<◌, List, Bool, true, min}
use Rattle.off_base.specs.Number.{greatest_u64}
use Rattle.off_peers.specs.declared.connection.Heard.{Heard}
use Rattle.off_peers.specs.declared.connection.Heard.TheVariants.{Piece, Quiet, Dropped, Over}

-- none of its bytes is given to the office
abbrev pub GivesNothing : Heard → Type 0
GivesNothing (Piece bytes) = ⊥
GivesNothing Quiet = Unit {0}
GivesNothing Dropped = Unit {0}
GivesNothing Over = Unit {0}

-- it goes on only before its time is over
abbrev pub IsInTime : Heard → ℕ → ℕ → Type 0
IsInTime (Piece bytes) now until = now < until
IsInTime Quiet now until = now < until
IsInTime Dropped now until = now < until
IsInTime Over now until = Unit {0}

-- these bytes are given, or it is over
abbrev pub IsPieceOf : List ℕ → Heard → Type 0
IsPieceOf part (Piece bytes) = bytes ≡ part
IsPieceOf part Quiet = ⊥
IsPieceOf part Dropped = ⊥
IsPieceOf part Over = Unit {0}

-- once a piece of it is given, the office knows of it
abbrev pub IsSpoken : Heard → Bool → Type 0
IsSpoken (Piece bytes) spoke = spoke ≡ true
IsSpoken Quiet spoke = Unit {0}
IsSpoken Dropped spoke = Unit {0}
IsSpoken Over spoke = Unit {0}

-- the peer was heard now where it gave a piece; what gives none, and goes on, isn't heard
abbrev pub IsHeardAt : Heard → ℕ → ℕ → ℕ → Type 0
IsHeardAt (Piece bytes) now before after = after ≡ now
IsHeardAt Quiet now before after = after ≡ before
IsHeardAt Dropped now before after = after ≡ before
IsHeardAt Over now before after = Unit {0}

-- the moment that is so much later
abbrev pub later : ℕ → ℕ → ℕ
later now span = min (now + span) greatest_u64
