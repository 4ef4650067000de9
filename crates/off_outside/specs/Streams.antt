-- What is seen of a source and of a sink, and what their calls do to it.
use Rattle.std.specs.Prelude.{◌≡◌, ℕ, zero, suc, ◌<◌, ◌⊎◌, List, [], ◌++◌, length, take, Result, MatchResult}
use Rattle.off_defs.specs.Told.{Told, Stays}
use Rattle.off_defs.specs.Counts.{Grew, one_more}
use Rattle.off_outside.specs.declared.link.Failed.{Failed}

-- the bytes that are left, told or not, of which one value at most is told where the source is
-- `up`; a count of faults, one of calls, and one of ends: of the reads that gave nothing although
-- there was room
pub record SourceSeen : Type 1 where
  pub left : List ℕ → Type 0
  pub up : Type 0
  pub faults : ℕ
  pub calls : ℕ
  pub ends : ℕ

-- a count of ends behind a read that gave n bytes: one more where that is nothing although there
-- was room
abbrev pub ends_after : ℕ → ℕ → ℕ → ℕ
ends_after zero zero ends = ends
ends_after zero (suc room) ends = one_more ends
ends_after (suc n) room ends = ends

-- `n` bytes came, and stand at the front of `out`
pub record Gave (n : ℕ) (out : List ℕ) (old new : SourceSeen) : Type 0 where
  pub left : Told old.left new.left
      (λ before after. (before ≡ take n out ++ after) × (n ≡ 0 → 0 < length out → before ≡ []))
  pub up : old.up → new.up
  pub faults : new.faults ≡ old.faults
  pub calls : new.calls ≡ one_more old.calls
  pub ends : new.ends ≡ ends_after n (length out) old.ends

pub record NotGiven (old new : SourceSeen) : Type 0 where
  pub left : Stays old.left new.left
  pub up : old.up → new.up ⊎ Grew 1 old.faults new.faults
  pub faults : Grew 1 old.faults new.faults
  pub calls : new.calls ≡ one_more old.calls
  pub ends : new.ends ≡ old.ends

-- no call was made: all is as it was
pub record SourceUnasked (old new : SourceSeen) : Type 0 where
  pub left : Stays old.left new.left
  pub up : old.up → new.up
  pub faults : new.faults ≡ old.faults
  pub calls : new.calls ≡ old.calls
  pub ends : new.ends ≡ old.ends

-- the bytes that were written, told or not, of which one value at most is told where the sink is
-- `up`; a count of faults, and one of calls
pub record SinkSeen : Type 1 where
  pub written : List ℕ → Type 0
  pub up : Type 0
  pub faults : ℕ
  pub calls : ℕ

-- the sink stays up, or has counted a fault
abbrev pub SinkStaysUp : SinkSeen → SinkSeen → Type 0
SinkStaysUp old new = old.up → new.up ⊎ Grew 1 old.faults new.faults

-- the whole piece was written
pub record Wrote (piece : List ℕ) (old new : SinkSeen) : Type 0 where
  pub written : Told old.written new.written (λ before after. after ≡ before ++ piece)
  pub up : old.up → new.up
  pub faults : new.faults ≡ old.faults
  pub calls : new.calls ≡ one_more old.calls

-- `after` has some front of the piece behind `before`
pub record HasFront (piece before after : List ℕ) : Type 0 where
  pub count : ℕ
  pub front : after ≡ before ++ take count piece

-- a front of the piece was written
pub record NotWritten (piece : List ℕ) (old new : SinkSeen) : Type 0 where
  pub written : Told old.written new.written (HasFront piece)
  pub up : SinkStaysUp old new
  pub faults : Grew 1 old.faults new.faults
  pub calls : new.calls ≡ one_more old.calls

-- no call was made: all is as it was
pub record SinkUnasked (old new : SinkSeen) : Type 0 where
  pub written : Stays old.written new.written
  pub up : old.up → new.up
  pub faults : new.faults ≡ old.faults
  pub calls : new.calls ≡ old.calls

-- what `read` and `write` do, by the answer
abbrev pub Draws : Result ℕ Failed → List ℕ → SourceSeen → SourceSeen → Type 0
Draws result out old new = MatchResult result (λ n. Gave n out old new) (λ _. NotGiven old new)

abbrev pub Appends : Result (Unit {0}) Failed → List ℕ → SinkSeen → SinkSeen → Type 0
Appends result piece old new =
    MatchResult result (λ _. Wrote piece old new) (λ _. NotWritten piece old new)
