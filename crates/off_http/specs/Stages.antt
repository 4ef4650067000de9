-- What a session knows of its bytes: how far they have been read, and where the parts of a request
-- stand.
use Rattle.std.specs.Prelude.{◌≡◌, ℕ, ◌+◌, ◌<◌, ◌≤◌, List, length, take, map, slice_range, Some, None}
use Rattle.memchr.specs.Find.{FindsNeedle}
use Rattle.httparse.specs.Grammar.{RequestHead}
use Rattle.httparse.specs.Spans.{IsWithin, span_bytes, name_and_value}
use Rattle.off_http.specs.declared.answers.Fed.{Fed}
use Rattle.off_http.specs.declared.answers.Fed.TheVariants.{Wait, Whole, Bad}
use Rattle.off_http.specs.declared.heads.Parts.{Parts}
use Rattle.off_http.specs.declared.stages.Stage.{Stage}
use Rattle.off_http.specs.declared.stages.Stage.TheVariants.{ReadingHead, ReadingBody, Finished, Failed}
use Rattle.off_http.specs.Request.{Meaning, Waits, Refused, Asked, head_limit, body_limit, blank_line, declared_length, IsOneHead, RequestIs}

-- the bytes are one head, its parts stand there, and its body is declared
pub record HeadHas (text : List ℕ) (parts : Parts) : Type 0 where
  pub head : RequestHead
  pub is : IsOneHead text head
  pub ends : parts.head_len ≡ length text
  pub method : IsWithin parts.head_len parts.method × (span_bytes text parts.method ≡ head.method)
  pub target : IsWithin parts.head_len parts.target × (span_bytes text parts.target ≡ head.target)
  pub declared : declared_length (map name_and_value head.fields) ≡ Some parts.body_len
  pub fits : parts.body_len ≤ body_limit

-- the bytes begin with such a head, which ends with their first blank line
pub record HasHead (bytes : List ℕ) (parts : Parts) : Type 0 where
  pub place : ℕ
  pub first : FindsNeedle (take head_limit bytes) blank_line 0 (Some place)
  pub ends : parts.head_len ≡ place + 4
  pub has : HeadHas (take parts.head_len bytes) parts

-- what is known of the bytes at each stage
abbrev pub StageHolds : List ℕ → Stage → Type 0
StageHolds bytes ReadingHead = FindsNeedle bytes blank_line 0 None × (length bytes < head_limit)
StageHolds bytes (ReadingBody parts) =
    HasHead bytes parts × (length bytes < parts.head_len + parts.body_len)
StageHolds bytes (Finished parts) =
    HasHead bytes parts × (parts.head_len + parts.body_len ≤ length bytes)
StageHolds bytes (Failed fault) = RequestIs bytes (Refused fault)

-- what the bytes say, by what is known of them
abbrev pub answer_of : List ℕ → Stage → Meaning
answer_of bytes ReadingHead = Waits
answer_of bytes (ReadingBody parts) = Waits
answer_of bytes (Finished parts) =
    Asked (span_bytes bytes parts.method) (span_bytes bytes parts.target)
    (slice_range bytes parts.head_len (parts.head_len + parts.body_len))
answer_of bytes (Failed fault) = Refused fault

-- the stage of a whole request
abbrev pub IsFinished : Stage → Type 0
IsFinished ReadingHead = ⊥
IsFinished (ReadingBody parts) = ⊥
IsFinished (Finished parts) = Unit {0}
IsFinished (Failed fault) = ⊥

-- what a stage answers to a piece
abbrev pub stage_fed : Stage → Fed
stage_fed ReadingHead = Wait
stage_fed (ReadingBody parts) = Wait
stage_fed (Finished parts) = Whole
stage_fed (Failed fault) = Bad fault
