-- What an ending says where no count rose.
use Rattle.std.proofs.Common.{◌≡◌, ℕ, ◌⊎◌, List, inl, inr, sym, subst, arith}
use Rattle.std.specs.Prelude.{Contains}
use Rattle.off_defs.specs.Counts.{Grew}
use Rattle.off_outside.specs.Streams.{SourceSeen, SinkSeen, Wrote}
use Rattle.off_jobs.specs.Input.{NoInput}
use Rattle.off_jobs.specs.declared.input.InputErr.{InputErr}
use Rattle.off_jobs.specs.declared.input.InputErr.TheVariants.{TooLong, Failed, Memory}
use Rattle.off_jobs.specs.Health.{Health, Stood, NoFault, AllUp}
use Rattle.off_jobs.specs.Ending.{Ending, unread_end, Tells, JobEnds}

-- a count that stood didn't rise
pub stands : {a b : ℕ} → Stood a b → Grew 1 a b → ⊥
stands stood grew = omega (arith, stood.same, stood.room, grew.grew)

-- where a count stood, what stays up by it is up
pub kept : {P : Type 0} {a b : ℕ} → Stood a b → P ⊎ Grew 1 a b → P
kept stood (inl up) = up
kept stood (inr grew) = absurd (stands stood grew)

-- where the sink's stood, the whole text was written
pub told_whole : {end : Ending} {status : ℕ} {t t' : SinkSeen} → Tells end status t t' → Stood t.faults t'.faults → (status ≡ end.status) × Wrote end.text t t'
told_whole (inl wrote) stood = wrote
told_whole (inr cut) stood = absurd (stands stood cut.1.faults)

pub sink_kept : {end : Ending} {status : ℕ} {t t' : SinkSeen} → Tells end status t t' → Stood t.faults t'.faults → t.up → t'.up
sink_kept told stood = (told_whole told stood).1.up

-- a status of 0 is the ending's own
pub own_status : {end : Ending} {status : ℕ} {t t' : SinkSeen} → Tells end status t t' → status ≡ 0 → (end.status ≡ 0) × Wrote end.text t t'
own_status (inl wrote) zero = let e = wrote.0 in (omega (arith, e, zero), wrote.1)
own_status (inr cut) zero = let e = cut.0 in absurd (omega (arith, e, zero))

-- the same ending by another name
pub tells_by : {A : Type 0} (end : A → Ending) (x given : A) (status : ℕ) (t t' : SinkSeen) → x ≡ given → Tells (end given) status t t' → Tells (end x) status t t'
tells_by end x given status t t' is tells = subst (λ v. Tells (end v) status t t') (sym is) tells

-- a job from the way in which it ended
pub ends_by : {Way : Type 0} {Did : Way → Type 0} {end : Way → Ending} {few : List ℕ} {needs : List Health} {status : ℕ} {t t' : SinkSeen} (way : Way) → Did way
    → Tells (end way) status t t' → (NoFault needs → Stood t.faults t'.faults) → (NoFault needs → Contains few (end way).status) → (NoFault needs → AllUp needs)
    → JobEnds Did end few needs status t t'
ends_by {few = few} way did told stood is_one up = record {
  way = way;
  did = did;
  told = told;
  statuses = λ none. subst (Contains few) (sym (told_whole told (stood none)).0) (is_one none);
  up = up;
}

-- a source that wasn't read to its end
pub source_kept : (most : ℕ) (err : InputErr) (s s' : SourceSeen) → NoInput most err s s' → Stood s.faults s'.faults → s.up → s'.up
source_kept most TooLong s s' by stood up = by.took.up up
source_kept most Failed s s' by stood up = kept stood (by.up up)
source_kept most Memory s s' by stood up = by.took.up up

-- ends with the job's own status for too many bytes, or for want of memory
pub unread_status : (most own : ℕ) (err : InputErr) (few : List ℕ) (s s' : SourceSeen) → NoInput most err s s' → Stood s.faults s'.faults → Contains few 6 → Contains few own
    → Contains few (unread_end own err).status
unread_status most own TooLong few s s' by stood memory refused = refused
unread_status most own Failed few s s' by stood memory refused = absurd (stands stood by.faults)
unread_status most own Memory few s s' by stood memory refused = memory

pub unread_some : (own : ℕ) (err : InputErr) → (own ≡ 0 → ⊥) → (unread_end own err).status ≡ 0 → ⊥
unread_some own TooLong some = some
unread_some own Failed some = λ e. omega (arith, e)
unread_some own Memory some = λ e. omega (arith, e)
