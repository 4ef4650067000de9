-- An office that didn't open.
use Rattle.std.proofs.Common.{ℕ, List, refl, inl}
use Rattle.std.specs.Prelude.{Contains}
use Rattle.off_defs.specs.Told.{Told}
use Rattle.off_outside.specs.KeeperSeen.{KeeperSeen}
use Rattle.off_jobs.specs.Health.{Stood}
use Rattle.off_jobs.proofs.EndingLemmas.{stands, kept}
use Rattle.off_office.specs.Acting.{NotStarted}
use Rattle.off_office.specs.declared.office.StartErr.{StartErr}
use Rattle.off_office.specs.declared.office.StartErr.TheVariants.{Bad, Failed, Memory}
use Rattle.off_office.specs.Closed.{closed_end, SameOrGood}

pub closed_status : (err : StartErr) (few : List ℕ) (k k' : KeeperSeen) → NotStarted err k k' → Stood k.faults k'.faults → Contains few 2 → Contains few 6
    → Contains few (closed_end err).status
closed_status (Bad key) few k k' not stood bad memory = bad
closed_status Failed few k k' not stood bad memory = absurd (stands stood not.faults.grew)
closed_status Memory few k k' not stood bad memory = memory

pub closed_kept : (err : StartErr) (k k' : KeeperSeen) → NotStarted err k k' → Stood k.faults k'.faults → k.up → k'.up
closed_kept (Bad key) k k' not stood up = not.quiet.up up
closed_kept Failed k k' not stood up = kept stood (not.up up)
closed_kept Memory k k' not stood up = kept stood (not.up up)

pub closed_same : (err : StartErr) (k k' : KeeperSeen) → NotStarted err k k' → Told k.tables k'.tables SameOrGood
closed_same (Bad key) k k' not = record { each = λ t told. record { value = t; told = (not.tables t told).0; fits = inl refl } }
closed_same Failed k k' not = record { each = λ t told. record { value = t; told = not.tables t told; fits = inl refl } }
closed_same Memory k k' not = record { each = λ t told. record { value = t; told = not.tables t told; fits = inl refl } }
