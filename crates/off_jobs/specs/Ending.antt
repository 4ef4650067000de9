-- How a job ends: each status with its text. Status 4 has none: the sink failed in the last write.
use Rattle.std.specs.Prelude.{◌≡◌, ℕ, ◌⊎◌, List, ◌++◌, codes, Contains}
use Rattle.off_outside.specs.Streams.{SinkSeen, Wrote, NotWritten}
use Rattle.off_outside.specs.declared.keeper.KeepErr.{KeepErr}
use Rattle.off_outside.specs.declared.keeper.KeepErr.TheVariants as keep
use Rattle.off_jobs.specs.Text.{refused}
use Rattle.off_jobs.specs.Health.{Health, NoFault, AllUp}
use Rattle.off_jobs.specs.declared.input.InputErr.{InputErr}
use Rattle.off_jobs.specs.declared.input.InputErr.TheVariants.{TooLong, Failed, Memory}

pub record Ending : Type 0 where
  pub status : ℕ
  pub text : List ℕ

abbrev pub ending_of : ℕ → List ℕ → Ending
ending_of status text = record { status = status; text = text }

-- the words of the command line fit no form
abbrev pub words_refused : Ending
words_refused = ending_of 1 (codes "words refused\n")

-- the tables don't open, and this is the text of their least bad key
abbrev pub tables_refused : List ℕ → Ending
tables_refused key = ending_of 2 (codes "tables refused " ++ key ++ codes "\n")

-- the keeper failed
abbrev pub keeper_refused : Ending
keeper_refused = ending_of 3 (codes "keeper refused\n")

-- the link failed too often in a row
abbrev pub link_refused : Ending
link_refused = ending_of 5 (codes "link refused\n")

-- memory was wanted
abbrev pub memory_refused : Ending
memory_refused = ending_of 6 (codes "memory refused\n")

-- the source failed
abbrev pub source_refused : Ending
source_refused = ending_of 7 (codes "source refused\n")

-- what a job was given is refused, for the reason that the words say: 8 of `check`, 9 of the others
abbrev pub refused_as : ℕ → List ℕ → Ending
refused_as status words = ending_of status (refused words)

-- the source wasn't read to its end; a job has its own status for too many bytes
abbrev pub unread_end : ℕ → InputErr → Ending
unread_end own TooLong = refused_as own (codes "too-long")
unread_end own Failed = source_refused
unread_end own Memory = memory_refused

-- the keeper failed, or memory was wanted for what it was asked
abbrev pub undone_end : KeepErr → Ending
undone_end keep.Failed = keeper_refused
undone_end keep.Memory = memory_refused

-- the text was written, and the status is its own; or it was cut off, and the status is 4
abbrev pub Tells : Ending → ℕ → SinkSeen → SinkSeen → Type 0
Tells end status old new =
    ((status ≡ end.status) × Wrote end.text old new)
    ⊎ ((status ≡ 4) × NotWritten end.text old new)

-- What a job did. It ended in one of its ways, `Did` says what it did then, and its ending was
-- told. Where nothing that it needs failed, its status is one of a few, and what was up is up.
pub record JobEnds {Way : Type 0} (Did : Way → Type 0) (end : Way → Ending) (few : List ℕ)
    (needs : List Health) (status : ℕ) (old new : SinkSeen) : Type 0 where
  pub way : Way
  pub did : Did way
  pub told : Tells (end way) status old new
  pub statuses : NoFault needs → Contains few status
  pub up : NoFault needs → AllUp needs
