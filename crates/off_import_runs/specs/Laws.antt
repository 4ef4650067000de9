-- Laws of imports over whole runs.
use Rattle.std.specs.Prelude.{◌≡◌, ◌⊎◌, ℕ, List, ◌∷◌}
use Rattle.off_defs.specs.State.{State}
use Rattle.off_account_rules.specs.Rows.{batch_in}
use Rattle.off_book.specs.Step.{Step}
use Rattle.off_book.specs.Run.{Turn, Run, effect_of}
use Rattle.off_import_runs.specs.Puts.{puts_in, puts_by, PutOnce}
use Rattle.off_import_runs.specs.Asked.{AsksImport}
use Rattle.off_import_runs.specs.Once.{IsPutBy, ImportDoes, ImportsActOnceThrough}

-- over a run a batch is put at most once, and not where it stood; what stands stays as it is
abbrev pub BatchesArePutOnce : Type 0
BatchesArePutOnce =
    (s last : State) (turns : List Turn) (batch : ℕ) → Run s turns last
    → PutOnce (batch_in s.tables batch) (batch_in last.tables batch) (puts_by batch turns)

-- a turn puts no batch but that of an import that it does
abbrev pub OnlyImportsPut : Type 0
OnlyImportsPut =
    (s after : State) (turn : Turn) (batch : ℕ)
    → Step s turn.event turn.outcome (effect_of turn after)
    → (puts_in batch turn.commit ≡ 0) ⊎ IsPutBy s turn batch

-- an import is repeated, done or refused
abbrev pub ImportsDo : Type 0
ImportsDo =
    (s last : State) (turn : Turn) (turns : List Turn) (asks : AsksImport s turn)
    → Run s (turn ∷ turns) last → ImportDoes s turn asks last

-- and all this holds over each stretch of a run
abbrev pub ImportsActOnceOverRuns : Type 0
ImportsActOnceOverRuns =
    (s last : State) (turns : List Turn) → Run s turns last → ImportsActOnceThrough s turns
