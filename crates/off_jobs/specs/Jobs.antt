-- What `seal` and `check` promise. `status 4` comes only where the sink failed in the one write of
-- the job; then a front of the text is there. With every other status exactly the text was written.
use Rattle.std.specs.Prelude.{◌≡◌, ◌≢◌, ℕ, ◌≤◌, List, [], ◌∷◌, length, codes, Result, Ok, Err}
use Rattle.off_base.specs.Tree.{Tree}
use Rattle.off_tlv.specs.declared.faults.ReadFault.{ReadFault}
use Rattle.off_tlv.specs.Grammar.{FileOf}
use Rattle.off_tlv.specs.Fault.{IsFirstFault, Reads}
use Rattle.off_mic.specs.Mic.{VerifiesFile}
use Rattle.off_mic.specs.Seal.{SealsFile}
use Rattle.off_mic.specs.Check.{Verified}
use Rattle.off_mic.specs.declared.checking.Verdict.{Verdict}
use Rattle.off_mic.specs.declared.checking.MicFault.{MicFault}
use Rattle.off_outside.specs.Streams.{SourceSeen, SinkSeen, Wrote}
use Rattle.off_jobs.specs.Input.{TookAll, NoInput}
use Rattle.off_jobs.specs.declared.input.InputErr.{InputErr}
use Rattle.off_jobs.specs.Text.{read_fault_words, mic_fault_words, verdict_text, verdict_status}
use Rattle.off_jobs.specs.Health.{Health, of_source, of_sink, NoFault}
use Rattle.off_jobs.specs.Ending.{Ending, ending_of, memory_refused, refused_as, unread_end, JobEnds}

-- how many bytes `seal` and `check` take at most
abbrev pub most_bytes : ℕ
most_bytes = 65536

-- how `seal` ended: the file was sealed, or the grammar refuses it, or memory was wanted to seal
-- it, or it wasn't read
pub data Sealing : Type 0 where
  sealed_as : List ℕ → List ℕ → Sealing
  refused_by : List ℕ → ReadFault → Sealing
  unsealed : List ℕ → Sealing
  not_sealed : InputErr → Sealing

abbrev pub SealedBy : Sealing → List ℕ → SourceSeen → SourceSeen → Type 0
SealedBy (sealed_as file made) secret old new =
    TookAll most_bytes file old new × SealsFile file secret made
SealedBy (refused_by file fault) secret old new =
    TookAll most_bytes file old new × IsFirstFault file fault
SealedBy (unsealed file) secret old new =
    TookAll most_bytes file old new × ((trees : List Tree) × FileOf file trees)
SealedBy (not_sealed err) secret old new = NoInput most_bytes err old new

abbrev pub sealing_end : Sealing → Ending
sealing_end (sealed_as file made) = ending_of 0 made
sealing_end (refused_by file fault) = refused_as 9 (read_fault_words fault)
sealing_end (unsealed file) = memory_refused
sealing_end (not_sealed err) = unread_end 9 err

-- how `check` ended: both values were looked at, or the file is refused, or it wasn't read
pub data Checking : Type 0 where
  answered : List ℕ → Verdict → Checking
  refused_for : List ℕ → MicFault → Checking
  not_checked : InputErr → Checking

-- what `verify` answers of a file
pub record Verifies (file secret : List ℕ) (answer : Result Verdict MicFault) : Type 0 where
  pub reading : Result (List Tree) ReadFault
  pub reads : Reads file reading
  pub verified : Verified secret reading answer

abbrev pub CheckedBy : Checking → List ℕ → SourceSeen → SourceSeen → Type 0
CheckedBy (answered file verdict) secret old new =
    TookAll most_bytes file old new × Verifies file secret (Ok verdict)
CheckedBy (refused_for file fault) secret old new =
    TookAll most_bytes file old new × Verifies file secret (Err fault)
CheckedBy (not_checked err) secret old new = NoInput most_bytes err old new

abbrev pub checking_end : Checking → Ending
checking_end (answered file verdict) = ending_of (verdict_status verdict) (verdict_text verdict)
checking_end (refused_for file fault) = refused_as 8 (mic_fault_words fault)
checking_end (not_checked err) = unread_end 8 err

-- both jobs need the source and the sink alone
abbrev pub streams : SourceSeen → SourceSeen → SinkSeen → SinkSeen → List Health
streams source source' sink sink' = of_source source source' ∷ of_sink sink sink' ∷ []

-- What `seal` did under a secret. Status 0 is of a file by the grammar alone, whose sealed file was
-- written. Where no count rose and no memory was wanted, every file by the grammar that is short
-- enough is sealed, and a status other than 0 is 9.
pub record SealsInput (secret : List ℕ) (status : ℕ) (source source' : SourceSeen)
    (sink sink' : SinkSeen) : Type 0 where
  pub ends : JobEnds (λ way. SealedBy way secret source source') sealing_end (0 ∷ 6 ∷ 9 ∷ [])
      (streams source source' sink sink') status sink sink'
  pub only : status ≡ 0 → (file : List ℕ) → source.left file
      → (made : List ℕ) × (SealsFile file secret made × Wrote made sink sink')
  pub complete : (file : List ℕ) (trees : List Tree) → source.left file → FileOf file trees
      → length file ≤ 65536 → NoFault (streams source source' sink sink') → status ≢ 6 → status ≡ 0

-- both answers are yes, and the status is 0
abbrev pub AnswersGood : ℕ → SinkSeen → SinkSeen → Type 0
AnswersGood status old new = (status ≡ 0) × Wrote (codes "cm good\ncmts good\n") old new

-- What `check` did under a secret. Status 0 is of a file alone of which both values are right.
-- Where no count rose and no memory was wanted, every such file that is short enough is answered
-- so, as is what sealing any file under that secret gives; and a status other than 0 is 8.
pub record ChecksInput (secret : List ℕ) (status : ℕ) (source source' : SourceSeen)
    (sink sink' : SinkSeen) : Type 0 where
  pub ends : JobEnds (λ way. CheckedBy way secret source source') checking_end (0 ∷ 6 ∷ 8 ∷ [])
      (streams source source' sink sink') status sink sink'
  pub only : status ≡ 0 → (file : List ℕ) → source.left file
      → VerifiesFile file secret × AnswersGood status sink sink'
  pub complete : (file : List ℕ) → source.left file → VerifiesFile file secret
      → length file ≤ 65536 → NoFault (streams source source' sink sink') → status ≢ 6
      → AnswersGood status sink sink'
  pub sealed : (plain file : List ℕ) → source.left file → SealsFile plain secret file
      → length file ≤ 65536 → NoFault (streams source source' sink sink') → status ≢ 6
      → AnswersGood status sink sink'
