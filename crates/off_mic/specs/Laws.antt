-- Laws of sealed files.
use Rattle.std.specs.Prelude.{◌≡◌, ◌↔◌, ℕ, IsTrue, List}
use Rattle.off_base.specs.Tree.{Tree}
use Rattle.off_tlv.specs.Grammar.{in_file, AllStand, FileOf}
use Rattle.off_mic.specs.Mic.{with_both, VerifiesFile, Sealed}
use Rattle.off_mic.specs.Check.{IsVerdict}
use Rattle.off_mic.specs.Seal.{SealsFile}
use Rattle.off_mic.specs.declared.checking.Verdict.{Verdict}

-- settings have one sealed file under a secret
abbrev pub SealedIsOne : Type 0
SealedIsOne =
    (file other secret : List ℕ) (trees : List Tree) → Sealed file trees secret →
    Sealed other trees secret → file ≡ other

-- it is by the grammar the settings with both values, and both are right
abbrev pub SealedVerifies : Type 0
SealedVerifies =
    (file secret : List ℕ) (trees : List Tree) → AllStand in_file trees → Sealed file trees secret
    → FileOf file (with_both secret trees) × VerifiesFile file secret

-- sealing it again gives the same bytes
abbrev pub SealedStays : Type 0
SealedStays =
    (file again secret : List ℕ) (trees : List Tree) → AllStand in_file trees →
    Sealed file trees secret → SealsFile file secret again → again ≡ file

-- the two answers on a file are both yes exactly where both of its values are right
abbrev pub VerdictTells : Type 0
VerdictTells =
    (file secret : List ℕ) (trees : List Tree) (verdict : Verdict) → FileOf file trees →
    IsVerdict secret trees verdict
    → (IsTrue verdict.cm × IsTrue verdict.cmts) ↔ VerifiesFile file secret
