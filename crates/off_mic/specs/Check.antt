-- What is answered of the two values of a file.
use Rattle.std.specs.Prelude.{◌≡◌, ℕ, ◌==◌, ◌↔◌, IsTrue, List, [], ◌∷◌, length, Option, Some, None, Result, Ok, Err, if◌then◌else◌}
use Rattle.std.specs.Option.{option_or}
use Rattle.off_base.specs.Tree.{Tree}
use Rattle.off_tlv.specs.declared.faults.ReadFault.{ReadFault}
use Rattle.off_mic.specs.Mic.{setting_values, cm_mic_of, cmts_mic_of}
use Rattle.off_mic.specs.declared.checking.Verdict.{Verdict}
use Rattle.off_mic.specs.declared.checking.MicFault.{MicFault}
use Rattle.off_mic.specs.declared.checking.MicFault.TheVariants.{Read, NoMic, TwiceMic, MicLength}

-- what is wrong with the values of the settings of a code, which are to be one of 16 bytes
abbrev pub values_fault : ℕ → List (List ℕ) → Option MicFault
values_fault code [] = Some (NoMic code)
values_fault code (value ∷ []) = if length value == 16 then None else Some (MicLength code)
values_fault code (value ∷ other ∷ more) = Some (TwiceMic code)

-- setting 6 is looked at first, then setting 7
abbrev pub mic_fault : List Tree → Option MicFault
mic_fault trees =
    option_or (values_fault 6 (setting_values 6 trees)) (values_fault 7 (setting_values 7 trees))

-- each value is right, or it isn't
pub record IsVerdict (secret : List ℕ) (trees : List Tree) (verdict : Verdict) : Type 0 where
  pub whole : mic_fault trees ≡ None
  pub cm : IsTrue verdict.cm ↔ (setting_values 6 trees ≡ cm_mic_of trees ∷ [])
  pub cmts : IsTrue verdict.cmts ↔ (setting_values 7 trees ≡ cmts_mic_of secret trees ∷ [])

-- what `verify` answers of settings, or of a file that has a first fault
abbrev pub Verified : List ℕ → Result (List Tree) ReadFault → Result Verdict MicFault → Type 0
Verified secret (Ok trees) (Ok verdict) = IsVerdict secret trees verdict
Verified secret (Ok trees) (Err fault) = mic_fault trees ≡ Some fault
Verified secret (Err fault) answer = answer ≡ Err (Read fault)
