-- The words of the jobs.
use Rattle.std.specs.Prelude.{ℕ, ◌&&◌, List, [], ◌∷◌, ◌++◌, codes, decimal, cond}
use Rattle.off_tlv.specs.declared.faults.ReadFault.{ReadFault}
use Rattle.off_tlv.specs.declared.faults.ReadFault.TheVariants.{Cut, NoEnd, AfterEnd, EarlyPad}
use Rattle.off_mic.specs.declared.checking.Verdict.{Verdict}
use Rattle.off_mic.specs.declared.checking.MicFault.{MicFault}
use Rattle.off_mic.specs.declared.checking.MicFault.TheVariants as mic

-- `refused`, the words, a line feed
abbrev pub refused : List ℕ → List ℕ
refused words = codes "refused " ++ (words ++ 10 ∷ [])

-- a file that the grammar refuses: the fault, and the place of the byte that shows it
abbrev pub read_fault_words : ReadFault → List ℕ
read_fault_words (Cut place) = codes "cut " ++ decimal place
read_fault_words NoEnd = codes "no-end"
read_fault_words (AfterEnd place) = codes "after-end " ++ decimal place
read_fault_words (EarlyPad place) = codes "early-pad " ++ decimal place

-- a file whose values can't be checked: the fault, and the code of the setting
abbrev pub mic_fault_words : MicFault → List ℕ
mic_fault_words (mic.Read fault) = read_fault_words fault
mic_fault_words (mic.NoMic code) = codes "no-mic " ++ decimal code
mic_fault_words (mic.TwiceMic code) = codes "twice-mic " ++ decimal code
mic_fault_words (mic.MicLength code) = codes "mic-length " ++ decimal code

-- a line for each of the two values
abbrev pub verdict_text : Verdict → List ℕ
verdict_text verdict =
    cond verdict.cm (cond verdict.cmts (codes "cm good\ncmts good\n") (codes "cm good\ncmts bad\n"))
    (cond verdict.cmts (codes "cm bad\ncmts good\n") (codes "cm bad\ncmts bad\n"))

-- 0 where both are good, else 8
abbrev pub verdict_status : Verdict → ℕ
verdict_status verdict = cond (verdict.cm && verdict.cmts) 0 8
