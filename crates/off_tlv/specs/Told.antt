-- What `read_settings` answers.
use Rattle.std.specs.Prelude.{◌≡◌, ℕ, List, Result, Ok, Err}
use Rattle.off_base.specs.Tree.{Tree}
use Rattle.off_tlv.specs.Grammar.{FileOf}
use Rattle.off_tlv.specs.Fault.{IsFirstFault}
use Rattle.off_tlv.specs.declared.faults.FileErr.{FileErr}
use Rattle.off_tlv.specs.declared.faults.FileErr.TheVariants.{Read, Memory}

-- A fault is the first of the file. Memory was wanted for a file that spells some settings.
abbrev pub WhyNotRead : List ℕ → FileErr → Type 0
WhyNotRead file (Read fault) = IsFirstFault file fault
WhyNotRead file Memory = (trees : List Tree) × FileOf file trees

-- the settings that the file spells are given, unless memory runs out
abbrev pub Gives : List Tree → Result (List Tree) FileErr → Type 0
Gives trees (Ok given) = given ≡ trees
Gives trees (Err err) = err ≡ Memory
