-- What `seal` gives.
use Rattle.std.specs.Prelude.{◌≡◌, ℕ, ◌≤◌, ◌%◌, List, ◌∷◌, ◌++◌, length, replicate, Result, Ok, Err}
use Rattle.off_base.specs.Tree.{Tree}
use Rattle.off_tlv.specs.Grammar.{end_byte, pad_byte, FileOf}
use Rattle.off_tlv.specs.declared.faults.FileErr.{FileErr}
use Rattle.off_tlv.specs.declared.faults.FileErr.TheVariants.{Memory}
use Rattle.off_mic.specs.Mic.{without_mics, Sealed}

-- the sealed file of the settings that a file spells, without its settings 6 and 7
pub record SealsFile (file secret sealed : List ℕ) : Type 0 where
  pub trees : List Tree
  pub spells : FileOf file trees
  pub seals : Sealed sealed (without_mics trees) secret

-- it is given, unless memory runs out
abbrev pub GivesSealed : List Tree → List ℕ → Result (List ℕ) FileErr → Type 0
GivesSealed trees secret (Ok sealed) = Sealed sealed (without_mics trees) secret
GivesSealed trees secret (Err err) = err ≡ Memory

-- the end marker and zeros to a multiple of four bytes are appended
pub record EndsPadded (old new : List ℕ) : Type 0 where
  pub pads : ℕ
  pub few : pads ≤ 3
  pub whole : new ≡ old ++ end_byte ∷ replicate pads pad_byte
  pub aligned : length new % 4 ≡ 0
