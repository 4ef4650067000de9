-- The first fault of a file that no settings spell: what stands behind settings that are as the
-- grammar wants them.
use Rattle.std.specs.Prelude.{◌≡◌, ℕ, ◌+◌, ◌<◌, ◌≢◌, true, List, [], ◌∷◌, ◌++◌, length, replicate, Result, Ok, Err}
use Rattle.off_base.specs.Tree.{Tree, spelling}
use Rattle.off_tlv.specs.Grammar.{end_byte, pad_byte, Level, in_file, is_group, is_code, inside_of, AllStand, FileOf}
use Rattle.off_tlv.specs.declared.faults.ReadFault.{ReadFault}
use Rattle.off_tlv.specs.declared.faults.ReadFault.TheVariants.{Cut, NoEnd, AfterEnd, EarlyPad}

-- behind settings of the level, `rest` stands at a place
pub record Behind (level : Level) (bytes : List ℕ) (place : ℕ) (rest : List ℕ) : Type 0 where
  pub before : List Tree
  pub stand : AllStand level before
  pub whole : bytes ≡ spelling before ++ rest
  pub here : place ≡ length (spelling before)

-- bytes that are less than one whole setting: its length byte is missing, or a part of its value
abbrev pub IsShort : List ℕ → Type 0
IsShort [] = ⊥
IsShort (code ∷ []) = Unit {0}
IsShort (code ∷ n ∷ bytes) = length bytes < n

-- a setting's code stands first
abbrev pub HasCode : Level → List ℕ → Type 0
HasCode level [] = ⊥
HasCode level (code ∷ bytes) = is_code level code ≡ true

-- The setting whose code stands at a place is the first that passes the end of the file, or the end
-- of its group.
pub data CutAt : Level → List ℕ → ℕ → Type 0 where
  passes : {level : Level} {bytes : List ℕ} {place : ℕ} → (rest : List ℕ) →
      Behind level bytes place rest → HasCode level rest → IsShort rest
      → CutAt level bytes place
  within : {level : Level} {bytes : List ℕ} {place : ℕ} → (code at deeper : ℕ) (body more : List ℕ)
      → Behind level bytes at (code ∷ length body ∷ body ++ more) → is_code level code ≡ true →
      is_group level code ≡ true
      → CutAt (inside_of level code) body deeper → place ≡ at + 2 + deeper
      → CutAt level bytes place

abbrev pub IsFirstFault : List ℕ → ReadFault → Type 0
IsFirstFault file (Cut place) = CutAt in_file file place
-- the settings reach the end of the file, and no byte 255 is there
IsFirstFault file NoEnd = (place : ℕ) × Behind in_file file place []
-- the first byte behind the end marker that is no zero
IsFirstFault file (AfterEnd place) =
    (end pads byte : ℕ) × (more : List ℕ)
    × Behind in_file file end (end_byte ∷ replicate pads pad_byte ++ byte ∷ more)
    × (byte ≢ pad_byte) × (place ≡ end + 1 + pads)
-- a zero in the place of a code
IsFirstFault file (EarlyPad place) = (more : List ℕ) × Behind in_file file place (pad_byte ∷ more)

-- What reading a file gives: the settings that it spells, or its first fault.
abbrev pub Reads : List ℕ → Result (List Tree) ReadFault → Type 0
Reads file (Ok trees) = FileOf file trees
Reads file (Err fault) = IsFirstFault file fault

-- A file has at most one reading or one first fault, never both and never two.
abbrev pub HasOneReading : Type 0
HasOneReading =
    (file : List ℕ) (one other : Result (List Tree) ReadFault) → Reads file one → Reads file other →
    one ≡ other

-- A file has one at least.
abbrev pub HasReading : List ℕ → Type 0
HasReading file = (found : Result (List Tree) ReadFault) × Reads file found
