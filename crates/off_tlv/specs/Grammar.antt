-- The grammar of a cable modem's configuration file (CM-SP-MULPIv3.1, annex D.1, with the encodings
-- of annex C): settings, one byte 255, and any number of zero bytes. It builds the bytes from the
-- settings, and walks over nothing.
use Rattle.std.specs.Prelude.{◌≡◌, ℕ, Bool, false, true, ◌==◌, ◌&&◌, not, List, [], ◌∷◌, ◌++◌, length, replicate}
use Rattle.std.specs.List.{AllByRecursion, list_any}
use Rattle.off_base.specs.Tree.{Tree, Row, leaf, group, no_more, followed, spelling, Fits}

-- where a list of settings stands: in the file itself, within a group of a code there, or within a
-- part of such a group
pub data Level : Type 0 where
  in_file : Level
  in_group : ℕ → Level
  in_part : Level

-- what ends the settings of a file, and what fills it up behind
abbrev pub end_byte : ℕ
end_byte = 255

abbrev pub pad_byte : ℕ
pad_byte = 0

-- the codes whose settings are groups in the file itself
abbrev pub group_codes : List ℕ
group_codes =
    22  -- upstream classifier (annex C.2.1)
    ∷ 23  -- downstream classifier
    ∷ 24  -- upstream service flow (C.2.2)
    ∷ 25  -- downstream service flow
    ∷ 43  -- extension or vendor field (C.1.1.17)
    ∷ []

-- those of these groups that have a group among their parts, and its code
abbrev pub classifier_codes : List ℕ
classifier_codes = 22 ∷ 23 ∷ []

abbrev pub ip_group : ℕ
ip_group = 9  -- IPv4 rules of a classifier (C.2.1.6)

abbrev pub is_group : Level → ℕ → Bool
is_group in_file code = list_any (λ c. c == code) group_codes
is_group (in_group outer) code = list_any (λ c. c == outer) classifier_codes && code == ip_group
is_group in_part code = false

-- where the parts of a group stand
abbrev pub inside_of : Level → ℕ → Level
inside_of in_file code = in_group code
inside_of (in_group outer) code = in_part
inside_of in_part code = in_part

-- In the file itself 0 is a pad and 255 the end, and no setting has these codes. Within a group
-- every code is a setting's.
abbrev pub is_code : Level → ℕ → Bool
is_code in_file code = not (code == end_byte) && not (code == pad_byte)
is_code (in_group outer) code = true
is_code in_part code = true

-- groups stand exactly where the grammar has them, and every code is a setting's
abbrev mutual
  pub Shaped : Level → Tree → Type 0
  Shaped level (leaf code value) = (is_code level code ≡ true) × (is_group level code ≡ false)
  Shaped level (group code parts) = (is_code level code ≡ true) × (is_group level code ≡ true)
      × RowShaped (inside_of level code) parts

  pub RowShaped : Level → Row → Type 0
  RowShaped level no_more = Unit {0}
  RowShaped level (followed t r) = Shaped level t × RowShaped level r

abbrev pub AllShaped : Level → List Tree → Type 0
AllShaped level trees = AllByRecursion (Shaped level) trees

-- settings that the grammar has at this level: shaped, and each value's length fits its byte
pub record Stands (level : Level) (t : Tree) : Type 0 where
  pub shaped : Shaped level t
  pub fits : Fits t

abbrev pub AllStand : Level → List Tree → Type 0
AllStand level trees = AllByRecursion (Stands level) trees

-- the file spells these settings
pub record FileOf (file : List ℕ) (trees : List Tree) : Type 0 where
  pub stand : AllStand in_file trees
  pub pads : ℕ
  pub whole : file ≡ spelling trees ++ end_byte ∷ replicate pads pad_byte

-- the file spells some settings, and its end marker stands at a place
pub record EndsAt (file : List ℕ) (place : ℕ) : Type 0 where
  pub trees : List Tree
  pub spells : FileOf file trees
  pub here : place ≡ length (spelling trees)
