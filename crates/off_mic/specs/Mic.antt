-- The two message integrity checks of a configuration file (CM-SP-MULPIv3.1, annexes C.1.1.6,
-- C.1.1.7 and D.1.3).
use Rattle.std.specs.Prelude.{◌≡◌, ℕ, ◌≤◌, ◌%◌, Bool, ◌==◌, ◌||◌, not, List, [], ◌∷◌, ◌++◌, length, replicate, map}
use Rattle.std.specs.List.{filter, flat_map}
use Rattle.md5.specs.Md5.{md5}
use Rattle.off_base.specs.Tree.{Tree, leaf, group, code_of, spelled_row, spelling}
use Rattle.off_tlv.specs.Grammar.{end_byte, pad_byte, FileOf}
use Rattle.off_mic.specs.Hmac.{hmac}

-- the settings that hold the two values: that of the modem, and that of the termination system
abbrev pub is_mic : ℕ → Bool
is_mic code = code == 6 || code == 7

abbrev pub without_mics : List Tree → List Tree
without_mics trees = filter (λ t. not (is_mic (code_of t))) trees

abbrev pub of_code : ℕ → List Tree → List Tree
of_code code trees = filter (λ t. code_of t == code) trees

-- the bytes of a setting's value
abbrev pub value_of : Tree → List ℕ
value_of (leaf code value) = value
value_of (group code parts) = spelled_row parts

abbrev pub setting_values : ℕ → List Tree → List (List ℕ)
setting_values code trees = map value_of (of_code code trees)

-- The modem's: the digest of all settings as they stand but these two. The marker and the pads
-- aren't counted.
abbrev pub cm_mic_of : List Tree → List ℕ
cm_mic_of trees = md5 (spelling (without_mics trees))

-- The codes that the termination system's covers, in the order in which their settings are taken.
-- The list is this project's profile.
abbrev pub digest_order : List ℕ
digest_order =
    1 ∷ 2 ∷ 3 ∷ 4 ∷ 17 ∷ 43 ∷ 6 ∷ 18 ∷ 19 ∷ 20 ∷ 22 ∷ 23 ∷ 24 ∷ 25 ∷ 28 ∷ 29 ∷ 26 ∷ 35 ∷ 36 ∷ 37
    ∷ 40 ∷ []

-- for each code of a list all settings of the code, in the order of the file
abbrev pub text_of_codes : List ℕ → List Tree → List ℕ
text_of_codes codes trees = flat_map (λ code. spelling (of_code code trees)) codes

unfoldable pub digest_text : List Tree → List ℕ
digest_text trees = text_of_codes digest_order trees

-- the termination system's: a keyed digest under the secret that it shares with the office
abbrev pub cmts_mic_of : List ℕ → List Tree → List ℕ
cmts_mic_of secret trees = hmac secret (digest_text trees)

-- both values are right in a file that has one setting for each
pub record VerifiesFile (file secret : List ℕ) : Type 0 where
  pub trees : List Tree
  pub spells : FileOf file trees
  pub cm : setting_values 6 trees ≡ cm_mic_of trees ∷ []
  pub cmts : setting_values 7 trees ≡ cmts_mic_of secret trees ∷ []

-- the settings with the modem's value behind them, and then with both
abbrev pub with_cm : List Tree → List Tree
with_cm trees = trees ++ leaf 6 (cm_mic_of trees) ∷ []

abbrev pub with_both : List ℕ → List Tree → List Tree
with_both secret trees = with_cm trees ++ leaf 7 (cmts_mic_of secret (with_cm trees)) ∷ []

-- The sealed file of settings that have neither value: both values behind them, the marker, and
-- zeros to a multiple of four bytes.
pub record Sealed (file : List ℕ) (trees : List Tree) (secret : List ℕ) : Type 0 where
  pub neither : without_mics trees ≡ trees
  pub pads : ℕ
  pub few : pads ≤ 3
  pub whole : file ≡ spelling (with_both secret trees) ++ end_byte ∷ replicate pads pad_byte
  pub aligned : length file % 4 ≡ 0
