-- Laws of what a modem boots with. They hold of all tables: a row that is impossible at its key is
-- one that isn't there.
use Rattle.std.specs.Prelude.{◌≡◌, ℕ, ◌≤◌, List, [], ◌∷◌, length, Some}
use Rattle.std.specs.List.{AllByRecursion}
use Rattle.off_base.specs.Tree.{Tree, AllFit}
use Rattle.off_base.specs.declared.addresses.Ip4.{Ip4}
use Rattle.off_base.specs.declared.macs.Mac.{Mac}
use Rattle.off_tlv.specs.Grammar.{in_file, AllStand, FileOf}
use Rattle.off_tree.specs.Fault.{numbers, flow_number, both_directions, classifier_number}
use Rattle.off_tree.specs.Good.{times_in, IsServed}
use Rattle.off_mic.specs.Mic.{without_mics, of_code, with_both, VerifiesFile}
use Rattle.off_defs.specs.State.{Tables}
use Rattle.off_defs.specs.declared.tables.Site.{Site}
use Rattle.off_defs.specs.declared.tables.Subscriber.{Subscriber}
use Rattle.off_defs.specs.declared.tables.Modem.{Modem}
use Rattle.off_defs.specs.declared.tables.Class.{Class}
use Rattle.off_account_rules.specs.Rows.{site_of, subscriber_in, modem_in, class_in}
use Rattle.off_file_rules.specs.Profile.{profile_in}
use Rattle.off_file_rules.specs.File.{with_stamps, most_file_bytes, IsFile}

-- The references of flows differ over both directions, and so do those of classifiers; the flow
-- that a classifier names is there, in the classifier's direction.
pub record Agree (trees : List Tree) : Type 0 where
  pub flows : (n : ℕ) → times_in n (numbers (flow_number both_directions) trees) ≤ 1
  pub classifiers : (n : ℕ) → times_in n (numbers classifier_number trees) ≤ 1
  pub served : AllByRecursion (IsServed trees) trees

-- a profile's references agree, whatever add-ons are in it
abbrev pub ProfilesAgree : Type 0
ProfilesAgree =
    (tables : Tables) (mac : Mac) (profile : List Tree) → profile_in tables mac ≡ Some profile →
    Agree profile

-- A profile is as the grammar of files has settings, each length fits its byte, and it has neither
-- of the two integrity checks
pub record SpellsProfile (profile : List Tree) : Type 0 where
  pub stands : AllStand in_file profile
  pub fits : AllFit profile
  pub neither : without_mics profile ≡ profile

abbrev pub ProfilesSpell : Type 0
ProfilesSpell =
    (tables : Tables) (mac : Mac) (profile : List Tree) → profile_in tables mac ≡ Some profile →
    SpellsProfile profile

-- the settings that the office writes itself: access, both checks, devices, time and address
abbrev pub own_codes : List ℕ
own_codes = 3 ∷ 6 ∷ 7 ∷ 18 ∷ 19 ∷ 20 ∷ []

-- each of them stands once in a file, since no class and no add-on has it
abbrev pub OwnSettingsOnce : Type 0
OwnSettingsOnce =
    (tables : Tables) (mac : Mac) (now : ℕ) (ip : Ip4) (secret : List ℕ) (profile : List Tree) →
    profile_in tables mac ≡ Some profile
    → AllByRecursion (λ code. length (of_code code (with_both secret (with_stamps profile now ip)))
    ≡ 1) own_codes

-- a modem has at most one file at a moment and an address
abbrev pub FileIsOne : Type 0
FileIsOne =
    (tables : Tables) (mac : Mac) (now : ℕ) (ip : Ip4) (file other : List ℕ) →
    IsFile tables mac now ip file → IsFile tables mac now ip other → file ≡ other

-- and it has one where the site, the modem, its subscriber and its class are there
abbrev pub FileIsThere : Type 0
FileIsThere =
    (tables : Tables) (mac : Mac) (now : ℕ) (ip : Ip4) (site : Site) (modem : Modem)
    (who : Subscriber) (class : Class)
    → site_of tables ip ≡ Some site → modem_in tables mac ≡ Some modem →
    subscriber_in tables modem.subscriber ≡ Some who → class_in tables modem.class ≡ Some class
    → (file : List ℕ) × IsFile tables mac now ip file

-- no file has more than 6,200 bytes
abbrev pub FilesAreShort : Type 0
FilesAreShort =
    (tables : Tables) (mac : Mac) (now : ℕ) (ip : Ip4) (file : List ℕ) →
    IsFile tables mac now ip file → length file ≤ most_file_bytes

-- by the grammar a file is its settings with both checks, and nothing else, and both checks are
-- right
pub record Boots (secret file : List ℕ) (trees : List Tree) : Type 0 where
  pub reads : FileOf file (with_both secret trees)
  pub alone : (other : List Tree) → FileOf file other → other ≡ with_both secret trees
  pub verifies : VerifiesFile file secret

abbrev pub FilesBoot : Type 0
FilesBoot =
    (tables : Tables) (mac : Mac) (now : ℕ) (ip : Ip4) (file : List ℕ)
    (is : IsFile tables mac now ip file)
    → Boots is.site.secret file (with_stamps is.profile now ip)
