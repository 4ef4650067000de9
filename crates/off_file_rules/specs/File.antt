-- A modem's configuration file (CM-SP-MULPIv3.1, annex D.1): its profile, the moment and the
-- address at which it was made, both integrity checks, the end marker and the pads.
use Rattle.std.specs.Prelude.{◌≡◌, ℕ, List, [], ◌∷◌, ◌++◌, Some}
use Rattle.std.specs.Int.{w32, to_be_bytes}
use Rattle.off_base.specs.Tree.{Tree, leaf}
use Rattle.off_base.specs.declared.addresses.Ip4.{Ip4}
use Rattle.off_base.specs.declared.macs.Mac.{Mac}
use Rattle.off_defs.specs.declared.tables.Site.{Site}
use Rattle.off_defs.specs.State.{Tables}
use Rattle.off_defs.specs.Clock.{time_bytes}
use Rattle.off_mic.specs.Mic.{Sealed}
use Rattle.off_account_rules.specs.Rows.{site_of}
use Rattle.off_file_rules.specs.Profile.{profile_in}

-- setting 19, the time of the server that made the file (annex C.1.1.10), and setting 20, the
-- modem's address (annex C.1.1.11)
abbrev pub stamps : ℕ → Ip4 → List Tree
stamps now ip = leaf 19 (time_bytes now) ∷ leaf 20 (to_be_bytes w32 ip.0) ∷ []

abbrev pub with_stamps : List Tree → ℕ → Ip4 → List Tree
with_stamps profile now ip = profile ++ stamps now ip

-- no modem's file has more bytes
abbrev pub most_file_bytes : ℕ
most_file_bytes = 6200

-- the file of a profile, for an address at a moment under the secret of its hub
abbrev pub IsBuilt : List ℕ → List Tree → ℕ → Ip4 → List ℕ → Type 0
IsBuilt secret profile now ip file = Sealed file (with_stamps profile now ip) secret

-- the file of a modem of the tables
pub record IsFile (tables : Tables) (mac : Mac) (now : ℕ) (ip : Ip4) (file : List ℕ) : Type 0 where
  pub site : Site
  pub profile : List Tree
  pub site_is : site_of tables ip ≡ Some site
  pub profile_is : profile_in tables mac ≡ Some profile
  pub built : IsBuilt site.secret profile now ip file
