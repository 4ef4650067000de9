-- When a profile has a file.
use Rattle.std.specs.Prelude.{◌≡◌, ℕ, ◌≤◌, List, length}
use Rattle.off_base.specs.Tree.{Tree, AllFit}
use Rattle.off_base.specs.declared.addresses.Ip4.{Ip4}
use Rattle.off_mic.specs.Mic.{without_mics}
use Rattle.off_file_rules.specs.File.{IsBuilt, most_file_bytes}

-- its lengths fit their bytes, it has neither integrity check, and its file isn't too long. Every
-- profile of the tables is so
pub record CanBuild (secret : List ℕ) (profile : List Tree) (now : ℕ) (ip : Ip4) : Type 0 where
  pub fits : AllFit profile
  pub neither : without_mics profile ≡ profile
  pub short : (file : List ℕ) → IsBuilt secret profile now ip file
      → length file ≤ most_file_bytes
