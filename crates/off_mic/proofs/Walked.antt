-- How far a walk over settings has come.
use Rattle.std.proofs.Common.{◌≡◌, ℕ, List, ◌++◌}
use Rattle.md5.specs.Md5.{Holds}
use Rattle.md5.specs.declared.Md5.{Md5}
use Rattle.off_base.specs.Tree.{Tree, spelling}
use Rattle.off_mic.specs.Mic.{setting_values}
use Rattle.off_mic.specs.Feed.{wanted_text}
use Rattle.off_mic.specs.declared.feeding.Wanted.{Wanted}

-- a walk over settings has come to the rest of the bytes, and the wanted ones before it have this
-- text
pub record Came (wanted : Wanted) (trees : List Tree) (rest text : List ℕ) : Type 0 where
  pub before : List Tree
  pub behind : List Tree
  pub split : trees ≡ before ++ behind
  pub left : rest ≡ spelling behind
  pub passed : text ≡ wanted_text wanted before

-- their text is taken in behind a message
pub record Fed (wanted : Wanted) (message : List ℕ) (trees : List Tree) (rest : List ℕ)
    (hasher : Md5) : Type 0 where
  pub text : List ℕ
  pub came : Came wanted trees rest text
  pub held : Holds hasher (message ++ text)

-- their text is appended
pub record Copied (wanted : Wanted) (trees : List Tree) (rest old new : List ℕ) : Type 0 where
  pub text : List ℕ
  pub came : Came wanted trees rest text
  pub appended : new ≡ old ++ text

-- of the settings that a walk had before it, these are left, and all of a code are among them
pub record Passed (code : ℕ) (trees : List Tree) (rest : List ℕ) : Type 0 where
  pub behind : List Tree
  pub left : rest ≡ spelling behind
  pub same : setting_values code trees ≡ setting_values code behind
