-- Both values, begun over the settings that stand in front of others.
use Rattle.std.specs.Prelude.{◌≡◌, ℕ, List, [], take, drop}
use Rattle.md5.specs.Md5.{Holds}
use Rattle.off_base.specs.Tree.{Tree, spelling}
use Rattle.off_mic.specs.Hmac.{HoldsKeyed}
use Rattle.off_mic.specs.Mic.{digest_order, text_of_codes}
use Rattle.off_mic.specs.Feed.{wanted_text}
use Rattle.off_mic.specs.declared.feeding.Wanted.TheVariants.{ButMics}
use Rattle.off_mic.specs.declared.started.Started.{Started}

-- the codes that the termination system's value takes before setting 6, which a body alone may have
abbrev pub codes_first : List ℕ
codes_first = take 6 digest_order

-- setting 6 and those behind it
abbrev pub codes_later : List ℕ
codes_later = drop 6 digest_order

-- settings of which none has one of the first codes
abbrev pub NoneFirst : List Tree → Type 0
NoneFirst trees = text_of_codes codes_first trees ≡ []

-- What both values take of settings that these bytes spell is taken in: for the modem's all but the
-- two values, and for the termination system's, under the secret, those of the first codes.
pub record Begun (started : Started) (bytes : List ℕ) : Type 0 where
  pub cm : (trees : List Tree) → bytes ≡ spelling trees
      → Holds started.cm (wanted_text ButMics trees)
  pub cmts : (trees : List Tree) → bytes ≡ spelling trees
      → HoldsKeyed started.cmts started.secret (text_of_codes codes_first trees)
