-- When what is kept is right: a body that is found is the one that would be built.
use Rattle.std.specs.Prelude.{◌≡◌, List, Some}
use Rattle.std.specs.List.{All}
use Rattle.off_base.specs.Tree.{Tree, spelling}
use Rattle.off_defs.specs.declared.tables.Modem.{Modem}
use Rattle.off_defs.specs.State.{Tables}
use Rattle.off_account_rules.specs.Rows.{modem_in}
use Rattle.off_file_rules.specs.Profile.{profile_at}
use Rattle.off_kept.specs.Entries.{Entry, Entries}

-- the modem's row has the subscriber and the class of the entry, and their profile spells to its
-- body
pub record IsRight (tables : Tables) (entry : Entry) : Type 0 where
  pub modem : Modem
  pub profile : List Tree
  pub modem_is : modem_in tables entry.0 ≡ Some modem
  pub subscriber : entry.1.subscriber ≡ modem.subscriber
  pub class : entry.1.class ≡ modem.class
  pub profile_is : profile_at tables entry.1.subscriber entry.1.class ≡ Some profile
  pub spelled : entry.1.body ≡ spelling profile

abbrev pub AllRight : Tables → Entries → Type 0
AllRight tables entries = All (IsRight tables) entries
