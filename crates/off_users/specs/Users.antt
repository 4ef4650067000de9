-- Who uses what: how many modems name a subscriber, and how many name a class. What is kept for
-- that is, of each modem, what it names.
use Rattle.std.specs.Prelude.{◌≡◌, ℕ, ◌==◌, Bool, cond, List, Option, option_map, count_by}
use Rattle.std.specs.List.{filter_map}
use Rattle.std.specs.Option.{unwrap_or}
use Rattle.std.specs.Map.{lookup, values_of}
use Rattle.off_base.specs.declared.macs.Mac.{Mac}
use Rattle.off_defs.specs.declared.keys.Key.{Key}
use Rattle.off_defs.specs.declared.tables.Row.{Row}
use Rattle.off_defs.specs.declared.tables.Modem.{Modem}
use Rattle.off_defs.specs.State.{Tables}
use Rattle.off_account_rules.specs.Rows.{modem_of, modems, modem_in}
use Rattle.off_base.specs.Macs.{is_same_mac}
use Rattle.off_users.specs.declared.named.Named.{Named}

-- How many modems of the tables name a subscriber, and a class. A row that can't be a modem's is
-- none, as for every reader.
abbrev pub subscriber_uses : Tables → ℕ → ℕ
subscriber_uses tables n = count_by (λ entry. entry.1.subscriber == n) (modems tables)

abbrev pub class_uses : Tables → ℕ → ℕ
class_uses tables n = count_by (λ entry. entry.1.class == n) (modems tables)

-- what a modem names
abbrev pub named_of : Modem → Named
named_of modem = record { subscriber = modem.subscriber; class = modem.class }

-- the modems among entries of the tables, with what they name
abbrev pub named_entry : Key × Row → Option (Mac × Named)
named_entry entry = option_map (λ modem. (modem.0, named_of modem.1)) (modem_of entry)

abbrev pub named_in : List (Key × Row) → List (Mac × Named)
named_in entries = filter_map named_entry entries

abbrev pub names_subscriber : ℕ → Named → Bool
names_subscriber n named = named.subscriber == n

abbrev pub names_class : ℕ → Named → Bool
names_class n named = named.class == n

-- What is kept: the modems with what they name, in no order, and for how many more there is room.
pub record UsersHeld : Type 0 where
  pub modems : List (Mac × Named)
  pub room : ℕ

abbrev pub named_by : Mac → UsersHeld → Option Named
named_by modem held = lookup (is_same_mac modem) held.modems

-- it stands for tables: what is kept of each modem is what its row names, and of no other anything
abbrev pub StandsFor : UsersHeld → Tables → Type 0
StandsFor held tables =
    (modem : Mac) → named_by modem held ≡ option_map named_of (modem_in tables modem)

-- A number's count among numbers with counts, and the counts of what modems name
abbrev pub tally : List (ℕ × ℕ) → ℕ → ℕ
tally counts n = unwrap_or (lookup (λ m. n == m) counts) 0

abbrev pub weighs : (Named → Bool) → Option Named → ℕ
weighs test named = unwrap_or (option_map (λ one. cond (test one) 1 0) named) 0

pub record AreCounted (modems : List (Mac × Named)) (subscribers classes : List (ℕ × ℕ))
    : Type 0 where
  pub of_subscribers : (n : ℕ) →
      tally subscribers n ≡ count_by (names_subscriber n) (values_of modems)
  pub of_classes : (n : ℕ) → tally classes n ≡ count_by (names_class n) (values_of modems)
