-- What is kept is right by the tables, whatever they are: at the start, behind a put, behind writes; and what a right entry gives to its modem.
use Rattle.std.proofs.Common.{◌≡◌, ℕ, Bool, true, false, cond, not, List, [], ◌∷◌, Option, Some, None, option_map, refl, sym, ap, ◌∙◌, subst}
use Rattle.std.specs.List.{filter, filter_map}
use Rattle.std.specs.Option.{option_and_then}
use Rattle.std.specs.Ordering.{eq_by_cmp}
use Rattle.std.specs.Cmp.{nat_eq_equiv}
use Rattle.std.proofs.lemmas.List.Elements.{All-nil, All-cons, All-head, All-tail, All-take, All-filter, All-contains}
use Rattle.std.proofs.lemmas.Bool.{or_parts}
use Rattle.lru.proofs.CallerLemmas.{Contains-lookup}
use Rattle.off_base.specs.Tree.{Tree, spelling}
use Rattle.off_base.specs.declared.macs.Mac.{Mac}
use Rattle.off_defs.specs.Bounds.{add_on_numbers}
use Rattle.off_defs.specs.declared.keys.Key.{Key}
use Rattle.off_defs.specs.declared.keys.Key.TheVariants as key
use Rattle.off_defs.specs.declared.tables.Row.{Row}
use Rattle.off_defs.specs.declared.tables.Modem.{Modem}
use Rattle.off_defs.specs.declared.tables.Subscriber.{Subscriber}
use Rattle.off_defs.specs.declared.tables.Class.{Class}
use Rattle.off_defs.specs.declared.writes.Write.{Write}
use Rattle.off_defs.specs.declared.writes.Write.TheVariants.{Put, Drop}
use Rattle.off_defs.specs.Keys.{key_cmp}
use Rattle.off_defs.specs.State.{Tables}
use Rattle.off_defs.specs.Tables.{row_at, written, write_all, key_written}
use Rattle.off_defs.proofs.TableLemmas.{same_key, row_with, row_without}
use Rattle.off_account_rules.specs.Rows.{possible, as_subscriber, as_add_on, as_modem, as_class, subscriber_in, add_on_in, modem_in, class_in}
use Rattle.off_file_rules.specs.Profile.{profile_of, add_ons_in, profile_at, profile_in}
use Rattle.off_kept.specs.declared.bodies.KeptBody.{KeptBody}
use Rattle.off_base.specs.Macs.{is_same_mac}
use Rattle.off_kept.specs.Entries.{Entry, Entries, kept_of, with_first, stands_in, is_written, without_written}
use Rattle.off_kept.specs.Right.{IsRight, AllRight}
use Rattle.off_base.proofs.MacLemmas.{mac_decides}
use Rattle.off_kept.proofs.WriteLemmas.{all_stay}

-- ---- rows that aren't written stay

row_left : (t : Tables) (write : Write) (q : Key) → eq_by_cmp key_cmp q (key_written write) ≡ false → row_at (written t write) q ≡ row_at t q
row_left t (Put k row) q other = row_with t k row q ∙ ap (λ (b : Bool). cond b (Some row) (row_at t q)) other
row_left t (Drop k) q other = row_without t k q ∙ ap (λ (b : Bool). cond b None (row_at t q)) other

-- a row that stands in an entry's file, behind a write of one that doesn't
row_behind : (t : Tables) (write : Write) (e : Entry) (q : Key) → stands_in q e ≡ true → stands_in (key_written write) e ≡ false → row_at (written t write) q ≡ row_at t q
row_behind t write e q stands apart =
    let other : eq_by_cmp key_cmp q (key_written write) ≡ false =
    (elim (eq_by_cmp key_cmp q (key_written write)) as (λ (b : Bool). eq_by_cmp key_cmp q (key_written write) ≡ b → b ≡ false) [
      | true ↦ λ same. sym stands ∙ ap (λ (k : Key). stands_in k e) (same_key q (key_written write) same) ∙ apart
      | false ↦ λ same. refl
    ]) refl in
    row_left t write q other

row_stays : (e : Entry) (q : Key) → stands_in q e ≡ true → (writes : List Write) (t : Tables) → is_written writes e ≡ false → row_at (write_all t writes) q ≡ row_at t q
row_stays e q stands [] t none = refl
row_stays e q stands (write ∷ writes) t none =
    let both = or_parts (stands_in (key_written write) e) (is_written writes e) none in
    row_stays e q stands writes (written t write) both.1 ∙ row_behind t write e q stands both.0

-- ---- an entry of which no row is written stays right

abbrev profile_from : Option Subscriber → Option Class → List (ℕ × List Tree) → Option (List Tree)
profile_from who class add_ons = option_and_then (λ who. option_map (λ row. profile_of who.active who.cpes row.settings add_ons) class) who

abbrev add_ons_by : (ℕ → Option (List Tree)) → List (ℕ × List Tree)
add_ons_by read = filter_map (λ k. option_map (λ settings. (k, settings)) (read k)) add_on_numbers

module _ (t : Tables) (writes : List Write) (e : Entry) (none : is_written writes e ≡ false) where
  modem_stays : modem_in (write_all t writes) e.0 ≡ modem_in t e.0
  modem_stays = ap (λ (row : Option Row). option_and_then as_modem (possible (key.Modem e.0) row)) (row_stays e (key.Modem e.0) ((mac_decides e.0 e.0).1 refl) writes t none)

  subscriber_stays : subscriber_in (write_all t writes) e.1.subscriber ≡ subscriber_in t e.1.subscriber
  subscriber_stays =
      ap (λ (row : Option Row). option_and_then as_subscriber (possible (key.Subscriber e.1.subscriber) row))
      (row_stays e (key.Subscriber e.1.subscriber) (nat_eq_equiv.refl e.1.subscriber) writes t none)

  class_stays : class_in (write_all t writes) e.1.class ≡ class_in t e.1.class
  class_stays = ap (λ (row : Option Row). option_and_then as_class (possible (key.Class e.1.class) row)) (row_stays e (key.Class e.1.class) (nat_eq_equiv.refl e.1.class) writes t none)

  add_on_stays : (k : ℕ) → add_on_in (write_all t writes) e.1.subscriber k ≡ add_on_in t e.1.subscriber k
  add_on_stays k =
      ap (λ (row : Option Row). option_and_then as_add_on (possible (key.AddOn e.1.subscriber k) row)) (row_stays e (key.AddOn e.1.subscriber k) (nat_eq_equiv.refl e.1.subscriber) writes t none)

  add_ons_stay : add_ons_in (write_all t writes) e.1.subscriber ≡ add_ons_in t e.1.subscriber
  add_ons_stay =
      let same : (λ (k : ℕ). add_on_in (write_all t writes) e.1.subscriber k) ≡ (λ (k : ℕ). add_on_in t e.1.subscriber k) = λ i k. add_on_stays k i in
      ap (λ (read : ℕ → Option (List Tree)). add_ons_by read) same

  profile_stays : profile_at (write_all t writes) e.1.subscriber e.1.class ≡ profile_at t e.1.subscriber e.1.class
  profile_stays =
      ap (λ (who : Option Subscriber). profile_from who (class_in (write_all t writes) e.1.class) (add_ons_in (write_all t writes) e.1.subscriber)) subscriber_stays
      ∙ ap (λ (class : Option Class). profile_from (subscriber_in t e.1.subscriber) class (add_ons_in (write_all t writes) e.1.subscriber)) class_stays
      ∙ ap (λ (add_ons : List (ℕ × List Tree)). profile_from (subscriber_in t e.1.subscriber) (class_in t e.1.class) add_ons) add_ons_stay

  right_stays : IsRight t e → IsRight (write_all t writes) e
  right_stays right = record {
    modem = right.modem;
    profile = right.profile;
    modem_is = modem_stays ∙ right.modem_is;
    subscriber = right.subscriber;
    class = right.class;
    profile_is = profile_stays ∙ right.profile_is;
    spelled = right.spelled;
  }

-- what is kept stays right behind writes, without the entries of which they change a row
pub kept_stays_right : (t : Tables) (writes : List Write) (es : Entries) → AllRight t es → AllRight (write_all t writes) (without_written writes es)
kept_stays_right t writes [] right = All-nil (IsRight (write_all t writes))
kept_stays_right t writes (e ∷ es) right =
    let rest : AllRight (write_all t writes) (without_written writes es) = kept_stays_right t writes es (All-tail (IsRight t) e es right) in
    (elim (is_written writes e) as (λ (b : Bool). is_written writes e ≡ b → AllRight (write_all t writes) (cond (not b) (e ∷ without_written writes es) (without_written writes es))) [
      | true ↦ λ gone. rest
      | false ↦ λ none. All-cons (IsRight (write_all t writes)) e (without_written writes es) (right_stays t writes e none (All-head (IsRight t) e es right)) rest
    ]) refl

-- where nothing is written all stay
pub nothing_written : (es : Entries) → without_written [] es ≡ es
nothing_written es = all_stay [] es refl

-- ---- the other calls

pub none_right : (t : Tables) → AllRight t []
none_right t = All-nil (IsRight t)

pub first_right : (t : Tables) (mac : Mac) (kept : KeptBody) (es : Entries) → IsRight t (mac, kept) → AllRight t es → AllRight t (with_first mac kept es)
first_right t mac kept es this right =
    All-take (IsRight t) 512 ((mac, kept) ∷ filter (λ (e : Entry). not (is_same_mac mac e.0)) es)
    (All-cons (IsRight t) (mac, kept) (filter (λ (e : Entry). not (is_same_mac mac e.0)) es) this (All-filter (λ (e : Entry). not (is_same_mac mac e.0)) (IsRight t) es right))

pub found_right : (t : Tables) (mac : Mac) (kept : KeptBody) (es : Entries) → AllRight t es → kept_of mac es ≡ Some kept → IsRight t (mac, kept)
found_right t mac kept es right found =
    let there = Contains-lookup (is_same_mac mac) es kept found in
    subst (λ (m : Mac). IsRight t (m, kept)) (sym ((mac_decides mac there.0).0 there.2)) (All-contains (IsRight t) es (there.0, kept) right there.1)

-- ---- a modem's profile, by its row

pub profile_by : (t : Tables) (mac : Mac) (modem : Modem) → modem_in t mac ≡ Some modem → profile_in t mac ≡ profile_at t modem.subscriber modem.class
unfolding profile_in
profile_by t mac modem is = ap (λ (o : Option Modem). option_and_then (λ m. profile_at t m.subscriber m.class) o) is

numbers_of : (t : Tables) (subscriber class : ℕ) (modem : Modem) → subscriber ≡ modem.subscriber → class ≡ modem.class → profile_at t modem.subscriber modem.class ≡ profile_at t subscriber class
numbers_of t subscriber class modem s c = ap (λ (n : ℕ). profile_at t n modem.class) (sym s) ∙ ap (λ (n : ℕ). profile_at t subscriber n) (sym c)

pub right_profile : (t : Tables) (mac : Mac) (kept : KeptBody) (right : IsRight t (mac, kept)) → profile_in t mac ≡ Some right.profile
right_profile t mac kept right =
    profile_by t mac right.modem right.modem_is ∙ numbers_of t kept.subscriber kept.class right.modem right.subscriber right.class ∙ right.profile_is

-- so an entry with the numbers of the modem's row, and the body of its profile, is right
pub right_by : (t : Tables) (mac : Mac) (modem : Modem) (profile : List Tree) (kept : KeptBody) → modem_in t mac ≡ Some modem → profile_in t mac ≡ Some profile
    → kept.subscriber ≡ modem.subscriber → kept.class ≡ modem.class → kept.body ≡ spelling profile → IsRight t (mac, kept)
right_by t mac modem profile kept row whole s c spelled = record {
  modem = modem;
  profile = profile;
  modem_is = row;
  subscriber = s;
  class = c;
  profile_is = sym (numbers_of t kept.subscriber kept.class modem s c) ∙ sym (profile_by t mac modem row) ∙ whole;
  spelled = spelled;
}
