-- What a path names is a row that a clerk may be shown, and may remove where the path has DELETE.
use Rattle.std.proofs.Common.{◌≡◌, ℕ, Bool, true, false, cond, ◌&&◌, List, codes, length, take, drop, Option, Some, None, option_map, option_and_then, IfSome, nat_le, refl}
use Rattle.off_base.specs.AddressText.{ip_of, mac_of}
use Rattle.off_base.specs.Number.{number_of, is_number_text, number_read, greatest_u64}
use Rattle.off_defs.specs.declared.keys.Key.TheVariants as key
use Rattle.off_defs.specs.declared.tables.ImportKind.TheVariants.{Subscribers, Modems}
use Rattle.off_clerk_rules.specs.declared.places.Place.{Place}
use Rattle.off_clerk_rules.specs.declared.places.Place.TheVariants as at
use Rattle.off_clerk_rules.specs.Paths.{length_before, last_number, mac_with, ip_with, add_on_named, site_at, hub_at, subscriber_at, add_on_at, modem_at, class_at, pool_at, device_pool_at, lease_at, subscribers_at, modems_at, place_at, only_shown, kept, removable, IsNamed}
use Rattle.off_clerk_rules.proofs.PathLemmas.{NamesOne, either_named}

within_if : (text : Bool) (n most : ℕ) (b : Bool) → nat_le n most ≡ b → IfSome (cond (text && b) (Some n) None) (λ (m : ℕ). nat_le m most ≡ true)
within_if true n most true e = e
within_if true n most false e = tt
within_if false n most b e = tt

-- a number that is read is within its bound
pub number_within : (most : ℕ) (text : List ℕ) → IfSome (number_read most text) (λ (m : ℕ). nat_le m most ≡ true)
unfolding number_read
number_within most text = within_if (is_number_text text) (number_of text) most _ refl

-- a place that is read behind a front, or made of what was read
if_begins : (begins : Bool) (found : Option Place) → NamesOne found → NamesOne (cond begins found None)
if_begins true found shown = shown
if_begins false found shown = tt

of_read : {A : Type 0} (read : Option A) (make : A → Place) → ((x : A) → IsNamed (make x)) → NamesOne (option_map make read)
of_read (Some x) make all = all x
of_read None make all = tt

site_shown : (begins : Bool) → NamesOne (cond begins (Some (kept (key.Hub 0))) None)
site_shown true = (refl, λ _. refl)
site_shown false = tt

add_on_shown : (owner number : Option ℕ) → IfSome number (λ (n : ℕ). nat_le n 7 ≡ true)
    → NamesOne (option_and_then (λ subscriber. option_map (λ n. removable (key.AddOn subscriber n)) number) owner)
add_on_shown (Some subscriber) (Some n) small = (small, λ _. small)
add_on_shown (Some subscriber) None small = tt
add_on_shown None number small = tt

number_behind : (begins : Bool) (text : List ℕ) → IfSome (cond begins (number_read 7 text) None) (λ (n : ℕ). nat_le n 7 ≡ true)
number_behind true text = number_within 7 text
number_behind false text = tt

named_shown : (text : List ℕ) → NamesOne (add_on_named text)
named_shown text = add_on_shown (number_read last_number (take (length_before 47 text) text)) _ (number_behind _ _)

pub path_named : (path : List ℕ) → NamesOne (place_at path)
path_named path =
    either_named _ (modems_at path) _ refl
    (either_named _ (subscribers_at path) _ refl
    (either_named _ (lease_at path) _ refl
    (either_named _ (device_pool_at path) _ refl
    (either_named _ (pool_at path) _ refl
    (either_named _ (class_at path) _ refl
    (either_named _ (modem_at path) _ refl
    (either_named _ (add_on_at path) _ refl
    (either_named _ (subscriber_at path) _ refl
    (either_named (site_at path) (hub_at path) _ refl (site_shown _) (if_begins _ _ (of_read (number_read last_number _) (λ n. removable (key.Hub n)) (λ n. (refl, λ _. refl)))))
    (if_begins _ _ (of_read (number_read last_number _) (λ n. removable (key.Subscriber n)) (λ n. (refl, λ _. refl)))))
    (if_begins _ _ (named_shown (drop (length (codes "/subscribers/")) path))))
    (if_begins _ _ (of_read (mac_of _) (λ bytes. removable (key.Modem (mac_with bytes))) (λ bytes. (refl, λ _. refl)))))
    (if_begins _ _ (of_read (number_read last_number _) (λ n. removable (key.Class n)) (λ n. (refl, λ _. refl)))))
    (if_begins _ _ (of_read (number_read last_number _) (λ n. removable (key.Pool n)) (λ n. (refl, λ _. refl)))))
    (if_begins _ _ (of_read (number_read last_number _) (λ n. removable (key.DevicePool n)) (λ n. (refl, λ _. refl)))))
    (if_begins _ _ (of_read (ip_of _) (λ number. only_shown (key.Lease (ip_with number))) (λ number. (refl, λ h. h)))))
    (if_begins _ _ (of_read (number_read greatest_u64 _) (λ batch. at.Import Subscribers batch) (λ batch. tt))))
    (if_begins _ _ (of_read (number_read greatest_u64 _) (λ batch. at.Import Modems batch) (λ batch. tt)))
