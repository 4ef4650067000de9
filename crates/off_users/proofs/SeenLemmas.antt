-- What the tables' modems name, as a list of entries whose keys differ.
use Rattle.std.proofs.Common.{◌≡◌, Bool, true, false, cond, T, List, [], ◌∷◌, Option, Some, None, option_map, option_and_then, count_by, refl, sym, ap, subst, ◌∙◌, arith}
use Rattle.std.specs.Cmp.{IsEquivalence, decided, both_ways}
use Rattle.std.specs.List.{filter_map, cons_option, AllByRecursion, IsDistinct}
use Rattle.std.specs.Map.{lookup, keys_of, values_of}
use Rattle.std.specs.Ordering.{is_lt, eq_by_cmp}
use Rattle.std.specs.FinMap as map
use Rattle.std.specs.FinMap.Entries as list
use Rattle.std.proofs.lemmas.List.Sums.{sum_by-cons}
use Rattle.std.proofs.lemmas.Map.Keys.{IsDistinct-cons}
use Rattle.off_base.specs.declared.macs.Mac.{Mac}
use Rattle.off_defs.specs.declared.keys.Key.{Key}
use Rattle.off_defs.specs.declared.keys.Key.TheVariants as key
use Rattle.off_defs.specs.declared.tables.Row.{Row}
use Rattle.off_defs.specs.declared.tables.Row.TheVariants as row
use Rattle.off_defs.specs.declared.tables.Modem.{Modem}
use Rattle.off_defs.specs.Keys.{key_cmp}
use Rattle.off_defs.specs.State.{Tables}
use Rattle.off_defs.proofs.EntryLemmas.{first, second, is_equal}
use Rattle.off_defs.proofs.TableLemmas.{same_key, own_key}
use Rattle.off_account_rules.specs.Rows.{possible, as_modem, modem_of, modems, modem_in}
use Rattle.off_base.proofs.MacLemmas.{mac_decides}
use Rattle.off_users.specs.declared.named.Named.{Named}
use Rattle.off_base.specs.Macs.{is_same_mac}
use Rattle.off_users.specs.Users.{named_of, named_entry, named_in}

pub mac_laws : IsEquivalence is_same_mac
mac_laws = decided is_same_mac mac_decides

abbrev pub mac_of : Mac → Key → Mac
mac_of d (key.Modem mac) = mac
mac_of d k = d

-- the order of keys tells two modems apart as the test does
pub same_test : (a b : Mac) → eq_by_cmp key_cmp (key.Modem a) (key.Modem b) ≡ is_same_mac a b
same_test a b =
    both_ways (eq_by_cmp key_cmp (key.Modem a) (key.Modem b)) (is_same_mac a b)
    (λ t. (mac_decides a b).1 (ap (mac_of a) (same_key (key.Modem a) (key.Modem b) t)))
    (λ t. ap (λ (m : Mac). eq_by_cmp key_cmp (key.Modem a) (key.Modem m)) (sym ((mac_decides a b).0 t)) ∙ own_key (key.Modem a))

below_apart : (a b : Mac) → T (is_lt (key_cmp (key.Modem a) (key.Modem b))) → is_same_mac a b ≡ false
below_apart a b less =
    elim (is_same_mac a b) as (λ t. is_same_mac a b ≡ t → t ≡ false) [
      | true ↦ λ t. absurd (subst (λ r. T (is_lt r)) (is_equal (key_cmp (key.Modem a) (key.Modem b)) (same_test a b ∙ t)) less)
      | false ↦ λ t. refl
    ] refl

abbrev mac_or : Mac → Option (Mac × Named) → Mac
mac_or d None = d
mac_or d (Some p) = p.0

modem_key : (k : Key) (held : Row) (p : Mac × Named) → named_entry (k, held) ≡ Some p → k ≡ key.Modem p.0
modem_key (key.Modem m) (row.Modem modem) p e = ap key.Modem (ap (mac_or m) e)
modem_key k held p e = cc

-- behind a modem's key comes no other entry of it
apart_behind : (m : Mac) (es : List (Key × Row)) → T (list.below_all key_cmp (key.Modem m) es) → AllByRecursion (λ y. is_same_mac m y ≡ false) (keys_of (named_in es))
apart_behind m [] h = tt
apart_behind m (e ∷ es) h =
    let rest = apart_behind m es (second _ _ h) in
    elim (named_entry e) as (λ o. named_entry e ≡ o → AllByRecursion (λ y. is_same_mac m y ≡ false) (keys_of (cons_option o (named_in es)))) [
      | None ↦ λ is. rest
      | Some p ↦ λ is. (below_apart m p.0 (subst (λ (k : Key). T (is_lt (key_cmp (key.Modem m) k))) (modem_key e.0 e.1 p is) (first _ _ h)), rest)
    ] refl

distinct_in : (es : List (Key × Row)) → T (list.is_sorted key_cmp es) → IsDistinct is_same_mac (keys_of (named_in es))
unfolding IsDistinct
distinct_in [] h = tt
distinct_in (e ∷ es) h =
    let rest = distinct_in es (second _ _ h) in
    elim (named_entry e) as (λ o. named_entry e ≡ o → IsDistinct is_same_mac (keys_of (cons_option o (named_in es)))) [
      | None ↦ λ is. rest
      | Some p ↦ λ is.
          IsDistinct-cons is_same_mac p.0 (keys_of (named_in es)) (apart_behind p.0 es (subst (λ (k : Key). T (list.below_all key_cmp k es)) (modem_key e.0 e.1 p is) (first _ _ h))) rest
    ] refl

pub distinct_named : (t : Tables) → IsDistinct is_same_mac (keys_of (named_in (map.entries t)))
distinct_named t = distinct_in (map.entries t) (map.entries_sorted t)

none_found : (q : Mac) (xs : List (Mac × Named)) → AllByRecursion (λ y. is_same_mac q y ≡ false) (keys_of xs) → lookup (is_same_mac q) xs ≡ None
none_found q [] h = refl
none_found q (x ∷ xs) h = ap (λ b. cond b (Some x.1) (lookup (is_same_mac q) xs)) h.0 ∙ none_found q xs h.1

-- what the row of a modem's key says that it names
abbrev pub named_at : Mac → Option Row → Option Named
named_at q o = option_map named_of (option_and_then as_modem (possible (key.Modem q) o))

pub seen_in : (q : Mac) (es : List (Key × Row)) → T (list.is_sorted key_cmp es) → lookup (is_same_mac q) (named_in es) ≡ named_at q (list.find key_cmp (key.Modem q) es)
seen_in q [] h = refl
seen_in q ((key.Modem m, row.Modem modem) ∷ es) h =
    let rest = seen_in q es (second _ _ h) in
    let found = list.find key_cmp (key.Modem q) es in
    elim (is_same_mac q m) as (λ b. cond b (Some (named_of modem)) (lookup (is_same_mac q) (named_in es)) ≡ named_at q (cond b (Some (row.Modem modem)) found)) [ true ↦ refl | false ↦ rest ]
    ∙ ap (λ b. named_at q (cond b (Some (row.Modem modem)) found)) (sym (same_test q m))
seen_in q ((key.Modem m, held) ∷ es) h =
    let rest = seen_in q es (second _ _ h) in
    let found = list.find key_cmp (key.Modem q) es in
    elim (is_same_mac q m) as (λ b. is_same_mac q m ≡ b → lookup (is_same_mac q) (named_in es) ≡ named_at q (cond b (Some held) found)) [
      | true ↦ λ t.
          none_found q (named_in es) (subst (λ (x : Mac). AllByRecursion (λ y. is_same_mac x y ≡ false) (keys_of (named_in es))) (sym ((mac_decides q m).0 t)) (apart_behind m es (first _ _ h)))
      | false ↦ λ t. rest
    ] refl
    ∙ ap (λ b. named_at q (cond b (Some held) found)) (sym (same_test q m))
seen_in q ((k, held) ∷ es) h = seen_in q es (second _ _ h)

-- what the tables' entries name is what their modems' rows name
pub named_seen : (t : Tables) (q : Mac) → lookup (is_same_mac q) (named_in (map.entries t)) ≡ option_map named_of (modem_in t q)
named_seen t q = seen_in q (map.entries t) (map.entries_sorted t) ∙ ap (named_at q) (sym (map.get-entries t (key.Modem q)))

-- and it's counted as the modems are
counted_in : (p : Named → Bool) (es : List (Key × Row)) → count_by p (values_of (named_in es)) ≡ count_by (λ (entry : Mac × Modem). p (named_of entry.1)) (filter_map modem_of es)
counted_in p [] = refl
counted_in p (e ∷ es) =
    let rest = counted_in p es in
    elim (modem_of e) as (λ o. count_by p (values_of (cons_option (option_map (λ (x : Mac × Modem). (x.0, named_of x.1)) o) (named_in es))) ≡ count_by (λ (entry : Mac × Modem). p (named_of entry.1)) (cons_option o (filter_map modem_of es))) [
      | None ↦ rest
      | Some x ↦
          let one = sum_by-cons (λ (named : Named). cond (p named) 1 0) (named_of x.1) (values_of (named_in es)) in
          let other = sum_by-cons (λ (entry : Mac × Modem). cond (p (named_of entry.1)) 1 0) x (filter_map modem_of es) in
          omega (arith, rest, one, other)
    ]

pub counted_named : (p : Named → Bool) (t : Tables) → count_by p (values_of (named_in (map.entries t))) ≡ count_by (λ (entry : Mac × Modem). p (named_of entry.1)) (modems t)
counted_named p t = counted_in p (map.entries t)
