-- The live connections as a map of what has come of each.
use Rattle.std.proofs.Common.{◌≡◌, ℕ, Bool, true, false, cond, ◌&&◌, List, [], ◌∷◌, length, map, Option, Some, None, option_map, is_some, is_none, not, nat_le, IfSome, Result, Ok, Err, OnOk, OnErr, refl, sym, ap, ◌∙◌, subst}
use lib.Dec.{T}
use Rattle.std.specs.List.{AllByRecursion}
use Rattle.std.specs.List.Sorted.{IsStrictlySortedBy}
use Rattle.std.specs.Map.{keys_of, lookup, remove_entry}
use Rattle.std.specs.BTreeMap.{is_at, insert_entry}
use Rattle.std.specs.Ordering.{nat_cmp, is_lt, is_eq, eq_by_cmp, match_ordering}
use Rattle.std.specs.Cmp.{nat_cmp_total, eq_by_cmp_equiv}
use Rattle.std.specs.declared.cmp.Ordering.TheVariants.{Less, Equal, Greater}
use Rattle.std.specs.FinMap as fin
use Rattle.std.specs.FinMap.Entries as list
use Rattle.std.proofs.lemmas.List.{length-map}
use Rattle.off_defs.proofs.EntryLemmas.{both}
use Rattle.off_http.specs.Request.{Waits}
use Rattle.off_http.specs.Heard.{Heard}
use Rattle.off_book.specs.Http.{is_full}
use Rattle.off_sessions.specs.Connections.{bytes_of, heard_entry, heard_in, AllWait, AreLive}

below_heard : (x : ℕ) (es : List (ℕ × Heard)) → AllByRecursion (λ y. nat_cmp x y ≡ Less) (keys_of es) → T (list.below_all nat_cmp x (map heard_entry es))
below_heard x [] all = tt
below_heard x (e ∷ es) all = subst (λ r. T (is_lt r && list.below_all nat_cmp x (map heard_entry es))) (sym all.0) (below_heard x es all.1)

pub sorted_heard : (es : List (ℕ × Heard)) → IsStrictlySortedBy nat_cmp (keys_of es) → T (list.is_sorted nat_cmp (map heard_entry es))
unfolding IsStrictlySortedBy
sorted_heard [] sorted = tt
sorted_heard (e ∷ es) sorted = both _ _ (below_heard e.0 es sorted.0) (sorted_heard es sorted.1)

find_heard : (k : ℕ) (es : List (ℕ × Heard)) → list.find nat_cmp k (map heard_entry es) ≡ option_map bytes_of (lookup (is_at (nat_cmp k)) es)
find_heard k [] = refl
find_heard k (e ∷ es) =
    elim (is_eq (nat_cmp k e.0)) as (λ b. cond b (Some (bytes_of e.1)) (list.find nat_cmp k (map heard_entry es)) ≡ option_map bytes_of (cond b (Some e.1) (lookup (is_at (nat_cmp k)) es))) [
      | true ↦ refl
      | false ↦ find_heard k es
    ]

pub get_heard : (k : ℕ) (es : List (ℕ × Heard)) → IsStrictlySortedBy nat_cmp (keys_of es) → fin.get (heard_in es) k ≡ option_map bytes_of (lookup (is_at (nat_cmp k)) es)
get_heard k es sorted = fin.get-from_sorted nat_cmp (map heard_entry es) k (sorted_heard es sorted) ∙ find_heard k es

pub len_heard : (es : List (ℕ × Heard)) → IsStrictlySortedBy nat_cmp (keys_of es) → fin.len (heard_in es) ≡ length es
len_heard es sorted =
    fin.len-entries (heard_in es) ∙ (ap length (fin.entries-from_sorted nat_cmp (map heard_entry es) (sorted_heard es sorted)) ∙ length-map es heard_entry)

-- a look-up, as an entry is changed
mapped : (b : Bool) (one other : Option Heard) → option_map bytes_of (cond b one other) ≡ cond b (option_map bytes_of one) (option_map bytes_of other)
mapped true one other = refl
mapped false one other = refl

changed : (k q : ℕ) (es fs : List (ℕ × Heard)) (w : Option Heard) → IsStrictlySortedBy nat_cmp (keys_of es) → IsStrictlySortedBy nat_cmp (keys_of fs)
    → lookup (is_at (nat_cmp q)) fs ≡ cond (is_at (nat_cmp k) q) w (lookup (is_at (nat_cmp q)) es)
    → fin.get (heard_in fs) q ≡ cond (eq_by_cmp nat_cmp q k) (option_map bytes_of w) (fin.get (heard_in es) q)
changed k q es fs w sorted sorted' looks =
    get_heard q fs sorted' ∙ (ap (option_map bytes_of) looks ∙ (mapped (is_at (nat_cmp k) q) w (lookup (is_at (nat_cmp q)) es)
    ∙ (ap (λ b. cond b (option_map bytes_of w) (option_map bytes_of (lookup (is_at (nat_cmp q)) es))) ((eq_by_cmp_equiv nat_cmp_total).symm k q)
    ∙ ap (λ v. cond (eq_by_cmp nat_cmp q k) (option_map bytes_of w) v) (sym (get_heard q es sorted)))))

pub removed : (k : ℕ) (es fs : List (ℕ × Heard)) → IsStrictlySortedBy nat_cmp (keys_of es) → IsStrictlySortedBy nat_cmp (keys_of fs)
    → ((q : ℕ) → lookup (is_at (nat_cmp q)) fs ≡ cond (is_at (nat_cmp k) q) None (lookup (is_at (nat_cmp q)) es)) → heard_in fs ≡ fin.remove (heard_in es) k
removed k es fs sorted sorted' looks =
    fin.same_map nat_cmp_total fin.nat_cmp-IsAntisymmetric (heard_in fs) (fin.remove (heard_in es) k)
    (λ q. changed k q es fs None sorted sorted' (looks q) ∙ sym (fin.get-remove nat_cmp_total (heard_in es) k q))

pub inserted : (k : ℕ) (v : Heard) (es fs : List (ℕ × Heard)) → IsStrictlySortedBy nat_cmp (keys_of es) → IsStrictlySortedBy nat_cmp (keys_of fs)
    → ((q : ℕ) → lookup (is_at (nat_cmp q)) fs ≡ cond (is_at (nat_cmp k) q) (Some v) (lookup (is_at (nat_cmp q)) es)) → heard_in fs ≡ fin.insert (heard_in es) k (bytes_of v)
inserted k v es fs sorted sorted' looks =
    fin.same_map nat_cmp_total fin.nat_cmp-IsAntisymmetric (heard_in fs) (fin.insert (heard_in es) k (bytes_of v))
    (λ q. changed k q es fs (Some v) sorted sorted' (looks q) ∙ sym (fin.get-insert nat_cmp_total (heard_in es) k (bytes_of v) q))

none_sorted : IsStrictlySortedBy nat_cmp []
unfolding IsStrictlySortedBy
none_sorted = tt

pub none_live : AreLive []
none_live = (none_sorted, tt)

pub none_heard : heard_in [] ≡ fin.empty
none_heard = fin.empty_of_len (heard_in []) (len_heard [] none_sorted)

pub wait_less : (test : ℕ → Bool) (es : List (ℕ × Heard)) → AllWait es → AllWait (remove_entry test es)
wait_less test [] all = tt
wait_less test (e ∷ es) all = elim (test e.0) as (λ b. AllWait (cond b es (e ∷ remove_entry test es))) [ true ↦ all.1 | false ↦ (all.0, wait_less test es all.1) ]

pub wait_more : (k : ℕ) (v : Heard) (es : List (ℕ × Heard)) → v.answer ≡ Waits → AllWait es → AllWait (insert_entry nat_cmp es k v)
wait_more k v [] waits all = (waits, tt)
wait_more k v (e ∷ es) waits all =
    elim (nat_cmp k e.0) as (λ r. AllWait (match_ordering r ((k, v) ∷ e ∷ es) ((e.0, v) ∷ es) (e ∷ insert_entry nat_cmp es k v))) [
      | Less ↦ (waits, all)
      | Equal ↦ (waits, all.1)
      | Greater ↦ (all.0, wait_more k v es waits all.1)
    ]

waits_found : (test : ℕ → Bool) (es : List (ℕ × Heard)) → AllWait es → IfSome (lookup test es) (λ (v : Heard). v.answer ≡ Waits)
waits_found test [] all = tt
waits_found test (e ∷ es) all =
    elim (test e.0) as (λ b. IfSome (cond b (Some e.1) (lookup test es)) (λ (v : Heard). v.answer ≡ Waits)) [ true ↦ all.0 | false ↦ waits_found test es all.1 ]

pub waits_at : (test : ℕ → Bool) (es : List (ℕ × Heard)) (r : Option Heard) → AllWait es → r ≡ lookup test es → IfSome r (λ (v : Heard). v.answer ≡ Waits)
waits_at test es r all is = subst (λ (o : Option Heard). IfSome o (λ (v : Heard). v.answer ≡ Waits)) (sym is) (waits_found test es all)

-- the sessions wait, whatever an insertion answered
pub keep_wait : {A E : Type 0} (r : Result A E) (k : ℕ) (v : Heard) (es fs : List (ℕ × Heard)) → v.answer ≡ Waits → AllWait es
    → OnOk r (fs ≡ insert_entry nat_cmp es k v) → OnErr r (fs ≡ es) → AllWait fs
keep_wait (Ok x) k v es fs waits all ok err = subst (λ gs. AllWait gs) (sym ok) (wait_more k v es waits all)
keep_wait (Err e) k v es fs waits all ok err = subst (λ gs. AllWait gs) (sym err) all

turned : (o : Option Heard) → is_none (option_map bytes_of o) ≡ not (is_some o)
turned None = refl
turned (Some v) = refl

-- whether there is room for a connection that may be new
there : (k : ℕ) (es : List (ℕ × Heard)) (m : fin.FinMap nat_cmp (List ℕ)) (has : Bool) → IsStrictlySortedBy nat_cmp (keys_of es) → heard_in es ≡ m
    → has ≡ is_some (lookup (is_at (nat_cmp k)) es) → is_none (fin.get m k) ≡ not has
there k es m has sorted is looks =
    ap (λ (n : fin.FinMap nat_cmp (List ℕ)). is_none (fin.get n k)) (sym is) ∙ (ap is_none (get_heard k es sorted) ∙ (turned (lookup (is_at (nat_cmp k)) es) ∙ ap not (sym looks)))

pub full_by : (k : ℕ) (es : List (ℕ × Heard)) (m : fin.FinMap nat_cmp (List ℕ)) (has : Bool) {n : ℕ} → IsStrictlySortedBy nat_cmp (keys_of es) → heard_in es ≡ m
    → has ≡ is_some (lookup (is_at (nat_cmp k)) es) → has ≡ false → n ≡ length es → nat_le 8 n ≡ is_full m k
full_by k es m has sorted is looks absent count =
    ap (nat_le 8) (count ∙ (sym (len_heard es sorted) ∙ ap fin.len is)) ∙ sym (ap (λ b. b && nat_le 8 (fin.len m)) (there k es m has sorted is looks ∙ ap not absent))

pub not_full : (k : ℕ) (es : List (ℕ × Heard)) (m : fin.FinMap nat_cmp (List ℕ)) (has : Bool) → IsStrictlySortedBy nat_cmp (keys_of es) → heard_in es ≡ m
    → has ≡ is_some (lookup (is_at (nat_cmp k)) es) → has ≡ true → not has ≡ is_full m k
not_full k es m has sorted is looks present = ap not present ∙ sym (ap (λ b. b && nat_le 8 (fin.len m)) (there k es m has sorted is looks ∙ ap not present))
