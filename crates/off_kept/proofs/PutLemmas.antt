-- What a put makes of the entries of a cache, where equal keys are the same: for any keys and values.
use Rattle.std.proofs.Common.{◌≡◌, ℕ, zero, suc, ◌-◌, ◌≤◌, Bool, true, false, cond, not, List, [], ◌∷◌, length, take, Option, Some, None, Decides, refl, sym, ap, ◌∙◌, arith}
use Rattle.std.specs.List.{IsDistinct, AllByRecursion, filter}
use Rattle.std.specs.Option.{option_map_or}
use Rattle.std.specs.Map.{keys_of, lookup_entry, remove_entry}
use Rattle.std.proofs.lemmas.Map.Keys.{IsDistinct-head, IsDistinct-tail}
use Rattle.lru.specs.LruCache.{LruCache, IsValid, put_entries}
use Rattle.lru.proofs.CallerLemmas.{Contains-lookup_entry}

module _ {K V : Type 0} (eq : K → K → Bool) (same : (a b : K) → Decides (eq a b) (a ≡ b)) (k : K) where
  abbrev others : List (K × V) → List (K × V)
  others es = filter (λ e. not (eq k e.0)) es

  -- none has the key: all are others
  untouched : (es : List (K × V)) → lookup_entry (eq k) es ≡ None → others es ≡ es
  untouched [] none = refl
  untouched (e ∷ es) none = (elim (eq k e.0) as (λ (b : Bool). cond b (Some e) (lookup_entry (eq k) es) ≡ None → cond (not b) (e ∷ others es) (others es) ≡ e ∷ es) [
    | true ↦ λ h. cc
    | false ↦ λ h. ap (λ (rest : List (K × V)). e ∷ rest) (untouched es h)
  ]) none

  all_others : (other : K) (es : List (K × V)) → k ≡ other → AllByRecursion (λ y. eq other y ≡ false) (keys_of es) → others es ≡ es
  all_others other [] is apart = refl
  all_others other (e ∷ es) is apart =
      let this : eq k e.0 ≡ false = ap (λ (x : K). eq x e.0) is ∙ apart.0 in
      let rest : others es ≡ es = all_others other es is apart.1 in
      ap (λ (b : Bool). cond (not b) (e ∷ others es) (others es)) this ∙ ap (λ (r : List (K × V)). e ∷ r) rest

  -- keys differ: a removal leaves the others
  removed : (es : List (K × V)) → IsDistinct eq (keys_of es) → remove_entry (eq k) es ≡ others es
  removed [] distinct = refl
  removed (e ∷ es) distinct = (elim (eq k e.0) as (λ (b : Bool). eq k e.0 ≡ b → cond b es (e ∷ remove_entry (eq k) es) ≡ cond (not b) (e ∷ others es) (others es)) [
    | true ↦ λ is. sym (all_others e.0 es ((same k e.0).0 is) (IsDistinct-head eq e.0 (keys_of es) distinct))
    | false ↦ λ is. ap (λ (rest : List (K × V)). e ∷ rest) (removed es (IsDistinct-tail eq e.0 (keys_of es) distinct))
  ]) refl

  -- one has the key: a removal leaves one less
  shorter : (es : List (K × V)) (e : K × V) → lookup_entry (eq k) es ≡ Some e → suc (length (remove_entry (eq k) es)) ≡ length es
  shorter [] e found = cc
  shorter (f ∷ es) e found = (elim (eq k f.0) as (λ (b : Bool). cond b (Some f) (lookup_entry (eq k) es) ≡ Some e → suc (length (cond b es (f ∷ remove_entry (eq k) es))) ≡ suc (length es)) [
    | true ↦ λ h. refl
    | false ↦ λ h. ap suc (shorter es e h)
  ]) found

  take_all : (n : ℕ) (es : List (K × V)) → length es ≤ n → take n es ≡ es
  take_all zero [] few = refl
  take_all zero (e ∷ es) few = absurd (omega arith)
  take_all (suc n) [] few = refl
  take_all (suc n) (e ∷ es) few = ap (λ (rest : List (K × V)). e ∷ rest) (take_all n es (omega arith))

  abbrev with_new : ℕ → V → List (K × V) → List (K × V)
  with_new most v es = (k, v) ∷ take most (others es)

  put_cases : (most : ℕ) (v : V) (es : List (K × V)) (o : Option (K × V)) → IsDistinct eq (keys_of es) → length es ≤ suc most → lookup_entry (eq k) es ≡ o
      → option_map_or (λ e. (e.0, v) ∷ remove_entry (eq k) es) o ((k, v) ∷ take most es) ≡ with_new most v es
  put_cases most v es None distinct few o = ap (λ (rest : List (K × V)). (k, v) ∷ take most rest) (sym (untouched es o))
  put_cases most v es (Some e) distinct few o =
      let key : k ≡ e.0 = (same k e.0).0 (Contains-lookup_entry (eq k) es e o).1 in
      let less : suc (length (remove_entry (eq k) es)) ≡ length es = shorter es e o in
      let all : take most (remove_entry (eq k) es) ≡ remove_entry (eq k) es = take_all most (remove_entry (eq k) es) (omega arith) in
      ap (λ (x : K). (x, v) ∷ remove_entry (eq k) es) (sym key) ∙ ap (λ (rest : List (K × V)). (k, v) ∷ rest) (sym all ∙ ap (take most) (removed es distinct))

  -- a put makes the new entry first, and drops the former one of its key, or the last where there
  -- were as many as may be
  pub put_is : (c : LruCache K V) (most : ℕ) (v : V) → c.cap ≡ suc most → IsValid eq c → put_entries eq c k v ≡ with_new most v c.entries
  put_is c most v cap valid =
      let one : c.cap - 1 ≡ most = omega (arith, cap) in
      ap (λ (n : ℕ). option_map_or (λ e. (e.0, v) ∷ remove_entry (eq k) c.entries) (lookup_entry (eq k) c.entries) ((k, v) ∷ take n c.entries)) one
      ∙ put_cases most v c.entries (lookup_entry (eq k) c.entries) valid.0 (omega (arith, cap, valid.1)) refl
