-- One turn round a cache, from its last entry to its first.
use Rattle.std.proofs.Common.{◌≡◌, ℕ, ◌+◌, ◌-◌, ◌<◌, Bool, true, false, cond, not, List, [], ◌∷◌, ◌++◌, length, take, Option, Some, None, option_map, Decides, refl, sym, ap, ◌∙◌, subst, arith, append_assoc, append-nil, length-append}
use Rattle.std.specs.List.{IsDistinct, AllByRecursion, filter, slice_get}
use Rattle.std.specs.Option.{option_map_or}
use Rattle.std.specs.Map.{keys_of, lookup_entry, remove_entry}
use Rattle.std.proofs.lemmas.Map.Keys.{IsDistinct-head, IsDistinct-tail}
use Rattle.lru.specs.LruCache.{last_entry, promoted}

-- the last entry of a list, and what stands before it
module _ {X : Type 0} where
  pub record HasLast (xs : List X) : Type 0 where
    pub front : List X
    pub last : X
    pub is : xs ≡ front ++ last ∷ []

  pub last_of : (x : X) (xs : List X) → HasLast (x ∷ xs)
  last_of x [] = record { front = []; last = x; is = refl }
  last_of x (y ∷ xs) =
      let more : HasLast (y ∷ xs) = last_of y xs in
      record { front = x ∷ more.front; last = more.last; is = ap (λ (rest : List X). x ∷ rest) more.is }

  get_last : (front : List X) (last : X) → slice_get (front ++ last ∷ []) (length front) ≡ Some last
  get_last [] last = refl
  get_last (x ∷ front) last = get_last front last

  one_less : (front : List X) (last : X) → length (front ++ last ∷ []) - 1 ≡ length front
  one_less front last = let e : length (front ++ last ∷ []) ≡ length front + 1 = length-append front (last ∷ []) in omega (arith, e)

  pub last_is : (front : List X) (last : X) → slice_get (front ++ last ∷ []) (length (front ++ last ∷ []) - 1) ≡ Some last
  last_is front last = ap (slice_get (front ++ last ∷ [])) (one_less front last) ∙ get_last front last

  take_front : (front : List X) (last : X) → take (length front) (front ++ last ∷ []) ≡ front
  take_front [] last = refl
  take_front (x ∷ front) last = ap (λ (rest : List X). x ∷ rest) (take_front front last)

  pub without_last : (front : List X) (last : X) → take (length (front ++ last ∷ []) - 1) (front ++ last ∷ []) ≡ front
  without_last front last = ap (λ (n : ℕ). take n (front ++ last ∷ [])) (one_less front last) ∙ take_front front last

module _ {K : Type 0} (eq : K → K → Bool) (same : (a b : K) → Decides (eq a b) (a ≡ b)) where
  flipped : (a b : K) → eq a b ≡ false → eq b a ≡ false
  flipped a b apart = (elim (eq b a) as (λ (x : Bool). eq b a ≡ x → x ≡ false) [
    | true ↦ λ is. let t : eq a b ≡ true = (same a b).1 (sym ((same b a).0 is)) in sym t ∙ apart
    | false ↦ λ is. refl
  ]) refl

-- the last entry goes first
module _ {K V : Type 0} (eq : K → K → Bool) (same : (a b : K) → Decides (eq a b) (a ≡ b)) where
  from_last : (k : K) (front : List (K × V)) (last : K × V) → AllByRecursion (λ y. eq k y ≡ false) (keys_of (front ++ last ∷ [])) → eq k last.0 ≡ false
  from_last k [] last apart = apart.0
  from_last k (e ∷ front) last apart = from_last k front last apart.1

  abbrev moved : List (K × V) → K × V → Option (K × V) → List (K × V) → List (K × V)
  moved es last found rest = option_map_or (λ e. e ∷ rest) found es

  found_last : (front : List (K × V)) (last : K × V) → IsDistinct eq (keys_of (front ++ last ∷ []))
      → (lookup_entry (eq last.0) (front ++ last ∷ []) ≡ Some last) × (remove_entry (eq last.0) (front ++ last ∷ []) ≡ front)
  found_last [] last distinct =
      let this : eq last.0 last.0 ≡ true = (same last.0 last.0).1 refl in
      (ap (λ (b : Bool). cond b (Some last) None) this, ap (λ (b : Bool). cond b [] (last ∷ [])) this)
  found_last (e ∷ front) last distinct =
      let this : eq last.0 e.0 ≡ false = flipped eq same e.0 last.0 (from_last e.0 front last (IsDistinct-head eq e.0 (keys_of (front ++ last ∷ [])) distinct)) in
      let rest = found_last front last (IsDistinct-tail eq e.0 (keys_of (front ++ last ∷ [])) distinct) in (
        ap (λ (b : Bool). cond b (Some e) (lookup_entry (eq last.0) (front ++ last ∷ []))) this ∙ rest.0,
        ap (λ (b : Bool). cond b (front ++ last ∷ []) (e ∷ remove_entry (eq last.0) (front ++ last ∷ []))) this ∙ ap (λ (r : List (K × V)). e ∷ r) rest.1,
      )

  pub promoted_last : (front : List (K × V)) (last : K × V) → IsDistinct eq (keys_of (front ++ last ∷ [])) → promoted (eq last.0) (front ++ last ∷ []) ≡ last ∷ front
  promoted_last front last distinct =
      let found = found_last front last distinct in
      ap (λ (o : Option (K × V)). option_map_or (λ e. e ∷ remove_entry (eq last.0) (front ++ last ∷ [])) o (front ++ last ∷ [])) found.0
      ∙ ap (λ (rest : List (K × V)). last ∷ rest) found.1

-- So far round: the entries that were passed stand in front, as the test leaves them, before those
-- that are left.
module _ {X : Type 0} (is_gone : X → Bool) where
  abbrev staying : List X → List X
  staying xs = filter (λ x. not (is_gone x)) xs

  pub record Passed (all : List X) (passed : ℕ) (entries : List X) : Type 0 where
    pub left : List X
    pub done : List X
    pub split : all ≡ left ++ done
    pub count : length done ≡ passed
    pub now : entries ≡ staying done ++ left

  pub passed_none : (all : List X) → Passed all 0 all
  passed_none all = record { left = all; done = []; split = sym (append-nil all); count = refl; now = refl }

  -- what a turn makes of entries
  abbrev pub Turned : List X → List X → Type 0
  Turned old new = (front : List X) (last : X) → old ≡ front ++ last ∷ [] → new ≡ cond (is_gone last) front (last ∷ front)

  one_turn : (all old new : List X) (passed : ℕ) (done front : List X) (last : X) → all ≡ (front ++ last ∷ []) ++ done → length done ≡ passed → old ≡ staying done ++ (front ++ last ∷ [])
      → Turned old new → Passed all (passed + 1) new
  one_turn all old new passed done front last split count now turned =
      let joined : old ≡ (staying done ++ front) ++ last ∷ [] = now ∙ sym (append_assoc (staying done) front (last ∷ [])) in
      let goes : new ≡ cond (is_gone last) (staying done ++ front) (last ∷ (staying done ++ front)) = turned (staying done ++ front) last joined in
      let stays : cond (is_gone last) (staying done ++ front) (last ∷ (staying done ++ front)) ≡ staying (last ∷ done) ++ front =
      elim (is_gone last) as (λ (b : Bool). cond b (staying done ++ front) (last ∷ (staying done ++ front)) ≡ cond (not b) (last ∷ staying done) (staying done) ++ front) [ true ↦ refl | false ↦ refl ] in
      let more : length (last ∷ done) ≡ passed + 1 = omega (arith, count) in
      record {
        left = front;
        done = last ∷ done;
        split = split ∙ append_assoc front (last ∷ []) done;
        count = more;
        now = goes ∙ stays;
      }

  turn_left : (all old new : List X) (passed : ℕ) (done left : List X) → all ≡ left ++ done → length done ≡ passed → old ≡ staying done ++ left → passed < length all
      → Turned old new → Passed all (passed + 1) new
  turn_left all old new passed done [] split count now within turned =
      let same : length all ≡ length done = ap length split in
      absurd (omega (arith, same, count, within))
  turn_left all old new passed done (x ∷ left) split count now within turned =
      let cut : HasLast (x ∷ left) = last_of x left in
      one_turn all old new passed done cut.front cut.last (split ∙ ap (λ (r : List X). r ++ done) cut.is) count (now ∙ ap (λ (r : List X). staying done ++ r) cut.is) turned

  pub passed_more : (all old new : List X) (passed : ℕ) → Passed all passed old → passed < length all → Turned old new → Passed all (passed + 1) new
  passed_more all old new passed so_far within turned = turn_left all old new passed so_far.done so_far.left so_far.split so_far.count so_far.now within turned

  none_left : (left done : List X) → length (left ++ done) ≡ length done → left ≡ []
  none_left [] done same = refl
  none_left (x ∷ left) done same =
      let both : length (left ++ done) ≡ length left + length done = length-append left done in
      absurd (omega (arith, same, both))

  -- all the way round: those that stay stand in their order
  pub passed_all : (all entries : List X) (passed : ℕ) → Passed all passed entries → passed ≡ length all → entries ≡ staying all
  passed_all all entries passed so_far whole =
      let none : so_far.left ≡ [] = none_left so_far.left so_far.done (ap length (sym so_far.split) ∙ sym whole ∙ sym so_far.count) in
      let is_done : all ≡ so_far.done = so_far.split ∙ ap (λ (r : List X). r ++ so_far.done) none in
      so_far.now ∙ ap (λ (r : List X). staying so_far.done ++ r) none ∙ append-nil (staying so_far.done) ∙ ap staying (sym is_done)

-- the last entry goes out or to the front, by what was said of it
module _ {K V : Type 0} (is_gone : K × V → Bool) where
  abbrev pub told_of : List (K × V) → Option (K × Bool)
  told_of entries = option_map (λ (e : K × V). (e.0, is_gone e)) (last_entry entries)

  abbrev said_of : K × V → K × Bool
  said_of e = (e.0, is_gone e)

  abbrev pair_of : K → Bool → K × Bool
  pair_of key gone = (key, gone)

  inside : (p q : K × Bool) → Some p ≡ Some q → p ≡ q
  inside p q same = cc

  last_told : (entries front : List (K × V)) (last : K × V) (key : K) (gone : Bool) → Some (key, gone) ≡ told_of entries → entries ≡ front ++ last ∷ [] → pair_of key gone ≡ said_of last
  last_told entries front last key gone told is = inside (pair_of key gone) (said_of last) (told ∙ ap told_of is ∙ ap (option_map said_of) (last_is front last))

  pub goes_out : (entries new : List (K × V)) (key : K) (gone : Bool) → Some (key, gone) ≡ told_of entries → gone ≡ true → new ≡ take (length entries - 1) entries → Turned is_gone entries new
  goes_out entries new key gone told is_out taken front last is =
      let out : is_gone last ≡ true = sym (ap (λ (p : K × Bool). p.1) (last_told entries front last key gone told is)) ∙ is_out in
      taken ∙ ap (λ (es : List (K × V)). take (length es - 1) es) is ∙ without_last front last ∙ ap (λ (b : Bool). cond b front (last ∷ front)) (sym out)

  pub goes_first : (eq : K → K → Bool) → ((a b : K) → Decides (eq a b) (a ≡ b)) → (entries new : List (K × V)) (key : K) (gone : Bool) → IsDistinct eq (keys_of entries)
      → Some (key, gone) ≡ told_of entries → gone ≡ false → new ≡ promoted (eq key) entries → Turned is_gone entries new
  goes_first eq same entries new key gone distinct told stays moved front last is =
      let one : pair_of key gone ≡ said_of last = last_told entries front last key gone told is in
      let out : is_gone last ≡ false = sym (ap (λ (p : K × Bool). p.1) one) ∙ stays in
      let apart : IsDistinct eq (keys_of (front ++ last ∷ [])) = subst (λ (es : List (K × V)). IsDistinct eq (keys_of es)) is distinct in
      moved ∙ ap (λ (k : K). promoted (eq k) entries) (ap (λ (p : K × Bool). p.0) one) ∙ ap (promoted (eq last.0)) is ∙ promoted_last eq same front last apart
      ∙ ap (λ (b : Bool). cond b front (last ∷ front)) (sym out)
