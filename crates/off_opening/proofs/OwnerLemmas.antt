-- Devices that have several leases, by the marks of all rows.
use Rattle.std.proofs.Common.{◌≡◌, ℕ, zero, suc, ◌+◌, ◌<◌, ◌≤◌, inl, inr, Result, Ok, Err, OnOk, length, drop, Bool, true, false, cond, not, ◌&&◌, ◌||◌, ◌==◌, count_by, Option, Some, None, List, [], ◌∷◌, map, option_and_then, refl, sym, ap, subst, ◌∙◌, arith}
use Rattle.std.specs.Prelude.{nat_lt, slice_index_or}
use Rattle.std.proofs.lemmas.Bool.{cases_lt, lt-ltb, le-ltb, eq-eqb, eqb-true, false_from_ne_true}
use Rattle.std.proofs.lemmas.List.Sums.{sum_by-cons}
use lib.Dec.{T}
use Rattle.std.specs.List.{filter_map, cons_option, list_all, list_any}
use Rattle.std.specs.Ordering.{is_eq, nat_cmp, ordering_then}
use Rattle.std.specs.declared.cmp.Ordering.{Ordering}
use Rattle.std.specs.declared.cmp.Ordering.TheVariants.{Less, Equal, Greater}
use Rattle.std.specs.Cmp.{eq_by_cmp_equiv, nat_cmp_is}
use Rattle.std.specs.Cmp.Lexicographic.{slice_cmp, nat_list_cmp_total}
use Rattle.std.specs.FinMap as map_of
use Rattle.std.specs.FinMap.Entries as list
use Rattle.std.specs.BTreeMap.{is_at}
use Rattle.std.specs.BTreeSet.{BTreeSet, contains}
use Rattle.off_base.specs.declared.addresses.Ip4.{Ip4}
use Rattle.off_base.specs.declared.macs.Mac.{Mac}
use Rattle.off_defs.specs.declared.keys.Key.{Key}
use Rattle.off_defs.specs.declared.keys.Key.TheVariants as key
use Rattle.off_defs.specs.declared.tables.Row.{Row}
use Rattle.off_defs.specs.declared.tables.Row.TheVariants as row
use Rattle.off_defs.specs.declared.tables.DeviceLease.{DeviceLease}
use Rattle.off_defs.specs.Keys.{key_cmp}
use Rattle.off_defs.specs.State.{Tables}
use Rattle.off_defs.proofs.EntryLemmas.{is_less, holds, first, second}
use Rattle.off_account_rules.specs.Rows.{device_of}
use Rattle.off_account_rules.specs.Good.{is_same_owner, is_owned_apart, device_owner}
use Rattle.off_account_rules.proofs.OwnerLemmas.{owner_same, owner_own}
use Rattle.off_opening.specs.declared.marks.Mark.{Mark}
use Rattle.off_opening.specs.declared.owners.Owners.{Owners}
use Rattle.off_opening.specs.Marks.{tie_of, mark_of, marks_of, tied_owner, marked_owner}
use Rattle.off_opening.specs.Owners.{owner_cmp, has_owner, is_owner, count_marked_owner, count_owner, IsAdded, IsNoted, HaveSeveral}
use Rattle.off_opening.proofs.OrderLemmas.{Among, below_among}

-- ---- devices with their modems that are the same

owner_turned : (one other : Mac × Mac) → is_same_owner one other ≡ is_same_owner other one
owner_turned one other =
    let modem = (eq_by_cmp_equiv nat_list_cmp_total).symm one.0.0 other.0.0 in
    let device = (eq_by_cmp_equiv nat_list_cmp_total).symm one.1.0 other.1.0 in
    λ i. modem i && device i

-- ---- the set

equal_then : (x y : Ordering) → is_eq (ordering_then x y) ≡ (is_eq x && is_eq y)
equal_then Less y = refl
equal_then Equal y = refl
equal_then Greater y = refl

at_owner : (o q : Mac × Mac) → is_at (owner_cmp o) q ≡ is_same_owner o q
at_owner o q = equal_then (slice_cmp nat_cmp o.0.0 q.0.0) (slice_cmp nat_cmp o.1.0 q.1.0)

or_cond : (a b : Bool) → cond a true b ≡ (a || b)
or_cond true b = refl
or_cond false b = refl

pub added_by : (o : Mac × Mac) (old new : BTreeSet (Mac × Mac)) → ((q : Mac × Mac) → contains owner_cmp new q ≡ cond (is_at (owner_cmp o) q) true (contains owner_cmp old q)) → IsAdded o old new
unfolding has_owner
added_by o old new updates q =
    updates q ∙ ap (λ b. cond b true (contains owner_cmp old q)) (at_owner o q ∙ owner_turned o q) ∙ or_cond (is_same_owner q o) (contains owner_cmp old q)

pub none_in_set : (owners : BTreeSet (Mac × Mac)) (q : Mac × Mac) → owners.keys ≡ [] → has_owner owners q ≡ false
unfolding has_owner
none_in_set owners q none = ap (list_any (is_at (owner_cmp q))) none

-- ---- one more lease

module _ (o : Mac × Mac) (old : Owners) where
  -- of a device that has one
  pub noted_again : (several : BTreeSet (Mac × Mac)) → has_owner old.known o ≡ true → IsAdded o old.several several → IsNoted (Some o) old (record { known = old.known; several = several })
  noted_again several known added q =
      elim (is_same_owner q o) as (λ b. is_same_owner q o ≡ b → has_owner several q ≡ (b || has_owner old.several q)
      → (has_owner old.known q ≡ (b || has_owner old.known q)) × (has_owner several q ≡ ((b && has_owner old.known q) || has_owner old.several q))) [
        | true ↦ λ same is.
            let there : has_owner old.known q ≡ true = ap (has_owner old.known) (owner_same q o same) ∙ known in
            (there, is ∙ ap (λ b. b || has_owner old.several q) (sym there))
        | false ↦ λ same is. (refl, is)
      ] refl (added q)

  -- of one that has none
  pub noted_first : (known : BTreeSet (Mac × Mac)) → has_owner old.known o ≡ false → IsAdded o old.known known → IsNoted (Some o) old (record { known = known; several = old.several })
  noted_first known absent added q = (
    added q,
    elim (is_same_owner q o) as (λ b. is_same_owner q o ≡ b → has_owner old.several q ≡ ((b && has_owner old.known q) || has_owner old.several q)) [
      | true ↦ λ same. ap (λ b. b || has_owner old.several q) (sym (ap (has_owner old.known) (owner_same q o same) ∙ absent))
      | false ↦ λ same. refl
    ] refl,
  )

pub none_noted : (old : Owners) → IsNoted None old old
none_noted old q = (refl, refl)

-- ---- the marks so far

pub record Counted (q : Mac × Mac) (all left : List Mark) (owners : Owners) : Type 0 where
  pub n : ℕ
  pub sum : n + count_marked_owner q left ≡ count_marked_owner q all
  pub known : has_owner owners.known q ≡ nat_lt 0 n
  pub several : has_owner owners.several q ≡ nat_lt 1 n

pub none_counted : (q : Mac × Mac) (all : List Mark) (owners : Owners) → has_owner owners.known q ≡ false → has_owner owners.several q ≡ false → Counted q all all owners
none_counted q all owners known several = record { n = 0; sum = omega arith; known = known; several = several }

shifted : (n : ℕ) → (nat_lt 0 n || nat_lt 1 n) ≡ nat_lt 1 (n + 1)
shifted n = elim (cases_lt 0 n) [
  | inl some ↦ ap (λ b. b || nat_lt 1 n) (lt-ltb 0 n some) ∙ sym (lt-ltb 1 (n + 1) (omega (arith, some)))
  | inr none ↦ let zero : 0 ≡ n = omega (arith, none) in subst (λ (k : ℕ). (nat_lt 0 k || nat_lt 1 k) ≡ nat_lt 1 (k + 1)) zero refl
]

first_counted : (q : Mac × Mac) (mark : Mark) (rest : List Mark) → count_marked_owner q (mark ∷ rest) ≡ cond (is_owner q (marked_owner mark)) 1 0 + count_marked_owner q rest
first_counted q mark rest = sum_by-cons (λ (m : Mark). cond (is_owner q (marked_owner m)) 1 0) mark rest

pub one_counted : (q : Mac × Mac) (all left rest : List Mark) (mark : Mark) (owner : Option (Mac × Mac)) (old new : Owners) → left ≡ mark ∷ rest → owner ≡ marked_owner mark → IsNoted owner old new
    → Counted q all left old → Counted q all rest new
one_counted q all left rest mark owner old new is own noted so_far =
    let size : count_marked_owner q left ≡ cond (is_owner q owner) 1 0 + count_marked_owner q rest =
    ap (λ (v : List Mark). count_marked_owner q v) is ∙ first_counted q mark rest ∙ ap (λ (o : Option (Mac × Mac)). cond (is_owner q o) 1 0 + count_marked_owner q rest) (sym own) in
    elim (is_owner q owner) as (λ b. count_marked_owner q left ≡ cond b 1 0 + count_marked_owner q rest → has_owner new.known q ≡ (b || has_owner old.known q)
    → has_owner new.several q ≡ ((b && has_owner old.known q) || has_owner old.several q) → Counted q all rest new) [
      | true ↦ λ more known several. record {
        n = so_far.n + 1;
        sum = omega (arith, more, so_far.sum);
        known = known ∙ sym (lt-ltb 0 (so_far.n + 1) (omega arith));
        several = several ∙ ap (λ b. b || has_owner old.several q) so_far.known ∙ ap (λ b. nat_lt 0 so_far.n || b) so_far.several ∙ shifted so_far.n;
      }
      | false ↦ λ more known several. record { n = so_far.n; sum = omega (arith, more, so_far.sum); known = known ∙ so_far.known; several = several ∙ so_far.several }
    ] size (noted q).0 (noted q).1

-- what is left from a place on, and behind the last
left_at : (marks : List Mark) (n : ℕ) (d : Mark) → n < length marks → drop n marks ≡ slice_index_or marks n d ∷ drop (suc n) marks
left_at [] n d within = absurd (omega (arith, within))
left_at (m ∷ marks) zero d within = refl
left_at (m ∷ marks) (suc n) d within = left_at marks n d (omega (arith, within))

none_left : (marks : List Mark) (n : ℕ) → length marks ≡ n → drop n marks ≡ []
none_left [] zero end = refl
none_left [] (suc n) end = refl
none_left (m ∷ marks) zero end = absurd (omega (arith, end))
none_left (m ∷ marks) (suc n) end = none_left marks n (omega (arith, end))

pub next_counted : (marks : List Mark) (n : ℕ) (d mark : Mark) (owner : Option (Mac × Mac)) (old new : Owners) → n < length marks → mark ≡ slice_index_or marks n d → owner ≡ marked_owner mark → IsNoted owner old new
    → ((q : Mac × Mac) → Counted q marks (drop n marks) old) → (q : Mac × Mac) → Counted q marks (drop (n + 1) marks) new
next_counted marks n d mark owner old new within here own noted so_far q =
    let next : suc n ≡ n + 1 = omega arith in
    let left = left_at marks n d within ∙ ap (λ (k : ℕ). slice_index_or marks n d ∷ drop k marks) next ∙ ap (λ (m : Mark). m ∷ drop (n + 1) marks) (sym here) in
    one_counted q marks (drop n marks) (drop (n + 1) marks) mark owner old new left own noted (so_far q)

pub all_counted : (all left : List Mark) (owners : Owners) → left ≡ [] → ((q : Mac × Mac) → Counted q all left owners) → HaveSeveral all owners.several
all_counted all left owners none so_far q =
    let p = so_far q in
    let size : count_marked_owner q left ≡ 0 = ap (λ (v : List Mark). count_marked_owner q v) none in
    let same : p.n ≡ count_marked_owner q all = omega (arith, p.sum, size) in
    p.several ∙ ap (nat_lt 1) same

pub end_counted : (marks : List Mark) (n : ℕ) (owners : Owners) → length marks ≡ n → ((q : Mac × Mac) → Counted q marks (drop n marks) owners) → HaveSeveral marks owners.several
end_counted marks n owners end so_far = all_counted marks (drop n marks) owners (none_left marks n end) so_far

pub when_ok : {A E P Q : Type 0} (r : Result A E) → OnOk r P → (P → Q) → OnOk r Q
when_ok (Ok x) p f = f p
when_ok (Err e) p f = tt

-- ---- by marks and by tables

owner_given : (k : Key) (r : Row) → tied_owner k (tie_of r) ≡ option_and_then (λ (d : Ip4 × DeviceLease). device_owner d.1.hold) (device_of (k, r))
owner_given (key.Device a) (row.Site site) = refl
owner_given (key.Device a) (row.Subscriber subscriber) = refl
owner_given (key.Device a) (row.AddOn settings) = refl
owner_given (key.Device a) (row.Modem modem) = refl
owner_given (key.Device a) (row.Class class) = refl
owner_given (key.Device a) (row.Pool pool) = refl
owner_given (key.Device a) (row.Lease lease) = refl
owner_given (key.Device a) (row.Held address) = refl
owner_given (key.Device a) (row.Batch batch) = refl
owner_given (key.Device a) (row.PoolHub hub) = refl
owner_given (key.Device a) (row.Device lease) = refl
owner_given _ r = refl

module _ (q : Mac × Mac) where
  abbrev has_it : Ip4 × DeviceLease → Bool
  has_it d = is_owner q (device_owner d.1.hold)

  first_has : (d : Ip4 × DeviceLease) (ds : List (Ip4 × DeviceLease)) → count_by has_it (d ∷ ds) ≡ cond (has_it d) 1 0 + count_by has_it ds
  first_has d ds = sum_by-cons (λ (x : Ip4 × DeviceLease). cond (has_it x) 1 0) d ds

  given_counts : (given : Option (Ip4 × DeviceLease)) (n : ℕ) (ds : List (Ip4 × DeviceLease)) → n ≡ count_by has_it ds
      → cond (is_owner q (option_and_then (λ (d : Ip4 × DeviceLease). device_owner d.1.hold) given)) 1 0 + n ≡ count_by has_it (cons_option given ds)
  given_counts None n ds is = let none : 0 + n ≡ n = omega arith in none ∙ is
  given_counts (Some d) n ds is = ap (λ k. cond (has_it d) 1 0 + k) is ∙ sym (first_has d ds)

  marks_count : (es : List (Key × Row)) → count_marked_owner q (map mark_of es) ≡ count_by has_it (filter_map device_of es)
  marks_count [] = refl
  marks_count (e ∷ es) =
      first_counted q (mark_of e) (map mark_of es)
      ∙ ap (λ (o : Option (Mac × Mac)). cond (is_owner q o) 1 0 + count_marked_owner q (map mark_of es)) (owner_given e.0 e.1)
      ∙ given_counts (device_of e) (count_marked_owner q (map mark_of es)) (filter_map device_of es) (marks_count es)

pub several_are : (t : Tables) (marks : List Mark) (several : BTreeSet (Mac × Mac)) → marks ≡ marks_of t → HaveSeveral marks several → (q : Mac × Mac) → has_owner several q ≡ nat_lt 1 (count_owner q t)
several_are t marks several are have q =
    have q ∙ ap (λ (v : List Mark). nat_lt 1 (count_marked_owner q v)) are ∙ ap (nat_lt 1) (marks_count q (map_of.entries t))

-- ---- a device that has one lease alone

one_less : (c : ℕ) → nat_lt 1 (1 + c) ≡ nat_lt 0 c
one_less c = elim (cases_lt 0 c) [
  | inl some ↦ lt-ltb 1 (1 + c) (omega (arith, some)) ∙ sym (lt-ltb 0 c some)
  | inr none ↦ le-ltb 1 (1 + c) (omega (arith, none)) ∙ sym (le-ltb 0 c none)
]

apart_below : (a b : ℕ) → nat_cmp a b ≡ Less → (a == b) ≡ false
apart_below a b less = false_from_ne_true (a == b) (λ e.
    let same : a ≡ b = eqb-true a b e in
    let tied : Equal ≡ nat_cmp a b = nat_cmp_is a b Equal same in
    let wrong : Equal ≡ Less = tied ∙ less in
    cc)

less_then : (a b : ℕ) → nat_cmp a b ≡ Less → (b == a) ≡ false
less_then a b less = false_from_ne_true (b == a) (λ e.
    let same : b ≡ a = eqb-true b a e in
    let tied : Equal ≡ nat_cmp a b = nat_cmp_is a b Equal (sym same) in
    let wrong : Equal ≡ Less = tied ∙ less in
    cc)

device_entry : (e : Key × Row) (d : Ip4 × DeviceLease) → device_of e ≡ Some d → (key.Device d.0, row.Device d.1) ≡ e
device_entry (key.Device a, row.Device lease) d is = cc
device_entry (_, _) d is = cc

module _ (a : Ip4) (o : Mac × Mac) where
  abbrev apart : Ip4 × DeviceLease → Bool
  apart d = is_owned_apart a (Some o) d

  others_apart : (ds : List (Ip4 × DeviceLease)) → ((d : Ip4 × DeviceLease) → Among d ds → (d.0.0 == a.0) ≡ false) → list_all apart ds ≡ not (nat_lt 0 (count_by (has_it o) ds))
  others_apart [] differ = refl
  others_apart (d ∷ ds) differ =
      let rest = others_apart ds (λ x among. differ x (inr among)) in
      ap (λ b. (b || not (has_it o d)) && list_all apart ds) (differ d (inl refl))
      ∙ elim (has_it o d) as (λ b. count_by (has_it o) (d ∷ ds) ≡ cond b 1 0 + count_by (has_it o) ds → (not b && list_all apart ds) ≡ not (nat_lt 0 (count_by (has_it o) (d ∷ ds)))) [
        | true ↦ λ size. sym (ap not (lt-ltb 0 (count_by (has_it o) (d ∷ ds)) (omega (arith, size))))
        | false ↦ λ size. let same : count_by (has_it o) ds ≡ count_by (has_it o) (d ∷ ds) = omega (arith, size) in rest ∙ ap (λ n. not (nat_lt 0 n)) same
      ] (first_has o d ds)

  -- entries behind a device's have other addresses
  behind_differ : (es : List (Key × Row)) → T (list.below_all key_cmp (key.Device a) es) → (d : Ip4 × DeviceLease) → Among d (filter_map device_of es) → (d.0.0 == a.0) ≡ false
  behind_differ [] h d among = absurd among
  behind_differ (e ∷ es) h d among =
      elim (device_of e) as (λ (g : Option (Ip4 × DeviceLease)). device_of e ≡ g → Among d (cons_option g (filter_map device_of es)) → (d.0.0 == a.0) ≡ false) [
        | None ↦ λ is later. behind_differ es (second _ _ h) d later
        | Some x ↦ λ is found. elim found [
          | inl same ↦
              let entry : (key.Device d.0, row.Device d.1) ≡ e = subst (λ (y : Ip4 × DeviceLease). (key.Device y.0, row.Device y.1) ≡ e) (sym same) (device_entry e x is) in
              let less : nat_cmp a.0 d.0.0 ≡ Less = subst (λ (y : Key × Row). key_cmp (key.Device a) y.0 ≡ Less) (sym entry) (is_less (key_cmp (key.Device a) e.0) (holds _ (first _ _ h))) in
              less_then a.0 d.0.0 less
          | inr later ↦ behind_differ es (second _ _ h) d later
        ]
      ] refl among

  module _ (lease : DeviceLease) (own : device_owner lease.hold ≡ Some o) where
    own_counts : has_it o (a, lease) ≡ true
    own_counts = ap (is_owner o) own ∙ owner_own o

    counted_in : (es : List (Key × Row)) → Among (key.Device a, row.Device lease) es → 1 ≤ count_by (has_it o) (filter_map device_of es)
    counted_in [] among = absurd among
    counted_in (e ∷ es) among =
        elim among [
          | inl same ↦ subst (λ (x : Key × Row). 1 ≤ count_by (has_it o) (cons_option (device_of x) (filter_map device_of es))) same
              (let size = first_has o (a, lease) (filter_map device_of es) in
              let one : ◌≡◌ {A = ℕ} (cond (has_it o (a, lease)) 1 0) 1 = ap (λ b. cond b 1 0) own_counts in
              omega (arith, size, one))
          | inr later ↦
              let rest = counted_in es later in
              elim (device_of e) as (λ (g : Option (Ip4 × DeviceLease)). 1 ≤ count_by (has_it o) (cons_option g (filter_map device_of es))) [
                | None ↦ rest
                | Some x ↦ let size = first_has o x (filter_map device_of es) in omega (arith, size, rest)
              ]
        ]

    at_own : (ds : List (Ip4 × DeviceLease)) → ((d : Ip4 × DeviceLease) → Among d ds → (d.0.0 == a.0) ≡ false) → list_all apart ((a, lease) ∷ ds) ≡ not (nat_lt 1 (count_by (has_it o) ((a, lease) ∷ ds)))
    at_own ds differ =
        let size : count_by (has_it o) ((a, lease) ∷ ds) ≡ 1 + count_by (has_it o) ds = first_has o (a, lease) ds ∙ ap (λ b. cond b 1 0 + count_by (has_it o) ds) own_counts in
        ap (λ b. (b || not (has_it o (a, lease))) && list_all apart ds) (eq-eqb a.0 a.0 refl)
        ∙ others_apart ds differ ∙ ap not (sym (one_less (count_by (has_it o) ds))) ∙ ap (λ n. not (nat_lt 1 n)) (sym size)

    at_other : (x : Ip4 × DeviceLease) (ds : List (Ip4 × DeviceLease)) → (x.0.0 == a.0) ≡ false → 1 ≤ count_by (has_it o) ds → list_all apart ds ≡ not (nat_lt 1 (count_by (has_it o) ds))
        → list_all apart (x ∷ ds) ≡ not (nat_lt 1 (count_by (has_it o) (x ∷ ds)))
    at_other x ds differs some rest =
        ap (λ b. (b || not (has_it o x)) && list_all apart ds) differs
        ∙ elim (has_it o x) as (λ b. count_by (has_it o) (x ∷ ds) ≡ cond b 1 0 + count_by (has_it o) ds → (not b && list_all apart ds) ≡ not (nat_lt 1 (count_by (has_it o) (x ∷ ds)))) [
          | true ↦ λ size. sym (ap not (lt-ltb 1 (count_by (has_it o) (x ∷ ds)) (omega (arith, size, some))))
          | false ↦ λ size. let same : count_by (has_it o) ds ≡ count_by (has_it o) (x ∷ ds) = omega (arith, size) in rest ∙ ap (λ n. not (nat_lt 1 n)) same
        ] (first_has o x ds)

    pub sole_in : (es : List (Key × Row)) → T (list.is_sorted key_cmp es) → Among (key.Device a, row.Device lease) es
        → list_all apart (filter_map device_of es) ≡ not (nat_lt 1 (count_by (has_it o) (filter_map device_of es)))
    sole_in [] h among = absurd among
    sole_in (e ∷ es) h among =
        elim among [
          | inl same ↦ subst (λ (x : Key × Row). T (list.below_all key_cmp x.0 es) → list_all apart (cons_option (device_of x) (filter_map device_of es)) ≡ not (nat_lt 1 (count_by (has_it o) (cons_option (device_of x) (filter_map device_of es))))) same
              (λ below. at_own (filter_map device_of es) (behind_differ es below)) (first _ _ h)
          | inr later ↦
              let rest = sole_in es (second _ _ h) later in
              let less : key_cmp e.0 (key.Device a) ≡ Less = below_among key_cmp e.0 es (key.Device a, row.Device lease) (first _ _ h) later in
              elim (device_of e) as (λ (g : Option (Ip4 × DeviceLease)). device_of e ≡ g → list_all apart (cons_option g (filter_map device_of es)) ≡ not (nat_lt 1 (count_by (has_it o) (cons_option g (filter_map device_of es))))) [
                | None ↦ λ is. rest
                | Some x ↦ λ is.
                    let below : nat_cmp x.0.0 a.0 ≡ Less = subst (λ (y : Key × Row). key_cmp y.0 (key.Device a) ≡ Less) (sym (device_entry e x is)) less in
                    at_other x (filter_map device_of es) (apart_below x.0.0 a.0 below) (counted_in es later) rest
              ] refl
        ]
