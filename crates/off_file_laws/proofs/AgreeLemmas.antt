-- References of a whole profile.
use Rattle.std.proofs.Common.{◌≡◌, ℕ, ◌+◌, ◌<◌, ◌≤◌, Bool, true, false, cond, eqb, List, [], ◌∷◌, ◌++◌, map, refl, sym, ap, subst, ◌∙◌, arith, Option, Some, None}
use Rattle.std.specs.Prelude.{option_map, ◌||◌}
use Rattle.std.specs.List.{AllByRecursion}
use Rattle.std.proofs.lemmas.Bool.Decides.{nat_tests}
use Rattle.std.proofs.lemmas.List.Concat.{flat_map-append}
use Rattle.off_base.specs.Tree.{Tree, leaf, code_of, row_of}
use Rattle.off_tree.specs.declared.tables.Level.TheVariants.{Top}
use Rattle.off_tree.specs.declared.tables.Kind.{Kind}
use Rattle.off_tree.specs.declared.tables.Kind.TheVariants.{Class, AddOn}
use Rattle.off_tree.specs.Fault.{as_list, contains, numbers, flow_number, both_directions, classifier_number, named_flow, direction_of}
use Rattle.off_tree.specs.Good.{times_in, Stands, EachStands, IsServed, GoodSettings}
use Rattle.off_tree.proofs.ReferenceLemmas.{contains_front, contains_back, front_by}
use Rattle.off_file_rules.specs.Profile.{flow_rise, classifier_rise, raised, all_raised, access, devices, active_profile, profile_of}
use Rattle.off_file_laws.specs.Laws.{Agree}
use Rattle.off_tree.proofs.GoodLemmas.{count-cons}
use Rattle.off_file_laws.proofs.CountLemmas.{Apart, Between, shifted_test, risen, apart_none, apart_wider, apart_join, apart_risen, apart_numbers, numbers_risen}
use Rattle.off_file_laws.proofs.RaiseLemmas.{flow_between, classifier_between, flow_raised, named_raised, classifier_raised, code_raised}

-- add-ons that are good and whose numbers ascend from a number on
abbrev pub AllGood : ℕ → List (ℕ × List Tree) → Type 0
AllGood least [] = Unit {0}
AllGood least (a ∷ adds) = (least ≤ a.0) × (a.0 < 8) × GoodSettings AddOn a.1 × AllGood (a.0 + 1) adds

-- what holds of each setting of good ones holds of all
pub each_standing : (kind : Kind) (P : Tree → Type 0) → ((t : Tree) → Stands (Top kind) t → P t) → (ts : List Tree) → EachStands (Top kind) (row_of ts) → AllByRecursion P ts
each_standing kind P each [] stands = tt
each_standing kind P each (t ∷ ts) stands = (each t stands.0, each_standing kind P each ts stands.1)

numbers_join : (f : Tree → Option ℕ) (ts us : List Tree) → numbers f (ts ++ us) ≡ numbers f ts ++ numbers f us
numbers_join f ts us = flat_map-append (λ (t : Tree). as_list (f t)) ts us

-- ---- one kind of references over all add-ons

module _ (f : Tree → Option ℕ) (rise : ℕ → ℕ) (low high : ℕ)
    (one : (k : ℕ) (ts : List Tree) → k < 8 → GoodSettings AddOn ts → Apart (low + rise k) (high + rise k) (numbers f (map (raised k) ts)))
    (grows : (k : ℕ) → high + rise k ≤ low + rise (k + 1)) (climbs : (i k : ℕ) → i ≤ k → rise i ≤ rise k) (room : low ≤ high) where
  pub all_apart : (least : ℕ) (adds : List (ℕ × List Tree)) → AllGood least adds → Apart (low + rise least) (low + rise 8) (numbers f (all_raised adds))
  all_apart least [] good = apart_none (low + rise least) (low + rise 8)
  all_apart least (a ∷ adds) good =
      let first : low + rise least ≤ low + rise a.0 = let c : rise least ≤ rise a.0 = climbs least a.0 good.0 in omega arith in
      let next : high + rise a.0 ≤ low + rise (a.0 + 1) = grows a.0 in
      let last : low + rise (a.0 + 1) ≤ low + rise 8 = let lt : a.0 + 1 ≤ 8 = let small : a.0 < 8 = good.1 in omega arith in let c : rise (a.0 + 1) ≤ rise 8 = climbs (a.0 + 1) 8 lt in omega arith in
      subst (Apart (low + rise least) (low + rise 8)) (sym (numbers_join f (map (raised a.0) a.1) (all_raised adds)))
      (apart_join (low + rise least) (high + rise a.0) (low + rise (a.0 + 1)) (low + rise 8) (numbers f (map (raised a.0) a.1)) (numbers f (all_raised adds)) (omega arith) next (omega arith)
      (apart_wider (low + rise a.0) (high + rise a.0) (low + rise least) (high + rise a.0) (numbers f (map (raised a.0) a.1)) first (omega arith) (one a.0 a.1 good.1 good.2))
      (all_apart (a.0 + 1) adds good.3))

flows_of_one : (k : ℕ) (ts : List Tree) → k < 8 → GoodSettings AddOn ts → Apart (1 + flow_rise k) (256 + flow_rise k) (numbers (flow_number both_directions) (map (raised k) ts))
flows_of_one k ts small good =
    subst (Apart (1 + flow_rise k) (256 + flow_rise k))
    (sym (numbers_risen (flow_number both_directions) (raised k) (flow_rise k) ts
    (each_standing AddOn (λ t. flow_number both_directions (raised k t) ≡ option_map (λ (n : ℕ). n + flow_rise k) (flow_number both_directions t))
    (flow_raised k small both_directions refl refl refl) ts good.stand)))
    (apart_risen (flow_rise k) 1 256 (numbers (flow_number both_directions) ts)
    (apart_numbers (flow_number both_directions) 1 256 ts (each_standing AddOn (λ t. Between 1 256 (flow_number both_directions t)) (flow_between AddOn) ts good.stand) good.flows))

classifiers_of_one : (k : ℕ) (ts : List Tree) → k < 8 → GoodSettings AddOn ts → Apart (0 + classifier_rise k) (16 + classifier_rise k) (numbers classifier_number (map (raised k) ts))
classifiers_of_one k ts small good =
    subst (Apart (0 + classifier_rise k) (16 + classifier_rise k))
    (sym (numbers_risen classifier_number (raised k) (classifier_rise k) ts
    (each_standing AddOn (λ t. classifier_number (raised k t) ≡ option_map (λ (n : ℕ). n + classifier_rise k) (classifier_number t)) (classifier_raised k small) ts good.stand)))
    (apart_risen (classifier_rise k) 0 16 (numbers classifier_number ts)
    (apart_numbers classifier_number 0 16 ts (each_standing AddOn (λ t. Between 0 16 (classifier_number t)) (classifier_between AddOn) ts good.stand) good.classifiers))

-- ---- the whole profile

-- settings of the class, the settings around them, and the add-ons
module _ (f : Tree → Option ℕ) (no_access : (v : List ℕ) → f (leaf 3 v) ≡ None) (no_devices : (v : List ℕ) → f (leaf 18 v) ≡ None) where
  profile_numbers : (cpes : ℕ) (class : List Tree) (adds : List (ℕ × List Tree)) → numbers f (active_profile cpes class adds) ≡ numbers f class ++ numbers f (all_raised adds)
  profile_numbers cpes class adds =
      ap (λ (o : Option ℕ). as_list o ++ numbers f (class ++ devices cpes ∷ all_raised adds)) (no_access (1 ∷ []))
      ∙ numbers_join f class (devices cpes ∷ all_raised adds)
      ∙ ap (λ (o : Option ℕ). numbers f class ++ (as_list o ++ numbers f (all_raised adds))) (no_devices (cpes ∷ []))

active_flows : (cpes : ℕ) (class : List Tree) (adds : List (ℕ × List Tree)) → GoodSettings Class class → AllGood 0 adds → (n : ℕ)
    → times_in n (numbers (flow_number both_directions) (active_profile cpes class adds)) ≤ 1
active_flows cpes class adds good all n =
    let add_ons : Apart (1 + flow_rise 0) (1 + flow_rise 8) (numbers (flow_number both_directions) (all_raised adds)) =
    all_apart (flow_number both_directions) flow_rise 1 256 flows_of_one (λ k. omega arith) (λ i k le. omega arith) (omega arith) 0 adds all in
    let own : Apart 1 256 (numbers (flow_number both_directions) class) =
    apart_numbers (flow_number both_directions) 1 256 class (each_standing Class (λ t. Between 1 256 (flow_number both_directions t)) (flow_between Class) class good.stand) good.flows in
    let both = apart_join 1 256 (1 + flow_rise 0) (1 + flow_rise 8) (numbers (flow_number both_directions) class) (numbers (flow_number both_directions) (all_raised adds))
    (omega arith) (omega arith) (omega arith) own add_ons in
    subst (λ (x : List ℕ). times_in n x ≤ 1) (sym (profile_numbers (flow_number both_directions) (λ v. refl) (λ v. refl) cpes class adds)) (both.once n)

active_classifiers : (cpes : ℕ) (class : List Tree) (adds : List (ℕ × List Tree)) → GoodSettings Class class → AllGood 0 adds → (n : ℕ)
    → times_in n (numbers classifier_number (active_profile cpes class adds)) ≤ 1
active_classifiers cpes class adds good all n =
    let add_ons : Apart (0 + classifier_rise 0) (0 + classifier_rise 8) (numbers classifier_number (all_raised adds)) =
    all_apart classifier_number classifier_rise 0 16 classifiers_of_one (λ k. omega arith) (λ i k le. omega arith) (omega arith) 0 adds all in
    let own : Apart 1 128 (numbers classifier_number class) =
    apart_numbers classifier_number 1 128 class (each_standing Class (λ t. Between 1 128 (classifier_number t)) (classifier_between Class) class good.stand) good.classifiers in
    let both = apart_join 1 128 (0 + classifier_rise 0) (0 + classifier_rise 8) (numbers classifier_number class) (numbers classifier_number (all_raised adds))
    (omega arith) (omega arith) (omega arith) own add_ons in
    subst (λ (x : List ℕ). times_in n x ≤ 1) (sym (profile_numbers classifier_number (λ v. refl) (λ v. refl) cpes class adds)) (both.once n)

-- ---- each classifier's flow

-- the flows of settings are among those of a whole
abbrev Among : List Tree → List Tree → Type 0
Among ts all = (dirs : List ℕ) (n : ℕ) → contains n (numbers (flow_number dirs) ts) ≡ true → contains n (numbers (flow_number dirs) all) ≡ true

among_front : (ts us : List Tree) → Among ts (ts ++ us)
among_front ts us dirs n h =
    subst (λ (x : List ℕ). contains n x ≡ true) (sym (numbers_join (flow_number dirs) ts us)) (contains_front n (numbers (flow_number dirs) ts) (numbers (flow_number dirs) us) h)

among_back : (ts us : List Tree) → Among us (ts ++ us)
among_back ts us dirs n h =
    subst (λ (x : List ℕ). contains n x ≡ true) (sym (numbers_join (flow_number dirs) ts us)) (contains_back n (numbers (flow_number dirs) ts) (numbers (flow_number dirs) us) h)

among_more : (t : Tree) (ts : List Tree) → Among ts (t ∷ ts)
among_more t ts dirs n h = contains_back n (as_list (flow_number dirs t)) (numbers (flow_number dirs) ts) h

pub all_join : (P : Tree → Type 0) (ts us : List Tree) → AllByRecursion P ts → AllByRecursion P us → AllByRecursion P (ts ++ us)
all_join P [] us a b = b
all_join P (t ∷ ts) us a b = (a.0, all_join P ts us a.1 b)

served_in : (ts all us : List Tree) → Among ts all → AllByRecursion (IsServed ts) us → AllByRecursion (IsServed all) us
served_in ts all [] among h = tt
served_in ts all (u ∷ us) among h = ((λ n e. among (direction_of (code_of u) ∷ []) n (h.0 n e)), served_in ts all us among h.1)

contains_risen : (by n : ℕ) (ns : List ℕ) → contains n ns ≡ true → contains (n + by) (risen by ns) ≡ true
contains_risen by n [] h = cc
contains_risen by n (x ∷ xs) h =
    ap (λ (b : Bool). b || contains (n + by) (risen by xs)) (shifted_test x n by)
    ∙ front_by (eqb x n) (contains n xs) (contains (n + by) (risen by xs)) h (contains_risen by n xs)

unrisen : (by n : ℕ) (o : Option ℕ) (P : ℕ → Type 0) → option_map (λ (m : ℕ). m + by) o ≡ Some n → ((m : ℕ) → o ≡ Some m → P (m + by)) → P n
unrisen by n None P e more = cc
unrisen by n (Some m) P e more = let same : m + by ≡ n = cc in subst P same (more m refl)

not_a_flow : (code : ℕ) (b : Bool) → (contains 22 (cond b 24 25 ∷ []) ≡ false) × (contains 23 (cond b 24 25 ∷ []) ≡ false) × (contains 43 (cond b 24 25 ∷ []) ≡ false)
not_a_flow code true = (refl, refl, refl)
not_a_flow code false = (refl, refl, refl)

module _ (k : ℕ) (small : k < 8) (ts : List Tree) (good : GoodSettings AddOn ts) where
  one_served : (t : Tree) → Stands (Top AddOn) t → IsServed ts t → IsServed (map (raised k) ts) (raised k t)
  one_served t stands served n e =
      let dir : ℕ = direction_of (code_of t) in
      let none = not_a_flow (code_of t) (eqb (code_of t) 22) in
      let same : numbers (flow_number (direction_of (code_of t) ∷ [])) (map (raised k) ts) ≡ risen (flow_rise k) (numbers (flow_number (direction_of (code_of t) ∷ [])) ts) =
      numbers_risen (flow_number (direction_of (code_of t) ∷ [])) (raised k) (flow_rise k) ts
      (each_standing AddOn
      (λ u. flow_number (direction_of (code_of t) ∷ []) (raised k u) ≡ option_map (λ (m : ℕ). m + flow_rise k) (flow_number (direction_of (code_of t) ∷ []) u))
      (flow_raised k small (direction_of (code_of t) ∷ []) none.0 none.1 none.2) ts good.stand) in
      subst (λ (c : ℕ). contains n (numbers (flow_number (direction_of c ∷ [])) (map (raised k) ts)) ≡ true) (sym (code_raised k t))
      (subst (λ (x : List ℕ). contains n x ≡ true) (sym same)
      (unrisen (flow_rise k) n (named_flow t) (λ m. contains m (risen (flow_rise k) (numbers (flow_number (direction_of (code_of t) ∷ [])) ts)) ≡ true) (sym (named_raised k small t stands) ∙ e)
      (λ m named. contains_risen (flow_rise k) m (numbers (flow_number (direction_of (code_of t) ∷ [])) ts) (served m named))))

  each_served : (us : List Tree) → EachStands (Top AddOn) (row_of us) → AllByRecursion (IsServed ts) us → AllByRecursion (IsServed (map (raised k) ts)) (map (raised k) us)
  each_served [] stands served = tt
  each_served (u ∷ us) stands served = (one_served u stands.0 served.0, each_served us stands.1 served.1)

add_ons_served : (least : ℕ) (adds : List (ℕ × List Tree)) → AllGood least adds → AllByRecursion (IsServed (all_raised adds)) (all_raised adds)
add_ons_served least [] good = tt
add_ons_served least (a ∷ adds) good =
    all_join (IsServed (all_raised (a ∷ adds))) (map (raised a.0) a.1) (all_raised adds)
    (served_in (map (raised a.0) a.1) (all_raised (a ∷ adds)) (map (raised a.0) a.1) (among_front (map (raised a.0) a.1) (all_raised adds))
    (each_served a.0 good.1 a.1 good.2 a.1 good.2.stand good.2.served))
    (served_in (all_raised adds) (all_raised (a ∷ adds)) (all_raised adds) (among_back (map (raised a.0) a.1) (all_raised adds)) (add_ons_served (a.0 + 1) adds good.3))

none_named : (n : ℕ) (P : Type 0) → None ≡ Some n → P
none_named n P e = cc

active_served : (cpes : ℕ) (class : List Tree) (adds : List (ℕ × List Tree)) → GoodSettings Class class → AllGood 0 adds → AllByRecursion (IsServed (active_profile cpes class adds)) (active_profile cpes class adds)
active_served cpes class adds good all =
    let whole : List Tree = active_profile cpes class adds in (
      (λ n e. none_named n (contains n (numbers (flow_number (direction_of 3 ∷ [])) (active_profile cpes class adds)) ≡ true) e),
      all_join (IsServed (active_profile cpes class adds)) class (devices cpes ∷ all_raised adds)
          (served_in class (active_profile cpes class adds) class
          (λ dirs n h. among_more (access 1) (class ++ devices cpes ∷ all_raised adds) dirs n (among_front class (devices cpes ∷ all_raised adds) dirs n h)) good.served) (
            (λ n e. none_named n (contains n (numbers (flow_number (direction_of 18 ∷ [])) (active_profile cpes class adds)) ≡ true) e),
            served_in (all_raised adds) (active_profile cpes class adds) (all_raised adds)
                (λ dirs n h. among_more (access 1) (class ++ devices cpes ∷ all_raised adds) dirs n
                (among_back class (devices cpes ∷ all_raised adds) dirs n (among_more (devices cpes) (all_raised adds) dirs n h))) (add_ons_served 0 adds all),
          ),
    )

two_differ : (n : ℕ) → cond (eqb 1 n) 1 0 + (cond (eqb 2 n) 1 0 + 0) ≤ 1
two_differ n = grind (arith, nat_tests)

suspended_flows : (n : ℕ) → times_in n (1 ∷ 2 ∷ []) ≤ 1
suspended_flows n =
    let e : times_in n (1 ∷ 2 ∷ []) ≡ cond (eqb 1 n) 1 0 + (cond (eqb 2 n) 1 0 + 0) =
    count-cons n 1 (2 ∷ []) ∙ ap (λ (c : ℕ). cond (eqb 1 n) 1 0 + c) (count-cons n 2 []) in
    omega (arith, two_differ n)

pub profile_agrees : (active : Bool) (cpes : ℕ) (class : List Tree) (adds : List (ℕ × List Tree)) → GoodSettings Class class → AllGood 0 adds → Agree (profile_of active cpes class adds)
profile_agrees true cpes class adds good all =
    record { flows = active_flows cpes class adds good all; classifiers = active_classifiers cpes class adds good all; served = active_served cpes class adds good all }
profile_agrees false cpes class adds good all =
    record {
      flows = suspended_flows;
      classifiers = λ n. omega arith;
      served = ((λ n e. cc), ((λ n e. cc), ((λ n e. cc), ((λ n e. cc), tt))));
    }
