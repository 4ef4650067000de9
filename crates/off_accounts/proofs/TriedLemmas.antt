-- Rules that are tested one by one: what is left of them, and how many keys were looked up.
use Rattle.std.proofs.Common.{◌≡◌, ◌+◌, ◌-◌, ◌≤◌, true, false, Option, Some, None, is_some, List, [], ◌∷◌, map, refl, sym, ap, ◌∙◌, arith}
use Rattle.std.proofs.lemmas.Bool.{or_parts}
use Rattle.off_base.specs.Choices.{first_there}
use Rattle.off_orders.specs.declared.rules.Rule.{Rule}
use Rattle.off_defs.specs.State.{Tables}
use Rattle.off_outside.specs.KeeperSeen.{KeeperSeen}
use Rattle.off_outside.specs.KeeperCalls.{Reads, Spent}
use Rattle.off_outside.proofs.KeeperLemmas.{reads_then, reads_none}
use Rattle.off_accounts.specs.declared.testing.Test.{Test}
use Rattle.off_accounts.specs.Tests.{says, searches, looks_up, lookups, any_searches}

-- the first broken of all rules is that of those that are left
abbrev pub IsLeft : List Test → List Test → Tables → Type 0
IsLeft all left t = first_there (map (says t) all) ≡ first_there (map (says t) left)

pub record Tried (all left : List Test) (a b : KeeperSeen) : Type 0 where
  pub few : any_searches left ≡ false
  pub within : lookups left ≤ lookups all
  pub spent : Spent (lookups all - lookups left) a b

pub none_tried : (all : List Test) (a : KeeperSeen) → any_searches all ≡ false → Tried all all a a
none_tried all a few = record { few = few; within = omega arith; spent = record { later = omega arith; most = omega arith } }

pub all_left : (all : List Test) (a : KeeperSeen) → Reads (IsLeft all all) a a
all_left all a = reads_none (λ t. refl)

first_passed : (rule : Option Rule) (rules : List (Option Rule)) → is_some rule ≡ false → first_there (rule ∷ rules) ≡ first_there rules
first_passed None rules none = refl
first_passed (Some broken) rules none = cc

first_found : (rule : Option Rule) (rules : List (Option Rule)) → is_some rule ≡ true → rule ≡ first_there (rule ∷ rules)
first_found None rules some = cc
first_found (Some broken) rules some = refl

-- what is left behind one test
at_first : (all left rest : List Test) (test : Test) (t : Tables) → left ≡ test ∷ rest → IsLeft all left t → first_there (map (says t) all) ≡ first_there (says t test ∷ map (says t) rest)
at_first all left rest test t is so_far = so_far ∙ ap (λ (v : List Test). first_there (map (says t) v)) is

pub one_passed : {a b c : KeeperSeen} (all left rest : List Test) (test : Test) (broken : Option Rule) → left ≡ test ∷ rest → Reads (IsLeft all left) a b → Reads (λ t. broken ≡ says t test) b c
    → is_some broken ≡ false → Reads (IsLeft all rest) a c
one_passed all left rest test broken is so_far one none = reads_then so_far one (λ t p q.
    at_first all left rest test t is p ∙ ap (λ r. first_there (r ∷ map (says t) rest)) (sym q) ∙ first_passed broken (map (says t) rest) none)

pub one_found : {a b c : KeeperSeen} (all left rest : List Test) (test : Test) (broken : Option Rule) → left ≡ test ∷ rest → Reads (IsLeft all left) a b → Reads (λ t. broken ≡ says t test) b c
    → is_some broken ≡ true → Reads (λ t. broken ≡ first_there (map (says t) all)) a c
one_found all left rest test broken is so_far one some = reads_then so_far one (λ t p q.
    first_found broken (map (says t) rest) some ∙ ap (λ r. first_there (r ∷ map (says t) rest)) q ∙ sym (at_first all left rest test t is p))

pub none_found : {a b : KeeperSeen} (all left : List Test) → left ≡ [] → Reads (IsLeft all left) a b → Reads (λ t. None ≡ first_there (map (says t) all)) a b
none_found all left none so_far = reads_then so_far (reads_none {P = λ t. Unit {0}} (λ t. tt)) (λ t p q. sym (p ∙ ap (λ (v : List Test). first_there (map (says t) v)) none))

few_first : (left rest : List Test) (test : Test) → left ≡ test ∷ rest → any_searches left ≡ false → (searches test ≡ false) × (any_searches rest ≡ false)
few_first left rest test is few = or_parts (searches test) (any_searches rest) (sym (ap any_searches is) ∙ few)

pub is_direct : {a b : KeeperSeen} (all left rest : List Test) (test : Test) → left ≡ test ∷ rest → Tried all left a b → searches test ≡ false
is_direct all left rest test is tried = (few_first left rest test is tried.few).0

pub one_tried : {a b c : KeeperSeen} (all left rest : List Test) (test : Test) → left ≡ test ∷ rest → Tried all left a b → Spent (looks_up test) b c → Tried all rest a c
one_tried all left rest test is tried one =
    let size : lookups left ≡ looks_up test + lookups rest = ap lookups is in
    record {
      few = (few_first left rest test is tried.few).1;
      within = omega (arith, size, tried.within);
      spent = record { later = omega (arith, tried.spent.later, one.later); most = omega (arith, size, tried.within, tried.spent.most, one.most) };
    }

pub all_spent : {a b : KeeperSeen} (all left : List Test) → Tried all left a b → Spent (lookups all) a b
all_spent all left tried = record { later = tried.spent.later; most = omega (arith, tried.within, tried.spent.most) }
