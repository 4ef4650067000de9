-- How long spellings are, in numbers of at most 32 bits.
use Rattle.std.proofs.Common.{◌≡◌, ℕ, ◌+◌, ◌-◌, ◌*◌, ◌^◌, ◌<◌, ◌≤◌, Bool, true, false, cond, List, [], ◌∷◌, ◌++◌, length, take, refl, sym, ap, ◌∙◌, arith, Option, Some, None, nat_lt, lit<}
use Rattle.std.specs.Prelude.{option_map}
use Rattle.std.specs.List.{slice_get}
use Rattle.std.proofs.lemmas.Bool.Decides.{nat_tests}
use Rattle.off_base.specs.Tree.{Tree, leaf, group, row_of, tree_length, trees_length, tree_size, trees_size}
use Rattle.off_base.proofs.TreeLemmas.{row_length-row_of}
use Rattle.off_base.specs.SettingFalls.{row_size-row_of}
use Rattle.std.specs.Option.{option_or}
use Rattle.off_tree.specs.Fault.{too_many, long_setting, long_part}
use Rattle.off_tree.specs.Length.{value_length, at_most_u32}
use Rattle.off_base.proofs.TreeLemmas.{taken}

length_push : (ts : List Tree) (t : Tree) → trees_length (ts ++ t ∷ []) ≡ trees_length ts + tree_length t
length_push [] t = omega arith
length_push (u ∷ ts) t = omega (arith, length_push ts t)

value_of_tree : (t : Tree) → tree_length t ≡ 2 + value_length t
value_of_tree (leaf c v) = refl
value_of_tree (group c r) = refl

pub length_more : (ts : List Tree) (i : ℕ) (t : Tree) (sum value : ℕ) → slice_get ts i ≡ Some t → sum ≡ at_most_u32 (trees_length (take i ts)) → value ≡ at_most_u32 (value_length t)
    → at_most_u32 (at_most_u32 (sum + 2) + value) ≡ at_most_u32 (trees_length (take (i + 1) ts))
length_more ts i t sum value e a b =
    let whole : trees_length (take (i + 1) ts) ≡ trees_length (take i ts) + tree_length t = ap trees_length (taken ts i t e) ∙ length_push (take i ts) t in
    omega (arith, value_of_tree t)

-- the same of a group of the code
module _ (code : ℕ) (parts : List Tree) (t : Tree) (is : t ≡ group code (row_of parts)) where
  pub parts_smaller : 2 * trees_size parts + 2 ≤ 2 * tree_size t
  parts_smaller = omega (arith, ap tree_size is, row_size-row_of parts)

  pub parts_length : trees_length parts ≡ value_length t
  parts_length = sym (ap value_length is ∙ row_length-row_of parts)

by_test : (b : Bool) (n : ℕ) → cond b (Some (at_most_u32 n)) None ≡ option_map at_most_u32 (cond b (Some n) None)
by_test true n = refl
by_test false n = refl

-- whether a number is over a limit below the greatest is told of the number at most the greatest
pub too_many_u32 : (most n : ℕ) → most < 2 ^ 32 - 1 → too_many most (at_most_u32 n) ≡ option_map at_most_u32 (too_many most n)
too_many_u32 most n small =
    let same : nat_lt most (at_most_u32 n) ≡ nat_lt most n = grind (arith, nat_tests) in
    ap (λ (b : Bool). cond b (Some (at_most_u32 n)) None) same ∙ by_test (nat_lt most n) n

pub map_option_or : (a b : Option ℕ) → option_map at_most_u32 (option_or a b) ≡ option_or (option_map at_most_u32 a) (option_map at_most_u32 b)
map_option_or None b = refl
map_option_or (Some x) b = refl

inner_long : Tree → Option ℕ
inner_long (leaf c v) = None
inner_long (group c r) = long_part r

or_none : (o : Option ℕ) → option_or o None ≡ o
or_none None = refl
or_none (Some n) = refl

long_is : (t : Tree) → long_setting t ≡ option_or (too_many 254 (value_length t)) (inner_long t)
unfolding inner_long
long_is (leaf c v) = sym (or_none (too_many 254 (length v)))
long_is (group c r) = refl

-- the length itself is too much
pub long_itself : (t : Tree) (n value : ℕ) → value ≡ at_most_u32 (value_length t) → Some n ≡ too_many 254 value → Some n ≡ option_map at_most_u32 (long_setting t)
long_itself t n value is e =
    let mapped : Some n ≡ option_map at_most_u32 (too_many 254 (value_length t)) = e ∙ ap (too_many 254) is ∙ too_many_u32 254 (value_length t) (lit< tt) in
    ap (λ (o : Option ℕ). option_or o (option_map at_most_u32 (inner_long t))) mapped ∙ sym (map_option_or (too_many 254 (value_length t)) (inner_long t)) ∙ ap (option_map at_most_u32) (sym (long_is t))

not_itself : (t : Tree) (value : ℕ) → value ≡ at_most_u32 (value_length t) → None ≡ too_many 254 value → option_map at_most_u32 (inner_long t) ≡ option_map at_most_u32 (long_setting t)
not_itself t value is e =
    let mapped : None ≡ option_map at_most_u32 (too_many 254 (value_length t)) = e ∙ ap (too_many 254) is ∙ too_many_u32 254 (value_length t) (lit< tt) in
    ap (λ (o : Option ℕ). option_or o (option_map at_most_u32 (inner_long t))) mapped ∙ sym (map_option_or (too_many 254 (value_length t)) (inner_long t)) ∙ ap (option_map at_most_u32) (sym (long_is t))

pub long_leaf : (t : Tree) (code value : ℕ) (bytes : List ℕ) → t ≡ leaf code bytes → value ≡ at_most_u32 (value_length t) → None ≡ too_many 254 value → None ≡ option_map at_most_u32 (long_setting t)
unfolding inner_long
long_leaf t code value bytes kind is e = ap (λ (x : Tree). option_map at_most_u32 (inner_long x)) (sym kind) ∙ not_itself t value is e

pub long_group : (t : Tree) (code value : ℕ) (parts : List Tree) (result : Option ℕ) → t ≡ group code (row_of parts) → value ≡ at_most_u32 (value_length t) → None ≡ too_many 254 value
    → result ≡ option_map at_most_u32 (long_part (row_of parts)) → result ≡ option_map at_most_u32 (long_setting t)
unfolding inner_long
long_group t code value parts result kind is e r = r ∙ ap (λ (x : Tree). option_map at_most_u32 (inner_long x)) (sym kind) ∙ not_itself t value is e
