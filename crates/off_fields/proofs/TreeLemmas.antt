-- Settings of one level more.
use Rattle.std.proofs.Common.{◌≡◌, ℕ, zero, suc, ◌-◌, codes, refl, sym, ap, arith, Option, None, option_and_then}
use Rattle.serde_json.specs.Data.{Data}
use Rattle.serde_json.specs.Find.{get}
use Rattle.off_base.specs.Tree.{Tree}
use Rattle.off_clerk_rules.specs.Fields.{number_in, list_in, setting_with, tree_in}

pub no_deeper : (depth : ℕ) (held : Data) → depth ≡ 0 → tree_in depth held ≡ None
unfolding tree_in
no_deeper depth held e = ap (λ (n : ℕ). tree_in n held) e

abbrev pub one_level : ℕ → Data → Option Tree
one_level inner held =
    option_and_then (λ code. setting_with (list_in (tree_in inner)) code (get (codes "hex") held) (get (codes "parts") held))
    (option_and_then (number_in 0 255) (get (codes "code") held))

before : (n : ℕ) → suc n - 1 ≡ n
before n = omega arith

pub deeper : (depth : ℕ) (held : Data) → (depth ≡ 0 → ⊥) → tree_in depth held ≡ one_level (depth - 1) held
unfolding tree_in
deeper zero held some = absurd (some refl)
deeper (suc depth) held some = ap (λ (n : ℕ). one_level n held) (sym (before depth))
