-- Going over settings one by one against the walk of the definition.
use Rattle.std.proofs.Common.{◌≡◌, ◌≢◌, ℕ, zero, suc, ◌+◌, ◌*◌, ◌<◌, Bool, true, false, eqb, List, [], ◌∷◌, ◌++◌, length, map, get_or, take, drop, sym, ap, ◌∙◌, arith, Option, Some, None}
use Rattle.std.specs.Prelude.{◌||◌}
use Rattle.std.specs.List.{slice_get}
use Rattle.std.proofs.lemmas.Bool.Decides.{nat_tests}
use Rattle.std.proofs.lemmas.List.{map-append}
use Rattle.std.proofs.lemmas.Option.{slice_get-get_or}
use Rattle.std.proofs.lemmas.Bool.{or_right}
use Rattle.off_base.specs.Tree.{Tree, leaf, group, code_of, row_of, tree_size, trees_size}
use Rattle.off_base.proofs.TreeLemmas.{size_at, taken, dropped}
use Rattle.off_base.specs.SettingFalls.{row_size-row_of}
use Rattle.std.specs.Option.{option_or}
use Rattle.off_tree.specs.Fault.{contains, setting_fault, parts_fault}
use Rattle.off_tree.specs.declared.tables.Level.{Level}
use Rattle.off_tree.specs.declared.paths.Path.{Path}
use Rattle.off_tree.specs.declared.paths.TreeFault.{TreeFault}
use Rattle.off_tree.proofs.ReferenceLemmas.{neither_by}

pub parts_smaller : (ts : List Tree) (i : ℕ) (t : Tree) (code : ℕ) (parts : List Tree) → slice_get ts i ≡ Some t → t ≡ group code (row_of parts) → 2 * trees_size parts + 1 < 2 * trees_size ts
parts_smaller ts i t code parts e is = omega (arith, size_at ts i t e, ap tree_size is, row_size-row_of parts)

pub codes_more : (ts : List Tree) (i : ℕ) (t : Tree) → slice_get ts i ≡ Some t → map code_of (take (i + 1) ts) ≡ map code_of (take i ts) ++ code_of t ∷ []
codes_more ts i t e = ap (map code_of) (taken ts i t e) ∙ map-append code_of (take i ts) (t ∷ [])

pub contains_push : (code : ℕ) (codes : List ℕ) (other : ℕ) → contains code codes ≡ false → other ≢ code → contains code (codes ++ other ∷ []) ≡ false
contains_push code [] other h ne = grind (arith, nat_tests)
contains_push code (c ∷ codes) other h ne = neither_by (eqb c code) (contains code codes) (contains code (codes ++ other ∷ [])) h (λ rest. contains_push code codes other rest ne)

-- a code that stands at a place stands before a later one
pub stands_at : (ts : List Tree) (i end : ℕ) (t : Tree) (code : ℕ) → slice_get ts i ≡ Some t → i < end → code_of t ≡ code → contains code (map code_of (take end ts)) ≡ true
stands_at [] i end t code e lt is = cc
stands_at (u ∷ ts) i zero t code e lt is = absurd (omega arith)
stands_at (u ∷ ts) zero (suc end) t code e lt is =
    let same : u ≡ t = cc in
    let here : eqb (code_of u) code ≡ true = let c : code_of u ≡ code = ap code_of same ∙ is in grind (arith, nat_tests) in
    ap (λ (b : Bool). b || contains code (map code_of (take end ts))) here
stands_at (u ∷ ts) (suc i) (suc end) t code e lt is =
    or_right (eqb (code_of u) code) (contains code (map code_of (take end ts))) (stands_at ts i end t code e (omega arith) is)

-- one setting on
pub step : (level : Level) (path : Path) (ts : List Tree) (i : ℕ) (t : Tree) → slice_get ts i ≡ Some t
    → parts_fault level path (map code_of (take i ts)) (row_of (drop i ts))
    ≡ option_or (setting_fault level path (map code_of (take i ts)) t) (parts_fault level path (map code_of (take (i + 1) ts)) (row_of (drop (i + 1) ts)))
step level path ts i t e =
    ap (λ (x : List Tree). parts_fault level path (map code_of (take i ts)) (row_of x)) (dropped ts i t e)
    ∙ ap (λ (x : List ℕ). option_or (setting_fault level path (map code_of (take i ts)) t) (parts_fault level path x (row_of (drop (i + 1) ts)))) (sym (codes_more ts i t e))

pub found_here : (level : Level) (path : Path) (ts : List Tree) (i : ℕ) (t : Tree) (fault : TreeFault) → slice_get ts i ≡ Some t
    → parts_fault level path (map code_of (take i ts)) (row_of (drop i ts)) ≡ parts_fault level path [] (row_of ts)
    → Some fault ≡ setting_fault level path (map code_of (take i ts)) t → Some fault ≡ parts_fault level path [] (row_of ts)
found_here level path ts i t fault e so_far here =
    ap (λ (x : Option TreeFault). option_or x (parts_fault level path (map code_of (take (i + 1) ts)) (row_of (drop (i + 1) ts)))) here ∙ sym (step level path ts i t e) ∙ so_far

pub none_here : (level : Level) (path : Path) (ts : List Tree) (i : ℕ) (t : Tree) → slice_get ts i ≡ Some t
    → parts_fault level path (map code_of (take i ts)) (row_of (drop i ts)) ≡ parts_fault level path [] (row_of ts)
    → None ≡ setting_fault level path (map code_of (take i ts)) t
    → parts_fault level path (map code_of (take (i + 1) ts)) (row_of (drop (i + 1) ts)) ≡ parts_fault level path [] (row_of ts)
none_here level path ts i t e so_far here =
    ap (λ (x : Option TreeFault). option_or x (parts_fault level path (map code_of (take (i + 1) ts)) (row_of (drop (i + 1) ts)))) here ∙ sym (step level path ts i t e) ∙ so_far

-- the same at a place in range, for whatever stands there
pub found_at : (level : Level) (path : Path) (ts : List Tree) (i : ℕ) (fault : TreeFault) → i < length ts
    → parts_fault level path (map code_of (take i ts)) (row_of (drop i ts)) ≡ parts_fault level path [] (row_of ts)
    → ((t : Tree) → slice_get ts i ≡ Some t → Some fault ≡ setting_fault level path (map code_of (take i ts)) t) → Some fault ≡ parts_fault level path [] (row_of ts)
found_at level path ts i fault at so_far here =
    let t : Tree = get_or ts i (leaf 0 []) in
    let e : slice_get ts i ≡ Some (get_or ts i (leaf 0 [])) = slice_get-get_or ts i (leaf 0 []) at in
    found_here level path ts i (get_or ts i (leaf 0 [])) fault e so_far (here (get_or ts i (leaf 0 [])) e)

pub none_at : (level : Level) (path : Path) (ts : List Tree) (i : ℕ) → i < length ts
    → parts_fault level path (map code_of (take i ts)) (row_of (drop i ts)) ≡ parts_fault level path [] (row_of ts)
    → ((t : Tree) → slice_get ts i ≡ Some t → None ≡ setting_fault level path (map code_of (take i ts)) t)
    → parts_fault level path (map code_of (take (i + 1) ts)) (row_of (drop (i + 1) ts)) ≡ parts_fault level path [] (row_of ts)
none_at level path ts i at so_far here =
    let e : slice_get ts i ≡ Some (get_or ts i (leaf 0 [])) = slice_get-get_or ts i (leaf 0 []) at in
    none_here level path ts i (get_or ts i (leaf 0 [])) e so_far (here (get_or ts i (leaf 0 [])) e)
