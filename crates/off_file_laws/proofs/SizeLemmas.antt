-- How long a file is.
use Rattle.std.proofs.Common.{◌≡◌, ℕ, suc, ◌+◌, ◌*◌, ◌%◌, ◌<◌, ◌≤◌, Bool, true, false, List, [], ◌∷◌, length, map, replicate, refl, ap, ◌∙◌, arith, length-append}
use Rattle.std.proofs.lemmas.List.{length-replicate}
use Rattle.off_base.specs.Tree.{Tree, leaf, group, spelling, tree_length, trees_length}
use Rattle.off_base.specs.declared.addresses.Ip4.{Ip4}
use Rattle.off_base.proofs.TreeLemmas.{length-spelling}
use Rattle.off_mic.proofs.SealLemmas.{length_join, length_both}
use Rattle.off_mic.specs.Mic.{with_both, Sealed}
use Rattle.off_tree.specs.declared.tables.Kind.TheVariants.{Class}
use Rattle.off_tree.specs.Good.{GoodSettings}
use Rattle.off_file_rules.specs.Profile.{raised, all_raised, devices, profile_of}
use Rattle.off_file_rules.specs.File.{stamps, with_stamps, most_file_bytes}
use Rattle.off_file_laws.proofs.AgreeLemmas.{AllGood}
use Rattle.off_file_laws.proofs.ShapeLemmas.{row_length_raised}

tree_length_raised : (k : ℕ) (t : Tree) → tree_length (raised k t) ≡ tree_length t
tree_length_raised k (leaf code value) = refl
tree_length_raised k (group code parts) = ap (λ (n : ℕ). 2 + n) (row_length_raised k code parts)

length_raised : (k : ℕ) (ts : List Tree) → trees_length (map (raised k) ts) ≡ trees_length ts
length_raised k [] = refl
length_raised k (t ∷ ts) = omega (arith, tree_length_raised k t, length_raised k ts)

add_ons_short : (least : ℕ) (adds : List (ℕ × List Tree)) → least ≤ 8 → AllGood least adds → trees_length (all_raised adds) + 512 * least ≤ 4096
add_ons_short least [] room good = omega arith
add_ons_short least (a ∷ adds) room good =
    let low : least ≤ a.0 = good.0 in
    let small : a.0 < 8 = good.1 in
    let own : trees_length a.1 ≤ 512 = good.2.whole in
    let rest : trees_length (all_raised adds) + 512 * (a.0 + 1) ≤ 4096 = add_ons_short (a.0 + 1) adds (omega arith) good.3 in
    omega (arith, length_join (map (raised a.0) a.1) (all_raised adds), length_raised a.0 a.1)

pub profile_short : (active : Bool) (cpes : ℕ) (class : List Tree) (adds : List (ℕ × List Tree)) → GoodSettings Class class → AllGood 0 adds → trees_length (profile_of active cpes class adds) ≤ 6150
profile_short true cpes class adds good all =
    let own : trees_length class ≤ 2048 = good.whole in
    omega (arith, length_join class (devices cpes ∷ all_raised adds), add_ons_short 0 adds (omega arith) all)
profile_short false cpes class adds good all = omega arith

to_four : (n body pads : ℕ) → n ≡ body + suc pads → body ≤ 6198 → pads ≤ 3 → n % 4 ≡ 0 → n ≤ 6200
to_four n body pads is few more even = omega arith

-- a sealed file has the bytes of its settings, both checks, the end marker and at most three pads
pub file_short : (file secret : List ℕ) (ts : List Tree) (now : ℕ) (ip : Ip4) → trees_length ts ≤ 6150 → Sealed file (with_stamps ts now ip) secret → length file ≤ most_file_bytes
file_short file secret ts now ip short s =
    let long : length file ≡ length (spelling (with_both secret (with_stamps ts now ip))) + suc s.pads =
    ap length s.whole ∙ length-append (spelling (with_both secret (with_stamps ts now ip))) (255 ∷ replicate s.pads 0)
    ∙ ap (λ (n : ℕ). length (spelling (with_both secret (with_stamps ts now ip))) + suc n) (length-replicate s.pads 0) in
    let body : length (spelling (with_both secret (with_stamps ts now ip))) ≤ 6198 =
    omega (arith, length-spelling (with_both secret (with_stamps ts now ip)), length_both secret (with_stamps ts now ip), length_join ts (stamps now ip)) in
    to_four (length file) (length (spelling (with_both secret (with_stamps ts now ip)))) s.pads long body s.few s.aligned
