-- The settings that the office writes itself stand once each.
use Rattle.std.proofs.Common.{◌≡◌, ℕ, ◌+◌, Bool, true, false, cond, eqb, List, [], ◌∷◌, ◌++◌, length, map, refl, sym, ap, ◌∙◌, arith, length-append}
use Rattle.std.specs.Prelude.{not}
use Rattle.std.specs.List.{AllByRecursion, list_all}
use Rattle.std.proofs.lemmas.List.Elements.{filter-append}
use Rattle.std.proofs.lemmas.Bool.{eqb-true}
use Rattle.off_base.specs.Tree.{Tree, leaf, code_of}
use Rattle.off_base.specs.declared.addresses.Ip4.{Ip4}
use Rattle.off_mic.specs.Mic.{of_code, cm_mic_of, cmts_mic_of, with_cm, with_both}
use Rattle.off_tree.specs.declared.tables.Level.TheVariants.{Top}
use Rattle.off_tree.specs.declared.tables.Kind.{Kind}
use Rattle.off_tree.specs.declared.tables.Kind.TheVariants.{Class, AddOn}
use Rattle.off_tree.specs.declared.tables.Rule.{Rule}
use Rattle.off_tree.specs.Table.{table_of}
use Rattle.off_tree.specs.Fault.{contains}
use Rattle.off_tree.specs.Good.{GoodSettings}
use Rattle.off_file_rules.specs.Profile.{raised, all_raised, access, devices, active_profile, profile_of}
use Rattle.off_file_rules.specs.File.{stamps, with_stamps}
use Rattle.off_file_laws.specs.Laws.{own_codes}
use Rattle.off_file_laws.proofs.AgreeLemmas.{AllGood, all_join, each_standing}
use Rattle.off_file_laws.proofs.RaiseLemmas.{code_raised}
use Rattle.off_file_laws.proofs.ShapeLemmas.{never_stands}

abbrev is_own : ℕ → Bool
is_own code = contains code own_codes

abbrev Other : Tree → Type 0
Other t = is_own (code_of t) ≡ false

tables_other : (kind : Kind) → list_all (λ (rule : Rule). not (is_own rule.code)) (table_of (Top kind)) ≡ true
unfolding table_of
tables_other Class = refl
tables_other AddOn = refl

others : (kind : Kind) (ts : List Tree) → GoodSettings kind ts → AllByRecursion Other ts
others kind ts good = each_standing kind Other (never_stands is_own tables_other kind) ts good.stand

others_raised : (k : ℕ) (ts : List Tree) → AllByRecursion Other ts → AllByRecursion Other (map (raised k) ts)
others_raised k [] all = tt
others_raised k (t ∷ ts) all = (ap is_own (code_raised k t) ∙ all.0, others_raised k ts all.1)

add_ons_other : (least : ℕ) (adds : List (ℕ × List Tree)) → AllGood least adds → AllByRecursion Other (all_raised adds)
add_ons_other least [] good = tt
add_ons_other least (a ∷ adds) good =
    all_join Other (map (raised a.0) a.1) (all_raised adds) (others_raised a.0 a.1 (others AddOn a.1 good.2)) (add_ons_other (a.0 + 1) adds good.3)

skipped : (code : ℕ) (t : Tree) (ts : List Tree) (b : Bool) → eqb (code_of t) code ≡ b → is_own code ≡ true → Other t → of_code code ts ≡ [] → cond b (t ∷ of_code code ts) (of_code code ts) ≡ []
skipped code t ts true e own other none =
    let clash : false ≡ true = sym other ∙ ap is_own (eqb-true (code_of t) code e) ∙ own in
    cc
skipped code t ts false e own other none = none

none_of : (code : ℕ) (ts : List Tree) → is_own code ≡ true → AllByRecursion Other ts → of_code code ts ≡ []
none_of code [] own all = refl
none_of code (t ∷ ts) own all = skipped code t ts (eqb (code_of t) code) refl own all.0 (none_of code ts own all.1)

abbrev times : ℕ → List Tree → ℕ
times code ts = length (of_code code ts)

times_join : (code : ℕ) (ts us : List Tree) → times code (ts ++ us) ≡ times code ts + times code us
times_join code ts us = ap length (filter-append (λ (t : Tree). eqb (code_of t) code) ts us) ∙ length-append (of_code code ts) (of_code code us)

times_active : (code cpes : ℕ) (class : List Tree) (adds : List (ℕ × List Tree)) → is_own code ≡ true → GoodSettings Class class → AllGood 0 adds
    → times code (active_profile cpes class adds) ≡ times code (access 1 ∷ []) + times code (devices cpes ∷ [])
times_active code cpes class adds own good all =
    let none : times code class ≡ 0 = ap length (none_of code class own (others Class class good)) in
    let nor : times code (all_raised adds) ≡ 0 = ap length (none_of code (all_raised adds) own (add_ons_other 0 adds all)) in
    omega (
      arith,
      times_join code (access 1 ∷ []) (class ++ devices cpes ∷ all_raised adds),
      times_join code class (devices cpes ∷ all_raised adds),
      times_join code (devices cpes ∷ []) (all_raised adds),
    )

-- how often a code stands in a whole file
times_whole : (code now : ℕ) (ip : Ip4) (secret : List ℕ) (profile : List Tree)
    → times code (with_both secret (with_stamps profile now ip))
    ≡ times code profile + times code (stamps now ip) + times code (leaf 6 (cm_mic_of (with_stamps profile now ip)) ∷ [])
    + times code (leaf 7 (cmts_mic_of secret (with_cm (with_stamps profile now ip))) ∷ [])
times_whole code now ip secret profile =
    omega (
      arith,
      times_join code (with_cm (with_stamps profile now ip)) (leaf 7 (cmts_mic_of secret (with_cm (with_stamps profile now ip))) ∷ []),
      times_join code (with_stamps profile now ip) (leaf 6 (cm_mic_of (with_stamps profile now ip)) ∷ []),
      times_join code profile (stamps now ip),
    )

abbrev Once : ℕ → Ip4 → List ℕ → List Tree → Type 0
Once now ip secret profile = AllByRecursion (λ code. length (of_code code (with_both secret (with_stamps profile now ip))) ≡ 1) own_codes

pub once_each : (active : Bool) (cpes : ℕ) (class : List Tree) (adds : List (ℕ × List Tree)) (now : ℕ) (ip : Ip4) (secret : List ℕ) → GoodSettings Class class → AllGood 0 adds
    → Once now ip secret (profile_of active cpes class adds)
once_each true cpes class adds now ip secret good all =
    let p : List Tree = active_profile cpes class adds in
    let one : (code : ℕ) → is_own code ≡ true → times code (active_profile cpes class adds) ≡ times code (access 1 ∷ []) + times code (devices cpes ∷ []) =
    λ code own. times_active code cpes class adds own good all in
    let all_of : (code : ℕ) → times code (with_both secret (with_stamps (active_profile cpes class adds) now ip))
    ≡ times code (active_profile cpes class adds) + times code (stamps now ip) + times code (leaf 6 (cm_mic_of (with_stamps (active_profile cpes class adds) now ip)) ∷ [])
    + times code (leaf 7 (cmts_mic_of secret (with_cm (with_stamps (active_profile cpes class adds) now ip))) ∷ []) =
    λ code. times_whole code now ip secret (active_profile cpes class adds) in (
      all_of 3 ∙ ap (λ (n : ℕ). n + 0 + 0 + 0) (one 3 refl),
      (
        all_of 6 ∙ ap (λ (n : ℕ). n + 0 + 1 + 0) (one 6 refl),
        (
          all_of 7 ∙ ap (λ (n : ℕ). n + 0 + 0 + 1) (one 7 refl),
          (all_of 18 ∙ ap (λ (n : ℕ). n + 0 + 0 + 0) (one 18 refl), (all_of 19 ∙ ap (λ (n : ℕ). n + 1 + 0 + 0) (one 19 refl), (all_of 20 ∙ ap (λ (n : ℕ). n + 1 + 0 + 0) (one 20 refl), tt))),
        ),
      ),
    )
once_each false cpes class adds now ip secret good all = (refl, (refl, (refl, (refl, (refl, (refl, tt))))))
