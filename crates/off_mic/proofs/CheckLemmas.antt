-- The values of the settings of one code, and what is answered of them.
use Rattle.std.proofs.Common.{◌≡◌, ◌≢◌, ℕ, Bool, true, false, cond, eqb, List, [], ◌∷◌, ◌++◌, length, map, refl, sym, ap, subst, ◌∙◌, append-nil, arith, Result, Ok, Err, Option, Some, None, MatchResult}
use Rattle.std.proofs.lemmas.Bool.Decides.{nat_tests}
use Rattle.off_base.specs.Tree.{Tree, leaf, group, code_of, spelled, spelling}
use Rattle.off_tlv.specs.Grammar.{in_file}
use Rattle.off_tlv.specs.Fault.{IsShort, Reads}
use Rattle.off_tlv.specs.Walk.{Walk, TakesSetting}
use Rattle.off_tlv.specs.declared.faults.ReadFault.{ReadFault}
use Rattle.off_tlv.proofs.GrammarLemmas.{one_reading}
use Rattle.off_tlv.proofs.ReadingLemmas.{front_is, not_short_by}
use Rattle.std.specs.Prelude.{IsTrue, ◌↔◌}
use Rattle.off_mic.specs.Mic.{of_code, value_of, setting_values, cm_mic_of, cmts_mic_of}
use Rattle.std.specs.Option.{option_or}
use Rattle.off_mic.specs.Check.{values_fault, mic_fault, IsVerdict, Verified}
use Rattle.off_mic.specs.Feed.{NextValue}
use Rattle.off_mic.proofs.Walked.{Passed}
use Rattle.off_mic.specs.declared.checking.Verdict.{Verdict}
use Rattle.off_mic.specs.declared.checking.MicFault.{MicFault}

value_first : (t : Tree) (code : ℕ) (value : List ℕ) → spelled t ≡ code ∷ length value ∷ value → (code_of t ≡ code) × (value_of t ≡ value)
value_first (leaf c v) code value e = (cc, cc)
value_first (group c r) code value e = (cc, cc)

one_more : (t : Tree) (us : List Tree) (b : Bool) → map value_of (cond b (t ∷ us) us) ≡ cond b (value_of t ∷ map value_of us) (map value_of us)
one_more t us true = refl
one_more t us false = refl

record FirstValue (wanted : ℕ) (trees : List Tree) (code : ℕ) (value rest : List ℕ) : Type 0 where
  behind : List Tree
  left : rest ≡ spelling behind
  values : setting_values wanted trees ≡ cond (eqb code wanted) (value ∷ setting_values wanted behind) (setting_values wanted behind)

first_value : (wanted : ℕ) (trees : List Tree) (old new : Walk) (code : ℕ) (value : List ℕ) → old.rest ≡ spelling trees → TakesSetting old code value new
    → FirstValue wanted trees code value new.rest
first_value wanted [] old new code value left takes = let front = takes.spelled in cc
first_value wanted (t ∷ us) old new code value left takes =
    let both = front_is code value new.rest t (spelling us) (sym takes.spelled ∙ left) in
    let is = value_first t code value both.0 in
    record {
      behind = us;
      left = both.1;
      values = one_more t (of_code wanted us) (eqb (code_of t) wanted) ∙ ap (λ (x : ℕ). cond (eqb x wanted) (value_of t ∷ setting_values wanted us) (setting_values wanted us)) is.0
          ∙ ap (λ (x : List ℕ). cond (eqb code wanted) (x ∷ setting_values wanted us) (setting_values wanted us)) is.1;
    }

-- one setting on, of another code
pub passed_more : (wanted : ℕ) (trees : List Tree) (old new : Walk) (code : ℕ) (value : List ℕ) → Passed wanted trees old.rest → TakesSetting old code value new → code ≢ wanted
    → Passed wanted trees new.rest
passed_more wanted trees old new code value p takes other =
    let f = first_value wanted p.behind old new code value p.left takes in
    let not_it : eqb code wanted ≡ false = grind (arith, nat_tests) in
    record { behind = f.behind; left = f.left; same = p.same ∙ f.values ∙ ap (λ (b : Bool). cond b (value ∷ setting_values wanted f.behind) (setting_values wanted f.behind)) not_it }

pub passed_here : (wanted : ℕ) (trees : List Tree) (old new : Walk) (code : ℕ) (value : List ℕ) → Passed wanted trees old.rest → TakesSetting old code value new → code ≡ wanted
    → NextValue wanted trees value new.rest
passed_here wanted trees old new code value p takes it =
    let f = first_value wanted p.behind old new code value p.left takes in
    let is_it : eqb code wanted ≡ true = grind (arith, nat_tests) in
    record { behind = f.behind; left = f.left; next = p.same ∙ f.values ∙ ap (λ (b : Bool). cond b (value ∷ setting_values wanted f.behind) (setting_values wanted f.behind)) is_it }

none_left : (wanted : ℕ) (us : List Tree) → spelling us ≡ [] → setting_values wanted us ≡ []
none_left wanted [] e = refl
none_left wanted (leaf c v ∷ us) e = cc
none_left wanted (group c r ∷ us) e = cc

pub passed_all : (wanted : ℕ) (trees : List Tree) (rest : List ℕ) → Passed wanted trees rest → rest ≡ [] → setting_values wanted trees ≡ []
passed_all wanted trees rest p e = p.same ∙ none_left wanted p.behind (sym p.left ∙ e)

pub passed_short : (wanted : ℕ) (trees : List Tree) (rest : List ℕ) → Passed wanted trees rest → IsShort rest → ⊥
passed_short wanted trees rest p short = not_short_by in_file rest p.behind p.left short

pub verified_ok : (secret : List ℕ) (trees : List Tree) (answer : Result Verdict MicFault) → MatchResult answer (IsVerdict secret trees) (λ fault. mic_fault trees ≡ Some fault)
    → Verified secret (Ok trees) answer
verified_ok secret trees (Ok verdict) m = m
verified_ok secret trees (Err fault) m = m

pub verified_only : (file secret : List ℕ) (answer : Result Verdict MicFault) → (reading : Result (List Tree) ReadFault) × Reads file reading × Verified secret reading answer
    → (other : Result (List Tree) ReadFault) → Reads file other → Verified secret other answer
verified_only file secret answer (reading, reads, verified) other r = subst (λ (x : Result (List Tree) ReadFault). Verified secret x answer) (one_reading file reading other reads r) verified

-- one of the two answers
same_value : (b : Bool) (value mic want : List ℕ) (values : List (List ℕ)) → (IsTrue b ↔ (value ≡ mic)) → values ≡ value ∷ [] → mic ≡ want → IsTrue b ↔ (values ≡ want ∷ [])
same_value b value mic want values same one is =
    ((λ t. let both : value ≡ mic = same.0 t in cc), (λ e. same.1 (let both : value ∷ [] ≡ want ∷ [] = sym one ∙ e in let v : value ≡ want = cc in v ∙ sym is)))

pub verdict_is : (secret : List ℕ) (trees : List Tree) (verdict : Verdict) (cm cm_mic cmts cmts_mic : List ℕ)
    → setting_values 6 trees ≡ cm ∷ [] → values_fault 6 (setting_values 6 trees) ≡ None → cm_mic ≡ cm_mic_of (trees ++ []) → (IsTrue verdict.cm ↔ (cm ≡ cm_mic))
    → setting_values 7 trees ≡ cmts ∷ [] → values_fault 7 (setting_values 7 trees) ≡ None → cmts_mic ≡ cmts_mic_of secret (trees ++ []) → (IsTrue verdict.cmts ↔ (cmts ≡ cmts_mic))
    → IsVerdict secret trees verdict
verdict_is secret trees verdict cm cm_mic cmts cmts_mic one good mic same one' good' mic' same' =
    record {
      whole = ap (λ (x : Option MicFault). option_or x (values_fault 7 (setting_values 7 trees))) good ∙ good';
      cm = same_value verdict.cm cm cm_mic (cm_mic_of trees) (setting_values 6 trees) same one (mic ∙ ap cm_mic_of (append-nil trees));
      cmts = same_value verdict.cmts cmts cmts_mic (cmts_mic_of secret trees) (setting_values 7 trees) same' one' (mic' ∙ ap (cmts_mic_of secret) (append-nil trees));
    }
