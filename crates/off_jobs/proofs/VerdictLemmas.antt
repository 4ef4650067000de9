-- Of a file of which both values are right both answers are yes, and of no other one.
use Rattle.std.proofs.Common.{◌≡◌, ℕ, Bool, true, false, cond, eqb, ◌&&◌, List, [], ◌∷◌, length, codes, Some, None, Result, Ok, Err, IsTrue, refl, sym, ap, subst, ◌∙◌, arith}
use Rattle.std.specs.Prelude.{not}
use Rattle.std.specs.List.{filter}
use Rattle.std.specs.Option.{option_or}
use Rattle.md5.proofs.StandardFacts.{length-md5}
use Rattle.off_base.specs.Tree.{Tree, code_of, spelling}
use Rattle.off_tlv.specs.declared.faults.ReadFault.{ReadFault}
use Rattle.off_tlv.specs.Grammar.{in_file, Stands, AllStand}
use Rattle.off_tlv.specs.Fault.{Reads}
use Rattle.off_tlv.proofs.GrammarLemmas.{one_reading}
use Rattle.off_mic.specs.Mic.{is_mic, without_mics, setting_values, cm_mic_of, cmts_mic_of, digest_text, VerifiesFile}
use Rattle.off_mic.specs.Seal.{SealsFile}
use Rattle.off_mic.specs.Check.{values_fault, mic_fault, Verified}
use Rattle.off_mic.specs.declared.checking.Verdict.{Verdict}
use Rattle.off_mic.specs.declared.checking.MicFault.{MicFault}
use Rattle.off_mic.specs.declared.checking.MicFault.TheVariants.{MicLength}
use Rattle.off_mic.proofs.SealLemmas.{length-hmac, sealed_verifies, verdict_tells}
use Rattle.off_jobs.specs.Text.{verdict_text, verdict_status}
use Rattle.off_jobs.specs.Jobs.{Verifies}

-- ---- what sealing gives

kept : (b : Bool) (t : Tree) (ts : List Tree) → Stands in_file t → AllStand in_file ts → AllStand in_file (cond b (t ∷ ts) ts)
kept true t ts one more = (one, more)
kept false t ts one more = more

all_but : (p : Tree → Bool) (ts : List Tree) → AllStand in_file ts → AllStand in_file (filter p ts)
all_but p [] all = tt
all_but p (t ∷ ts) all = kept (p t) t (filter p ts) all.0 (all_but p ts all.1)

pub sealed_right : (plain file secret : List ℕ) → SealsFile plain secret file → VerifiesFile file secret
sealed_right plain file secret s =
    (sealed_verifies file secret (without_mics s.trees) (all_but (λ t. not (is_mic (code_of t))) s.trees s.spells.stand) s.seals).1

-- ---- what is answered of a file

good_of : (reading : Result (List Tree) ReadFault) (file secret : List ℕ) (verdict : Verdict) → Reads file reading → Verified secret reading (Ok verdict) → VerifiesFile file secret
    → IsTrue verdict.cm × IsTrue verdict.cmts
good_of (Ok trees) file secret verdict reads is right = (verdict_tells file secret trees verdict reads is).1 right
good_of (Err fault) file secret verdict reads is right = cc

right_of : (reading : Result (List Tree) ReadFault) (file secret : List ℕ) (verdict : Verdict) → Reads file reading → Verified secret reading (Ok verdict)
    → IsTrue verdict.cm × IsTrue verdict.cmts → VerifiesFile file secret
right_of (Ok trees) file secret verdict reads is both = (verdict_tells file secret trees verdict reads is).0 both
right_of (Err fault) file secret verdict reads is both = cc

one_value : (code : ℕ) (value : List ℕ) → length value ≡ 16 → values_fault code (value ∷ []) ≡ None
one_value code value long = ap (λ (n : ℕ). cond (eqb n 16) None (Some (MicLength code))) long

no_fault : (secret : List ℕ) (trees : List Tree) → setting_values 6 trees ≡ cm_mic_of trees ∷ [] → setting_values 7 trees ≡ cmts_mic_of secret trees ∷ [] → mic_fault trees ≡ None
no_fault secret trees six seven =
    let one : values_fault 6 (setting_values 6 trees) ≡ None = ap (values_fault 6) six ∙ one_value 6 (cm_mic_of trees) (length-md5 (spelling (without_mics trees))) in
    let other : values_fault 7 (setting_values 7 trees) ≡ None = ap (values_fault 7) seven ∙ one_value 7 (cmts_mic_of secret trees) (length-hmac secret (digest_text trees)) in
    λ j. option_or (one j) (other j)

fault_never : (reading : Result (List Tree) ReadFault) (file secret : List ℕ) (fault : MicFault) → Reads file reading → Verified secret reading (Err fault) → VerifiesFile file secret → ⊥
fault_never (Ok trees) file secret fault reads is right =
    let same : Ok right.trees ≡ Ok trees = one_reading file (Ok right.trees) (Ok trees) right.spells reads in
    let one : right.trees ≡ trees = cc in
    let six : setting_values 6 trees ≡ cm_mic_of trees ∷ [] = subst (λ (x : List Tree). setting_values 6 x ≡ cm_mic_of x ∷ []) one right.cm in
    let seven : setting_values 7 trees ≡ cmts_mic_of secret trees ∷ [] = subst (λ (x : List Tree). setting_values 7 x ≡ cmts_mic_of secret x ∷ []) one right.cmts in
    let f : Some fault ≡ None = sym is ∙ no_fault secret trees six seven in cc
fault_never (Err other) file secret fault reads is right =
    let same : Ok right.trees ≡ Err other = one_reading file (Ok right.trees) (Err other) right.spells reads in cc

-- ---- and what is told

abbrev pub status_by : Bool → Bool → ℕ
status_by cm cmts = cond (cm && cmts) 0 8

both_yes : (cm cmts : Bool) → status_by cm cmts ≡ 0 → IsTrue cm × IsTrue cmts
both_yes true true e = (refl, refl)
both_yes true false e = absurd (omega (arith, e))
both_yes false cmts e = absurd (omega (arith, e))

-- both values are right, and so it is told
pub record Good (verdict : Verdict) : Type 0 where
  pub status : verdict_status verdict ≡ 0
  pub text : verdict_text verdict ≡ codes "cm good\ncmts good\n"

pub good_verdict : {file secret : List ℕ} {verdict : Verdict} → Verifies file secret (Ok verdict) → VerifiesFile file secret → Good verdict
good_verdict {file} {secret} {verdict} v right =
    let both = good_of v.reading file secret verdict v.reads v.verified right in
    record {
      status = λ j. status_by (both.0 j) (both.1 j);
      text = λ j. verdict_text (record { cm = both.0 j; cmts = both.1 j });
    }

pub right_verdict : {file secret : List ℕ} {verdict : Verdict} → Verifies file secret (Ok verdict) → verdict_status verdict ≡ 0 → VerifiesFile file secret
right_verdict {file} {secret} {verdict} v is = right_of v.reading file secret verdict v.reads v.verified (both_yes verdict.cm verdict.cmts is)

pub never_refused : {file secret : List ℕ} {fault : MicFault} → Verifies file secret (Err fault) → VerifiesFile file secret → ⊥
never_refused {file} {secret} {fault} v right = fault_never v.reading file secret fault v.reads v.verified right
