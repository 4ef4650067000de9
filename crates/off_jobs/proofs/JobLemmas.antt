-- Whether a job has its status with its cause.
use Rattle.std.proofs.Common.{◌≡◌, ◌≢◌, ℕ, ◌≤◌, Bool, true, false, List, [], ◌∷◌, length, Result, Ok, Err, refl, sym, ap, ◌∙◌, subst, arith, length-append}
use Rattle.std.specs.Prelude.{Contains}
use Rattle.off_base.specs.Tree.{Tree}
use Rattle.off_tlv.specs.declared.faults.ReadFault.{ReadFault}
use Rattle.off_tlv.specs.declared.faults.FileErr.{FileErr}
use Rattle.off_tlv.specs.declared.faults.FileErr.TheVariants.{Read, Memory}
use Rattle.off_tlv.specs.Told.{WhyNotRead}
use Rattle.off_tlv.specs.Grammar.{FileOf}
use Rattle.off_tlv.specs.Fault.{IsFirstFault, Reads}
use Rattle.off_tlv.proofs.GrammarLemmas.{one_reading}
use Rattle.off_mic.specs.Mic.{VerifiesFile}
use Rattle.off_mic.specs.Seal.{SealsFile}
use Rattle.off_mic.specs.Check.{Verified}
use Rattle.off_mic.specs.declared.checking.Verdict.{Verdict}
use Rattle.off_mic.specs.declared.checking.MicFault.{MicFault}
use Rattle.off_outside.specs.Streams.{SourceSeen, SinkSeen, Wrote}
use Rattle.off_jobs.specs.Input.{TookAll, TookTooMany}
use Rattle.off_jobs.specs.declared.input.InputErr.TheVariants.{TooLong, Failed, Memory as NoMemory}
use Rattle.off_jobs.specs.Text.{verdict_text}
use Rattle.off_jobs.specs.Ending.{Tells, ending_of}
use Rattle.off_jobs.specs.Health.{NoFault}
use Rattle.off_jobs.specs.Jobs.{Sealing, sealed_as, refused_by, unsealed, not_sealed, SealedBy, sealing_end, Checking, answered, refused_for, not_checked, CheckedBy, checking_end, Verifies, streams, SealsInput, AnswersGood, ChecksInput}
use Rattle.off_jobs.proofs.EndingLemmas.{stands, told_whole, sink_kept, own_status, ends_by, source_kept, unread_status, unread_some}
use Rattle.off_jobs.proofs.VerdictLemmas.{Good, sealed_right, good_verdict, right_verdict, never_refused, status_by}

-- ---- where no count rose

abbrev Calm : SourceSeen → SourceSeen → SinkSeen → SinkSeen → Type 0
Calm s s' t t' = NoFault (streams s s' t t')

sealing_kept : (way : Sealing) (secret : List ℕ) (s s' : SourceSeen) (t t' : SinkSeen) → SealedBy way secret s s' → Calm s s' t t' → s.up → s'.up
sealing_kept (sealed_as file made) secret s s' t t' by none up = by.0.took.up up
sealing_kept (refused_by file fault) secret s s' t t' by none up = by.0.took.up up
sealing_kept (unsealed file) secret s s' t t' by none up = by.0.took.up up
sealing_kept (not_sealed err) secret s s' t t' by none up = source_kept _ err _ _ by none.0 up

checking_kept : (way : Checking) (secret : List ℕ) (s s' : SourceSeen) (t t' : SinkSeen) → CheckedBy way secret s s' → Calm s s' t t' → s.up → s'.up
checking_kept (answered file verdict) secret s s' t t' by none up = by.0.took.up up
checking_kept (refused_for file fault) secret s s' t t' by none up = by.0.took.up up
checking_kept (not_checked err) secret s s' t t' by none up = source_kept _ err _ _ by none.0 up

seal_ended : (way : Sealing) (secret : List ℕ) (s s' : SourceSeen) (t t' : SinkSeen) → SealedBy way secret s s' → Calm s s' t t' → Contains (0 ∷ 6 ∷ 9 ∷ []) (sealing_end way).status
seal_ended (sealed_as file made) secret s s' t t' by none = (0, omega arith, refl)
seal_ended (refused_by file fault) secret s s' t t' by none = (2, omega arith, refl)
seal_ended (unsealed file) secret s s' t t' by none = (1, omega arith, refl)
seal_ended (not_sealed err) secret s s' t t' by none = unread_status _ 9 err (0 ∷ 6 ∷ 9 ∷ []) _ _ by none.0 (1, omega arith, refl) (2, omega arith, refl)

-- what was taken to the end is what the source told
pub told_file : {most : ℕ} {file held : List ℕ} {s s' : SourceSeen} → TookAll most file s s' → s.left held → held ≡ file
told_file took told = (took.left.each _ told).fits.0

not_both : (file : List ℕ) (trees : List Tree) (fault : ReadFault) → FileOf file trees → IsFirstFault file fault → ⊥
not_both file trees fault spells first = let e = one_reading file (Ok trees) (Err fault) spells first in cc

pub too_many_of : {most : ℕ} {held : List ℕ} {s s' : SourceSeen} → TookTooMany most s s' → s.left held → length held ≤ most → ⊥
too_many_of {most} {held} took told short =
    let g = took.took.left.each held told in
    omega (arith, ap length g.fits, length-append took.bytes g.value, took.over)

seal_complete : (way : Sealing) (secret : List ℕ) (status : ℕ) (s s' : SourceSeen) (t t' : SinkSeen) → SealedBy way secret s s' → status ≡ (sealing_end way).status
    → (file : List ℕ) (trees : List Tree) → s.left file → FileOf file trees → length file ≤ 65536 → Calm s s' t t' → status ≢ 6 → status ≡ 0
seal_complete (sealed_as read made) secret status s s' t t' by is file trees told spells short none other = is
seal_complete (refused_by read fault) secret status s s' t t' by is file trees told spells short none other =
    absurd (not_both read trees fault (subst (λ v. FileOf v trees) (told_file by.0 told) spells) by.1)
seal_complete (unsealed read) secret status s s' t t' by is file trees told spells short none other = absurd (other is)
seal_complete (not_sealed TooLong) secret status s s' t t' by is file trees told spells short none other = absurd (too_many_of by told short)
seal_complete (not_sealed Failed) secret status s s' t t' by is file trees told spells short none other = absurd (stands none.0 by.faults)
seal_complete (not_sealed NoMemory) secret status s s' t t' by is file trees told spells short none other = absurd (other is)

seal_only : (way : Sealing) (secret : List ℕ) (s s' : SourceSeen) (t t' : SinkSeen) → SealedBy way secret s s' → ((sealing_end way).status ≡ 0) × Wrote (sealing_end way).text t t'
    → (file : List ℕ) → s.left file → (made : List ℕ) × (SealsFile file secret made × Wrote made t t')
seal_only (sealed_as read made) secret s s' t t' by own file told = (made, (subst (λ v. SealsFile v secret made) (sym (told_file by.0 told)) by.1, own.1))
seal_only (refused_by read fault) secret s s' t t' by own file told = absurd (omega (arith, own.0))
seal_only (unsealed read) secret s s' t t' by own file told = absurd (omega (arith, own.0))
seal_only (not_sealed err) secret s s' t t' by own file told = absurd (unread_some _ err (λ e. omega (arith, e)) own.0)

pub seals_by : (way : Sealing) (secret : List ℕ) (status : ℕ) (s s' : SourceSeen) (t t' : SinkSeen) → SealedBy way secret s s' → Tells (sealing_end way) status t t'
    → SealsInput secret status s s' t t'
seals_by way secret status s s' t t' by told = record {
  ends =
      ends_by way by told (λ none. none.1.0) (λ none. seal_ended way secret s s' t t' by none) (λ none. (sealing_kept way secret s s' t t' by none, (sink_kept told none.1.0, tt)));
  only = λ zero file held. seal_only way secret s s' t t' by (own_status told zero) file held;
  complete = λ file trees held spells short none other. seal_complete way secret status s s' t t' by (told_whole told none.1.0).0 file trees held spells short none other;
}

verdict_is : (cm cmts : Bool) → Contains (0 ∷ 6 ∷ 8 ∷ []) (status_by cm cmts)
verdict_is true true = (0, omega arith, refl)
verdict_is true false = (2, omega arith, refl)
verdict_is false cmts = (2, omega arith, refl)

check_ended : (way : Checking) (secret : List ℕ) (s s' : SourceSeen) (t t' : SinkSeen) → CheckedBy way secret s s' → Calm s s' t t' → Contains (0 ∷ 6 ∷ 8 ∷ []) (checking_end way).status
check_ended (answered file verdict) secret s s' t t' by none = verdict_is verdict.cm verdict.cmts
check_ended (refused_for file fault) secret s s' t t' by none = (2, omega arith, refl)
check_ended (not_checked err) secret s s' t t' by none = unread_status _ 8 err (0 ∷ 6 ∷ 8 ∷ []) _ _ by none.0 (1, omega arith, refl) (2, omega arith, refl)

good_text : {status : ℕ} {verdict : Verdict} {t t' : SinkSeen} → Good verdict → status ≡ 0 → Wrote (verdict_text verdict) t t' → AnswersGood status t t'
good_text {t = t} {t' = t'} good is wrote = (is, subst (λ v. Wrote v t t') good.text wrote)

check_complete : (way : Checking) (secret : List ℕ) (status : ℕ) (s s' : SourceSeen) (t t' : SinkSeen) → CheckedBy way secret s s'
    → (status ≡ (checking_end way).status) × Wrote (checking_end way).text t t' → (file : List ℕ) → s.left file → VerifiesFile file secret → length file ≤ 65536 → Calm s s' t t' → status ≢ 6
    → AnswersGood status t t'
check_complete (answered read verdict) secret status s s' t t' by whole file told right short none other =
    let good = good_verdict by.1 (subst (λ v. VerifiesFile v secret) (told_file by.0 told) right) in good_text good (whole.0 ∙ good.status) whole.1
check_complete (refused_for read fault) secret status s s' t t' by whole file told right short none other =
    absurd (never_refused by.1 (subst (λ v. VerifiesFile v secret) (told_file by.0 told) right))
check_complete (not_checked TooLong) secret status s s' t t' by whole file told right short none other = absurd (too_many_of by told short)
check_complete (not_checked Failed) secret status s s' t t' by whole file told right short none other = absurd (stands none.0 by.faults)
check_complete (not_checked NoMemory) secret status s s' t t' by whole file told right short none other = absurd (other whole.0)

check_only : (way : Checking) (secret : List ℕ) (status : ℕ) (s s' : SourceSeen) (t t' : SinkSeen) → CheckedBy way secret s s' → status ≡ 0
    → ((checking_end way).status ≡ 0) × Wrote (checking_end way).text t t' → (file : List ℕ) → s.left file → VerifiesFile file secret × AnswersGood status t t'
check_only (answered read verdict) secret status s s' t t' by zero own file told =
    let right = right_verdict by.1 own.0 in
    (subst (λ v. VerifiesFile v secret) (sym (told_file by.0 told)) right, good_text (good_verdict by.1 right) zero own.1)
check_only (refused_for read fault) secret status s s' t t' by zero own file told = absurd (omega (arith, own.0))
check_only (not_checked err) secret status s s' t t' by zero own file told = absurd (unread_some _ err (λ e. omega (arith, e)) own.0)

pub checks_by : (way : Checking) (secret : List ℕ) (status : ℕ) (s s' : SourceSeen) (t t' : SinkSeen) → CheckedBy way secret s s' → Tells (checking_end way) status t t'
    → ChecksInput secret status s s' t t'
checks_by way secret status s s' t t' by told =
    let complete = λ (file : List ℕ) (held : s.left file) (right : VerifiesFile file secret) (short : length file ≤ 65536) (none : Calm s s' t t') (other : status ≢ 6).
    check_complete way secret status s s' t t' by (told_whole told none.1.0) file held right short none other in
    record {
      ends =
          ends_by way by told (λ none. none.1.0) (λ none. check_ended way secret s s' t t' by none) (λ none. (checking_kept way secret s s' t t' by none, (sink_kept told none.1.0, tt)));
      only = λ zero file held. check_only way secret status s s' t t' by zero (own_status told zero) file held;
      complete = complete;
      sealed = λ plain file held seals short none other. complete file held (sealed_right plain file secret seals) short none other;
    }

-- the same ending under other names
pub tells_as : {of given : ℕ} {text wanted : List ℕ} {status : ℕ} {t t' : SinkSeen} → of ≡ given → text ≡ wanted → Tells (ending_of of text) status t t'
    → Tells (ending_of given wanted) status t t'
tells_as {of} {given} {text} {wanted} {status} {t} {t'} is same tells =
    subst (λ v. Tells (ending_of v wanted) status t t') is (subst (λ v. Tells (ending_of of v) status t t') same tells)

-- what `seal` says of why it gave no file
pub fault_of : (file held : List ℕ) (err : FileErr) (fault : ReadFault) → held ≡ file → err ≡ Read fault → WhyNotRead held err → IsFirstFault file fault
fault_of file held err fault same is why = subst (λ v. IsFirstFault v fault) same (let w : WhyNotRead held (Read fault) = subst (λ v. WhyNotRead held v) is why in w)

pub spelled_of : (file held : List ℕ) (err : FileErr) → held ≡ file → err ≡ Memory → WhyNotRead held err → (trees : List Tree) × FileOf file trees
spelled_of file held err same is why =
    let w : WhyNotRead held Memory = subst (λ v. WhyNotRead held v) is why in
    (w.0, subst (λ v. FileOf v w.0) same w.1)

pub verifies_of : {file held secret : List ℕ} {answer : Result Verdict MicFault} → held ≡ file
    → (reading : Result (List Tree) ReadFault) × Reads held reading × Verified secret reading answer → Verifies file secret answer
verifies_of {secret = secret} {answer = answer} same found =
    record { reading = found.0; reads = subst (λ v. Reads v found.0) same found.1; verified = found.2 }
