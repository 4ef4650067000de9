-- Sealed files: that there is one, what it reads as, and that it stays.
use Rattle.std.proofs.Common.{◌≡◌, ℕ, suc, ◌+◌, ◌-◌, ◌%◌, ◌≤◌, Bool, true, false, cond, eqb, List, [], ◌∷◌, ◌++◌, length, map, replicate, take, refl, sym, ap, subst, ◌∙◌, append-nil, append_assoc, length-append, arith, Result, Ok, Err, MatchResult}
use Rattle.std.specs.Prelude.{not}
use Rattle.std.specs.List.{filter}
use Rattle.std.proofs.lemmas.Bool.Decides.{nat_tests}
use Rattle.std.proofs.lemmas.List.{take-replicate, length-replicate}
use Rattle.std.proofs.lemmas.List.Elements.{filter-append}
use Rattle.md5.specs.Md5.{md5}
use Rattle.md5.proofs.StandardFacts.{length-md5}
use Rattle.off_base.specs.Tree.{Tree, leaf, code_of, spelling, trees_length}
use Rattle.off_tlv.specs.Grammar.{end_byte, pad_byte, in_file, is_code, is_group, Stands, AllStand, FileOf}
use Rattle.off_tlv.specs.Fault.{IsFirstFault}
use Rattle.off_tlv.specs.Told.{WhyNotRead}
use Rattle.off_tlv.specs.declared.faults.ReadFault.{ReadFault}
use Rattle.off_tlv.specs.declared.faults.FileErr.{FileErr}
use Rattle.off_tlv.specs.declared.faults.FileErr.TheVariants.{Read, Memory}
use Rattle.off_tlv.proofs.GrammarLemmas.{one_reading}
use Rattle.off_tlv.proofs.FrontLemmas.{AllStand-push, spelling-push}
use Rattle.off_mic.specs.Hmac.{hmac, inner_pad, outer_pad}
use Rattle.off_mic.specs.Mic.{is_mic, without_mics, of_code, value_of, setting_values, cm_mic_of, cmts_mic_of, digest_order, text_of_codes, digest_text, with_cm, with_both, Sealed}
use Rattle.off_mic.specs.Seal.{SealsFile, GivesSealed, EndsPadded}
use Rattle.off_mic.specs.Laws.{SealedIsOne, SealedVerifies, SealedStays, VerdictTells}

pub length-hmac : (key message : List ℕ) → length (hmac key message) ≡ 16
unfolding hmac
length-hmac key message = length-md5 (outer_pad key ++ md5 (inner_pad key ++ message))

-- a filter twice
kept : (p : Tree → Bool) (t : Tree) (ts : List Tree) (b : Bool) → p t ≡ b → filter p ts ≡ ts → filter p (cond b (t ∷ ts) ts) ≡ cond b (t ∷ ts) ts
kept p t ts true e h = ap (λ (x : Bool). cond x (t ∷ filter p ts) (filter p ts)) e ∙ ap (λ (x : List Tree). t ∷ x) h
kept p t ts false e h = h

filter_again : (p : Tree → Bool) (ts : List Tree) → filter p (filter p ts) ≡ filter p ts
filter_again p [] = refl
filter_again p (t ∷ ts) = kept p t (filter p ts) (p t) refl (filter_again p ts)

pub without_again : (ts : List Tree) → without_mics (without_mics ts) ≡ without_mics ts
without_again ts = filter_again (λ t. not (is_mic (code_of t))) ts

-- of settings without the two values none has their codes
none_of : (code : ℕ) (t : Tree) (ts : List Tree) (b : Bool) → is_mic code ≡ true → not (is_mic (code_of t)) ≡ b → of_code code ts ≡ [] → of_code code (cond b (t ∷ ts) ts) ≡ []
none_of code t ts true mic e h =
    let other : eqb (code_of t) code ≡ false = grind (arith, nat_tests) in
    ap (λ (x : Bool). cond x (t ∷ of_code code ts) (of_code code ts)) other ∙ h
none_of code t ts false mic e h = h

no_mic_left : (code : ℕ) (ts : List Tree) → is_mic code ≡ true → of_code code (without_mics ts) ≡ []
no_mic_left code [] mic = refl
no_mic_left code (t ∷ ts) mic = none_of code t (without_mics ts) (not (is_mic (code_of t))) mic refl (no_mic_left code ts mic)

no_mic : (code : ℕ) (ts : List Tree) → is_mic code ≡ true → without_mics ts ≡ ts → of_code code ts ≡ []
no_mic code ts mic neither = ap (of_code code) (sym neither) ∙ no_mic_left code ts mic

pub of_code-append : (code : ℕ) (ts us : List Tree) → of_code code (ts ++ us) ≡ of_code code ts ++ of_code code us
of_code-append code ts us = filter-append (λ t. eqb (code_of t) code) ts us

without_mics-append : (ts us : List Tree) → without_mics (ts ++ us) ≡ without_mics ts ++ without_mics us
without_mics-append ts us = filter-append (λ t. not (is_mic (code_of t))) ts us

-- settings without the two values' codes behind others
pub neither_join : (ts us : List Tree) → without_mics ts ≡ ts → without_mics us ≡ us → without_mics (ts ++ us) ≡ ts ++ us
neither_join ts us a b = without_mics-append ts us ∙ ap (λ (x : List Tree). x ++ without_mics us) a ∙ ap (λ (x : List Tree). ts ++ x) b

-- the settings with both values, without them
pub without_both : (secret : List ℕ) (ts : List Tree) → without_mics ts ≡ ts → without_mics (with_both secret ts) ≡ ts
without_both secret ts neither =
    without_mics-append (with_cm ts) (leaf 7 (cmts_mic_of secret (with_cm ts)) ∷ []) ∙ append-nil (without_mics (with_cm ts))
    ∙ without_mics-append ts (leaf 6 (cm_mic_of ts) ∷ []) ∙ append-nil (without_mics ts) ∙ neither

six_of_both : (secret : List ℕ) (ts : List Tree) → without_mics ts ≡ ts → of_code 6 (with_both secret ts) ≡ leaf 6 (cm_mic_of ts) ∷ []
six_of_both secret ts neither =
    of_code-append 6 (with_cm ts) (leaf 7 (cmts_mic_of secret (with_cm ts)) ∷ []) ∙ append-nil (of_code 6 (with_cm ts))
    ∙ of_code-append 6 ts (leaf 6 (cm_mic_of ts) ∷ []) ∙ ap (λ (x : List Tree). x ++ leaf 6 (cm_mic_of ts) ∷ []) (no_mic 6 ts refl neither)

seven_of_both : (secret : List ℕ) (ts : List Tree) → without_mics ts ≡ ts → of_code 7 (with_both secret ts) ≡ leaf 7 (cmts_mic_of secret (with_cm ts)) ∷ []
seven_of_both secret ts neither =
    of_code-append 7 (with_cm ts) (leaf 7 (cmts_mic_of secret (with_cm ts)) ∷ [])
    ∙ ap (λ (x : List Tree). x ++ leaf 7 (cmts_mic_of secret (with_cm ts)) ∷ [])
    (of_code-append 7 ts (leaf 6 (cm_mic_of ts) ∷ []) ∙ append-nil (of_code 7 ts) ∙ no_mic 7 ts refl neither)

-- setting 7 isn't covered by the termination system's value
abbrev lacks_seven : List ℕ → Bool
lacks_seven [] = true
lacks_seven (c ∷ cs) = cond (eqb 7 c) false (lacks_seven cs)

uncovered : (c : ℕ) (cs : List ℕ) (ts : List Tree) (value : List ℕ) (b : Bool) → eqb 7 c ≡ b → cond b false (lacks_seven cs) ≡ true
    → (lacks_seven cs ≡ true → text_of_codes cs (ts ++ leaf 7 value ∷ []) ≡ text_of_codes cs ts)
    → text_of_codes (c ∷ cs) (ts ++ leaf 7 value ∷ []) ≡ text_of_codes (c ∷ cs) ts
uncovered c cs ts value true is e more = cc
uncovered c cs ts value false is e more =
    let one : of_code c (ts ++ leaf 7 value ∷ []) ≡ of_code c ts =
    of_code-append c ts (leaf 7 value ∷ []) ∙ ap (λ (x : Bool). of_code c ts ++ cond x (leaf 7 value ∷ []) []) is ∙ append-nil (of_code c ts) in
    ap (λ (x : List Tree). spelling x ++ text_of_codes cs (ts ++ leaf 7 value ∷ [])) one ∙ ap (λ (x : List ℕ). spelling (of_code c ts) ++ x) (more e)

not_covered : (codes : List ℕ) (ts : List Tree) (value : List ℕ) → lacks_seven codes ≡ true → text_of_codes codes (ts ++ leaf 7 value ∷ []) ≡ text_of_codes codes ts
not_covered [] ts value e = refl
not_covered (c ∷ cs) ts value e = uncovered c cs ts value (eqb 7 c) refl e (not_covered cs ts value)

digest_of_both : (secret : List ℕ) (ts : List Tree) → digest_text (with_both secret ts) ≡ digest_text (with_cm ts)
unfolding digest_text
digest_of_both secret ts = not_covered digest_order (with_cm ts) (cmts_mic_of secret (with_cm ts)) refl

-- ---- how a sealed file is made

pub cm_pushed : (ts : List Tree) (out mic new : List ℕ) → out ≡ spelling ts → mic ≡ cm_mic_of (ts ++ []) → new ≡ out ++ 6 ∷ 16 ∷ mic → new ≡ spelling (with_cm ts)
cm_pushed ts out mic new a m e =
    let is : mic ≡ cm_mic_of ts = m ∙ ap cm_mic_of (append-nil ts) in
    e ∙ ap (λ (x : List ℕ). x ++ 6 ∷ 16 ∷ mic) a ∙ ap (λ (x : List ℕ). spelling ts ++ 6 ∷ 16 ∷ x) is
    ∙ ap (λ (x : ℕ). spelling ts ++ 6 ∷ x ∷ cm_mic_of ts) (sym (length-md5 (spelling (without_mics ts)))) ∙ sym (spelling-push ts (leaf 6 (cm_mic_of ts)))

pub both_pushed : (secret : List ℕ) (ts : List Tree) (out mic new : List ℕ) → out ≡ spelling (with_cm ts) → mic ≡ cmts_mic_of secret (with_cm ts ++ []) → new ≡ out ++ 7 ∷ 16 ∷ mic
    → new ≡ spelling (with_both secret ts)
both_pushed secret ts out mic new a m e =
    let is : mic ≡ cmts_mic_of secret (with_cm ts) = m ∙ ap (cmts_mic_of secret) (append-nil (with_cm ts)) in
    e ∙ ap (λ (x : List ℕ). x ++ 7 ∷ 16 ∷ mic) a ∙ ap (λ (x : List ℕ). spelling (with_cm ts) ++ 7 ∷ 16 ∷ x) is
    ∙ ap (λ (x : ℕ). spelling (with_cm ts) ++ 7 ∷ x ∷ cmts_mic_of secret (with_cm ts)) (sym (length-hmac secret (digest_text (with_cm ts))))
    ∙ sym (spelling-push (with_cm ts) (leaf 7 (cmts_mic_of secret (with_cm ts))))

pub end_pushed : (old out new : List ℕ) (pads : ℕ) → out ≡ old ++ end_byte ∷ [] → pads ≡ (4 - length out % 4) % 4 → new ≡ out ++ take pads (0 ∷ 0 ∷ 0 ∷ []) → EndsPadded old new
end_pushed old out new pads a n e =
    let few : pads ≤ 3 = omega arith in
    let zeros : take pads (0 ∷ 0 ∷ 0 ∷ []) ≡ replicate pads 0 = take-replicate pads 3 0 few in
    let long : length new ≡ length out + pads = ap length e ∙ length-append out (take pads (0 ∷ 0 ∷ 0 ∷ [])) ∙ ap (λ (x : List ℕ). length out + length x) zeros ∙ ap (λ (x : ℕ). length out + x) (length-replicate pads 0) in
    record {
      pads = pads;
      few = few;
      whole = e ∙ ap (λ (x : List ℕ). out ++ x) zeros ∙ ap (λ (x : List ℕ). x ++ replicate pads 0) a ∙ append_assoc old (end_byte ∷ []) (replicate pads 0);
      aligned = omega arith;
    }

pub sealed_is : (secret : List ℕ) (ts : List Tree) (out new : List ℕ) → without_mics ts ≡ ts → out ≡ spelling (with_both secret ts) → EndsPadded out new → Sealed new ts secret
sealed_is secret ts out new neither a e =
    record { neither = neither; pads = e.pads; few = e.few; whole = e.whole ∙ ap (λ (x : List ℕ). x ++ end_byte ∷ replicate e.pads pad_byte) a; aligned = e.aligned }

-- ---- the laws

pub sealed_is_one : SealedIsOne
sealed_is_one file other secret trees a b =
    let long : (f : List ℕ) (s : Sealed f trees secret) → length f ≡ length (spelling (with_both secret trees)) + (1 + s.pads) =
    λ f s. ap length s.whole ∙ length-append (spelling (with_both secret trees)) (end_byte ∷ replicate s.pads pad_byte) ∙ ap (λ (x : ℕ). length (spelling (with_both secret trees)) + x) (ap suc (length-replicate s.pads 0) ∙ omega arith) in
    let one : length file ≡ length (spelling (with_both secret trees)) + (1 + a.pads) = long file a in
    let two : length other ≡ length (spelling (with_both secret trees)) + (1 + b.pads) = long other b in
    let fa : a.pads ≤ 3 = a.few in
    let fb : b.pads ≤ 3 = b.few in
    let ma : length file % 4 ≡ 0 = a.aligned in
    let mb : length other % 4 ≡ 0 = b.aligned in
    let same : a.pads ≡ b.pads = omega arith in
    a.whole ∙ ap (λ (n : ℕ). spelling (with_both secret trees) ++ end_byte ∷ replicate n pad_byte) same ∙ sym b.whole

mic_stands : (code : ℕ) (value : List ℕ) → (is_code in_file code ≡ true) → (is_group in_file code ≡ false) → length value ≡ 16 → Stands in_file (leaf code value)
mic_stands code value is single long = record { shaped = (is, single); fits = omega (arith, long) }

sealed_reads : (file secret : List ℕ) (trees : List Tree) → AllStand in_file trees → Sealed file trees secret → FileOf file (with_both secret trees)
sealed_reads file secret trees stand s =
    record {
      stand = AllStand-push in_file (with_cm trees) (leaf 7 (cmts_mic_of secret (with_cm trees)))
          (AllStand-push in_file trees (leaf 6 (cm_mic_of trees)) stand (mic_stands 6 (cm_mic_of trees) refl refl (length-md5 (spelling (without_mics trees)))))
          (mic_stands 7 (cmts_mic_of secret (with_cm trees)) refl refl (length-hmac secret (digest_text (with_cm trees))));
      pads = s.pads;
      whole = s.whole;
    }

pub sealed_verifies : SealedVerifies
sealed_verifies file secret trees stand s =
    let reads = sealed_reads file secret trees stand s in (
      reads,
      record {
        trees = with_both secret trees;
        spells = reads;
        cm = ap (map value_of) (six_of_both secret trees s.neither) ∙ ap (λ (x : List Tree). md5 (spelling x) ∷ []) (s.neither ∙ sym (without_both secret trees s.neither));
        cmts = ap (map value_of) (seven_of_both secret trees s.neither) ∙ ap (λ (x : List ℕ). hmac secret x ∷ []) (sym (digest_of_both secret trees));
      },
    )

pub sealed_stays : SealedStays
sealed_stays file again secret trees stand s other =
    let reads = sealed_reads file secret trees stand s in
    let same : Ok other.trees ≡ Ok (with_both secret trees) = one_reading file (Ok other.trees) (Ok (with_both secret trees)) other.spells reads in
    let same_trees : other.trees ≡ with_both secret trees = cc in
    let settings : without_mics other.trees ≡ trees = ap without_mics same_trees ∙ without_both secret trees s.neither in
    sealed_is_one again file secret trees (subst (λ (x : List Tree). Sealed again x secret) settings other.seals) s

pub verdict_tells : VerdictTells
verdict_tells file secret trees verdict spells is = (
  (λ both. record { trees = trees; spells = spells; cm = is.cm.0 both.0; cmts = is.cmts.0 both.1 }),
  (λ v.
      let same : Ok v.trees ≡ Ok trees = one_reading file (Ok v.trees) (Ok trees) v.spells spells in
      let one : v.trees ≡ trees = cc in
      (is.cm.1 (subst (λ (x : List Tree). setting_values 6 x ≡ cm_mic_of x ∷ []) one v.cm), is.cmts.1 (subst (λ (x : List Tree). setting_values 7 x ≡ cmts_mic_of secret x ∷ []) one v.cmts))),
)

-- ---- what `seal` answers

pub seal_only : (file secret : List ℕ) (answer : Result (List ℕ) FileErr) → MatchResult answer (SealsFile file secret) (WhyNotRead file) → (trees : List Tree) → FileOf file trees
    → GivesSealed trees secret answer
seal_only file secret (Ok bytes) s trees spells =
    let same : Ok s.trees ≡ Ok trees = one_reading file (Ok s.trees) (Ok trees) s.spells spells in
    let one : s.trees ≡ trees = cc in
    subst (λ (x : List Tree). Sealed bytes (without_mics x) secret) one s.seals
seal_only file secret (Err (Read fault)) s trees spells =
    let clash : Err fault ≡ Ok trees = one_reading file (Err fault) (Ok trees) s spells in
    cc
seal_only file secret (Err Memory) s trees spells = refl

pub seal_first : (file secret : List ℕ) (answer : Result (List ℕ) FileErr) → MatchResult answer (SealsFile file secret) (WhyNotRead file) → (fault : ReadFault) → IsFirstFault file fault
    → answer ≡ Err (Read fault)
seal_first file secret (Ok bytes) s fault is =
    let clash : Ok s.trees ≡ Err fault = one_reading file (Ok s.trees) (Err fault) s.spells is in
    cc
seal_first file secret (Err (Read other)) s fault is =
    let same : Err other ≡ Err fault = one_reading file (Err other) (Err fault) s is in
    let faults : other ≡ fault = cc in
    ap (λ (x : ReadFault). Err (Read x)) faults
seal_first file secret (Err Memory) s fault is =
    let clash : Ok s.0 ≡ Err fault = one_reading file (Ok s.0) (Err fault) s.1 is in
    cc

-- ---- how long the settings are with both digests

pub length_join : (ts us : List Tree) → trees_length (ts ++ us) ≡ trees_length ts + trees_length us
length_join [] us = omega arith
length_join (t ∷ ts) us = omega (arith, length_join ts us)

pub length_both : (secret : List ℕ) (ts : List Tree) → trees_length (with_both secret ts) ≡ trees_length ts + 36
length_both secret ts =
    omega (
      arith,
      length_join (with_cm ts) (leaf 7 (cmts_mic_of secret (with_cm ts)) ∷ []),
      length_join ts (leaf 6 (cm_mic_of ts) ∷ []),
      length-hmac secret (digest_text (with_cm ts)),
      length-md5 (spelling (without_mics ts)),
    )
