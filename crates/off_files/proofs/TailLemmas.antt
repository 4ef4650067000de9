-- A body and its tail against the sealed file.
use Rattle.std.proofs.Common.{◌≡◌, ℕ, ◌+◌, ◌-◌, ◌%◌, List, [], ◌∷◌, ◌++◌, length, take, refl, sym, ap, ◌∙◌, append_assoc, length-append, arith}
use Rattle.std.proofs.lemmas.List.Concat.{flat_map-append}
use Rattle.off_base.specs.Tree.{Tree, leaf, spelled, spelling}
use Rattle.off_base.specs.declared.addresses.Ip4.{Ip4}
use Rattle.off_tlv.specs.Grammar.{end_byte}
use Rattle.off_mic.specs.Mic.{without_mics, cm_mic_of, cmts_mic_of, with_both}
use Rattle.off_mic.specs.Seal.{EndsPadded}
use Rattle.off_mic.specs.Started.{NoneFirst}
use Rattle.off_mic.proofs.SealLemmas.{neither_join, end_pushed, sealed_is}
use Rattle.off_file_rules.specs.File.{stamps, IsBuilt}

spelling_join : (ts us : List Tree) → spelling (ts ++ us) ≡ spelling ts ++ spelling us
spelling_join ts us = flat_map-append spelled ts us

-- settings with both values behind them, in two pieces
both_in_two : (secret : List ℕ) (front back : List Tree) (cmts : List ℕ)
    → cmts ≡ cmts_mic_of secret (front ++ (back ++ leaf 6 (cm_mic_of (front ++ back)) ∷ []))
    → spelling front ++ spelling ((back ++ leaf 6 (cm_mic_of (front ++ back)) ∷ []) ++ leaf 7 cmts ∷ []) ≡ spelling (with_both secret (front ++ back))
both_in_two secret front back cmts is =
    let cm : Tree = leaf 6 (cm_mic_of (front ++ back)) in
    let one : front ++ (back ++ leaf 6 (cm_mic_of (front ++ back)) ∷ []) ≡ (front ++ back) ++ leaf 6 (cm_mic_of (front ++ back)) ∷ [] =
    sym (append_assoc front back (leaf 6 (cm_mic_of (front ++ back)) ∷ [])) in
    sym (spelling_join front ((back ++ leaf 6 (cm_mic_of (front ++ back)) ∷ []) ++ leaf 7 cmts ∷ []))
    ∙ ap spelling (sym (append_assoc front (back ++ leaf 6 (cm_mic_of (front ++ back)) ∷ []) (leaf 7 cmts ∷ [])))
    ∙ ap (λ (x : List ℕ). spelling ((front ++ (back ++ leaf 6 (cm_mic_of (front ++ back)) ∷ [])) ++ leaf 7 x ∷ [])) is
    ∙ ap (λ (x : List Tree). spelling (x ++ leaf 7 (cmts_mic_of secret x) ∷ [])) one

pub tail_seals : (secret : List ℕ) (now : ℕ) (ip : Ip4) (profile : List Tree) (body stamped with_cm with_cmts ended : List ℕ)
    → body ≡ spelling profile → without_mics profile ≡ profile
    → stamped ≡ spelling (stamps now ip)
    → ((front back : List Tree) → body ≡ spelling front → stamped ≡ spelling back → with_cm ≡ spelling (back ++ leaf 6 (cm_mic_of (front ++ back)) ∷ []))
    → ((front back : List Tree) → body ≡ spelling front → with_cm ≡ spelling back → NoneFirst back → with_cmts ≡ spelling (back ++ leaf 7 (cmts_mic_of secret (front ++ back)) ∷ []))
    → EndsPadded (body ++ with_cmts) (body ++ ended) → IsBuilt secret profile now ip (body ++ ended)
tail_seals secret now ip profile body stamped with_cm with_cmts ended b neither s cm cmts end =
    let back : List Tree = stamps now ip in
    let first : with_cm ≡ spelling (stamps now ip ++ leaf 6 (cm_mic_of (profile ++ stamps now ip)) ∷ []) = cm profile (stamps now ip) b s in
    let second : with_cmts ≡ spelling
    ((stamps now ip ++ leaf 6 (cm_mic_of (profile ++ stamps now ip)) ∷ [])
    ++ leaf 7 (cmts_mic_of secret (profile ++ (stamps now ip ++ leaf 6 (cm_mic_of (profile ++ stamps now ip)) ∷ []))) ∷ []) =
    cmts profile (stamps now ip ++ leaf 6 (cm_mic_of (profile ++ stamps now ip)) ∷ []) b first refl in
    let whole : body ++ with_cmts ≡ spelling (with_both secret (profile ++ stamps now ip)) =
    ap (λ (x : List ℕ). x ++ with_cmts) b ∙ ap (λ (x : List ℕ). spelling profile ++ x) second
    ∙ both_in_two secret profile (stamps now ip) (cmts_mic_of secret (profile ++ (stamps now ip ++ leaf 6 (cm_mic_of (profile ++ stamps now ip)) ∷ []))) refl in
    sealed_is secret (profile ++ stamps now ip) (body ++ with_cmts) (body ++ ended) (neither_join profile (stamps now ip) neither refl) whole end

-- the end marker and the pads stand behind what is held, and count from the body's first byte
pub end_held : (body old marked new : List ℕ) (long held pads : ℕ) → marked ≡ old ++ end_byte ∷ [] → long ≡ length body → held ≡ length marked
    → pads ≡ (4 - (long % 4 + held) % 4) % 4 → new ≡ marked ++ take pads (0 ∷ 0 ∷ 0 ∷ []) → EndsPadded (body ++ old) (body ++ new)
end_held body old marked new long held pads m l h p n =
    let joined : body ++ marked ≡ (body ++ old) ++ end_byte ∷ [] = ap (λ (x : List ℕ). body ++ x) m ∙ sym (append_assoc body old (end_byte ∷ [])) in
    let count : length (body ++ marked) ≡ long + held = length-append body marked ∙ omega arith in
    let same : pads ≡ (4 - length (body ++ marked) % 4) % 4 = omega arith in
    end_pushed (body ++ old) (body ++ marked) (body ++ new) pads joined same (ap (λ (x : List ℕ). body ++ x) n ∙ sym (append_assoc body marked (take pads (0 ∷ 0 ∷ 0 ∷ []))))
