-- What a session knows of its bytes, as more of them come, and what they then say.
use Rattle.std.proofs.Common.{◌≡◌, ℕ, ◌+◌, ◌-◌, ◌≤◌, ◌<◌, true, false, List, [], ◌++◌, length, take, drop, nat_le, slice_range, Option, Some, None, inl, refl, sym, ◌∙◌, subst, ap, arith, length-take, length-drop, take-append-drop, append_assoc}
use Rattle.std.proofs.lemmas.List.{take-append-le, take-take, take_all, take_rest}
use Rattle.std.specs.Option.{option_map}
use Rattle.std.proofs.lemmas.Slice.{between_is}
use Rattle.std.proofs.lemmas.Bool.Decides.{nat_tests}
use Rattle.memchr.specs.Find.{FindsNeedle}
use Rattle.httparse.specs.Spans.{span_bytes}
use Rattle.off_http.specs.declared.answers.HttpFault.{HttpFault}
use Rattle.off_http.specs.declared.answers.HttpFault.TheVariants.{TooLong}
use Rattle.off_http.specs.declared.heads.Parts.{Parts}
use Rattle.off_http.specs.declared.stages.Stage.{Stage}
use Rattle.off_http.specs.declared.stages.Stage.TheVariants.{ReadingHead, ReadingBody, Finished, Failed}
use Rattle.off_http.specs.Request.{Meaning, Waits, Refused, head_limit, body_limit, blank_line, with_length, HeadSays, RequestIs}
use Rattle.off_http.specs.Heard.{IsPartOf, Answers}
use Rattle.off_http.specs.Stages.{HeadHas, HasHead, StageHolds, answer_of, stage_fed}
use Rattle.off_http.proofs.Needles.{first_in_longer, found_from, occurs_in_front}
use Rattle.off_http.proofs.Meanings.{head_limit_is, meaning_stays}

-- ---- parts of lists

pub slice_of_front : (n from to : ℕ) (bytes : List ℕ) → to ≤ n → slice_range (take n bytes) from to ≡ slice_range bytes from to
slice_of_front n from to bytes within =
    between_is (take n bytes) from to ∙ ap (drop from) (take-take to n bytes within) ∙ sym (between_is bytes from to)

slice_of_longer : (from to : ℕ) (bytes more : List ℕ) → to ≤ length bytes → slice_range (bytes ++ more) from to ≡ slice_range bytes from to
slice_of_longer from to bytes more within =
    between_is (bytes ++ more) from to ∙ ap (drop from) (take-append-le to bytes more within) ∙ sym (between_is bytes from to)

pub slice_is_part : (bytes : List ℕ) (from to : ℕ) → IsPartOf (slice_range bytes from to) bytes
slice_is_part bytes from to =
    (take from bytes, drop (to - from) (drop from bytes), sym (append_assoc (take from bytes) (slice_range bytes from to) (drop (to - from) (drop from bytes)) ∙ ap (λ rest. take from bytes ++ rest) (take-append-drop (to - from) (drop from bytes)) ∙ take-append-drop from bytes))

-- ---- a head that has come

pub head_within : (bytes : List ℕ) (parts : Parts) → HasHead bytes parts → (parts.head_len ≤ length bytes) × (parts.head_len ≤ 8192)
head_within bytes parts has =
    let fits = has.first.1.fits in
    let ends = has.ends in
    (omega (arith, length-take head_limit bytes), omega (arith, length-take head_limit bytes, head_limit_is))

head_in_longer : (bytes more : List ℕ) (parts : Parts) → HasHead bytes parts → HasHead (bytes ++ more) parts
head_in_longer bytes more parts has =
    let within = head_within bytes parts has in
    record {
      place = has.place;
      first = first_in_longer blank_line head_limit bytes more has.place has.first;
      ends = has.ends;
      has = subst (λ text. HeadHas text parts) (sym (take-append-le parts.head_len bytes more within.0)) has.has;
    }

-- the bytes that begin with a head say what it says
head_says : (bytes : List ℕ) (parts : Parts) (has : HasHead bytes parts) (meaning : Meaning)
    → meaning ≡ with_length has.has.head (drop parts.head_len bytes) (Some parts.body_len) → RequestIs bytes meaning
head_says bytes parts has meaning is =
    let ends : parts.head_len ≡ has.place + 4 = has.ends in
    let says : HeadSays (take parts.head_len bytes) (drop parts.head_len bytes) meaning =
    inl (has.has.head, has.has.is, is ∙ ap (with_length has.has.head (drop parts.head_len bytes)) (sym has.has.declared)) in
    record {
      place = Some has.place;
      first = has.first;
      says = subst (λ n. HeadSays (take n bytes) (drop n bytes) meaning) ends says;
    }

body_waits : (bytes : List ℕ) (parts : Parts) → HasHead bytes parts → length bytes < parts.head_len + parts.body_len → RequestIs bytes Waits
body_waits bytes parts has short =
    let within = (head_within bytes parts has).0 in
    let fits = has.has.fits in
    let small : nat_le parts.body_len body_limit ≡ true = grind (arith, nat_tests) in
    let few : nat_le parts.body_len (length (drop parts.head_len bytes)) ≡ false = let l = length-drop parts.head_len bytes in grind (arith, nat_tests) in
    head_says bytes parts has Waits (rw (small, few) refl)

body_comes : (bytes : List ℕ) (parts : Parts) → HasHead bytes parts → parts.head_len + parts.body_len ≤ length bytes
    → RequestIs bytes (answer_of bytes (Finished parts))
body_comes bytes parts has long =
    let fits = has.has.fits in
    let small : nat_le parts.body_len body_limit ≡ true = grind (arith, nat_tests) in
    let enough : nat_le parts.body_len (length (drop parts.head_len bytes)) ≡ true = let l = length-drop parts.head_len bytes in grind (arith, nat_tests) in
    let method : span_bytes bytes parts.method ≡ has.has.head.method = sym (slice_of_front _ _ _ bytes has.has.method.0.1) ∙ has.has.method.1 in
    let target : span_bytes bytes parts.target ≡ has.has.head.target = sym (slice_of_front _ _ _ bytes has.has.target.0.1) ∙ has.has.target.1 in
    let len : parts.head_len + parts.body_len - parts.head_len ≡ parts.body_len = omega arith in
    head_says bytes parts has _ (rw (small, enough, method, target, len) refl)

headless_waits : (bytes : List ℕ) → FindsNeedle bytes blank_line 0 None → length bytes < head_limit → RequestIs bytes Waits
headless_waits bytes nowhere short =
    let few : nat_le head_limit (length bytes) ≡ false = grind (arith, nat_tests) in
    record {
      place = None;
      first = subst (λ room. FindsNeedle room blank_line 0 None) (sym (take_all head_limit bytes (omega arith))) nowhere;
      says = rw few refl;
    }

pub headless_fails : (bytes : List ℕ) → FindsNeedle (take head_limit bytes) blank_line 0 None → head_limit ≤ length bytes → RequestIs bytes (Refused TooLong)
headless_fails bytes nowhere long =
    let many : nat_le head_limit (length bytes) ≡ true = grind (arith, nat_tests) in
    record { place = None; first = nowhere; says = rw many refl }

-- what a session knows tells what its bytes say
pub stage_says : (bytes : List ℕ) (stage : Stage) → StageHolds bytes stage → RequestIs bytes (answer_of bytes stage)
stage_says bytes ReadingHead holds = headless_waits bytes holds.0 holds.1
stage_says bytes (ReadingBody parts) holds = body_waits bytes parts holds.0 holds.1
stage_says bytes (Finished parts) holds = body_comes bytes parts holds.0 holds.1
stage_says bytes (Failed fault) holds = holds

pub stage_answers : (bytes : List ℕ) (stage : Stage) → Answers (stage_fed stage) (answer_of bytes stage)
stage_answers bytes ReadingHead = refl
stage_answers bytes (ReadingBody parts) = refl
stage_answers bytes (Finished parts) = tt
stage_answers bytes (Failed fault) = refl

-- ---- more bytes, behind the first `seen`

pub head_stays : (bytes : List ℕ) (seen : ℕ) (parts : Parts) → HasHead (take seen bytes) parts → HasHead bytes parts
head_stays bytes seen parts has =
    subst (λ all. HasHead all parts) (take-append-drop seen bytes) (head_in_longer (take seen bytes) (drop seen bytes) parts has)

pub finished_stays : (bytes : List ℕ) (seen : ℕ) (parts : Parts) → StageHolds (take seen bytes) (Finished parts) → StageHolds bytes (Finished parts)
finished_stays bytes seen parts holds =
    let long = holds.1 in
    (head_stays bytes seen parts holds.0, omega (arith, length-take seen bytes))

pub failed_stays : (bytes : List ℕ) (seen : ℕ) (fault : HttpFault) → RequestIs (take seen bytes) (Refused fault) → RequestIs bytes (Refused fault)
failed_stays bytes seen fault is =
    subst (λ all. RequestIs all (Refused fault)) (take-append-drop seen bytes)
    (meaning_stays (take seen bytes) (drop seen bytes) (Refused fault) is (λ same. cc))

-- ---- a head that comes now

pub head_comes : (bytes : List ℕ) (at : ℕ) (parts : Parts) → FindsNeedle (take head_limit bytes) blank_line 0 (Some at)
    → HeadHas (take (at + 4) bytes) parts → HasHead bytes parts
head_comes bytes at parts first has =
    let fits = first.1.fits in
    let ends = has.ends in
    let len : parts.head_len ≡ at + 4 = omega (arith, length-take (at + 4) bytes, length-take head_limit bytes) in
    record { place = at; first = first; ends = len; has = subst (λ n. HeadHas (take n bytes) parts) (sym len) has }

pub head_fails : (bytes : List ℕ) (at : ℕ) (fault : HttpFault) → FindsNeedle (take head_limit bytes) blank_line 0 (Some at)
    → ((rest : List ℕ) → HeadSays (take (at + 4) bytes) rest (Refused fault)) → RequestIs bytes (Refused fault)
head_fails bytes at fault first says = record { place = Some at; first = first; says = says (drop (at + 4) bytes) }

pub nothing_holds : (bytes : List ℕ) → bytes ≡ [] → StageHolds bytes ReadingHead
nothing_holds bytes none =
    let empty : length bytes ≡ 0 = ap length none in
    (λ k _ _ occurs. let fits = occurs.fits in absurd (omega arith), omega (arith, head_limit_is))

-- ---- the search for the blank line

-- it begins with the last three bytes of those that had none
pub blank_line_found : (room : List ℕ) (seen from : ℕ) (r : Option ℕ) → seen ≤ length room → from ≡ seen - 3 → FindsNeedle (take seen room) blank_line 0 None
    → FindsNeedle (take (length room - from) (drop from room)) blank_line 0 r → FindsNeedle room blank_line 0 (option_map (λ k. from + k) r)
blank_line_found room seen from r within from_is unseen finds =
    found_from blank_line room from r (omega arith)
    (λ k early occurs. unseen k (omega arith) (omega (arith, length-take seen room)) (occurs_in_front blank_line room seen k (omega arith) occurs))
    (subst (λ rest. FindsNeedle rest blank_line 0 r) (take_rest room from) finds)

-- none among those that had come is none among the first that a head may have
pub none_seen : (bytes : List ℕ) (seen : ℕ) → seen ≤ length bytes → StageHolds (take seen bytes) ReadingHead
    → FindsNeedle (take seen (take head_limit bytes)) blank_line 0 None
none_seen bytes seen within holds =
    let short = holds.1 in
    subst (λ front. FindsNeedle front blank_line 0 None) (sym (take-take seen head_limit bytes (omega (arith, length-take seen bytes)))) holds.0

pub none_come : (bytes : List ℕ) → FindsNeedle (take head_limit bytes) blank_line 0 None → length bytes < 8192 → StageHolds bytes ReadingHead
none_come bytes nowhere short =
    let few : length bytes < head_limit = omega (arith, head_limit_is) in
    (subst (λ front. FindsNeedle front blank_line 0 None) (take_all head_limit bytes (omega arith)) nowhere, few)
