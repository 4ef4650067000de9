-- The bytes of a connection say one thing at most, and what they say stays.
use Rattle.std.proofs.Common.{◌≡◌, ◌≢◌, ℕ, ◌+◌, ◌≤◌, Bool, true, false, List, [], ◌++◌, length, take, drop, map, nat_le, Option, Some, None, MatchOption, inl, inr, refl, sym, ◌∙◌, subst, ap, arith, length-append, length-take}
use Rattle.std.proofs.lemmas.List.{take-append-le, drop-append-le}
use Rattle.std.proofs.lemmas.Bool.Decides.{nat_tests}
use Rattle.memchr.specs.Find.{FindsNeedle}
use Rattle.httparse.specs.Grammar.{RequestHead}
use Rattle.httparse.specs.Spans.{name_and_value}
use Rattle.httparse.proofs.GrammarLemmas.{request_unique}
use Rattle.off_http.specs.Request.{Meaning, Waits, Refused, Asked, head_limit, body_limit, blank_line, declared_length, IsOneHead, with_length, with_head, HeadSays, without_head, RequestIs}
use Rattle.off_http.specs.Heard.{IsAsked, asked_method, asked_target, asked_body}
use Rattle.off_http.proofs.Needles.{first_unique, first_in_longer}

pub head_limit_is : head_limit ≡ 8192
unfolding head_limit
head_limit_is = refl

pub one_head : (text : List ℕ) (head other : RequestHead) → IsOneHead text head → IsOneHead text other → head ≡ other
one_head text head other is also = (request_unique text head other [] [] is.0 also.0).0

heads_say_one : (text rest : List ℕ) (one other : Meaning) → HeadSays text rest one → HeadSays text rest other → one ≡ other
heads_say_one text rest one other (inl a) (inl b) =
    a.2 ∙ ap (λ head. with_head head rest) (one_head text a.0 b.0 a.1 b.1) ∙ sym b.2
heads_say_one text rest one other (inl a) (inr b) = absurd (b.0 a.0 a.1)
heads_say_one text rest one other (inr a) (inl b) = absurd (a.0 b.0 b.1)
heads_say_one text rest one other (inr a) (inr b) = a.1 ∙ sym b.1

-- what bytes say, by the place of their blank line
abbrev pub SaysAt : List ℕ → Meaning → Option ℕ → Type 0
SaysAt bytes meaning place =
    MatchOption place (meaning ≡ without_head bytes) (λ at. HeadSays (take (at + 4) bytes) (drop (at + 4) bytes) meaning)

say_one : (bytes : List ℕ) (one other : Meaning) (place : Option ℕ) → SaysAt bytes one place → SaysAt bytes other place → one ≡ other
say_one bytes one other None a b = a ∙ sym b
say_one bytes one other (Some at) a b = heads_say_one _ _ one other a b

pub one_meaning : (bytes : List ℕ) (one other : Meaning) → RequestIs bytes one → RequestIs bytes other → one ≡ other
one_meaning bytes one other a b =
    let same = first_unique blank_line _ a.place b.place a.first b.first in
    say_one bytes one other b.place (subst (SaysAt bytes one) same a.says) b.says

-- a body that has come whole stays as it is
with_length_stays : (head : RequestHead) (rest more : List ℕ) (declared : Option ℕ) → with_length head rest declared ≢ Waits
    → with_length head (rest ++ more) declared ≡ with_length head rest declared
with_length_stays head rest more None told = refl
with_length_stays head rest more (Some n) told = by_cases (nat_le n body_limit) (nat_le n (length rest)) refl refl
  where
    by_cases : (small come : Bool) → nat_le n body_limit ≡ small → nat_le n (length rest) ≡ come
        → with_length head (rest ++ more) (Some n) ≡ with_length head rest (Some n)
    by_cases false come small_is come_is = rw small_is refl
    by_cases true false small_is come_is = absurd (told (rw (small_is, come_is) refl))
    by_cases true true small_is come_is =
        let enough : n ≤ length rest = grind (arith, nat_tests) in
        let still : nat_le n (length (rest ++ more)) ≡ true = let l = length-append rest more in grind (arith, nat_tests) in
        let same = take-append-le n rest more enough in
        rw (small_is, come_is, still, same) refl

head_stays : (text rest more : List ℕ) (meaning : Meaning) → meaning ≢ Waits → HeadSays text rest meaning → HeadSays text (rest ++ more) meaning
head_stays text rest more meaning told (inl a) =
    inl (a.0, a.1, a.2 ∙ sym (with_length_stays a.0 rest more (declared_length (map name_and_value a.0.fields)) (λ waits. told (a.2 ∙ waits))))
head_stays text rest more meaning told (inr a) = inr a

stays_at : (bytes more : List ℕ) (meaning : Meaning) → meaning ≢ Waits → (place : Option ℕ) → FindsNeedle (take head_limit bytes) blank_line 0 place
    → SaysAt bytes meaning place → RequestIs (bytes ++ more) meaning
stays_at bytes more meaning told None first says = by_cases (nat_le head_limit (length bytes)) refl
  where
    by_cases : (many : Bool) → nat_le head_limit (length bytes) ≡ many → RequestIs (bytes ++ more) meaning
    by_cases false many_is = absurd (told (says ∙ rw many_is refl))
    by_cases true many_is =
        let enough : head_limit ≤ length bytes = grind (arith, nat_tests) in
        let still : nat_le head_limit (length (bytes ++ more)) ≡ true = let l = length-append bytes more in grind (arith, nat_tests) in
        record {
          place = None;
          first = subst (λ room. FindsNeedle room blank_line 0 None) (sym (take-append-le head_limit bytes more enough)) first;
          says = says ∙ rw (many_is, still) refl;
        }
stays_at bytes more meaning told (Some at) first says =
    let fits = first.1.fits in
    let within : at + 4 ≤ length bytes = omega (arith, length-take head_limit bytes) in
    let text = take-append-le (at + 4) bytes more within in
    let rest = drop-append-le (at + 4) bytes more within in
    record {
      place = Some at;
      first = first_in_longer blank_line head_limit bytes more at first;
      says = rw (text, rest) (head_stays _ _ more meaning told says);
    }

pub meaning_stays : (bytes more : List ℕ) (meaning : Meaning) → RequestIs bytes meaning → meaning ≢ Waits → RequestIs (bytes ++ more) meaning
meaning_stays bytes more meaning is told = stays_at bytes more meaning told is.place is.first is.says

-- a request that has come is of its parts
pub asked_is : (meaning : Meaning) → IsAsked meaning → meaning ≡ Asked (asked_method meaning) (asked_target meaning) (asked_body meaning)
asked_is Waits asked = absurd asked
asked_is (Refused fault) asked = absurd asked
asked_is (Asked method target body) asked = refl
