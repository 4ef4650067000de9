-- A needle in a list, in its front, and in a longer list; and its first place there.
use Rattle.std.proofs.Common.{◌≡◌, ℕ, ◌+◌, ◌-◌, ◌<◌, ◌≤◌, List, ◌++◌, length, take, drop, Option, Some, None, sym, ◌∙◌, subst, arith, add_assoc, length-append, length-take, length-drop, ⊎_elim}
use Rattle.std.specs.Option.{option_map}
use Rattle.std.proofs.lemmas.List.{get_or_append_left, get_or-take, get_or-drop}
use Rattle.std.proofs.lemmas.Bool.{cases_lt}
use Rattle.memchr.specs.Find.{OccursAt, FindsNeedle}
use Rattle.memchr.proofs.lemmas.ValueLemmas.{FindsNeedle-value}

module _ (needle : List ℕ) where
  pub occurs_in_front : (hay : List ℕ) (n k : ℕ) → k + length needle ≤ n → OccursAt hay needle k → OccursAt (take n hay) needle k
  occurs_in_front hay n k within occurs =
      let fits = occurs.fits in record {
        fits = omega (arith, length-take n hay);
        reads = λ j below. get_or-take n hay (k + j) 0 (omega arith) ∙ occurs.reads j below;
      }

  pub occurs_from_front : (hay : List ℕ) (n k : ℕ) → OccursAt (take n hay) needle k → OccursAt hay needle k
  occurs_from_front hay n k occurs =
      let fits = occurs.fits in record {
        fits = omega (arith, length-take n hay);
        reads = λ j below. sym (get_or-take n hay (k + j) 0 (omega (arith, length-take n hay))) ∙ occurs.reads j below;
      }

  pub occurs_in_longer : (hay more : List ℕ) (k : ℕ) → OccursAt hay needle k → OccursAt (hay ++ more) needle k
  occurs_in_longer hay more k occurs =
      let fits = occurs.fits in record {
        fits = omega (arith, length-append hay more);
        reads = λ j below. get_or_append_left hay more 0 (k + j) (omega arith) ∙ occurs.reads j below;
      }

  pub occurs_from_longer : (hay more : List ℕ) (k : ℕ) → k + length needle ≤ length hay → OccursAt (hay ++ more) needle k → OccursAt hay needle k
  occurs_from_longer hay more k within occurs = record {
    fits = within;
    reads = λ j below. sym (get_or_append_left hay more 0 (k + j) (omega arith)) ∙ occurs.reads j below;
  }

  pub occurs_from_rest : (hay : List ℕ) (from k : ℕ) → from ≤ length hay → OccursAt (drop from hay) needle k → OccursAt hay needle (from + k)
  occurs_from_rest hay from k within occurs =
      let fits = occurs.fits in record {
        fits = omega (arith, length-drop from hay);
        reads = λ j below. rw add_assoc (sym (get_or-drop from hay (k + j) 0) ∙ occurs.reads j below);
      }

  pub occurs_in_rest : (hay : List ℕ) (from k : ℕ) → OccursAt hay needle (from + k) → OccursAt (drop from hay) needle k
  occurs_in_rest hay from k occurs =
      let fits = occurs.fits in record {
        fits = omega (arith, length-drop from hay);
        reads = λ j below. get_or-drop from hay (k + j) 0 ∙ rw (← add_assoc) (occurs.reads j below);
      }

  nowhere : (hay : List ℕ) (from end k : ℕ) → ((k : ℕ) → k < from → OccursAt hay needle k → ⊥)
      → ((k : ℕ) → 0 ≤ k → k < end → OccursAt (drop from hay) needle k → ⊥) → k < from + end → OccursAt hay needle k → ⊥
  nowhere hay from end k before behind below occurs =
      ⊎_elim (λ early. before k early occurs)
      (λ late.
      let at : k ≡ from + (k - from) = omega arith in
      behind (k - from) (omega arith) (omega arith) (occurs_in_rest hay from (k - from) (subst (OccursAt hay needle) at occurs)))
      (cases_lt k from)

  -- a search that leaves out what comes before `from`, where the needle is nowhere
  pub found_from : (hay : List ℕ) (from : ℕ) (r : Option ℕ) → from ≤ length hay → ((k : ℕ) → k < from → OccursAt hay needle k → ⊥)
      → FindsNeedle (drop from hay) needle 0 r → FindsNeedle hay needle 0 (option_map (λ k. from + k) r)
  found_from hay from None within before finds =
      λ k _ below occurs. nowhere hay from (length (drop from hay) + 1) k before finds (omega (arith, length-drop from hay)) occurs
  found_from hay from (Some at) within before finds =
      let first = finds.0 in (
        record {
          low = omega arith;
          high = omega (arith, first.high, length-drop from hay);
          before = λ k _ below occurs. nowhere hay from at k before first.before (omega arith) occurs;
        },
        occurs_from_rest hay from at within finds.1,
      )

  pub first_in_longer : (n : ℕ) (bytes more : List ℕ) (at : ℕ) → FindsNeedle (take n bytes) needle 0 (Some at) → FindsNeedle (take n (bytes ++ more)) needle 0 (Some at)
  first_in_longer n bytes more at finds =
      let fits = finds.1.fits in
      let front = length-take n bytes in
      let here = occurs_in_front (bytes ++ more) n at (omega arith) (occurs_in_longer bytes more at (occurs_from_front bytes n at finds.1)) in
      let here_fits = here.fits in (
        record {
          low = omega arith;
          high = omega arith;
          before = λ k _ below occurs.
              finds.0.before k (omega arith) below (occurs_in_front bytes n k (omega arith)
              (occurs_from_longer bytes more k (omega arith) (occurs_from_front (bytes ++ more) n k occurs)));
        },
        here,
      )

  pub first_unique : (hay : List ℕ) (r s : Option ℕ) → FindsNeedle hay needle 0 r → FindsNeedle hay needle 0 s → r ≡ s
  first_unique hay r s one other = FindsNeedle-value hay needle r one ∙ sym (FindsNeedle-value hay needle s other)
