-- Bytes are one journal.
use Rattle.std.proofs.Common.{◌≡◌, ℕ, List, [], ◌∷◌, ◌++◌, length, refl, sym, ap, subst, ◌∙◌, arith, append_assoc, length-append, map as each}
use Rattle.off_defs.specs.declared.writes.Write.{Write}
use Rattle.off_disk.specs.Records.{record_of, blocks, IsOpen, Stands}
use Rattle.off_disk.specs.RecordLaws.{stands_one, open_one}
use Rattle.off_journal.specs.Payload.{payload_of}
use Rattle.off_journal.specs.Journal.{AllAreSpelled, IsCommit, AreCommits, tables_of}
use Rattle.off_journal.specs.Reading.{IsNoPayload}
use Rattle.off_journal.specs.Laws.{OneJournal, GivenOpens, GoodOrBad, OneBad}
use Rattle.off_journal.proofs.PayloadLemmas.{payload_one}
use Rattle.off_base.proofs.ByteLemmas.{heads, tails}

same_commits : (a b : List (List Write)) → AllAreSpelled a → AllAreSpelled b → each payload_of a ≡ each payload_of b → a ≡ b
same_commits [] [] p q e = refl
same_commits [] (v ∷ b) p q e = cc
same_commits (w ∷ a) [] p q e = cc
same_commits (w ∷ a) (v ∷ b) p q e =
    let first : w ≡ v = payload_one w v p.0 q.0 (heads (payload_of w) (payload_of v) (each payload_of a) (each payload_of b) e) in
    let rest : a ≡ b = same_commits a b p.1 q.1 (tails (payload_of w) (payload_of v) (each payload_of a) (each payload_of b) e) in
    λ i. first i ∷ rest i

pub one_journal : OneJournal
one_journal bytes a b p q = same_commits a b p.spelled q.spelled (stands_one bytes (each payload_of a) (each payload_of b) p.stands q.stands)

pub given_opens : GivenOpens
given_opens bytes tables g commits journal = g.tables_are ∙ ap tables_of (one_journal bytes g.commits commits g.journal journal)

-- ---- bad bytes

-- the first of these records stands behind an open gate
first_open : (w : List Write) (ps : List (List Write)) (bytes rest payload tail : List ℕ) → IsCommit w → bytes ≡ blocks (each payload_of (w ∷ ps)) ++ rest → IsOpen rest payload tail
    → IsOpen bytes (payload_of w) (blocks (each payload_of ps) ++ rest)
first_open w ps bytes rest payload tail one is opened = record {
  is = is ∙ ap (λ (l : List ℕ). 1 ∷ l) (append_assoc (record_of (payload_of w)) (blocks (each payload_of ps)) rest);
  short = one.short;
  gate = omega (arith, ap length opened.is, length-append (blocks (each payload_of ps)) rest);
}

bad_stands : (ps commits : List (List Write)) (bytes rest payload tail : List ℕ) → AreCommits ps → bytes ≡ blocks (each payload_of ps) ++ rest → IsOpen rest payload tail
    → IsNoPayload payload → Stands bytes (each payload_of commits) → AllAreSpelled commits → ⊥
bad_stands [] [] bytes rest payload tail are is opened bad stands spelled =
    stands payload tail (subst (λ (b : List ℕ). IsOpen b payload tail) (sym is) opened)
bad_stands [] (v ∷ commits) bytes rest payload tail are is opened bad stands spelled =
    let same = open_one (subst (λ (b : List ℕ). IsOpen b payload tail) (sym is) opened) stands.1.0 in
    absurd (bad v spelled.0 (sym same.0))
bad_stands (w ∷ ps) [] bytes rest payload tail are is opened bad stands spelled =
    stands (payload_of w) (blocks (each payload_of ps) ++ rest) (first_open w ps bytes rest payload tail are.0 is opened)
bad_stands (w ∷ ps) (v ∷ commits) bytes rest payload tail are is opened bad stands spelled =
    let same = open_one (first_open w ps bytes rest payload tail are.0 is opened) stands.1.0 in
    bad_stands ps commits stands.0 rest payload tail are.1 (sym same.1) opened bad stands.1.1 spelled.1

pub good_or_bad : GoodOrBad
good_or_bad bytes tables place good bad =
    bad_stands bad.commits good.commits bytes bad.rest bad.payload bad.tail bad.are bad.is bad.opened bad.bad good.journal.stands good.journal.spelled

-- a record that is bad isn't one of commits
bad_first : (w : List Write) (ps : List (List Write)) (bytes rest payload tail p t : List ℕ) → IsCommit w → bytes ≡ blocks (each payload_of (w ∷ ps)) ++ rest → IsOpen rest payload tail
    → IsOpen bytes p t → IsNoPayload p → ⊥
bad_first w ps bytes rest payload tail p t one is opened here bad =
    let same = open_one here (first_open w ps bytes rest payload tail one is opened) in
    absurd (bad w one.spelled (sym same.0))

same_place : (ps qs : List (List Write)) (bytes rest more p q s t : List ℕ) → AreCommits ps → AreCommits qs → bytes ≡ blocks (each payload_of ps) ++ rest
    → bytes ≡ blocks (each payload_of qs) ++ more → IsOpen rest p s → IsNoPayload p → IsOpen more q t → IsNoPayload q
    → length (blocks (each payload_of ps)) ≡ length (blocks (each payload_of qs))
same_place [] [] bytes rest more p q s t are be is too opened bad other worse = refl
same_place [] (v ∷ qs) bytes rest more p q s t are be is too opened bad other worse =
    absurd (bad_first v qs bytes more q t p s be.0 too other (subst (λ (b : List ℕ). IsOpen b p s) (sym is) opened) bad)
same_place (w ∷ ps) [] bytes rest more p q s t are be is too opened bad other worse =
    absurd (bad_first w ps bytes rest p s q t are.0 is opened (subst (λ (b : List ℕ). IsOpen b q t) (sym too) other) worse)
same_place (w ∷ ps) (v ∷ qs) bytes rest more p q s t are be is too opened bad other worse =
    let same = open_one (first_open w ps bytes rest p s are.0 is opened) (first_open v qs bytes more q t be.0 too other) in
    let rests = same_place ps qs (blocks (each payload_of ps) ++ rest) rest more p q s t are.1 be.1 refl same.1 opened bad other worse in
    omega (arith, rests, ap length same.0, length-append (payload_of w) (blocks (each payload_of ps)), length-append (payload_of v) (blocks (each payload_of qs)))

pub one_bad : OneBad
one_bad bytes a b bad worse =
    let same = same_place bad.commits worse.commits bytes bad.rest worse.rest bad.payload worse.payload bad.tail worse.tail bad.are worse.are bad.is worse.is
    bad.opened bad.bad worse.opened worse.bad in
    omega (arith, same, bad.place_is, worse.place_is)
