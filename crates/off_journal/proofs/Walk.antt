-- A walk over the records of a disk.
use Rattle.std.proofs.Common.{◌≡◌, ℕ, ◌+◌, ◌<◌, ◌^◌, List, [], ◌∷◌, ◌++◌, length, drop, refl, sym, ap, subst, ◌∙◌, arith, map as each}
use Rattle.std.proofs.lemmas.List.{drop_at}
use Rattle.std.specs.FinMap as map
use Rattle.off_defs.specs.declared.writes.Write.{Write}
use Rattle.off_defs.specs.State.{Tables}
use Rattle.off_defs.specs.Tables.{write_all}
use Rattle.off_disk.specs.DiskSeen.{DiskSeen}
use Rattle.off_disk.specs.DiskCalls.{Kept}
use Rattle.off_disk.specs.Records.{record_of, blocks, IsOpen}
use Rattle.off_disk.proofs.Images.{blocks_push}
use Rattle.off_disk.proofs.Stretches.{told_back}
use Rattle.off_spelled.specs.Storable.{AllSpelled}
use Rattle.off_journal.specs.Payload.{payload_of}
use Rattle.off_journal.specs.Reading.{IsNoPayload}
use Rattle.off_journal.specs.Journal.{IsCommit}
use Rattle.off_journal.specs.JournalLaws.{commits_push, tables_push, payloads_push}
use Rattle.off_journal.specs.Begin.{SoFar, IsBadAt}
use Rattle.off_journal.proofs.Keeping.{block_size}

-- ---- the records

pub so_far_none : (rows : Tables) (disk : DiskSeen) → rows ≡ map.empty → SoFar rows 0 disk
so_far_none rows disk empty = record { commits = []; are = tt; tables = empty; place = refl; front = λ b told. refl }

pub so_far_kept : (rows : Tables) (gate : ℕ) (a b : DiskSeen) → Kept a b → SoFar rows gate a → SoFar rows gate b
so_far_kept rows gate a b k s = record {
  commits = s.commits;
  are = s.are;
  tables = s.tables;
  place = s.place;
  front = λ x told. s.front x (told_back k x told);
}

front_more : (ps : List (List ℕ)) (p b rest tail : List ℕ) (next : ℕ) → b ≡ blocks ps ++ rest → rest ≡ 1 ∷ (record_of p ++ tail) → length (blocks (ps ++ p ∷ [])) ≡ next
    → b ≡ blocks (ps ++ p ∷ []) ++ drop next b
front_more ps p b rest tail next front is long =
    let whole : b ≡ blocks (ps ++ p ∷ []) ++ tail = front ∙ (ap (λ (l : List ℕ). blocks ps ++ l) is ∙ sym (blocks_push ps p tail)) in
    let behind : drop next b ≡ tail = ap (λ (l : List ℕ). drop next l) whole ∙ drop_at (blocks (ps ++ p ∷ [])) tail next long in
    whole ∙ ap (λ (l : List ℕ). blocks (ps ++ p ∷ []) ++ l) (sym behind)

pub so_far_more : (rows after : Tables) (gate next : ℕ) (ws : List Write) (payload : List ℕ) (a b : DiskSeen) → Kept a b → SoFar rows gate a → AllSpelled ws → payload_of ws ≡ payload
    → length payload < 2 ^ 32 → ((x : List ℕ) → a.bytes x → (tail : List ℕ) × IsOpen (drop gate x) payload tail) → after ≡ write_all rows ws → next ≡ gate + (length payload + 5)
    → SoFar after next b
so_far_more rows after gate next ws payload a b k s spelled is short at done place =
    let ps = each payload_of s.commits in
    let p = payload_of ws in
    let one : IsCommit ws = record { spelled = spelled; short = omega (arith, short, ap length is) } in
    let long : length (blocks (ps ++ p ∷ [])) ≡ next = block_size ps p ∙ omega (arith, s.place, place, ap length is) in
    record {
      commits = s.commits ++ ws ∷ [];
      are = commits_push s.commits ws s.are one;
      tables = done ∙ (ap (λ (t : Tables). write_all t ws) s.tables ∙ sym (tables_push s.commits ws));
      place = ap (λ (qs : List (List ℕ)). length (blocks qs)) (payloads_push s.commits ws) ∙ long;
      front = λ x told.
          let was = told_back k x told in
          let opened = at x was in
          subst (λ (qs : List (List ℕ)). x ≡ blocks qs ++ drop next x) (sym (payloads_push s.commits ws))
          (front_more ps p x (drop gate x) opened.0 next (s.front x was)
          (opened.1.is ∙ ap (λ (q : List ℕ). 1 ∷ (record_of q ++ opened.0)) (sym is)) long);
    }

pub bad_by : (rows : Tables) (gate place : ℕ) (payload : List ℕ) (a b : DiskSeen) → Kept a b → SoFar rows gate b → ((x : List ℕ) → b.bytes x → (tail : List ℕ) × IsOpen (drop gate x) payload tail)
    → IsNoPayload payload → place ≡ gate + 1 → (x : List ℕ) → a.bytes x → IsBadAt x place
bad_by rows gate place payload a b k s at bad is x told =
    let y = k.told x told in
    let here : b.bytes x = subst (λ (l : List ℕ). b.bytes l) y.1.1 y.1.0 in
    let opened = at x here in
    record {
      commits = s.commits;
      are = s.are;
      payload = payload;
      tail = opened.0;
      rest = drop gate x;
      is = s.front x here;
      opened = opened.1;
      bad = bad;
      place_is = omega (arith, is, s.place);
    }
