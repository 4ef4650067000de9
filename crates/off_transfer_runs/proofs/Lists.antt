-- What follows of blocks that go one behind another: the numbers count up, and what was got begins
-- the file.
use Rattle.std.proofs.Common.{◌≡◌, ℕ, zero, suc, ◌*◌, ◌<◌, Bool, true, false, List, [], ◌∷◌, ◌++◌, length, take, drop, append_assoc, append-nil, take-append-drop, drop-drop, length-take, take_all, suc-mul, refl, sym, ap, subst, ◌∙◌, arith}
use Rattle.std.specs.Prelude.{find}
use Rattle.std.proofs.lemmas.Bool.{ltb-true}
use Rattle.off_base.specs.declared.addresses.Peer.{Peer}
use Rattle.off_file_rules.specs.Block.{block}
use Rattle.off_packets.specs.Replies.{data_packet}
use Rattle.off_transfer_rules.specs.Transfers.{is_last_number}
use Rattle.off_book.specs.Run.{Turn}
use Rattle.off_transfer_runs.specs.Turns.{Fate, Remains, Moves, Ends, Breaks, fate, packets_to, is_data, block_in}
use Rattle.off_transfer_runs.specs.Got.{with_number, acked_by, acked, CountUp, got_by, got, is_done_by, is_done}
use Rattle.off_transfer_runs.specs.Served.{GoBy, BlocksGo}

-- the number from which acknowledgements count while packet k stands out
abbrev pub from_of : ℕ → ℕ
from_of zero = 1
from_of (suc before) = suc before

-- what is left of the file from block k on
abbrev pub ahead : List ℕ → ℕ → ℕ → List ℕ
ahead file size zero = file
ahead file size (suc before) = drop (before * size) file

counted_up : (k : ℕ) (numbers : List ℕ) → CountUp (suc k) numbers → CountUp (from_of k) (with_number k numbers)
counted_up zero numbers up = up
counted_up (suc before) numbers up = (refl, up)

-- what is got begins what is ahead, and is all of it where all is done
pub record Gets (got : List ℕ) (done : Bool) (all : List ℕ) : Type 0 where
  pub rest : List ℕ
  pub prefix : got ++ rest ≡ all
  pub whole : done ≡ true → got ≡ all

nothing_yet : (done : Bool) (all : List ℕ) → done ≡ false → Gets [] done all
nothing_yet done all not_done = record { rest = all; prefix = refl; whole = λ e. cc }

module _ (file : List ℕ) (size : ℕ) where
  -- a block and what comes behind it
  joined : (k : ℕ) → block file size k ++ drop (k * size) file ≡ ahead file size k
  joined zero = let none : zero * size ≡ 0 = omega arith in ap (λ n. drop n file) none
  joined (suc before) =
      ap (λ n. take size (drop (before * size) file) ++ drop n file) (suc-mul before size)
      ∙ ap (λ l. take size (drop (before * size) file) ++ l) (sym (drop-drop size (before * size) file))
      ∙ take-append-drop size (drop (before * size) file)

  -- the last block is all that was ahead
  shorter : (all : List ℕ) → length (take size all) < size → take size all ≡ all
  shorter all short = take_all size all (omega (arith, length-take size all))

  last_is_all : (k : ℕ) → is_last_number file size k ≡ true → block file size k ≡ ahead file size k
  last_is_all zero last = cc
  last_is_all (suc before) last = shorter (drop (before * size) file) (ltb-true (length (take size (drop (before * size) file))) size last)

  moved : (k : ℕ) (later : List ℕ) (done : Bool) → Gets later done (drop (k * size) file) → Gets (block file size k ++ later) done (ahead file size k)
  moved k later done g = record {
    rest = g.rest;
    prefix = append_assoc (block file size k) later g.rest ∙ ap (λ l. block file size k ++ l) g.prefix ∙ joined k;
    whole = λ e. ap (λ l. block file size k ++ l) (g.whole e) ∙ joined k;
  }

  came_last : (k : ℕ) → is_last_number file size k ≡ true → Gets (block file size k) true (ahead file size k)
  came_last k last = record {
    rest = [];
    prefix = append-nil (block file size k) ∙ last_is_all k last;
    whole = λ e. last_is_all k last;
  }

  next_given : (k : ℕ) (packets : List (List ℕ)) → packets ≡ data_packet (suc k) (block file size (suc k)) ∷ [] → block file size (suc k) ≡ block_in (find is_data packets)
  next_given k packets e = sym (ap (λ (l : List (List ℕ)). block_in (find is_data l)) e)

  counts_by : (k : ℕ) (f : Fate) (packets : List (List ℕ)) (later : List ℕ) (Later : ℕ → Type 0) → GoBy f file size k packets Later
      → ((n : ℕ) → Later n → CountUp (from_of n) later) → CountUp (from_of k) (acked_by f later)
  counts_by k Remains packets later Later go each = each k go.1
  counts_by k (Moves number) packets later Later go each =
      subst (λ n. CountUp (from_of k) (with_number n later)) (sym go.0.number_is) (counted_up k later (each (suc k) go.1))
  counts_by k (Ends number) packets later Later go each = subst (λ n. CountUp (from_of k) (with_number n [])) (sym go.number_is) (counted_up k [] tt)
  counts_by k Breaks packets later Later go each = tt

  gets_by : (k : ℕ) (f : Fate) (packets : List (List ℕ)) (later : List ℕ → List ℕ) (done : Bool) (Later : ℕ → Type 0) → GoBy f file size k packets Later
      → ((n : ℕ) → Later n → Gets (later (block file size n)) done (ahead file size n))
      → Gets (got_by f (block file size k) (block_in (find is_data packets)) later) (is_done_by f done) (ahead file size k)
  gets_by k Remains packets later done Later go each = each k go.1
  gets_by k (Moves number) packets later done Later go each =
      subst (λ given. Gets (block file size k ++ later given) done (ahead file size k)) (next_given k packets go.0.next)
      (moved k (later (block file size (suc k))) done (each (suc k) go.1))
  gets_by k (Ends number) packets later done Later go each = came_last k go.last
  gets_by k Breaks packets later done Later go each = nothing_yet false (ahead file size k) refl

  module _ (peer : Peer) where
    pub acked_counts : (k : ℕ) (turns : List Turn) → BlocksGo peer file size k turns → CountUp (from_of k) (acked peer turns)
    acked_counts k [] go = tt
    acked_counts k (turn ∷ turns) go =
        counts_by k (fate peer turn) (packets_to peer turn.said.items) (acked peer turns) (λ n. BlocksGo peer file size n turns) go
        (λ n rest. acked_counts n turns rest)

    pub gets : (k : ℕ) (turns : List Turn) → BlocksGo peer file size k turns → Gets (got peer (block file size k) turns) (is_done peer turns) (ahead file size k)
    gets k [] go = nothing_yet false (ahead file size k) refl
    gets k (turn ∷ turns) go =
        gets_by k (fate peer turn) (packets_to peer turn.said.items) (λ given. got peer given turns) (is_done peer turns) (λ n. BlocksGo peer file size n turns) go
        (λ n rest. gets n turns rest)
