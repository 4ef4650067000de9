-- One modem of a drill: what each of its events leads to.
use Rattle.std.proofs.Common.{◌≡◌, ℕ, suc, ◌+◌, ◌<◌, ◌≤◌, Bool, true, false, Result, Ok, Err, MatchResult, List, [], sym, ap, subst, ◌∙◌, inl, arith, add-one}
use Rattle.std.proofs.lemmas.Slice.Eq.{bytes_eq-Decides}
use Rattle.std.specs.Str.{bytes_eq}
use Rattle.off_defs.specs.declared.events.Event.{Event}
use Rattle.off_defs.specs.State.{State, Said}
use Rattle.off_defs.proofs.ToldLemmas.{told_self}
use Rattle.off_defs.proofs.CountLemmas.{tallied_none}
use Rattle.off_book.specs.Run.{effect_of}
use Rattle.off_outside.specs.declared.keeper.KeepErr.{KeepErr}
use Rattle.off_outside.specs.declared.keeper.KeepErr.TheVariants as keep
use Rattle.off_outside.specs.KeeperSeen.{KeeperSeen, Rests}
use Rattle.off_outside.specs.LinkSeen.{LinkSeen}
use Rattle.off_office.specs.Desk.{Desk}
use Rattle.off_drill_rules.specs.declared.tally.Tally.{Tally}
use Rattle.off_drill_rules.specs.Rows.{is_active}
use Rattle.off_drill_rules.specs.Events.{asks_for_offer, asks_for_lease, asks_for_file, acknowledges, blocks_of}
use Rattle.off_drill_rules.specs.Numbers.{offer_line, ack_line, oack_line, done_line}
use Rattle.off_drill_laws.specs.Stages.{Stage, Waits, HasOffer, HasLease, Gets, Moves}
use Rattle.off_drill_laws.proofs.StageLemmas.{waits_moves, offer_moves, lease_moves, GetsMoves, one_block, the_end, gets_moves}
use Rattle.off_drill_job.specs.Exercising.{TookTurn, LosesTurn, Exercised, Stopped}
use Rattle.off_drill_job.proofs.CrashLemmas.{keeper_none}
use Rattle.off_drill_job.proofs.TurnLemmas.{tried_none}
use Rattle.off_drill_job.proofs.LinkLemmas.{link_unasked}
use Rattle.off_drill_job.proofs.ExerciseLemmas.{exercised_then, exercised_one, exercised_never, exercised_past, stopped_then}

-- memory was wanted before any event
pub loses_at_once : (d : Desk) (k : KeeperSeen) (l : LinkSeen) → Rests k → LosesTurn keep.Memory d k k l l
loses_at_once d k l rests = (
  record {
    after = d;
    tried = [];
    one = tried_none;
    tables = told_self (λ t fit. fit.good);
    up = λ up. inl up;
    faults = tallied_none k.faults;
    keeper = keeper_none d k rests;
  },
  link_unasked l,
)

-- a line that is of these words is so by the test
said_so : (line words : List ℕ) (same : Bool) → same ≡ bytes_eq line words → line ≡ words → same ≡ false → ⊥
said_so line words same says is never = let sure : bytes_eq line words ≡ true = (bytes_eq-Decides line words).1 is in let f : true ≡ false = sym sure ∙ sym says ∙ never in cc

module _ (f : ℕ → Event) (k : ℕ) (words : List ℕ) (same : Bool) (d e : Desk) (i j : KeeperSeen) (l m : LinkSeen) (a b : Tally) where
  at_next : TookTurn (f (k + 1)) words same d e i j l m a b → TookTurn (f (suc k)) words same d e i j l m a b
  at_next one = subst (λ (x : ℕ). TookTurn (f x) words same d e i j l m a b) (add-one k) one

module _ (n k : ℕ) (more : k < n) (few : n ≤ 4000) (same : Bool) (d e : Desk) (i j : KeeperSeen) (l m : LinkSeen) (a b : Tally) where
  pub had_offer : TookTurn (asks_for_offer (k + 1)) offer_line same d e i j l m a b → Exercised n (Waits k) (HasOffer k) d e i j l m a b
  had_offer one =
      let next = at_next asks_for_offer k offer_line same d e i j l m a b one in
      exercised_one n (Waits k) (HasOffer k) (asks_for_offer (suc k)) offer_line same d e i j l m a b next
      (λ s u stands did. (offer_line, waits_moves n k more few s (effect_of next.turn u) stands did))

  pub no_offer : TookTurn (asks_for_offer (k + 1)) offer_line same d e i j l m a b → same ≡ false → Exercised n (Waits k) (Waits (k + 1)) d e i j l m a b
  no_offer one never =
      let next = at_next asks_for_offer k offer_line same d e i j l m a b one in
      exercised_never n (Waits k) (Waits (k + 1)) (asks_for_offer (suc k)) offer_line same d e i j l m a b next
      (λ s u stands did. said_so next.turn.said.line offer_line same next.says (waits_moves n k more few s (effect_of next.turn u) stands did).says never)

  pub had_lease : TookTurn (asks_for_lease (k + 1)) ack_line same d e i j l m a b → Exercised n (HasOffer k) (HasLease k) d e i j l m a b
  had_lease one =
      let next = at_next asks_for_lease k ack_line same d e i j l m a b one in
      exercised_one n (HasOffer k) (HasLease k) (asks_for_lease (suc k)) ack_line same d e i j l m a b next
      (λ s u stands did. (ack_line, offer_moves n k more few s (effect_of next.turn u) stands did))

  pub no_lease : TookTurn (asks_for_lease (k + 1)) ack_line same d e i j l m a b → same ≡ false → Exercised n (HasOffer k) (Waits (k + 1)) d e i j l m a b
  no_lease one never =
      let next = at_next asks_for_lease k ack_line same d e i j l m a b one in
      exercised_never n (HasOffer k) (Waits (k + 1)) (asks_for_lease (suc k)) ack_line same d e i j l m a b next
      (λ s u stands did. said_so next.turn.said.line ack_line same next.says (offer_moves n k more few s (effect_of next.turn u) stands did).says never)

  pub had_file : TookTurn (asks_for_file (k + 1)) oack_line same d e i j l m a b → Exercised n (HasLease k) (Gets k 0) d e i j l m a b
  had_file one =
      let next = at_next asks_for_file k oack_line same d e i j l m a b one in
      exercised_one n (HasLease k) (Gets k 0) (asks_for_file (suc k)) oack_line same d e i j l m a b next
      (λ s u stands did. (oack_line, lease_moves n k more few s (effect_of next.turn u) stands did))

  pub no_file : TookTurn (asks_for_file (k + 1)) oack_line same d e i j l m a b → same ≡ false → Exercised n (HasLease k) (Waits (k + 1)) d e i j l m a b
  no_file one never =
      let next = at_next asks_for_file k oack_line same d e i j l m a b one in
      exercised_never n (HasLease k) (Waits (k + 1)) (asks_for_file (suc k)) oack_line same d e i j l m a b next
      (λ s u stands did. said_so next.turn.said.line oack_line same next.says (lease_moves n k more few s (effect_of next.turn u) stands did).says never)

  block_moves : (number : ℕ) (said : Said) (u : State) → same ≡ false → same ≡ bytes_eq said.line done_line → GetsMoves n k more few number said u
      → (line : List ℕ) × Moves n (Gets k number) (Gets k (suc number)) (acknowledges (suc k) number) line said u
  block_moves number said u never says (one_block short moves) = (_, moves)
  block_moves number said u never says (the_end moves) = absurd (said_so said.line done_line same says moves.says never)

  end_moves : (number : ℕ) (said : Said) (u : State) → same ≡ true → same ≡ bytes_eq said.line done_line → GetsMoves n k more few number said u
      → Moves n (Gets k number) (Waits (suc k)) (acknowledges (suc k) number) done_line said u
  end_moves number said u sure says (one_block short moves) =
      let other : bytes_eq said.line done_line ≡ false = ap (λ (v : List ℕ). bytes_eq v done_line) moves.says in
      absurd (let f : true ≡ false = sym sure ∙ says ∙ other in cc)
  end_moves number said u sure says (the_end moves) = moves

  pub had_block : (number : ℕ) → TookTurn (acknowledges (k + 1) number) done_line same d e i j l m a b → same ≡ false
      → Exercised n (Gets k number) (Gets k (number + 1)) d e i j l m a b
  had_block number one never =
      let next = at_next (λ (x : ℕ). acknowledges x number) k done_line same d e i j l m a b one in
      let same_number : suc number ≡ number + 1 = omega arith in
      subst (λ (x : ℕ). Exercised n (Gets k number) (Gets k x) d e i j l m a b) same_number
      (exercised_one n (Gets k number) (Gets k (suc number)) (acknowledges (suc k) number) done_line same d e i j l m a b next
      (λ s u stands did. block_moves number next.turn.said u never next.says (gets_moves n k more few number s (effect_of next.turn u) stands did)))

  pub had_all : (number : ℕ) → TookTurn (acknowledges (k + 1) number) done_line same d e i j l m a b → same ≡ true → Exercised n (Gets k number) (Waits (k + 1)) d e i j l m a b
  had_all number one sure =
      let next = at_next (λ (x : ℕ). acknowledges x number) k done_line same d e i j l m a b one in
      subst (λ (x : ℕ). Exercised n (Gets k number) (Waits x) d e i j l m a b) (sym (add-one k))
      (exercised_one n (Gets k number) (Waits (suc k)) (acknowledges (suc k) number) done_line same d e i j l m a b next
      (λ s u stands did. (done_line, end_moves number next.turn.said u sure next.says (gets_moves n k more few number s (effect_of next.turn u) stands did))))

-- a file has three blocks at most
few_numbers : (active : Bool) (number : ℕ) → 200 ≤ number → number ≤ blocks_of active → ⊥
few_numbers true number many within = omega (arith, many, within)
few_numbers false number many within = omega (arith, many, within)

pub never_so_many : {n k number : ℕ} {d e : Desk} {i j : KeeperSeen} {l m : LinkSeen} {a b : Tally} → Exercised n (Gets k 0) (Gets k number) d e i j l m a b → 200 ≤ number
    → Exercised n (Gets k 0) (Waits (k + 1)) d e i j l m a b
never_so_many {n} {k} {number} p many = exercised_past (Waits (k + 1)) p (λ s getting. few_numbers (is_active (suc k)) number many getting.within)

-- the rest of what a modem does, behind what it has done
pub ends_serving : (result : Result (Unit {0}) KeepErr) (n : ℕ) (from by to : Stage) (d e f : Desk) (i j k : KeeperSeen) (l m o : LinkSeen) (a b c : Tally) → Exercised n from by d e i j l m a b
    → MatchResult result (λ _. Exercised n by to e f j k m o b c) (λ err. Stopped err n by e j k m o) → MatchResult result (λ _. Exercised n from to d f i k l o a c) (λ err. Stopped err n from d i k l o)
ends_serving (Ok done) n from by to d e f i j k l m o a b c before rest = exercised_then before rest
ends_serving (Err err) n from by to d e f i j k l m o a b c before stops = stopped_then before stops
