-- Each event of a drill leads from its stage to the next one.
use Rattle.std.proofs.Common.{◌≡◌, ℕ, suc, ◌+◌, ◌-◌, ◌*◌, ◌%◌, ◌<◌, ◌≤◌, min, Bool, true, false, ◌==◌, List, [], ◌∷◌, ◌++◌, length, refl, ap, subst, ◌∙◌, inl, inr, ◌⊎◌, arith}
use Rattle.std.proofs.lemmas.Bool.{cases_lt, eqb-true, eqb-false, not-false, not-true}
use Rattle.off_defs.specs.declared.events.Event.{Event}
use Rattle.off_defs.specs.declared.results.Outcome.TheVariants.{Did}
use Rattle.off_defs.specs.State.{State, Said, Effect}
use Rattle.off_book.specs.Step.{Step}
use Rattle.off_book.specs.Dhcp.{dhcp_said}
use Rattle.off_book.specs.Tftp.{tftp_said}
use Rattle.off_transfer_rules.specs.Steps.{gives}
use Rattle.off_transfer_rules.specs.Words.{tftp_line}
use Rattle.off_transfer_rules.specs.declared.words.TftpWord.TheVariants as word
use Rattle.off_drill_rules.specs.declared.tally.Tally.{Tally}
use Rattle.off_drill_rules.specs.Rows.{is_active}
use Rattle.off_drill_rules.specs.Events.{asks_for_offer, asks_for_lease, asks_for_file, acknowledges, acknowledgements, numbers_from, blocks_of, events_from}
use Rattle.off_drill_rules.specs.Numbers.{plus, tally_of, offer_line, ack_line, oack_line, done_line, drill_tally}
use Rattle.off_drill_laws.specs.Stages.{Waits, HasOffer, HasLease, Gets, moving, moving_state, file_size, Getting, Stands, acks_from, to_come, counted_at, Moves}
use Rattle.off_drill_laws.proofs.FileLemmas.{octets_more}
use Rattle.off_drill_laws.proofs.LeaseLemmas.{offer_step, ack_step}
use Rattle.off_drill_laws.proofs.PacketLemmas.{transfers_with, last_of}
use Rattle.off_drill_laws.proofs.TurnLemmas.{discover_turn, request_turn, read_turn, next_turn, last_turn}

-- ---- what is still to come

acks_first : (i : ℕ) → numbers_from 0 (suc (blocks_of (is_active i))) ≡ numbers_from 0 (suc (blocks_of (is_active i)) - 0)
acks_first i = let e : suc (blocks_of (is_active i)) ≡ suc (blocks_of (is_active i)) - 0 = omega arith in ap (numbers_from 0) e

acks_next : (i number : ℕ) → number ≤ blocks_of (is_active i) → acks_from i number ≡ acknowledges i number ∷ acks_from i (suc number)
acks_next i number within = list_next (blocks_of (is_active i)) within
  where
    list_next : (b : ℕ) → number ≤ b → acknowledgements i (numbers_from number (suc b - number)) ≡ acknowledges i number ∷ acknowledgements i (numbers_from (suc number) (suc b - suc number))
    list_next b w =
        let one : suc b - number ≡ suc (b - number) = omega (arith, w) in
        let more : number + 1 ≡ suc number = omega arith in
        let rest : b - number ≡ suc b - suc number = omega arith in
        ap (λ (c : ℕ). acknowledgements i (numbers_from number c)) one
        ∙ (λ j. acknowledges i number ∷ acknowledgements i (numbers_from (more j) (rest j)))

acks_none : (i number : ℕ) → number ≡ blocks_of (is_active i) → acks_from i (suc number) ≡ []
acks_none i number last = let none : suc (blocks_of (is_active i)) - suc number ≡ 0 = omega (arith, last) in ap (λ (c : ℕ). acknowledgements i (numbers_from (suc number) c)) none

tail_waits : (n k : ℕ) → k < n → to_come n (Waits k) ≡ asks_for_offer (suc k) ∷ to_come n (HasOffer k)
tail_waits n k more =
    let one : n - k ≡ suc (n - suc k) = omega (arith, more) in
    ap (events_from k) one
    ∙ ap (λ (ns : List ℕ). asks_for_offer (suc k) ∷ asks_for_lease (suc k) ∷ asks_for_file (suc k) ∷ (acknowledgements (suc k) ns ++ events_from (suc k) (n - suc k))) (acks_first (suc k))

tail_gets : (n k number : ℕ) → number ≤ blocks_of (is_active (suc k)) → to_come n (Gets k number) ≡ acknowledges (suc k) number ∷ to_come n (Gets k (suc number))
tail_gets n k number within = ap (λ (es : List Event). es ++ events_from (suc k) (n - suc k)) (acks_next (suc k) number within)

tail_last : (n k number : ℕ) → number ≡ blocks_of (is_active (suc k)) → to_come n (Gets k number) ≡ acknowledges (suc k) number ∷ to_come n (Waits (suc k))
tail_last n k number last =
    tail_gets n k number (omega (arith, last))
    ∙ ap (λ (es : List Event). acknowledges (suc k) number ∷ (es ++ events_from (suc k) (n - suc k))) (acks_none (suc k) number last)

-- ---- what is counted

pub same_tally : (a b : Tally) → a.offers ≡ b.offers → a.acks ≡ b.acks → a.files ≡ b.files → a.blocks ≡ b.blocks → a.octets ≡ b.octets → a ≡ b
same_tally a b offers acks files blocks octets = λ j. record { offers = offers j; acks = acks j; files = files j; blocks = blocks j; octets = octets j }

counts_waits : (k : ℕ) (said : Said) → said ≡ dhcp_said (offer_step (suc k)) → plus (tally_of said) (counted_at (Waits k)) ≡ counted_at (HasOffer k)
counts_waits k said is =
    ap (λ (s : Said). plus (tally_of s) (counted_at (Waits k))) is
    ∙ same_tally (plus (tally_of (dhcp_said (offer_step (suc k)))) (counted_at (Waits k))) (counted_at (HasOffer k)) (omega arith) (omega arith) (omega arith) (omega arith) (omega arith)

counts_offer : (k : ℕ) (said : Said) → said ≡ dhcp_said (ack_step (suc k)) → plus (tally_of said) (counted_at (HasOffer k)) ≡ counted_at (HasLease k)
counts_offer k said is =
    ap (λ (s : Said). plus (tally_of s) (counted_at (HasOffer k))) is
    ∙ same_tally (plus (tally_of (dhcp_said (ack_step (suc k)))) (counted_at (HasOffer k))) (counted_at (HasLease k)) (omega arith) (omega arith) (omega arith) (omega arith) (omega arith)

abbrev read_said : ℕ → List ℕ → Said
read_said i file = tftp_said (gives (transfers_with i (moving i file 0 false)) (last_of i (moving i file 0 false)) word.Oack)

counts_lease : (k : ℕ) (file : List ℕ) (said : Said) → said ≡ read_said (suc k) file → plus (tally_of said) (counted_at (HasLease k)) ≡ counted_at (Gets k 0)
counts_lease k file said is =
    ap (λ (s : Said). plus (tally_of s) (counted_at (HasLease k))) is
    ∙ same_tally (plus (tally_of (read_said (suc k) file)) (counted_at (HasLease k))) (counted_at (Gets k 0)) (omega arith) (omega arith) (omega arith) (omega arith) (omega arith)

abbrev next_said : ℕ → List ℕ → ℕ → Said
next_said i file number = tftp_said (gives (transfers_with i (moving i file (suc number) true)) (last_of i (moving i file (suc number) true)) (word.Block (suc number)))

counts_next : (k : ℕ) (file : List ℕ) (number : ℕ) (said : Said) → length file ≡ file_size (is_active (suc k)) → said ≡ next_said (suc k) file number
    → plus (tally_of said) (counted_at (Gets k number)) ≡ counted_at (Gets k (suc number))
counts_next k file number said size is =
    ap (λ (s : Said). plus (tally_of s) (counted_at (Gets k number))) is
    ∙ same_tally (plus (tally_of (next_said (suc k) file number)) (counted_at (Gets k number))) (counted_at (Gets k (suc number))) (omega arith) (omega arith) (omega arith) (omega arith)
    (omega (arith, octets_more file (is_active (suc k)) number size))

-- a modem more, by whether its file is the shorter one
blocks_more : (k : ℕ) (active : Bool) → is_active (suc k) ≡ active → (drill_tally k).blocks + blocks_of active ≡ (drill_tally (suc k)).blocks
blocks_more k true is = let no = eqb-false (suc k % 10) 0 (not-true (suc k % 10 == 0) is) in omega (arith, no)
blocks_more k false is = let yes = eqb-true (suc k % 10) 0 (not-false (suc k % 10 == 0) is) in omega (arith, yes)

octets_of_file : (k : ℕ) (active : Bool) → is_active (suc k) ≡ active → (drill_tally k).octets + min (blocks_of active * 44) (file_size active) ≡ (drill_tally (suc k)).octets
octets_of_file k true is = let no = eqb-false (suc k % 10) 0 (not-true (suc k % 10 == 0) is) in omega (arith, no)
octets_of_file k false is = let yes = eqb-true (suc k % 10) 0 (not-false (suc k % 10 == 0) is) in omega (arith, yes)

counts_last : (k number : ℕ) (said : Said) → number ≡ blocks_of (is_active (suc k)) → said ≡ tftp_said (gives (transfers_with (suc k) (moving (suc k) [] 0 true)) [] word.Done)
    → plus (tally_of said) (counted_at (Gets k number)) ≡ counted_at (Waits (suc k))
counts_last k number said last is =
    let blocks : (drill_tally k).blocks + number ≡ (drill_tally (suc k)).blocks = ap (λ (m : ℕ). (drill_tally k).blocks + m) last ∙ blocks_more k (is_active (suc k)) refl in
    let octets : (drill_tally k).octets + min (number * 44) (file_size (is_active (suc k))) ≡ (drill_tally (suc k)).octets =
    ap (λ (m : ℕ). (drill_tally k).octets + min (m * 44) (file_size (is_active (suc k)))) last ∙ octets_of_file k (is_active (suc k)) refl in
    ap (λ (s : Said). plus (tally_of s) (counted_at (Gets k number))) is
    ∙ same_tally (plus (tally_of (tftp_said (gives (transfers_with (suc k) (moving (suc k) [] 0 true)) [] word.Done))) (counted_at (Gets k number))) (counted_at (Waits (suc k)))
    (omega arith) (omega arith) (omega arith) (omega (arith, blocks)) (omega (arith, octets))

-- ---- the moves

module _ (n k : ℕ) (more : k < n) (few : n ≤ 4000) where
  pub waits_moves : (s : State) (effect : Effect) → Stands n (Waits k) s → Step s (asks_for_offer (suc k)) Did effect
      → Moves n (Waits k) (HasOffer k) (asks_for_offer (suc k)) offer_line effect.said effect.after
  waits_moves s effect stands did =
      let turn = discover_turn n k more few effect (subst (λ (v : State). Step v (asks_for_offer (suc k)) Did effect) stands did) in
      record { stands = turn.1; tail = tail_waits n k more; says = ap (λ (x : Said). x.line) turn.0; counts = counts_waits k effect.said turn.0 }

  pub offer_moves : (s : State) (effect : Effect) → Stands n (HasOffer k) s → Step s (asks_for_lease (suc k)) Did effect
      → Moves n (HasOffer k) (HasLease k) (asks_for_lease (suc k)) ack_line effect.said effect.after
  offer_moves s effect stands did =
      let turn = request_turn n k more few effect (subst (λ (v : State). Step v (asks_for_lease (suc k)) Did effect) stands did) in
      record { stands = turn.1; tail = refl; says = ap (λ (x : Said). x.line) turn.0; counts = counts_offer k effect.said turn.0 }

  pub lease_moves : (s : State) (effect : Effect) → Stands n (HasLease k) s → Step s (asks_for_file (suc k)) Did effect
      → Moves n (HasLease k) (Gets k 0) (asks_for_file (suc k)) oack_line effect.said effect.after
  lease_moves s effect stands did =
      let turn = read_turn n k more few effect (subst (λ (v : State). Step v (asks_for_file (suc k)) Did effect) stands did) in
      record {
        stands = record { file = turn.file; answered = false; size = turn.size; within = omega arith; is = turn.after };
        tail = refl;
        says = ap (λ (x : Said). x.line) turn.said;
        counts = counts_lease k turn.file effect.said turn.said;
      }

  -- a block more, or the end
  pub data GetsMoves (number : ℕ) (said : Said) (u : State) : Type 0 where
    one_block : number < 3 → Moves n (Gets k number) (Gets k (suc number)) (acknowledges (suc k) number) (tftp_line (word.Block (suc number))) said u → GetsMoves number said u
    the_end : Moves n (Gets k number) (Waits (suc k)) (acknowledges (suc k) number) done_line said u → GetsMoves number said u

  few_blocks : (active : Bool) (number : ℕ) → number < blocks_of active → number < 3
  few_blocks true number below = below
  few_blocks false number below = omega (arith, below)

  gets_by : (number : ℕ) (s : State) (effect : Effect) (g : Getting n k number s) → Step (moving_state n (suc k) g.file number g.answered) (acknowledges (suc k) number) Did effect
      → (number < blocks_of (is_active (suc k))) ⊎ (blocks_of (is_active (suc k)) ≤ number) → GetsMoves number effect.said effect.after
  gets_by number s effect g did (inl below) =
      let turn = next_turn n k more few g.file number g.answered g.size below effect did in
      one_block (few_blocks (is_active (suc k)) number below) (record {
        stands = record { file = g.file; answered = true; size = g.size; within = omega (arith, below); is = turn.1 };
        tail = tail_gets n k number g.within;
        says = ap (λ (x : Said). x.line) turn.0;
        counts = counts_next k g.file number effect.said g.size turn.0;
      })
  gets_by number s effect g did (inr above) =
      let last : number ≡ blocks_of (is_active (suc k)) = omega (arith, above, g.within) in
      let turn = last_turn n k more few g.file number g.answered g.size last effect did in
      the_end (record {
        stands = turn.1;
        tail = tail_last n k number last;
        says = ap (λ (x : Said). x.line) turn.0;
        counts = counts_last k number effect.said last turn.0;
      })

  pub gets_moves : (number : ℕ) (s : State) (effect : Effect) → Getting n k number s → Step s (acknowledges (suc k) number) Did effect → GetsMoves number effect.said effect.after
  gets_moves number s effect g did =
      gets_by number s effect g (subst (λ (v : State). Step v (acknowledges (suc k) number) Did effect) g.is did) (cases_lt number (blocks_of (is_active (suc k))))
