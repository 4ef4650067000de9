-- Who answers up to the last block has got the whole file.
use Rattle.std.proofs.Common.{◌≡◌, ℕ, zero, suc, ◌+◌, ◌-◌, ◌*◌, ◌/◌, ◌%◌, ◌≤◌, ◌<◌, min, max, true, List, [], ◌∷◌, ◌++◌, length, take, drop, length-take, length-drop, suc-mul, Option, Some, Ok, refl, sym, ap, subst, ◌∙◌, arith, lit≤}
use Rattle.std.proofs.lemmas.Bool.{ltb-true, lt-ltb}
use Rattle.std.proofs.lemmas.Nat.{div-add-mod', mod_below}
use Rattle.std.specs.FinMap as map
use Rattle.off_base.specs.declared.addresses.Ip4.{Ip4}
use Rattle.off_base.specs.declared.addresses.Peer.{Peer}
use Rattle.off_base.specs.declared.macs.Mac.{Mac}
use Rattle.off_defs.specs.declared.events.What.{What}
use Rattle.off_defs.specs.declared.tables.Hold.TheVariants.{Bound}
use Rattle.off_defs.specs.State.{Tables, State, at_moment}
use Rattle.off_defs.specs.Tables.{write_all}
use Rattle.off_file_rules.specs.File.{IsFile}
use Rattle.off_file_laws.proofs.LawLemmas.{file_is_one}
use Rattle.off_packets.specs.Packets.{Reads, packet_of}
use Rattle.off_packets.specs.declared.packets.Options.{Options}
use Rattle.off_transfer_rules.specs.Requests.{file_owner}
use Rattle.off_transfer_rules.specs.View.{view}
use Rattle.off_transfer_rules.specs.Transfers.{size_for, first_number, is_last_number}
use Rattle.off_transfer_laws.specs.Agreement.{Agreement}
use Rattle.off_transfer_laws.specs.Sound.{BeginsWithin}
use Rattle.off_transfer_laws.proofs.StepLaws.{accepting_agrees}
use Rattle.off_book.specs.Step.{Step, Does}
use Rattle.off_book.specs.Tftp.{TftpDid}
use Rattle.off_book.specs.Run.{Turn, Run, effect_of}
use Rattle.off_laws.proofs.StepLaws.{changes_its_part, moment_is_greatest, tables_by_commit}
use Rattle.off_transfer_runs.specs.Turns.{Fate, fate, says_accepted}
use Rattle.off_transfer_runs.specs.Got.{is_done_by, is_done}
use Rattle.off_transfer_runs.specs.Served.{IsAccepted, FileIsServed}
use Rattle.off_transfer_runs.specs.Answering.{ask, AnswersBy, AnswersUpTo, WhoAnswersGetsAll, EachFileEnds}
use Rattle.off_transfer_runs.proofs.Turned.{IsAt}
use Rattle.off_transfer_runs.proofs.Accepted.{Begins}
use Rattle.off_transfer_runs.proofs.Runs.{first, first_lives, first_at, own_file, beginning, acted_on}
use Rattle.off_transfer_runs.proofs.Answering.{Lives, Answered, finished, onward, turn_answers}

-- ---- the last block

within_at : (file : List ℕ) (size before : ℕ) → suc before * size ≤ length file → length (take size (drop (before * size) file)) < size → ⊥
within_at file size before within short =
    let here = length-take size (drop (before * size) file) in
    let left = length-drop (before * size) file in
    let more = suc-mul before size in
    omega (arith, here, left, more, within, short)

not_behind : (file : List ℕ) (size n : ℕ) → is_last_number file size n ≡ true → BeginsWithin file size (suc n) → ⊥
not_behind file size zero last within = cc
not_behind file size (suc before) last within =
    within_at file size before within (ltb-true (length (take size (drop (before * size) file))) size last)

behind_last : (file : List ℕ) (size n k : ℕ) (request : List ℕ) (from : ℕ) (name : List ℕ) (modem : Mac) (owner ticks : ℕ) (live : Option _) → is_last_number file size n ≡ true
    → Lives file size request from name modem owner k ticks live → k ≡ suc n → ⊥
behind_last file size n k request from name modem owner ticks live last l e =
    not_behind file size n last
    (subst (λ f. BeginsWithin f size (suc n)) l.at.files
    (subst (λ z. BeginsWithin l.x.file z (suc n)) l.at.sizes (subst (BeginsWithin l.x.file l.x.size) (l.at.sents ∙ e) l.at.sound.within)))

last_short : (all q r size : ℕ) → q * size + r ≡ all → r < size → min size (all - q * size) < size
last_short all q r size e short = omega (arith, e, short)

pub each_file_ends : EachFileEnds
each_file_ends file size some =
    let q = length file / size in
    let parts : q * size + length file % size ≡ length file = div-add-mod' (length file) size in
    let here : length (take size (drop (q * size) file)) ≡ min size (length file - q * size) =
    length-take size (drop (q * size) file) ∙ ap (min size) (length-drop (q * size) file) in
    lt-ltb (length (take size (drop (q * size) file))) size
    (subst (λ n. n < size) (sym here) (last_short (length file) q (length file % size) size parts (mod_below (length file) size some)))

-- ---- turn by turn

module _ (peer : Peer) (file : List ℕ) (size : ℕ) (request : List ℕ) (from : ℕ) (name : List ℕ) (modem : Mac) (owner : ℕ) (asked : Options)
    (read : packet_of request ≡ Ok (Reads name asked)) (n : ℕ) (last_is : is_last_number file size n ≡ true) where
  abbrev Agreed : Tables → ℕ → Type 0
  Agreed tables now = Agreement tables now peer.ip name (file_owner modem owner)

  abbrev UpTo : Tables → ℕ → List Turn → ℕ → ℕ → Type 0
  UpTo tables now turns k ticks = AnswersUpTo request from (suc n) peer Agreed tables now k ticks turns

  done_by : (turn : Turn) (after last : State) (soon rest : List Turn) (tables : Tables) (now : ℕ) → after.tables ≡ tables → after.held.now ≡ now
      → Answered file size request from name modem owner (fate peer turn) (map.get after.held.transfers peer) (UpTo tables now soon)
      → ((k ticks : ℕ) → Lives file size request from name modem owner k ticks (map.get after.held.transfers peer) → UpTo after.tables after.held.now soon k ticks
      → is_done peer (soon ++ rest) ≡ true)
      → is_done_by (fate peer turn) (is_done peer (soon ++ rest)) ≡ true
  done_by turn after last soon rest tables now t m (finished number e) later = ap (λ (f : Fate). is_done_by f (is_done peer (soon ++ rest))) e
  done_by turn after last soon rest tables now t m (onward k ticks same lives up) later =
      same (is_done peer (soon ++ rest))
      ∙ later k ticks lives (subst (λ (u : Tables). UpTo u after.held.now soon k ticks) (sym t) (subst (λ i. UpTo tables i soon k ticks) (sym m) up))

  step_answers : (s : State) (turn : Turn) (after : State) (k ticks : ℕ) (Later : ℕ → ℕ → Type 0) → Step s turn.event turn.outcome (effect_of turn after)
      → Lives file size request from name modem owner k ticks (map.get s.held.transfers peer)
      → AnswersBy request from (ask peer turn.event.what) (Agreed s.tables (max s.held.now turn.event.at.0)) turn.outcome k ticks Later
      → Answered file size request from name modem owner (fate peer turn) (map.get after.held.transfers peer) Later
  unfolding Step
  step_answers s turn after k ticks Later step l answers =
      turn_answers peer file size request from name modem owner asked read (at_moment s turn.event.at.0) turn.event.what turn.outcome (effect_of turn after) k ticks Later step
      (changes_its_part s turn.event turn.outcome (effect_of turn after) step) l answers

  answers_done : (s last : State) (soon rest : List Turn) (k ticks : ℕ) → Run s (soon ++ rest) last
      → Lives file size request from name modem owner k ticks (map.get s.held.transfers peer) → UpTo s.tables s.held.now soon k ticks → is_done peer (soon ++ rest) ≡ true
  answers_done s last [] rest k ticks run l up = absurd (behind_last file size n k request from name modem owner ticks _ last_is l up)
  answers_done s last (turn ∷ soon) rest k ticks run l up =
      done_by turn run.0 last soon rest (write_all s.tables turn.commit) (max s.held.now turn.event.at.0)
      (tables_by_commit s turn.event turn.outcome (effect_of turn run.0) run.1.0)
      (moment_is_greatest s turn.event turn.outcome (effect_of turn run.0) run.1.0)
      (step_answers s turn run.0 k ticks (UpTo (write_all s.tables turn.commit) (max s.held.now turn.event.at.0) soon) run.1.0 l up)
      (λ j left lives later. answers_done run.0 last soon rest j left run.1.1 lives later)

-- ---- the modem and the file are those of the transfer

pub same_modem : (t : Tables) (now : ℕ) (ip : Ip4) (name : List ℕ) (one other : Mac) (owner else_owner : ℕ) → Agreement t now ip name (file_owner one owner)
    → Agreement t now ip name (file_owner other else_owner) → one ≡ other
same_modem t now ip name one other owner else_owner a b =
    let rows : Some a.lease ≡ Some b.lease = sym a.lease_is ∙ b.lease_is in
    let row : a.lease ≡ b.lease = cc in
    let bounds : Bound one ≡ Bound other = sym a.bound ∙ ap (λ (l : _). l.hold) row ∙ b.bound in
    cc

same_owner : (t : Tables) (now : ℕ) (ip : Ip4) (name : List ℕ) (mac : Mac) (owner other : ℕ) → Agreement t now ip name (file_owner mac owner)
    → Agreement t now ip name (file_owner mac other) → owner ≡ other
same_owner t now ip name mac owner other a b =
    let rows : Some a.modem ≡ Some b.modem = sym a.modem_is ∙ b.modem_is in
    let row : a.modem ≡ b.modem = cc in
    sym a.owned ∙ ap (λ (m : _). m.subscriber) row ∙ b.owned

module _ (s : State) (turn : Turn) (after last : State) (later : List Turn) (peer : Peer) (bytes name : List ℕ) (asked : Options) where
  lives_first : (did : TftpDid s peer bytes (effect_of turn after)) (b : Begins (view s.tables peer.ip) s.held.now s.held.transfers peer bytes did.given name asked)
      → (file : List ℕ) (modem : Mac) (owner : ℕ) → file ≡ b.file → modem ≡ b.mac → owner ≡ b.owner
      → Lives file (size_for asked) bytes (first_number asked) name modem owner (first_number asked) 5 (map.get after.held.transfers peer)
  unfolding first
  lives_first did b file modem owner files modems owners = record {
    x = first s turn after last later peer bytes name asked did b;
    live_is = first_lives s turn after last later peer bytes name asked did b;
    at = subst (λ f. IsAt f (size_for asked) (first_number asked) (first s turn after last later peer bytes name asked did b)) (sym files)
        (first_at s turn after last later peer bytes name asked did b);
    names = refl;
    modems = sym modems;
    owners = sym owners;
    requests = refl;
    past = omega arith;
    fresh = λ e. refl;
    left = lit≤ tt;
  }

  lives_as : (did : TftpDid s peer bytes (effect_of turn after)) (b : Begins (view s.tables peer.ip) s.held.now s.held.transfers peer bytes did.given name asked)
      → (file : List ℕ) (modem : Mac) (owner : ℕ) → Agreement s.tables s.held.now peer.ip name (file_owner modem owner) → IsFile s.tables modem s.held.now peer.ip file
      → Lives file (size_for asked) bytes (first_number asked) name modem owner (first_number asked) 5 (map.get after.held.transfers peer)
  lives_as did b file modem owner agreed own =
      let mine = accepting_agrees s.tables s.held.now peer.ip b.mac b.owner name b.accepting in
      let modems : modem ≡ b.mac = same_modem s.tables s.held.now peer.ip name modem b.mac owner b.owner agreed mine in
      let owners : owner ≡ b.owner =
      same_owner s.tables s.held.now peer.ip name b.mac owner b.owner (subst (λ m. Agreement s.tables s.held.now peer.ip name (file_owner m owner)) modems agreed) mine in
      let files : file ≡ b.file =
      file_is_one s.tables b.mac s.held.now peer.ip file b.file (subst (λ m. IsFile s.tables m s.held.now peer.ip file) modems own)
      (own_file s turn after last later peer bytes name asked did b) in
      lives_first did b file modem owner files modems owners

  lives_did : TftpDid s peer bytes (effect_of turn after) → packet_of bytes ≡ Ok (Reads name asked) → says_accepted turn.said.line ≡ true
      → (file : List ℕ) (modem : Mac) (owner : ℕ) → Agreement s.tables s.held.now peer.ip name (file_owner modem owner) → IsFile s.tables modem s.held.now peer.ip file
      → Lives file (size_for asked) bytes (first_number asked) name modem owner (first_number asked) 5 (map.get after.held.transfers peer)
  lives_did did read says file modem owner agreed own = lives_as did (beginning s turn after last later peer bytes name asked did read says) file modem owner agreed own

lives_at : (s : State) (turn : Turn) (after last : State) (later : List Turn) (peer : Peer) (name : List ℕ) (asked : Options)
    → Step s turn.event turn.outcome (effect_of turn after) → (accepts : IsAccepted peer name asked turn)
    → (served : FileIsServed s.tables (max s.held.now turn.event.at.0) peer name asked turn later)
    → Lives served.file (size_for asked) accepts.bytes (first_number asked) name served.modem served.subscriber (first_number asked) 5 (map.get after.held.transfers peer)
unfolding Step
lives_at s turn after last later peer name asked step accepts served =
    lives_did (at_moment s turn.event.at.0) turn after last later peer accepts.bytes name asked
    (acted_on (at_moment s turn.event.at.0) turn.outcome peer accepts.bytes (effect_of turn after)
    (subst (λ (w : What). Does (at_moment s turn.event.at.0) w turn.outcome (effect_of turn after)) accepts.event step) accepts.word)
    accepts.read accepts.word served.file served.modem served.subscriber served.agreed served.own

pub who_answers_gets_all : WhoAnswersGetsAll
who_answers_gets_all s last turn soon rest peer name asked n run accepts served last_is up =
    let tables = tables_by_commit s turn.event turn.outcome (effect_of turn run.0) run.1.0 in
    let moment = moment_is_greatest s turn.event turn.outcome (effect_of turn run.0) run.1.0 in
    let agree : Tables → ℕ → Type 0 = λ t now. Agreement t now peer.ip name (file_owner served.modem served.subscriber) in
    let done : is_done peer (soon ++ rest) ≡ true =
    answers_done peer served.file (size_for asked) accepts.bytes (first_number asked) name served.modem served.subscriber asked accepts.read n last_is run.0 last soon rest (first_number asked) 5 run.1.1
    (lives_at s turn run.0 last (soon ++ rest) peer name asked run.1.0 accepts served)
    (subst (λ (t : Tables). AnswersUpTo accepts.bytes (first_number asked) (suc n) peer agree t run.0.held.now (first_number asked) 5 soon) (sym tables)
    (subst (λ i. AnswersUpTo accepts.bytes (first_number asked) (suc n) peer agree (write_all s.tables turn.commit) i (first_number asked) 5 soon) (sym moment) up)) in
    (done, served.whole done)
