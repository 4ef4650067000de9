-- A piece of a connection, by what the bytes so far say.
use Rattle.std.proofs.Common.{◌≡◌, ℕ, Bool, true, false, ◌&&◌, cond, List, [], ◌++◌, codes, Option, Some, None, is_none, Result, Ok, Err, MatchResult, refl, sym, ap, ◌∙◌, subst}
use Rattle.std.specs.Ordering.{nat_cmp, eq_by_cmp, is_eq}
use Rattle.std.specs.Cmp.{nat_cmp_total}
use Rattle.std.specs.declared.cmp.Ordering.{Ordering}
use Rattle.std.specs.declared.cmp.Ordering.TheVariants.{Less, Equal, Greater}
use Rattle.std.specs.FinMap as map
use Rattle.off_http.specs.declared.answers.HttpFault.{HttpFault}
use Rattle.off_http.specs.Request.{Meaning, Waits, Refused, Asked, RequestIs}
use Rattle.off_http.specs.Heard.{IsAsked}
use Rattle.off_http.proofs.Meanings.{one_meaning}
use Rattle.off_clerk_rules.specs.declared.faults.Fault.TheVariants as fault
use Rattle.off_defs.specs.declared.events.What.TheVariants.{Piece}
use Rattle.off_defs.specs.declared.writes.Write.{Write}
use Rattle.off_defs.specs.State.{Tables, Held, Said, Effect, state_of}
use Rattle.off_defs.specs.Tables.{write_all}
use Rattle.off_defs.proofs.ToldLemmas.{told_self, told_weaker}
use Rattle.off_outside.proofs.KeeperLemmas.{settled_none, nothing_begun, not_committed_as, spent_none}
use Rattle.off_book.specs.Http.{answer_request, by_meaning, is_full, heard_of, with_connection, without_connection, TakesPiece, PieceDid}
use Rattle.off_outside.specs.declared.keeper.KeepErr.{KeepErr}
use Rattle.off_outside.specs.declared.keeper.KeepErr.TheVariants as keep
use Rattle.off_outside.specs.KeeperSeen.{KeeperSeen}
use Rattle.off_office.specs.Desk.{Desk}
use Rattle.off_office.specs.Conditions.{StaysAs}
use Rattle.off_office.specs.Asking.{Asks, PieceAsks, SpentWithin, meaning_calls}
use Rattle.off_office.proofs.CommandLemmas.{nothing_spent}
use Rattle.off_office.proofs.StepLemmas.{kept_unwritten}
use Rattle.off_office.proofs.MirrorLemmas.{stays_self, stays_by, mirrors_as, fits_as}
use Rattle.off_laws.proofs.Lines.{does_line}
use Rattle.off_office.specs.Acting.{forgets}
use Rattle.off_sessions.specs.Answers.{said_to, fault_said, busy_said, failed_said, IsSaid}
use Rattle.off_office.specs.Answering.{answer_asked, IsAnswered, WaitsFor, PieceOn, HeardPiece, NotHeard}

abbrev Connections : Type 0
Connections = map.FinMap nat_cmp (List ℕ)

is_tied : (r : Ordering) → is_eq r ≡ true → r ≡ Equal
is_tied Less h = cc
is_tied Equal h = refl
is_tied Greater h = cc

-- to forget what isn't there changes nothing
absent_at : (m : Connections) (k q : ℕ) (b : Bool) → eq_by_cmp nat_cmp q k ≡ b → map.get m k ≡ None → cond b None (map.get m q) ≡ map.get m q
absent_at m k q true tied none = sym none ∙ map.get_tied nat_cmp_total m q k (is_tied (nat_cmp q k) tied)
absent_at m k q false tied none = refl

remove_absent : (m : Connections) (k : ℕ) → map.get m k ≡ None → map.remove m k ≡ m
remove_absent m k none =
    map.same_map nat_cmp_total map.nat_cmp-IsAntisymmetric (map.remove m k) m (λ q. map.get-remove nat_cmp_total m k q ∙ absent_at m k q (eq_by_cmp nat_cmp q k) refl none)

again : {A : Type 0} (b : Bool) (x y z : A) → cond b x (cond b y z) ≡ cond b x z
again true x y z = refl
again false x y z = refl

insert_removed : (m : Connections) (k : ℕ) (v : List ℕ) → map.insert (map.remove m k) k v ≡ map.insert m k v
insert_removed m k v =
    map.same_map nat_cmp_total map.nat_cmp-IsAntisymmetric (map.insert (map.remove m k) k v) (map.insert m k v) (λ q.
    map.get-insert nat_cmp_total (map.remove m k) k v q
    ∙ (ap (cond (eq_by_cmp nat_cmp q k) (Some v)) (map.get-remove nat_cmp_total m k q)
    ∙ (again (eq_by_cmp nat_cmp q k) (Some v) None (map.get m q) ∙ sym (map.get-insert nat_cmp_total m k v q))))

none_at : (o : Option (List ℕ)) → is_none o ≡ true → o ≡ None
none_at None is = refl
none_at (Some v) is = cc

new_one : (a b : Bool) → (a && b) ≡ true → a ≡ true
new_one true b is = refl
new_one false b is = cc

full_absent : (m : Connections) (k : ℕ) → is_full m k ≡ true → map.get m k ≡ None
full_absent m k full = none_at (map.get m k) (new_one _ _ full)

abbrev pub Hears : ℕ → List ℕ → Said → Desk → Desk → KeeperSeen → KeeperSeen → Result (Unit {0}) KeepErr → Type 0
Hears conn piece said before after k l q = MatchResult q (λ _. HeardPiece conn piece said before after k l) (λ err. NotHeard err conn piece before after k l)

-- a piece that touches no tables
heard_quietly : (conn : ℕ) (piece : List ℕ) (said : Said) (before after : Desk) (k : KeeperSeen) → StaysAs before after → after.held.now ≡ before.held.now
    → ((t : Tables) → PieceOn conn piece said [] before after t t) → HeardPiece conn piece said before after k k
heard_quietly conn piece said before after k stays moment does = record {
  commit = [];
  tables = told_self (λ t. record {
    holds = λ mirrors. does t;
    stays = λ fits. mirrors_as before after t stays fits.mirrors;
  });
  settled = settled_none [] k refl;
  kept = kept_unwritten before after stays.kept;
  moment = moment;
  tells = does_line (state_of map.empty before.held) (Piece conn piece) (record { said = said; commit = []; after = state_of map.empty after.held }) (does map.empty);
}

-- memory was wanted: the connection is forgotten
forgotten : (conn : ℕ) (piece : List ℕ) (before after : Desk) (k : KeeperSeen) (err : KeepErr) → err ≡ keep.Memory → after ≡ forgets before conn → NotHeard err conn piece before after k k
forgotten conn piece before after k err memory is = subst (λ (e : KeepErr). NotHeard e conn piece before after k k) (sym memory) (record { forgotten = is; keeper = nothing_begun k })

pub busy_hears : (conn : ℕ) (piece : List ℕ) (said : Said) (before : Desk) (k : KeeperSeen) (r : Result (Unit {0}) KeepErr)
    → is_full before.held.connections conn ≡ true → IsSaid r said (busy_said conn) → Hears conn piece said before before k k r
busy_hears conn piece said before k (Ok u) full is = heard_quietly conn piece said before before k (stays_self before) refl (λ t.
    subst (λ b. TakesPiece b (state_of t before.held) conn piece (record { said = said; commit = []; after = state_of t before.held })) (sym full)
    (ap (λ (x : Said). record { said = x; commit = []; after = state_of t before.held }) is))
busy_hears conn piece said before k (Err err) full is =
    forgotten conn piece before before k err is
    (ap (λ (m : Connections). record before { held = record before.held { connections = m } }) (sym (remove_absent before.held.connections conn (full_absent before.held.connections conn full))))

-- what is heard where there is room
pub record Read (conn : ℕ) (piece bytes : List ℕ) (meaning : Meaning) (before : Desk) : Type 0 where
  pub room : is_full before.held.connections conn ≡ false
  pub joins : bytes ≡ heard_of before.held conn ++ piece
  pub says : RequestIs bytes meaning

takes : (conn : ℕ) (piece bytes : List ℕ) (meaning : Meaning) (before : Desk) (t : Tables) (effect : Effect) → Read conn piece bytes meaning before
    → effect ≡ by_meaning (state_of t before.held) conn bytes meaning → PieceDid (state_of t before.held) conn piece effect
takes conn piece bytes meaning before t effect read does =
    subst (λ b. TakesPiece b (state_of t before.held) conn piece effect) (sym read.room)
    (record {
      meaning = meaning;
      says = subst (λ (x : List ℕ). RequestIs x meaning) read.joins read.says;
      does = subst (λ (x : List ℕ). effect ≡ by_meaning (state_of t before.held) conn x meaning) read.joins does;
    })

wait_by : (conn : ℕ) (piece bytes : List ℕ) (said : Said) (before after : Desk) (k : KeeperSeen) (r : Result (Unit {0}) KeepErr)
    → Read conn piece bytes Waits before → WaitsFor conn bytes r said (forgets before conn) after → Hears conn piece said before after k k r
wait_by conn piece bytes said before after k (Ok u) read waits =
    heard_quietly conn piece said before after k
    (stays_by before (record (forgets before conn) { held = with_connection (forgets before conn).held conn bytes }) after waits.1 (record { counts = refl; kept = refl; agreements = refl; pools = refl; device_pools = refl; users = refl; devices = refl }))
    (ap (λ (x : Desk). x.held.now) waits.1) (λ t.
    takes conn piece bytes Waits before t (record { said = said; commit = []; after = state_of t after.held }) read
    (ap (λ (x : Said). record { said = x; commit = []; after = state_of t after.held }) waits.0
    ∙ (ap (λ (x : Desk). record { said = failed_said (codes "http wait"); commit = []; after = state_of t x.held }) waits.1
    ∙ ap (λ (m : Connections). record { said = failed_said (codes "http wait"); commit = []; after = state_of t (record before.held { connections = m }) }) (insert_removed before.held.connections conn bytes))))
wait_by conn piece bytes said before after k (Err err) read waits = forgotten conn piece before after k err waits.0 waits.1

pub wait_hears : (conn : ℕ) (piece bytes : List ℕ) (meaning : Meaning) (said : Said) (before mid after : Desk) (k : KeeperSeen) (r : Result (Unit {0}) KeepErr)
    → Read conn piece bytes meaning before → meaning ≡ Waits → mid ≡ forgets before conn → WaitsFor conn bytes r said mid after
    → Hears conn piece said before after k k r
wait_hears conn piece bytes meaning said before mid after k r read is left waits =
    (wait_by conn piece bytes said before after k r (subst (λ (m : Meaning). Read conn piece bytes m before) is read) (subst (λ (x : Desk). WaitsFor conn bytes r said x after) left waits))

bad_by : (conn : ℕ) (piece bytes : List ℕ) (f : HttpFault) (said : Said) (before : Desk) (k : KeeperSeen) (r : Result (Unit {0}) KeepErr)
    → Read conn piece bytes (Refused f) before → IsSaid r said (fault_said conn (fault.Http f)) → Hears conn piece said before (forgets before conn) k k r
bad_by conn piece bytes f said before k (Ok u) read is = heard_quietly conn piece said before (forgets before conn) k (record { counts = refl; kept = refl; agreements = refl; pools = refl; device_pools = refl; users = refl; devices = refl }) refl (λ t.
    takes conn piece bytes (Refused f) before t (record { said = said; commit = []; after = state_of t (without_connection before.held conn) }) read
    (ap (λ (x : Said). record { said = x; commit = []; after = state_of t (without_connection before.held conn) }) is))
bad_by conn piece bytes f said before k (Err err) read is = forgotten conn piece before (forgets before conn) k err is refl

pub bad_hears : (conn : ℕ) (piece bytes : List ℕ) (meaning : Meaning) (f : HttpFault) (said : Said) (before after : Desk) (k : KeeperSeen) (r : Result (Unit {0}) KeepErr)
    → Read conn piece bytes meaning before → meaning ≡ Refused f → after ≡ forgets before conn → IsSaid r said (fault_said conn (fault.Http f))
    → Hears conn piece said before after k k r
bad_hears conn piece bytes meaning f said before after k r read is left told =
    subst (λ (x : Desk). Hears conn piece said before x k k r) (sym left)
    (bad_by conn piece bytes f said before k r (subst (λ (m : Meaning). Read conn piece bytes m before) is read) told)

asked_by : (conn : ℕ) (piece bytes m p b : List ℕ) (said : Said) (before after : Desk) (k l : KeeperSeen) (q : Result (Unit {0}) KeepErr)
    → Read conn piece bytes (Asked m p b) before
    → IsAnswered q (λ t. answer_request t before.held.now m p b) conn said (forgets before conn) after k l → Hears conn piece said before after k l q
asked_by conn piece bytes m p b said before after k l (Ok u) read ends = record {
  commit = ends.writes;
  tables = told_weaker ends.tables (λ t v under. record {
    holds = λ mirrors.
        let f = under.holds (mirrors_as before (forgets before conn) t (record { counts = refl; kept = refl; agreements = refl; pools = refl; device_pools = refl; users = refl; devices = refl }) mirrors) in
        let reply = answer_request t before.held.now m p b in
        takes conn piece bytes (Asked m p b) before t (record { said = said; commit = ends.writes; after = state_of v after.held }) read
        (ap (λ (x : Said). record { said = x; commit = ends.writes; after = state_of v after.held }) f.0
        ∙ (ap (λ (x : Tables). record { said = said_to conn reply; commit = ends.writes; after = state_of x after.held }) f.2
        ∙ (ap (λ (x : List Write). record { said = said_to conn reply; commit = x; after = state_of (write_all t x) after.held }) f.1
        ∙ ap (λ (h : Held). record { said = said_to conn reply; commit = reply.writes; after = state_of (write_all t reply.writes) h }) ends.held)));
    stays = λ fits. under.stays (fits_as before (forgets before conn) t (record { counts = refl; kept = refl; agreements = refl; pools = refl; device_pools = refl; users = refl; devices = refl }) fits);
  });
  settled = ends.settled;
  kept = ends.kept;
  moment = ap (λ (h : Held). h.now) ends.held;
  tells = ends.tells;
}
asked_by conn piece bytes m p b said before after k l (Err e) read ends = record {
  forgotten = ends.same;
  keeper = not_committed_as ends.keeper (λ t told u begun mirrors.
      let effect = by_meaning (state_of t before.held) conn bytes (Asked m p b) in
      (effect, (takes conn piece bytes (Asked m p b) before t effect read refl, begun (mirrors_as before (forgets before conn) t (record { counts = refl; kept = refl; agreements = refl; pools = refl; device_pools = refl; users = refl; devices = refl }) mirrors))));
}

by_asked : (conn : ℕ) (piece bytes : List ℕ) (meaning : Meaning) (said : Said) (before after : Desk) (k l : KeeperSeen) (q : Result (Unit {0}) KeepErr)
    → Read conn piece bytes meaning before → IsAsked meaning
    → IsAnswered q (answer_asked before.held.now meaning) conn said (forgets before conn) after k l
    → Hears conn piece said before after k l q
by_asked conn piece bytes Waits said before after k l q read is ends = absurd is
by_asked conn piece bytes (Refused f) said before after k l q read is ends = absurd is
by_asked conn piece bytes (Asked m p b) said before after k l q read is ends = asked_by conn piece bytes m p b said before after k l q read ends

pub asked_hears : (conn : ℕ) (piece bytes : List ℕ) (meaning : Meaning) (said : Said) (before mid after : Desk) (k l : KeeperSeen) (q : Result (Unit {0}) KeepErr)
    → Read conn piece bytes meaning before → IsAsked meaning → mid ≡ forgets before conn
    → IsAnswered q (answer_asked mid.held.now meaning) conn said mid after k l
    → Hears conn piece said before after k l q
asked_hears conn piece bytes meaning said before mid after k l q read is left ends =
    by_asked conn piece bytes meaning said before after k l q read is
    (subst (λ (x : Desk). IsAnswered q (answer_asked x.held.now meaning) conn said x after k l) left ends)

-- what a piece asks of the keeper: where its connection is one too many, nothing
pub full_asks : (conn : ℕ) (piece : List ℕ) (held : Held) (k : KeeperSeen) → is_full held.connections conn ≡ true → Asks (Piece conn piece) held k k
full_asks conn piece held k full = subst (λ b. PieceAsks b (heard_of held conn ++ piece) k k) (sym full) (spent_none k)

-- what no call was made for is within any bound
pub unasked_asks : (conn : ℕ) (piece : List ℕ) (held : Held) (k : KeeperSeen) → is_full held.connections conn ≡ false → Asks (Piece conn piece) held k k
unasked_asks conn piece held k room =
    subst (λ b. PieceAsks b (heard_of held conn ++ piece) k k) (sym room) (λ meaning says. nothing_spent (meaning_calls meaning) k)

-- and else what the bytes so far say, which is one thing
pub read_asks : (conn : ℕ) (piece bytes : List ℕ) (meaning : Meaning) (before : Desk) (a b : KeeperSeen) → Read conn piece bytes meaning before
    → SpentWithin (meaning_calls meaning) a b → Asks (Piece conn piece) before.held a b
read_asks conn piece bytes meaning before a b read spent =
    subst (λ full. PieceAsks full (heard_of before.held conn ++ piece) a b) (sym read.room)
    (λ other says.
    let mine = subst (λ (x : List ℕ). RequestIs x meaning) read.joins read.says in
    subst (λ (m : Meaning). SpentWithin (meaning_calls m) a b) (one_meaning (heard_of before.held conn ++ piece) meaning other mine says) spent)
