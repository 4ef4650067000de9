-- What is decided of a datagram, by the stages in which it is judged; and what is said and done of it.
use Rattle.std.proofs.Common.{◌≡◌, ℕ, ◌==◌, ◌&&◌, not, Bool, true, false, cond, is_some, List, [], length, Option, Some, None, option_and_then, Result, Ok, Err, is_ok, IfOk, OnOk, OnErr, IfSome, MatchResult, refl, sym, ap, ◌∙◌, subst}
use Rattle.std.specs.FinMap as map
use Rattle.off_base.specs.Tree.{Tree}
use Rattle.off_base.specs.declared.octets.NoMemory.{NoMemory}
use Rattle.off_base.specs.declared.addresses.Ip4.{Ip4}
use Rattle.off_base.specs.declared.addresses.Peer.{Peer}
use Rattle.off_base.specs.declared.macs.Mac.{Mac}
use Rattle.off_defs.specs.declared.tables.Modem.{Modem}
use Rattle.off_defs.specs.declared.tables.Lease.{Lease}
use Rattle.off_defs.specs.State.{Tables, Transfer}
use Rattle.off_account_rules.specs.Rows.{passes, lease_in, hub_of}
use Rattle.off_file_rules.specs.Profile.{profile_in}
use Rattle.off_file_laws.specs.Laws.{SpellsProfile}
use Rattle.off_file_laws.proofs.LawLemmas.{profiles_spell, built_short}
use Rattle.off_outside.specs.KeeperSeen.{KeeperSeen}
use Rattle.off_outside.specs.KeeperCalls.{Looks, Reads, NotDone, Spent}
use Rattle.off_outside.specs.declared.keeper.KeepErr.{KeepErr}
use Rattle.off_outside.specs.declared.keeper.KeepErr.TheVariants.{Memory}
use Rattle.off_outside.proofs.KeeperLemmas.{reads_as, reads_none, reads_forgotten}
use Rattle.off_packets.specs.Packets.{Meant, Acknowledges, GivesUp, packet_of}
use Rattle.off_packets.specs.declared.packets.Options.{Options}
use Rattle.off_transfer_rules.specs.Requests.{datagram_at, request_for, file_owner}
use Rattle.off_transfer_rules.specs.Transfers.{Transfers, has_no_room, is_at_last}
use Rattle.off_transfer_rules.specs.View.{View, view, owner_by, holder, is_own_name, agrees}
use Rattle.off_transfer_rules.specs.Steps.{Way, Given, gives, GivesBy, Repeats, Finishes, GoesOn, BreaksOff, Ignores, Accepts, TftpStep, way, way_of, way_anew, way_for_owner, owner_by_row, way_for_holder, file_not_found, too_many_transfers, way_of_request, way_of_last, way_of_acknowledgement, is_repeated, ended, Denial, Denies}
use Rattle.off_packets.specs.declared.faults.PacketFault.{PacketFault}
use Rattle.off_transfer_rules.specs.declared.words.TftpWord.TheVariants as word
use Rattle.off_tftp.specs.Granted.{as_came}
use Rattle.off_tftp.specs.declared.acknowledging.Stage.TheVariants as stage
use Rattle.off_tftp.specs.declared.requests.Datagram.{Datagram}
use Rattle.off_tftp.specs.declared.transfers.Place.{Place}
use Rattle.off_tftp.specs.declared.deciding.Decision.{Decision}
use Rattle.off_tftp.specs.declared.deciding.Change.{Change}
use Rattle.off_tftp.specs.declared.deciding.Change.TheVariants as change
use Rattle.off_tftp.specs.Built.{CanBuild}
use Rattle.off_kept.specs.Entries.{Entries, with_first}
use Rattle.off_kept.specs.Right.{AllRight}
use Rattle.off_tftp.specs.declared.agreements.Agreement.{Agreement}
use Rattle.off_tftp.specs.Agreements.{Slots, most_slots, stands_for, is_remembered, with_agreed, IsAgreementOf, RemembersRight, AllAgreed}
use Rattle.off_tftp.specs.Calls.{asks_by_name, FewUnlessNamed, FewUnlessNamedAt, is_acknowledgement, UnaskedWhereAgreed}
use Rattle.off_tftp.specs.Deciding.{Does, Serves, Decides, Judges, Answers, KeepsNothing, SeesNothing, SeesRight, SeesBegun, Remembers, given_by, goes_on, new_transfer_by, kept_behind, refusal_of}
use Rattle.off_tftp.specs.declared.gathering.Seen.{Seen}
use Rattle.off_tftp.specs.Keeping.{entry_for, kept_by, is_kept, BeginsFor, FewWhereBegun}
use Rattle.off_tftp.specs.Seen.{held_by, view_at, view_of, view_with, without_profile, names_file, seen_for, CanServe, Shows}
use Rattle.off_tftp.proofs.AgreementLemmas.{agreed_seen, remembers_right, remembered_agrees, seen_remembered}
use Rattle.off_tftp.proofs.BodyLemmas.{repeat_keeps, acknowledgement_keeps, after_right, few_begun}
use Rattle.off_tftp.specs.Stages.{repeats, lacks_room_by, stage_of}

-- ---- by the answer

pub looks_settled : {P : Tables → Type 0} {a b : KeeperSeen} (step : Result Decision NoMemory) (kept : Result Decision KeepErr) (Q : Decision → Tables → Type 0)
    → MatchResult kept (λ w. step ≡ Ok w) (λ err. (err ≡ Memory) × (is_ok step ≡ false)) → Reads P a b → ((t : Tables) → P t → IfOk step (λ w. Q w t)) → Looks kept a b Q
looks_settled {P} {a} {b} step (Ok w) Q is reads join = reads_as reads (λ t p. subst (λ (r : Result Decision NoMemory). IfOk r (λ v. Q v t)) is (join t p))
looks_settled {P} {a} {b} step (Err err) Q is reads join = subst (λ (x : KeepErr). NotDone x a b) (sym is.0) (reads_forgotten reads)

pub looks_at_once : (a : KeeperSeen) (step : Result Decision NoMemory) (kept : Result Decision KeepErr) (Q : Decision → Tables → Type 0)
    → MatchResult kept (λ w. step ≡ Ok w) (λ err. (err ≡ Memory) × (is_ok step ≡ false)) → ((t : Tables) → IfOk step (λ w. Q w t)) → Looks kept a a Q
looks_at_once a step kept Q is join = looks_settled {P = λ t. true ≡ true} {a = a} {b = a} step kept Q is (reads_none {P = λ t. true ≡ true} (λ t. refl)) (λ t p. join t)

pub looks_as : (a b : KeeperSeen) (result : Result Decision KeepErr) (Q R : Decision → Tables → Type 0) → Looks result a b Q → ((w : Decision) (t : Tables) → Q w t → R w t) → Looks result a b R
looks_as a b (Ok w) Q R looks join = reads_as looks (join w)
looks_as a b (Err err) Q R looks join = looks

pub if_ok_as : (step : Result Decision NoMemory) (Q R : Decision → Type 0) → IfOk step Q → ((w : Decision) → Q w → R w) → IfOk step R
if_ok_as (Ok w) Q R q join = join w q
if_ok_as (Err err) Q R q join = q

-- a premise that doesn't depend on the answer
pub if_ok_under : (step : Result Decision NoMemory) {A : Type 0} (Q : Decision → Type 0) → (A → IfOk step Q) → IfOk step (λ w. A → Q w)
if_ok_under (Ok w) Q under = under
if_ok_under (Err err) Q under = tt

pub if_settled : (step : Result Decision NoMemory) (kept : Result Decision KeepErr) (Q : Decision → Type 0)
    → MatchResult kept (λ w. step ≡ Ok w) (λ err. (err ≡ Memory) × (is_ok step ≡ false)) → IfOk step Q → IfOk kept Q
if_settled step (Ok w) Q is q = subst (λ (r : Result Decision NoMemory). IfOk r Q) is q
if_settled step (Err err) Q is q = tt

-- ---- tables have a file where they have a profile

served_by : (t : Tables) (owner : Option Mac) (now : ℕ) (ip : Ip4) (secret : List ℕ) (profile : List Tree) → option_and_then (profile_in t) owner ≡ Some profile → CanBuild secret profile now ip
served_by t None now ip secret profile p = cc
served_by t (Some mac) now ip secret profile p =
    let spells : SpellsProfile profile = profiles_spell t mac profile p in
    record {
      fits = spells.fits;
      neither = spells.neither;
      short = λ file built. built_short t mac now ip secret profile file p built;
    }

pub can_serve : (t : Tables) (hub : Option ℕ) (now : ℕ) (ip : Ip4) → CanServe (view_at t hub ip) now ip
unfolding view_at
can_serve t hub now ip = λ site profile s p. served_by t (owner_by (lease_in t ip)) now ip site.secret profile p

-- the hub of the address gives what the tables have by themselves
pub own_view : (t : Tables) (hub : Option ℕ) (ip : Ip4) → hub ≡ hub_of t ip → view_at t hub ip ≡ view t ip
unfolding view_at view
own_view t hub ip is = ap (λ (h : Option ℕ). view_at t h ip) is

-- ---- one way

module _ (now : ℕ) (old : Transfers) (from : Peer) (bytes : List ℕ) where
  abbrev DoesSo : View → Way → Decision → Type 0
  DoesSo v w d = Does v old (datagram_at now from bytes) w d

  abbrev ServesSo : View → Way → Decision → Type 0
  ServesSo v w d = Serves v old (datagram_at now from bytes) w d

  does_as : (v : View) (w u : Way) (d : Decision) → w ≡ u → DoesSo v w d → DoesSo v u d
  does_as v w u d e does = subst (λ x. DoesSo v x d) e does

  -- what the tables agree with is told by all but the profile
  last_any : (v u : View) (x : Transfer) (gave : Given) (at ag : Bool) → GivesBy u old (datagram_at now from bytes) (cond at Finishes (cond ag (GoesOn x) BreaksOff)) gave
      → GivesBy v old (datagram_at now from bytes) (cond at Finishes (cond ag (GoesOn x) BreaksOff)) gave
  last_any v u x gave true ag g = g
  last_any v u x gave false true g = g
  last_any v u x gave false false g = g

  seen_last : (v : View) (ip : Ip4) (x : Transfer) (d : Decision) → DoesSo (without_profile v) (way_of_last (without_profile v) now ip x) d → DoesSo v (way_of_last v now ip x) d
  seen_last v ip x d does = last_any v (without_profile v) x (given_by d now old from) (is_at_last x) (agrees v now ip x.name (file_owner x.modem x.subscriber)) does

  seen_next : (v : View) (ip : Ip4) (live : Option Transfer) (d : Decision) → IfSome live (λ x. DoesSo (without_profile v) (way_of_last (without_profile v) now ip x) d)
      → IfSome live (λ x. DoesSo v (way_of_last v now ip x) d)
  seen_next v ip None d does = does
  seen_next v ip (Some x) d does = seen_last v ip x d does

  pub next_does : (v seen : View) (ip : Ip4) (live : Option Transfer) (step : Result Decision NoMemory) → seen ≡ without_profile v
      → IfOk step (λ d. IfSome live (λ x. Does seen old (datagram_at now from bytes) (way_of_last seen now ip x) d))
      → IfOk step (λ d. IfSome live (λ x. Does v old (datagram_at now from bytes) (way_of_last v now ip x) d))
  next_does v seen ip live step e done =
      if_ok_as step _ (λ d. IfSome live (λ x. DoesSo v (way_of_last v now ip x) d))
      (subst (λ (u : View). IfOk step (λ d. IfSome live (λ x. DoesSo u (way_of_last u now ip x) d))) e done) (λ d does. seen_next v ip live d does)

  -- where it's remembered that the tables agree the next block goes
  on_by : (v : View) (ip : Ip4) (x : Transfer) (d : Decision) → is_at_last x ≡ false → agrees v now ip x.name (file_owner x.modem x.subscriber) ≡ true → DoesSo v (GoesOn x) d → DoesSo v (way_of_last v now ip x) d
  on_by v ip x d more agreed does =
      does_as v (GoesOn x) (way_of_last v now ip x) d
      (sym (ap (λ b. cond b Finishes (cond (agrees v now ip x.name (file_owner x.modem x.subscriber)) (GoesOn x) BreaksOff)) more ∙ ap (λ b. cond b (GoesOn x) BreaksOff) agreed)) does

  pub remembered_does : (v : View) (ip : Ip4) (slots : Slots) (live : Option Transfer) (d : Decision) → passes (is_remembered now ip slots) live ≡ true → RemembersRight v ip slots
      → IfSome live (λ x. is_at_last x ≡ false) → IfSome live (λ x. Does v old (datagram_at now from bytes) (GoesOn x) d) → IfSome live (λ x. Does v old (datagram_at now from bytes) (way_of_last v now ip x) d)
  remembered_does v ip slots None d is right more does = does
  remembered_does v ip slots (Some x) d is right more does = on_by v ip x d more (remembered_agrees v now ip slots x is right) does

  -- and so it does where they were seen to agree
  pub seen_does_on : (v : View) (ip : Ip4) (live : Option Transfer) (step : Result Decision NoMemory) → passes (λ (x : Transfer). agrees v now ip x.name (file_owner x.modem x.subscriber)) live ≡ true
      → IfSome live (λ x. is_at_last x ≡ false) → IfOk step (λ d. IfSome live (λ x. Does v old (datagram_at now from bytes) (GoesOn x) d))
      → IfOk step (λ d. IfSome live (λ x. Does v old (datagram_at now from bytes) (way_of_last v now ip x) d))
  seen_does_on v ip None step is more done = done
  seen_does_on v ip (Some x) (Err err) is more done = tt
  seen_does_on v ip (Some x) (Ok d) is more done = on_by v ip x d more is done

  -- ---- acknowledgements

  last_by : (v : View) (x : Transfer) (same at ag : Bool) → stage.Last ≡ cond same (cond at stage.Last stage.Next) stage.Stale
      → GivesBy v old (datagram_at now from bytes) (cond same (cond at Finishes (cond ag (GoesOn x) BreaksOff)) Ignores) (gives (ended old from) [] word.Done)
  last_by v x true true ag is = refl
  last_by v x true false ag is = cc
  last_by v x false at ag is = cc

  pub last_does : (v : View) (ip : Ip4) (number : ℕ) (live : Option Transfer) → stage.Last ≡ stage_of number live
      → GivesBy v old (datagram_at now from bytes) (way_of_acknowledgement v now ip number live) (gives (ended old from) [] word.Done)
  last_does v ip number None is = cc
  last_does v ip number (Some x) is = last_by v x (number == x.sent) (is_at_last x) (agrees v now ip x.name (file_owner x.modem x.subscriber)) is

  next_by : (v : View) (same at : Bool) (w : Way) (d : Decision) → stage.Next ≡ cond same (cond at stage.Last stage.Next) stage.Stale → DoesSo v w d → DoesSo v (cond same w Ignores) d
  next_by v true at w d is does = does
  next_by v false at w d is does = cc

  pub next_is : (v : View) (ip : Ip4) (number : ℕ) (live : Option Transfer) (d : Decision) → stage.Next ≡ stage_of number live
      → IfSome live (λ x. Does v old (datagram_at now from bytes) (way_of_last v now ip x) d)
      → Does v old (datagram_at now from bytes) (way_of_acknowledgement v now ip number live) d
  next_is v ip number None d is does = cc
  next_is v ip number (Some x) d is does = next_by v (number == x.sent) (is_at_last x) (way_of_last v now ip x) d is does

  -- ---- requests

  repeat_is : (v : View) (full : Bool) (name : List ℕ) (asked : Options) (live : Option Transfer) (d : Decision) → repeats bytes live ≡ true
      → IfSome live (λ x. DoesSo v (Repeats x) d) → DoesSo v (way_of_request v (datagram_at now from bytes) full (request_for name asked) live) d
  repeat_is v full name asked None d is does = cc
  repeat_is v full name asked (Some x) d is does =
      does_as v (Repeats x) (way_of_request v (datagram_at now from bytes) full (request_for name asked) (Some x)) d (sym (ap (λ b. cond b (Repeats x) (way_anew v now from.ip false (request_for name asked))) is)) does

  pub repeat_serves : (v : View) (full : Bool) (name : List ℕ) (asked : Options) (live : Option Transfer) (step : Result Decision NoMemory) → repeats bytes live ≡ true
      → IfOk step (λ d. IfSome live (λ x. Does v old (datagram_at now from bytes) (Repeats x) d)) → IfOk step KeepsNothing
      → IfOk step (λ d. Serves v old (datagram_at now from bytes) (way_of_request v (datagram_at now from bytes) full (request_for name asked) live) d)
  repeat_serves v full name asked live (Ok d) is done bare = record {
    does = repeat_is v full name asked live d is done;
    keeps = λ entries. bare entries ∙ repeat_keeps v entries now from full bytes name asked live is;
  }
  repeat_serves v full name asked live (Err err) is done bare = tt

  anew_is : (v : View) (full : Bool) (name : List ℕ) (asked : Options) (live : Option Transfer) → repeats bytes live ≡ false
      → way_anew v now from.ip (lacks_room_by full live) (request_for name asked) ≡ way_of_request v (datagram_at now from bytes) full (request_for name asked) live
  anew_is v full name asked None is = refl
  anew_is v full name asked (Some x) is = sym (ap (λ b. cond b (Repeats x) (way_anew v now from.ip false (request_for name asked))) is)

  -- a refusal goes by no profile
  unnamed_modem : (v : View) (ip : Ip4) (no_room : Bool) (name : List ℕ) (asked : Options) (mac : Mac) (m : Option Modem) (d : Decision) → passes (is_own_name name mac ip) v.site ≡ false
      → DoesSo (without_profile v) (way_for_owner (without_profile v) ip no_room (request_for name asked) (owner_by_row mac m)) d → DoesSo v (way_for_owner v ip no_room (request_for name asked) (owner_by_row mac m)) d
  unnamed_modem v ip no_room name asked mac None d wrong does = does
  unnamed_modem v ip no_room name asked mac (Some modem) d wrong does =
      let refused : (there : Bool) → cond (not (passes (is_own_name name mac ip) v.site && there)) (Denies file_not_found) (cond no_room (Denies too_many_transfers) (Accepts (request_for name asked) (file_owner mac modem.subscriber))) ≡ Denies file_not_found
      = λ there. ap (λ b. cond (not (b && there)) (Denies file_not_found) (cond no_room (Denies too_many_transfers) (Accepts (request_for name asked) (file_owner mac modem.subscriber)))) wrong in
      does_as v (Denies file_not_found) (way_for_owner v ip no_room (request_for name asked) (owner_by_row mac (Some modem))) d (sym (refused (is_some v.profile)))
      (does_as (without_profile v) (way_for_owner (without_profile v) ip no_room (request_for name asked) (owner_by_row mac (Some modem))) (Denies file_not_found) d (refused false) does)

  unnamed_holder : (v : View) (ip : Ip4) (no_room : Bool) (name : List ℕ) (asked : Options) (h : Option Mac) (d : Decision) → passes (λ mac. passes (is_own_name name mac ip) v.site) h ≡ false
      → DoesSo (without_profile v) (way_for_holder (without_profile v) ip no_room (request_for name asked) h) d → DoesSo v (way_for_holder v ip no_room (request_for name asked) h) d
  unnamed_holder v ip no_room name asked None d wrong does = does
  unnamed_holder v ip no_room name asked (Some mac) d wrong does = unnamed_modem v ip no_room name asked mac v.modem d wrong does

  -- a request with a wrong name leaves what is kept
  refused_modem : (kept : Entries) (u v : View) (ip : Ip4) (no_room : Bool) (name : List ℕ) (asked : Options) (mac : Mac) (m : Option Modem) → passes (is_own_name name mac ip) v.site ≡ false
      → kept_by u (way_for_owner v ip no_room (request_for name asked) (owner_by_row mac m)) kept ≡ kept
  refused_modem kept u v ip no_room name asked mac None wrong = refl
  refused_modem kept u v ip no_room name asked mac (Some modem) wrong =
      ap (λ b. kept_by u (cond (not (b && is_some v.profile)) (Denies file_not_found) (cond no_room (Denies too_many_transfers) (Accepts (request_for name asked) (file_owner mac modem.subscriber)))) kept) wrong

  refused_holder : (kept : Entries) (u v : View) (ip : Ip4) (no_room : Bool) (name : List ℕ) (asked : Options) (h : Option Mac) → passes (λ mac. passes (is_own_name name mac ip) v.site) h ≡ false
      → kept_by u (way_for_holder v ip no_room (request_for name asked) h) kept ≡ kept
  refused_holder kept u v ip no_room name asked None wrong = refl
  refused_holder kept u v ip no_room name asked (Some mac) wrong = refused_modem kept u v ip no_room name asked mac v.modem wrong

  -- what is seen for a file, the whole or all but the profile
  abbrev AnewDone : View → Ip4 → Bool → List ℕ → Options → Result Decision NoMemory → Type 0
  AnewDone u ip no_room name asked step = CanServe u now ip → IfOk step (λ d. ServesSo u (way_anew u now ip no_room (request_for name asked)) d)

  seen_does : (v : View) (ip : Ip4) (no_room : Bool) (name : List ℕ) (asked : Options) (step : Result Decision NoMemory) (right : Bool) → names_file now ip name v ≡ right
      → CanServe v now ip → AnewDone (cond right v (without_profile v)) ip no_room name asked step → IfOk step (λ d. ServesSo v (way_anew v now ip no_room (request_for name asked)) d)
  seen_does v ip no_room name asked step true is serves done = done serves
  seen_does v ip no_room name asked step false is serves done =
      if_ok_as step _ (λ d. ServesSo v (way_anew v now ip no_room (request_for name asked)) d) (done (λ site profile s p. cc))
      (λ d served. record {
        does = unnamed_holder v ip no_room name asked (holder now v) d is served.does;
        keeps = λ entries. served.keeps entries ∙ (refused_holder entries (without_profile v) (without_profile v) ip no_room name asked (holder now v) is ∙ sym (refused_holder entries v v ip no_room name asked (holder now v) is));
      })

  serves_as : (v : View) (w u : Way) (d : Decision) → w ≡ u → ServesSo v w d → ServesSo v u d
  serves_as v w u d e served = subst (λ x. ServesSo v x d) e served

  -- with its profile what is seen is the view
  shown : (seen : Seen) (u : View) → view_of seen ≡ without_profile u → view_with seen u.profile ≡ u
  shown seen u is = ap (λ (w : View). record w { profile = u.profile }) is

  shown_done : (seen : Seen) (u : View) (ip : Ip4) (no_room : Bool) (name : List ℕ) (asked : Options) (step : Result Decision NoMemory) → Shows seen u
      → ((profile : Option (List Tree)) → seen.body ≡ entry_for seen.modem profile → AnewDone (view_with seen profile) ip no_room name asked step) → AnewDone u ip no_room name asked step
  shown_done seen u ip no_room name asked step shows done =
      subst (λ (w : View). AnewDone w ip no_room name asked step) (shown seen u shows.rest)
      (done u.profile (shows.entry ∙ ap (λ (w : View). entry_for w.modem u.profile) (sym shows.rest)))

  pub open_does : (v : View) (seen : Seen) (full : Bool) (name : List ℕ) (asked : Options) (live : Option Transfer) (step : Result Decision NoMemory) → repeats bytes live ≡ false
      → Shows seen (seen_for now from.ip name v) → CanServe v now from.ip
      → ((profile : Option (List Tree)) → seen.body ≡ entry_for seen.modem profile → CanServe (view_with seen profile) now from.ip
      → IfOk step (Serves (view_with seen profile) old (datagram_at now from bytes) (way_anew (view_with seen profile) now from.ip (lacks_room_by full live) (request_for name asked))))
      → IfOk step (λ d. Serves v old (datagram_at now from bytes) (way_of_request v (datagram_at now from bytes) full (request_for name asked) live) d)
  open_does v seen full name asked live step is shows serves done =
      if_ok_as step _ (λ d. ServesSo v (way_of_request v (datagram_at now from bytes) full (request_for name asked) live) d)
      (seen_does v from.ip (lacks_room_by full live) name asked step (names_file now from.ip name v) refl serves
      (shown_done seen (seen_for now from.ip name v) from.ip (lacks_room_by full live) name asked step shows done))
      (λ d served. serves_as v (way_anew v now from.ip (lacks_room_by full live) (request_for name asked)) (way_of_request v (datagram_at now from bytes) full (request_for name asked) live) d (anew_is v full name asked live is) served)

  -- ---- the whole

  pub decides_by : (v : View) (meant : Result Meant PacketFault) (d : Decision) → packet_of bytes ≡ meant
      → Serves v old (datagram_at now from bytes) (way_of v (datagram_at now from bytes) (has_no_room old) (map.get old from) meant) d → Decides v old (datagram_at now from bytes) d
  unfolding way
  decides_by v meant d is served =
      subst (λ (m : Result Meant PacketFault). ServesSo v (way_of v (datagram_at now from bytes) (has_no_room old) (map.get old from) m) d) (sym is) served

  pub deny_decides : (v : View) (meant : Result Meant PacketFault) (denial : Denial) (step : Result Decision NoMemory) → packet_of bytes ≡ meant
      → way_of v (datagram_at now from bytes) (has_no_room old) (map.get old from) meant ≡ Denies denial
      → IfOk step (λ d. d ≡ refusal_of from denial) → IfOk step (λ d. Decides v old (datagram_at now from bytes) d)
  deny_decides v meant denial (Ok d) is denied refuses =
      decides_by v meant d is
      (subst (λ (e : Decision). ServesSo v (way_of v (datagram_at now from bytes) (has_no_room old) (map.get old from) meant) e) (sym refuses)
      (serves_as v (Denies denial) (way_of v (datagram_at now from bytes) (has_no_room old) (map.get old from) meant) (refusal_of from denial) (sym denied)
      (record { does = refl; keeps = λ entries. refl })))
  deny_decides v meant denial (Err err) is denied refuses = tt

  pub leave_decides : (v : View) (place : Place) → packet_of bytes ≡ Ok GivesUp → Decides v old (datagram_at now from bytes) (record { word = word.PeerError; sent = None; change = change.Ends place; agreed = None })
  leave_decides v place is = decides_by v (Ok GivesUp) (record { word = word.PeerError; sent = None; change = change.Ends place; agreed = None }) is (record { does = refl; keeps = λ entries. refl })

  pub acknowledgement_decides : (v : View) (number : ℕ) (meant : Result Meant PacketFault) (d : Decision) → packet_of bytes ≡ meant
      → way_of_acknowledgement v now from.ip number (map.get old from) ≡ way_of v (datagram_at now from bytes) (has_no_room old) (map.get old from) meant
      → KeepsNothing d → Does v old (datagram_at now from bytes) (way_of_acknowledgement v now from.ip number (map.get old from)) d
      → Decides v old (datagram_at now from bytes) d
  acknowledgement_decides v number meant d is same bare does =
      decides_by v meant d is
      (serves_as v (way_of_acknowledgement v now from.ip number (map.get old from)) _ d same
      (record {
        does = does;
        keeps = λ entries. bare entries ∙ sym (acknowledgement_keeps v v entries now from.ip number (map.get old from));
      }))

-- ---- with what the calls took

pub few_after : (a b : KeeperSeen) (from : Peer) (bytes : List ℕ) (old new mid : Transfers) (kept : Entries) (result : Result (Unit {0}) KeepErr) → OnOk result (new ≡ mid) → OnErr result (new ≡ old)
    → FewWhereBegun from bytes old kept a b → FewWhereBegun from bytes mid kept a b → FewWhereBegun from bytes new kept a b
few_after a b from bytes old new mid kept (Ok done) made same before begun = subst (λ (m : Transfers). FewWhereBegun from bytes m kept a b) (sym made) begun
few_after a b from bytes old new mid kept (Err err) made same before begun = subst (λ (m : Transfers). FewWhereBegun from bytes m kept a b) (sym same) before

pub few_settled : (a b : KeeperSeen) (bytes : List ℕ) (entries : Entries) (now : ℕ) (lease : Option Lease) (after : Decision → Option Transfer) (step : Result Decision NoMemory) (kept : Result Decision KeepErr)
    → MatchResult kept (λ w. step ≡ Ok w) (λ err. (err ≡ Memory) × (is_ok step ≡ false))
    → IfOk step (λ d. BeginsFor (held_by now lease) bytes (after d)) → (is_kept (owner_by lease) entries ≡ true → Spent 3 a b)
    → IfOk kept (λ d. IfSome (after d) (λ x. is_repeated bytes x ≡ true → is_kept (Some x.modem) entries ≡ true → Spent 3 a b))
few_settled a b bytes entries now lease after step (Ok d) is begins spent =
    few_begun bytes entries now lease (after d) (subst (λ (r : Result Decision NoMemory). IfOk r (λ e. BeginsFor (held_by now lease) bytes (after e))) is begins) spent
few_settled a b bytes entries now lease after step (Err err) is begins spent = tt

-- a wrong name by the tables is one by what was told
pub few_own : {a b : KeeperSeen} (now : ℕ) (hub : Option ℕ) (ip : Ip4) (bytes : List ℕ) → FewUnlessNamedAt now hub ip bytes a b → FewUnlessNamed now hub ip bytes a b
few_own now hub ip bytes few = λ t told own unnamed. few t told (ap (λ (v : View). asks_by_name now ip v (packet_of bytes)) (own_view t hub ip own) ∙ unnamed)

-- nothing was seen of agreement
refused_nothing : (from : Peer) (denial : Denial) (d : Decision) → d ≡ refusal_of from denial → SeesNothing d
refused_nothing from denial d is = subst SeesNothing (sym is) (record { none = refl; ends = refl })

pub refused_unseen : (from : Peer) (denial : Denial) (step : Result Decision NoMemory) → IfOk step (λ d. d ≡ refusal_of from denial) → IfOk step SeesNothing
refused_unseen from denial (Ok d) is = refused_nothing from denial d is
refused_unseen from denial (Err err) is = tt

sees_none : (v : View) (ip : Ip4) (d : Decision) (seen : Option Agreement) → d.agreed ≡ seen → seen ≡ None → SeesRight v ip d
sees_none v ip d None is none = subst (λ (o : Option Agreement). IfSome o (IsAgreementOf v ip)) (sym is) tt
sees_none v ip d (Some a) is none = cc

pub unseen_right : (v : View) (ip : Ip4) (d : Decision) → SeesNothing d → SeesRight v ip d
unseen_right v ip d unseen = sees_none v ip d None unseen.none refl

pub unseen_sees : (v : View) (ip : Ip4) (step : Result Decision NoMemory) → IfOk step SeesNothing → IfOk step (SeesRight v ip)
unseen_sees v ip (Ok d) unseen = unseen_right v ip d unseen
unseen_sees v ip (Err err) unseen = tt

pub if_ok_both : (step : Result Decision NoMemory) (P Q : Decision → Type 0) → IfOk step P → IfOk step Q → IfOk step (λ d. P d × Q d)
if_ok_both (Ok d) P Q p q = (p, q)
if_ok_both (Err err) P Q p q = tt

pub ended_remembers : (now : ℕ) (from : Peer) (live : Option Transfer) (slots : Slots) (result : Result Decision KeepErr) → IfOk result (λ d. goes_on d.change ≡ false) → IfOk result (Remembers now from live slots)
ended_remembers now from live slots (Ok d) ends = λ on. let no : true ≡ false = sym on ∙ ends in cc
ended_remembers now from live slots (Err err) ends = tt

pub unseen_remembers : (now : ℕ) (from : Peer) (live : Option Transfer) (slots : Slots) (result : Result Decision KeepErr) → IfOk result SeesNothing → IfOk result (Remembers now from live slots)
unseen_remembers now from live slots (Ok d) unseen = λ on. let no : true ≡ false = sym on ∙ unseen.ends in cc
unseen_remembers now from live slots (Err err) unseen = tt

pub judged_both : (a b : KeeperSeen) (now : ℕ) (old : Transfers) (from : Peer) (bytes : List ℕ) (kept : Entries) (slots : Slots) (v : Tables → View) (result : Result Decision KeepErr)
    → Looks result a b (λ d t. AllRight t kept → Decides (v t) old (datagram_at now from bytes) d × SeesRight (v t) from.ip d)
    → Looks result a b (λ d t. AllRight t kept → RemembersRight (v t) from.ip slots → Judges (v t) old (datagram_at now from bytes) d)
judged_both a b now old from bytes kept slots v (Ok d) looks =
    reads_as looks (λ t both right remembers. record { decides = (both right).0; sees = (both right).1 })
judged_both a b now old from bytes kept slots v (Err err) looks = looks

pub judged : (a b : KeeperSeen) (now : ℕ) (old : Transfers) (from : Peer) (bytes : List ℕ) (kept : Entries) (slots : Slots) (v : Tables → View) (result : Result Decision KeepErr) → IfOk result SeesNothing
    → Looks result a b (λ d t. AllRight t kept → Decides (v t) old (datagram_at now from bytes) d)
    → Looks result a b (λ d t. AllRight t kept → RemembersRight (v t) from.ip slots → Judges (v t) old (datagram_at now from bytes) d)
judged a b now old from bytes kept slots v (Ok d) unseen looks =
    reads_as looks (λ t decides right remembers. record { decides = decides right; sees = unseen_right (v t) from.ip d unseen })
judged a b now old from bytes kept slots v (Err err) unseen looks = looks

pub acknowledged_looks : (a b : KeeperSeen) (now : ℕ) (old : Transfers) (from : Peer) (bytes : List ℕ) (number : ℕ) (kept : Entries) (slots : Slots) (v : Tables → View) (result : Result Decision KeepErr)
    → packet_of bytes ≡ Ok (Acknowledges number) → IfOk result KeepsNothing
    → Looks result a b (λ d t. RemembersRight (v t) from.ip slots → Does (v t) old (datagram_at now from bytes) (way_of_acknowledgement (v t) now from.ip number (map.get old from)) d × SeesRight (v t) from.ip d)
    → Looks result a b (λ d t. AllRight t kept → RemembersRight (v t) from.ip slots → Judges (v t) old (datagram_at now from bytes) d)
acknowledged_looks a b now old from bytes number kept slots v (Ok d) is bare looks =
    reads_as looks (λ t does right remembers.
    let both = does remembers in
    record { decides = acknowledgement_decides now old from bytes (v t) number (Ok (Acknowledges number)) d is refl bare both.0; sees = both.1 })
acknowledged_looks a b now old from bytes number kept slots v (Err err) is bare looks = looks

-- what was seen to agree is so by the whole of what there is
pub seen_sees : (v seen : View) (ip : Ip4) (step : Result Decision NoMemory) → seen ≡ without_profile v → IfOk step (λ d. IfSome d.agreed (IsAgreementOf seen ip)) → IfOk step (SeesRight v ip)
seen_sees v seen ip (Err err) e right = tt
seen_sees v seen ip (Ok d) e right = whole d.agreed (subst (λ (u : View). IfSome d.agreed (IsAgreementOf u ip)) e right)
  where
    whole : (o : Option Agreement) → IfSome o (IsAgreementOf (without_profile v) ip) → IfSome o (IsAgreementOf v ip)
    whole None so = tt
    whole (Some a) so = record { here = so.here; agrees = so.agrees }

rest_of_seen : (v : View) (right : Bool) → without_profile (cond right v (without_profile v)) ≡ without_profile v
rest_of_seen v true = refl
rest_of_seen v false = refl

pub shown_sees : (v : View) (seen : Seen) (now : ℕ) (ip : Ip4) (name : List ℕ) (step : Result Decision NoMemory) → Shows seen (seen_for now ip name v)
    → IfOk step (λ d. IfSome d.agreed (IsAgreementOf (view_of seen) ip)) → IfOk step (SeesRight v ip)
shown_sees v seen now ip name step shows right = seen_sees v (view_of seen) ip step (shows.rest ∙ rest_of_seen v (names_file now ip name v)) right

-- the next block, where agreement is remembered, and where it was looked for
pub next_remembered : (now : ℕ) (old : Transfers) (from : Peer) (bytes : List ℕ) (v : View) (ip : Ip4) (slots : Slots) (live : Option Transfer) (step : Result Decision NoMemory) → passes (is_remembered now ip slots) live ≡ true
    → IfSome live (λ x. is_at_last x ≡ false) → IfOk step (λ d. IfSome live (λ x. Does v old (datagram_at now from bytes) (GoesOn x) d)) → IfOk step (λ d. d.agreed ≡ None)
    → IfOk step (λ d. RemembersRight v ip slots → IfSome live (λ x. Does v old (datagram_at now from bytes) (way_of_last v now ip x) d) × SeesRight v ip d)
next_remembered now old from bytes v ip slots live (Err err) is more done none = tt
next_remembered now old from bytes v ip slots live (Ok d) is more done none = λ right.
    (remembered_does now old from bytes v ip slots live d is right more done, sees_none v ip d None none refl)

pub next_looked : (now : ℕ) (old : Transfers) (from : Peer) (bytes : List ℕ) (v seen : View) (ip : Ip4) (slots : Slots) (live : Option Transfer) (step : Result Decision NoMemory) → seen ≡ without_profile v
    → IfOk step (λ d. IfSome live (λ x. Does seen old (datagram_at now from bytes) (way_of_last seen now ip x) d)) → IfOk step (λ d. IfSome d.agreed (IsAgreementOf seen ip))
    → IfOk step (λ d. RemembersRight v ip slots → IfSome live (λ x. Does v old (datagram_at now from bytes) (way_of_last v now ip x) d) × SeesRight v ip d)
next_looked now old from bytes v seen ip slots live (Err err) e done right = tt
next_looked now old from bytes v seen ip slots live (Ok d) e done right = λ remembers.
    (next_does now old from bytes v seen ip live (Ok d) e done, seen_sees v seen ip (Ok d) e right)

-- where agreement was remembered and none is put, or was seen and is put, it's remembered behind
pub remembers_still : (now : ℕ) (from : Peer) (live : Option Transfer) (slots : Slots) (step : Result Decision NoMemory) → passes (is_remembered now from.ip slots) live ≡ true
    → IfOk step (λ d. d.agreed ≡ None) → IfOk step (Remembers now from live slots)
remembers_still now from live slots (Err err) is none = tt
remembers_still now from None slots (Ok d) is none = cc
remembers_still now from (Some x) slots (Ok d) is none = λ on. subst (λ (o : Option Agreement). is_remembered now from.ip (with_agreed o slots) x ≡ true) (sym none) is

pub remembers_seen : (now : ℕ) (from : Peer) (live : Option Transfer) (slots : Slots) (step : Result Decision NoMemory) → IfSome live (λ _. length slots ≡ most_slots)
    → IfOk step (λ d. goes_on d.change ≡ true → IfSome live (λ x. passes (stands_for now from.ip x) d.agreed ≡ true)) → IfOk step (Remembers now from live slots)
remembers_seen now from live slots (Err err) wide seen = tt
remembers_seen now from None slots (Ok d) wide seen = λ on. tt
remembers_seen now from (Some x) slots (Ok d) wide seen = λ on. seen_remembered now from.ip x slots d.agreed wide (seen on)

-- what keeps no body begins no transfer
bare_begins : (change : Change) → ((entries : Entries) → kept_behind change entries ≡ entries) → new_transfer_by change ≡ None
bare_begins change.Stays bare = refl
bare_begins (change.AsksAgain place) bare = refl
bare_begins (change.GoesOn place) bare = refl
bare_begins (change.Ends place) bare = refl
bare_begins (change.Begins place live entry) bare = let no : with_first live.modem entry [] ≡ [] = bare [] in cc

pub bare_sees : {E : Type 0} (now : ℕ) (from : Peer) (result : Result Decision E) → IfOk result KeepsNothing → IfOk result (SeesBegun now from)
bare_sees {E} now from (Ok d) bare =
    subst (λ (o : Option Transfer). IfSome o (λ x. passes (stands_for now from.ip x) d.agreed ≡ true)) (sym (bare_begins d.change bare)) tt
bare_sees {E} now from (Err err) bare = tt

pub refused_sees : (now : ℕ) (from : Peer) (denial : Denial) (step : Result Decision NoMemory) → IfOk step (λ d. d ≡ refusal_of from denial) → IfOk step (SeesBegun now from)
refused_sees now from denial (Ok d) is = subst (SeesBegun now from) (sym is) tt
refused_sees now from denial (Err err) is = tt

-- an acknowledgement of no transfer, of an earlier packet or of the last block needs no agreement
pub not_asked : (now : ℕ) (from : Peer) (bytes : List ℕ) (old : Transfers) (slots : Slots) (a b : KeeperSeen) (meant : Result Meant PacketFault) → packet_of bytes ≡ meant → is_acknowledgement meant ≡ false
    → UnaskedWhereAgreed now from bytes old slots a b
not_asked now from bytes old slots a b meant is other = λ acks agreed. let no : true ≡ false = sym acks ∙ ap is_acknowledgement is ∙ other in cc

-- ---- by the tables themselves

answers : (t : Tables) (datagram : Datagram) (old : Transfers) (kept : Entries) (slots : Slots) (d : Decision) → Judges (view t datagram.from.ip) old (as_came datagram) d
    → AllRight t kept → AllAgreed t slots → Answers t datagram old kept slots d
unfolding TftpStep
answers t datagram old kept slots d judges right agreed = record {
  step = judges.decides.does;
  keeps = judges.decides.keeps kept;
  right = subst (AllRight t) (sym (judges.decides.keeps kept)) (after_right t datagram.at.0 old datagram.from datagram.bytes.now kept right);
  agreed = agreed_seen t datagram.from.ip slots d.agreed judges.sees agreed;
}

-- where the hub that was told is the address's own
pub own_answers : (a b : KeeperSeen) (datagram : Datagram) (old : Transfers) (kept : Entries) (slots : Slots) (result : Result Decision KeepErr)
    → Looks result a b (λ d t. AllRight t kept → RemembersRight (view_at t datagram.hub datagram.from.ip) datagram.from.ip slots
    → Judges (view_at t datagram.hub datagram.from.ip) old (as_came datagram) d)
    → Looks result a b (λ d t. datagram.hub ≡ hub_of t datagram.from.ip → AllRight t kept → AllAgreed t slots → Answers t datagram old kept slots d)
own_answers a b datagram old kept slots result looks =
    looks_as a b result _ _ looks (λ d t judges own right agreed.
    let same = own_view t datagram.hub datagram.from.ip own in
    answers t datagram old kept slots d
    (subst (λ (v : View). Judges v old (as_came datagram) d) same
    (judges right (remembers_right t datagram.from.ip slots (view_at t datagram.hub datagram.from.ip) same agreed))) right agreed)
