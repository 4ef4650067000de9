-- A body that is kept is the one that would be built; and what a datagram leaves of what is kept.
use Rattle.std.proofs.Common.{◌≡◌, ℕ, ◌==◌, not, Bool, true, false, cond, is_some, List, Option, Some, None, option_map, option_and_then, Result, Ok, Err, IfOk, IfErr, IfSome, refl, sym, ap, ◌∙◌, subst}
use Rattle.std.specs.FinMap as map
use Rattle.off_base.specs.Tree.{Tree, AllFit}
use Rattle.off_base.specs.declared.addresses.Ip4.{Ip4}
use Rattle.off_base.specs.declared.addresses.Peer.{Peer}
use Rattle.off_base.specs.declared.macs.Mac.{Mac}
use Rattle.off_defs.specs.declared.tables.Hold.{Hold}
use Rattle.off_defs.specs.declared.tables.Hold.TheVariants.{Bound, Offered, Declined}
use Rattle.off_defs.specs.declared.tables.Lease.{Lease}
use Rattle.off_defs.specs.declared.tables.Modem.{Modem}
use Rattle.off_defs.specs.State.{Tables, Transfer}
use Rattle.off_account_rules.specs.Rows.{modem_in, lease_in}
use Rattle.off_account_rules.specs.Good.{owner_of}
use Rattle.off_file_rules.specs.Profile.{profile_at, profile_in}
use Rattle.off_file_laws.proofs.LawLemmas.{profiles_spell}
use Rattle.off_lease_rules.specs.Free.{has_ended}
use Rattle.off_kept.specs.declared.bodies.KeptBody.{KeptBody}
use Rattle.off_kept.specs.Entries.{Entries, kept_of}
use Rattle.off_kept.specs.Right.{IsRight, AllRight}
use Rattle.off_kept.proofs.RightLemmas.{first_right, found_right, right_profile, right_by, profile_by}
use Rattle.off_outside.specs.KeeperSeen.{KeeperSeen}
use Rattle.off_outside.specs.KeeperCalls.{Looks, Reads, NotDone, Spent}
use Rattle.off_outside.specs.declared.keeper.KeepErr.{KeepErr}
use Rattle.off_outside.specs.declared.keeper.KeepErr.TheVariants.{Memory}
use Rattle.off_outside.proofs.KeeperLemmas.{reads_then, reads_as, reads_none, reads_forgotten, failed_then, spent_none, spent_one, spent_then, spent_within}
use Rattle.off_packets.specs.Packets.{Meant, Reads as Asks, Writes, Acknowledges, GivesUp, IsOther, packet_of}
use Rattle.off_packets.specs.declared.packets.Options.{Options}
use Rattle.off_transfer_rules.specs.Requests.{datagram_at, request_for, file_owner}
use Rattle.off_transfer_rules.specs.Transfers.{Transfers, has_no_room, is_at_last}
use Rattle.off_transfer_rules.specs.View.{View, view, owner_by, bound_to, holder, agrees}
use Rattle.off_transfer_rules.specs.Steps.{Way, Denies, Repeats, Accepts, Ignores, Finishes, GoesOn, BreaksOff, way, way_of, way_anew, way_for_owner, owner_by_row, way_for_holder, way_of_request, way_of_acknowledgement, has_file, is_repeated, file_not_found, too_many_transfers}
use Rattle.off_packets.specs.declared.faults.PacketFault.{PacketFault}
use Rattle.off_packets.specs.declared.faults.PacketFault.TheVariants as fault
use Rattle.off_transfer_rules.proofs.PeerLemmas.{peer_total, own_peer}
use Rattle.off_tftp.specs.Seen.{held_by}
use Rattle.off_tftp.specs.Keeping.{BeginsFor, is_kept, entry_of, entry_for, kept_with, kept_by, kept_after}
use Rattle.off_tftp.specs.Stages.{repeats}

-- ---- what is kept of a modem

abbrev entry_with : ℕ → ℕ → List ℕ → Option KeptBody
entry_with subscriber class body = Some (record { subscriber = subscriber; class = class; body = body })

right_is : (t : Tables) (mac : Mac) (modem : Modem) (entry : KeptBody) → IsRight t (mac, entry) → modem_in t mac ≡ Some modem → Some entry ≡ option_map (entry_of modem) (profile_in t mac)
right_is t mac modem entry right there =
    let row : Some right.modem ≡ Some modem = sym right.modem_is ∙ there in
    let same : right.modem ≡ modem = cc in
    ap (λ n. entry_with n entry.class entry.body) right.subscriber
    ∙ (ap (λ n. entry_with right.modem.subscriber n entry.body) right.class
    ∙ (ap (entry_with right.modem.subscriber right.modem.class) right.spelled
    ∙ (ap (λ (m : Modem). option_map (entry_of m) (Some right.profile)) same
    ∙ ap (option_map (entry_of modem)) (sym (right_profile t mac entry right)))))

-- what is found is what would be built
pub kept_is : (t : Tables) (mac : Mac) (modem : Modem) (entries : Entries) (found : Option KeptBody) → found ≡ kept_of mac entries → is_some found ≡ true
    → AllRight t entries → modem_in t mac ≡ Some modem → found ≡ option_map (entry_of modem) (profile_in t mac)
kept_is t mac modem entries None is some right there = cc
kept_is t mac modem entries (Some entry) is some right there = right_is t mac modem entry (found_right t mac entry entries right (sym is)) there

-- ---- what is built

pub looks_spelled : {X : Type 0} {P : Tables → Type 0} {a b : KeeperSeen} (result : Result X KeepErr) (Q : X → Tables → Type 0)
    → IfErr result (λ err. err ≡ Memory) → Reads P a b → ((t : Tables) → P t → IfOk result (λ x. Q x t)) → Looks result a b Q
looks_spelled {X} {P} {a} {b} (Ok x) Q is reads join = reads_as reads join
looks_spelled {X} {P} {a} {b} (Err err) Q is reads join = subst (λ (e : KeepErr). NotDone e a b) (sym is) (reads_forgotten reads)

pub looks_under : {X : Type 0} (a b : KeeperSeen) (result : Result X KeepErr) (Q R : X → Tables → Type 0) → Looks result a b Q → ((t : Tables) (x : X) → Q x t → R x t) → Looks result a b R
looks_under {X} a b (Ok x) Q R looks join = reads_as looks (λ t q. join t x q)
looks_under {X} a b (Err err) Q R looks join = looks

fit_where_there : (profile : Option (List Tree)) → ((p : List Tree) → profile ≡ Some p → AllFit p) → IfSome profile AllFit
fit_where_there None fits = tt
fit_where_there (Some p) fits = fits p refl

pub built_is : (t : Tables) (mac : Mac) (modem : Modem) (profile : Option (List Tree)) (result : Result (Option KeptBody) KeepErr)
    → profile ≡ profile_at t modem.subscriber modem.class → (IfSome profile AllFit → IfOk result (λ body. body ≡ option_map (entry_of modem) profile))
    → IfOk result (λ body. modem_in t mac ≡ Some modem → body ≡ option_map (entry_of modem) (profile_in t mac))
built_is t mac modem profile (Err err) is made = tt
built_is t mac modem profile (Ok body) is made = λ there.
    let same : profile ≡ profile_in t mac = is ∙ sym (profile_by t mac modem there) in
    made (fit_where_there profile (λ p at. (profiles_spell t mac p (sym same ∙ at)).fits)) ∙ ap (option_map (entry_of modem)) same

-- where there is no owner, or no row of a modem, there is no body
pub no_owner : (t : Tables) (owner : Option Mac) (modem : Option Modem) → owner ≡ None → None ≡ entry_for modem (option_and_then (profile_in t) owner)
no_owner t None None is = refl
no_owner t None (Some modem) is = refl
no_owner t (Some mac) modem is = cc

pub no_modem : (modem : Option Modem) (profile : Option (List Tree)) → modem ≡ None → None ≡ entry_for modem profile
no_modem None profile is = refl
no_modem (Some modem) profile is = cc

pub owned_is : (t : Tables) (owner : Option Mac) (mac : Mac) (row : Option Modem) (modem : Modem) (body : Option KeptBody) → owner ≡ Some mac → row ≡ Some modem
    → (modem_in t mac ≡ Some modem → body ≡ option_map (entry_of modem) (profile_in t mac))
    → row ≡ option_and_then (modem_in t) owner → body ≡ entry_for row (option_and_then (profile_in t) owner)
owned_is t owner mac row modem body is there made at =
    made (ap (option_and_then (modem_in t)) (sym is) ∙ (sym at ∙ there))
    ∙ (ap (λ (o : Option Mac). entry_for (Some modem) (option_and_then (profile_in t) o)) (sym is) ∙ ap (λ (r : Option Modem). entry_for r (option_and_then (profile_in t) owner)) (sym there))

-- ---- the modem to which an address is bound owns it

bound_owns : (hold : Hold) (mac : Mac) → bound_to hold ≡ Some mac → owner_of hold ≡ Some mac
bound_owns (Bound other) mac is = is
bound_owns (Offered other) mac is = cc
bound_owns Declined mac is = cc

held_owns : (ended : Bool) (lease : Option Lease) (mac : Mac) → cond ended None (option_and_then (λ (l : Lease). bound_to l.hold) lease) ≡ Some mac → owner_by lease ≡ Some mac
held_owns true lease mac is = cc
held_owns false None mac is = cc
held_owns false (Some lease) mac is = bound_owns lease.hold mac is

pub holder_owns : (now : ℕ) (v : View) (mac : Mac) → holder now v ≡ Some mac → owner_by v.lease ≡ Some mac
holder_owns now v mac is = held_owns (has_ended now v.lease) v.lease mac is

-- ---- what a datagram leaves of what is kept

with_right : (t : Tables) (mac : Mac) (entries : Entries) (modem : Option Modem) (profile : Option (List Tree)) → modem ≡ modem_in t mac → profile ≡ profile_in t mac
    → AllRight t entries → AllRight t (kept_with mac (entry_for modem profile) entries)
with_right t mac entries None profile is at right = right
with_right t mac entries (Some modem) None is at right = right
with_right t mac entries (Some modem) (Some profile) is at right =
    first_right t mac (entry_of modem profile) entries (right_by t mac modem profile (entry_of modem profile) (sym is) (sym at) refl refl refl) right

owner_right : (t : Tables) (mac : Mac) (entries : Entries) (owner : Option Mac) → owner ≡ Some mac → AllRight t entries
    → AllRight t (kept_with mac (entry_for (option_and_then (modem_in t) owner) (option_and_then (profile_in t) owner)) entries)
owner_right t mac entries owner is right =
    with_right t mac entries (option_and_then (modem_in t) owner) (option_and_then (profile_in t) owner) (ap (option_and_then (modem_in t)) is) (ap (option_and_then (profile_in t)) is) right

view_right : (t : Tables) (ip : Ip4) (mac : Mac) (entries : Entries) → owner_by (view t ip).lease ≡ Some mac → AllRight t entries
    → AllRight t (kept_with mac (entry_for (view t ip).modem (view t ip).profile) entries)
unfolding view
view_right t ip mac entries is right = owner_right t mac entries (owner_by (lease_in t ip)) is right

module _ (t : Tables) (v : View) (entries : Entries) where
  abbrev Stay : Way → Type 0
  Stay w = AllRight t (kept_by v w entries)

  asked_right : (no_file no_room : Bool) (mac : Mac) (subscriber : ℕ) (name : List ℕ) (asked : Options) → AllRight t entries
      → AllRight t (kept_with mac (entry_for v.modem v.profile) entries)
      → Stay (cond no_file (Denies file_not_found) (cond no_room (Denies too_many_transfers) (Accepts (request_for name asked) (file_owner mac subscriber))))
  asked_right true no_room mac subscriber name asked same put = same
  asked_right false true mac subscriber name asked same put = same
  asked_right false false mac subscriber name asked same put = put

  modem_right : (ip : Ip4) (no_room : Bool) (name : List ℕ) (asked : Options) (mac : Mac) (modem : Option Modem) → AllRight t entries
      → AllRight t (kept_with mac (entry_for v.modem v.profile) entries) → Stay (way_for_owner v ip no_room (request_for name asked) (owner_by_row mac modem))
  modem_right ip no_room name asked mac None same put = same
  modem_right ip no_room name asked mac (Some modem) same put = asked_right (not (has_file v ip name mac)) no_room mac modem.subscriber name asked same put

  holder_right : (ip : Ip4) (no_room : Bool) (name : List ℕ) (asked : Options) (h : Option Mac) → AllRight t entries
      → ((mac : Mac) → h ≡ Some mac → AllRight t (kept_with mac (entry_for v.modem v.profile) entries)) → Stay (way_for_holder v ip no_room (request_for name asked) h)
  holder_right ip no_room name asked None same put = same
  holder_right ip no_room name asked (Some mac) same put = modem_right ip no_room name asked mac v.modem same (put mac refl)

  request_by : (x : Transfer) (again : Bool) (w : Way) → AllRight t entries → Stay w → Stay (cond again (Repeats x) w)
  request_by x true w same put = same
  request_by x false w same put = put

  request_right : (now : ℕ) (from : Peer) (full : Bool) (bytes name : List ℕ) (asked : Options) (live : Option Transfer) → AllRight t entries
      → ((mac : Mac) → holder now v ≡ Some mac → AllRight t (kept_with mac (entry_for v.modem v.profile) entries)) → Stay (way_of_request v (datagram_at now from bytes) full (request_for name asked) live)
  request_right now from full bytes name asked None same put = holder_right from.ip full name asked (holder now v) same put
  request_right now from full bytes name asked (Some x) same put =
      request_by x (is_repeated bytes x) (way_anew v now from.ip false (request_for name asked)) same (holder_right from.ip false name asked (holder now v) same put)

-- an acknowledgement leaves it
last_keeps : (u : View) (entries : Entries) (x : Transfer) (here at agreed : Bool)
    → kept_by u (cond here (cond at Finishes (cond agreed (GoesOn x) BreaksOff)) Ignores) entries ≡ entries
last_keeps u entries x false at agreed = refl
last_keeps u entries x true true agreed = refl
last_keeps u entries x true false true = refl
last_keeps u entries x true false false = refl

pub acknowledgement_keeps : (u v : View) (entries : Entries) (now : ℕ) (ip : Ip4) (number : ℕ) (live : Option Transfer)
    → kept_by u (way_of_acknowledgement v now ip number live) entries ≡ entries
acknowledgement_keeps u v entries now ip number None = refl
acknowledgement_keeps u v entries now ip number (Some x) = last_keeps u entries x (number == x.sent) (is_at_last x) (agrees v now ip x.name (file_owner x.modem x.subscriber))

-- and so does a request that came before
pub repeat_keeps : (v : View) (entries : Entries) (now : ℕ) (from : Peer) (full : Bool) (bytes name : List ℕ) (asked : Options) (live : Option Transfer) → repeats bytes live ≡ true
    → entries ≡ kept_by v (way_of_request v (datagram_at now from bytes) full (request_for name asked) live) entries
repeat_keeps v entries now from full bytes name asked None is = cc
repeat_keeps v entries now from full bytes name asked (Some x) is = ap (λ b. kept_by v (cond b (Repeats x) (way_anew v now from.ip false (request_for name asked))) entries) (sym is)

meant_right : (t : Tables) (v : View) (entries : Entries) (now : ℕ) (from : Peer) (full : Bool) (bytes : List ℕ) (live : Option Transfer) (meant : Result Meant PacketFault)
    → AllRight t entries → ((mac : Mac) → holder now v ≡ Some mac → AllRight t (kept_with mac (entry_for v.modem v.profile) entries))
    → AllRight t (kept_by v (way_of v (datagram_at now from bytes) full live meant) entries)
meant_right t v entries now from full bytes live (Err fault.Form) same put = same
meant_right t v entries now from full bytes live (Err fault.Mode) same put = same
meant_right t v entries now from full bytes live (Ok IsOther) same put = same
meant_right t v entries now from full bytes live (Ok Writes) same put = same
meant_right t v entries now from full bytes live (Ok (Asks name asked)) same put = request_right t v entries now from full bytes name asked live same put
meant_right t v entries now from full bytes live (Ok (Acknowledges number)) same put =
    subst (AllRight t) (sym (acknowledgement_keeps v v entries now from.ip number live)) same
meant_right t v entries now from full bytes live (Ok GivesUp) same put = same

-- what is kept is right after any datagram
pub after_right : (t : Tables) (now : ℕ) (old : Transfers) (from : Peer) (bytes : List ℕ) (entries : Entries) → AllRight t entries → AllRight t (kept_after t old (datagram_at now from bytes) entries)
unfolding way
after_right t now old from bytes entries right =
    meant_right t (view t from.ip) entries now from (has_no_room old) bytes (map.get old from) (packet_of bytes) right
    (λ mac is. view_right t from.ip mac entries (holder_owns now (view t from.ip) mac is) right)

-- ---- whose a transfer is that begins

-- no transfer has begun with a request that wasn't repeated, where they are as they were
pub nothing_begins : (holder : Option Mac) (bytes : List ℕ) (live : Option Transfer) → repeats bytes live ≡ false → BeginsFor holder bytes live
nothing_begins holder bytes None new = tt
nothing_begins holder bytes (Some x) new = λ again. cc

pub put_begins : (mac : Mac) (bytes : List ℕ) (transfers : Transfers) (from : Peer) (x : Transfer) → x.modem ≡ mac → BeginsFor (Some mac) bytes (map.get (map.insert transfers from x) from)
put_begins mac bytes transfers from x is =
    subst (BeginsFor (Some mac) bytes) (sym (map.get-insert peer_total transfers from x from ∙ ap (λ b. cond b (Some x) (map.get transfers from)) (own_peer from)))
    (λ again. ap Some (sym is))

pub begins_as : (holder other : Option Mac) (bytes : List ℕ) (live : Option Transfer) → other ≡ holder → BeginsFor holder bytes live → BeginsFor other bytes live
begins_as holder other bytes live is begins = subst (λ (h : Option Mac). BeginsFor h bytes live) (sym is) begins

pub ruleset beginnings = (nothing_begins, put_begins, begins_as)

-- few calls, where the body of its modem is kept
pub few_any : {a b : KeeperSeen} (bytes : List ℕ) (entries : Entries) (live : Option Transfer) → Spent 3 a b
    → IfSome live (λ x. is_repeated bytes x ≡ true → is_kept (Some x.modem) entries ≡ true → Spent 3 a b)
few_any bytes entries None spent = tt
few_any bytes entries (Some x) spent = λ again is. spent

pub few_begun : {a b : KeeperSeen} (bytes : List ℕ) (entries : Entries) (now : ℕ) (lease : Option Lease) (live : Option Transfer)
    → BeginsFor (held_by now lease) bytes live → (is_kept (owner_by lease) entries ≡ true → Spent 3 a b)
    → IfSome live (λ x. is_repeated bytes x ≡ true → is_kept (Some x.modem) entries ≡ true → Spent 3 a b)
few_begun bytes entries now lease None begins spent = tt
few_begun bytes entries now lease (Some x) begins spent = λ again is.
    spent (ap (λ (o : Option Mac). is_kept o entries) (held_owns (has_ended now lease) lease x.modem (begins again)) ∙ is)

-- a request that wasn't done begins nothing
pub few_undone : (a b : KeeperSeen) (bytes : List ℕ) (entries : Entries) (live : Option Transfer) → repeats bytes live ≡ false
    → IfSome live (λ x. is_repeated bytes x ≡ true → is_kept (Some x.modem) entries ≡ true → Spent 3 a b)
few_undone a b bytes entries None new = tt
few_undone a b bytes entries (Some x) new = λ again is. cc

pub ruleset askings = (reads_then, reads_as, reads_none, reads_forgotten, failed_then, spent_none, spent_one, spent_then, spent_within, few_any, few_undone)
