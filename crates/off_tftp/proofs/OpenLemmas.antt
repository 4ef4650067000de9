-- A request that is accepted.
use Rattle.std.proofs.Common.{◌≡◌, ℕ, ◌&&◌, not, Bool, true, false, cond, is_some, List, Option, Some, None, option_map, Result, Ok, Err, IfOk, IfSome, IsTrue, MatchOption, refl, sym, ap, ◌∙◌, subst}
use Rattle.std.specs.FinMap as map
use Rattle.std.proofs.lemmas.Bool.{eq-eqb}
use Rattle.off_base.specs.Tree.{Tree, spelling}
use Rattle.off_base.specs.declared.octets.NoMemory.{NoMemory}
use Rattle.off_base.specs.declared.addresses.Peer.{Peer}
use Rattle.off_base.specs.declared.addresses.Ip4.{Ip4}
use Rattle.off_base.specs.declared.macs.Mac.{Mac}
use Rattle.off_defs.specs.declared.tables.Site.{Site}
use Rattle.off_defs.specs.declared.tables.Modem.{Modem}
use Rattle.off_defs.specs.State.{Transfer}
use Rattle.off_account_rules.specs.Rows.{passes}
use Rattle.off_kept.specs.declared.bodies.KeptBody.{KeptBody}
use Rattle.off_kept.specs.Entries.{with_first}
use Rattle.off_transfer_rules.specs.Requests.{datagram_at, file_owner}
use Rattle.off_transfer_rules.specs.Transfers.{Transfers, new_transfer, has_no_room}
use Rattle.off_account_rules.specs.Good.{is_mac}
use Rattle.off_account_rules.proofs.OwnerLemmas.{mac_own}
use Rattle.off_transfer_rules.specs.View.{View, IsBuiltBy, is_own_name, is_of_subscriber}
use Rattle.off_transfer_rules.specs.Steps.{Way, Denial, Accepts, Denies, way_anew, way_for_holder, way_for_owner, owner_by_row, file_not_found, too_many_transfers}
use Rattle.off_tftp.specs.declared.deciding.Decision.{Decision}
use Rattle.off_tftp.specs.declared.gathering.Seen.{Seen}
use Rattle.off_tftp.specs.Keeping.{entry_of, entry_for, kept_with, BeginsFor}
use Rattle.off_tftp.specs.Kept.{HasRoomFor}
use Rattle.off_tftp.specs.Places.{IsPlaceOf}
use Rattle.off_tftp.specs.Granted.{begun_by, IsFor, came_in, asked_in}
use Rattle.off_tftp.specs.Agreements.{stands_for, agrees_now}
use Rattle.off_tftp.specs.Deciding.{Serves, CanBe, SeesNothing, SeesBegun, Starts, new_transfer_by, after_change, start_of, refusal_of, denial_of}
use Rattle.off_tftp.specs.declared.deciding.Change.{Change}
use Rattle.off_tftp.specs.declared.requests.Request.{Request}
use Rattle.off_tftp.specs.declared.requests.Grant.{Grant}
use Rattle.off_tftp.specs.Stages.{repeats, lacks_room_by, lacks_room}
use Rattle.off_tftp.proofs.BodyLemmas.{nothing_begins, put_begins, begins_as}
use Rattle.off_tftp.specs.declared.deciding.Refusal.{Refusal}
use Rattle.off_tftp.specs.declared.deciding.Refusal.TheVariants as why
use Rattle.off_file_rules.specs.File.{IsBuilt}
use Rattle.off_tftp.specs.Built.{CanBuild}
use Rattle.off_tftp.specs.Opened.{IsBegun, Finds, Refuses, Begins}
use Rattle.off_tftp.specs.declared.opening.Found.{Found}
use Rattle.off_tftp.specs.Seen.{view_of, view_with, held_by, IsNamed, HasName, CanServe}

-- where a name is that of a file, there is a site
site_there : (o : Option Site) (f : Site → Bool) → passes f o ≡ true → is_some o ≡ true
site_there None f is = cc
site_there (Some site) f is = refl

-- the file that a profile's body gives, where there are a site and a profile
signed_by : (v : View) (site : Site) (secret body : List ℕ) (now : ℕ) (ip : Ip4) (file : Option (List ℕ)) (o : Option (List Tree)) → v.site ≡ Some site → secret ≡ site.secret → v.profile ≡ o
    → ((profile : List Tree) → body ≡ spelling profile → CanBuild secret profile now ip → MatchOption file ⊥ (λ f. IsBuilt secret profile now ip f))
    → option_map spelling o ≡ Some body → CanServe v now ip → IsBegun v now ip file
signed_by v site secret body now ip file None s same p signed spells can = cc
signed_by v site secret body now ip None (Some profile) s same p signed spells can =
    let body_is : body ≡ spelling profile = cc in
    absurd (signed profile body_is (subst (λ (x : List ℕ). CanBuild x profile now ip) (sym same) (can site profile s p)))
signed_by v site secret body now ip (Some f) (Some profile) s same p signed spells can =
    let body_is : body ≡ spelling profile = cc in
    record {
      site = site;
      profile = profile;
      site_is = s;
      profile_is = p;
      built = subst (λ (x : List ℕ). IsBuilt x profile now ip f) same (signed profile body_is (subst (λ (x : List ℕ). CanBuild x profile now ip) (sym same) (can site profile s p)));
    }

pub signed_is_begun : (v : View) (site : Site) (secret body : List ℕ) (now : ℕ) (ip : Ip4) (file : Option (List ℕ)) → v.site ≡ Some site → secret ≡ site.secret
    → ((profile : List Tree) → body ≡ spelling profile → CanBuild secret profile now ip → MatchOption file ⊥ (λ f. IsBuilt secret profile now ip f))
    → option_map spelling v.profile ≡ Some body → CanServe v now ip → IsBegun v now ip file
signed_is_begun v site secret body now ip file s same signed spells can = signed_by v site secret body now ip file v.profile s same refl signed spells can

-- the body of an entry is what its profile spells
body_of : (modem : Modem) (profile : Option (List Tree)) (found : KeptBody) → Some found ≡ option_map (entry_of modem) profile → option_map spelling profile ≡ Some found.body
body_of modem None found is = cc
body_of modem (Some p) found is =
    let same : found ≡ entry_of modem p = cc in
    ap (λ (e : KeptBody). Some e.body) (sym same)

-- ---- a transfer that begins, or a refusal

place_by : (full : Bool) (live : Option Transfer) → lacks_room_by full live ≡ false → full ≡ true → IsTrue (is_some live)
place_by full None room is = absurd (let e : false ≡ true = sym room ∙ is in cc)
place_by full (Some x) room is = refl

pub room_for : (transfers : Transfers) (from : Peer) → lacks_room transfers from ≡ false → HasRoomFor transfers from
room_for transfers from room = place_by (has_no_room transfers) (map.get transfers from) room

pub started_fits : (transfers : Transfers) (request : Request) (entry : KeptBody) (grant : Option Grant) (step : Result Decision NoMemory) → IsPlaceOf transfers request.from request.place → HasRoomFor transfers request.from
    → IfOk step (Starts request entry grant) → IfOk step (λ d. CanBe d.change transfers request.from)
started_fits transfers request entry None (Ok d) place room is = subst (λ (e : Decision). CanBe e.change transfers request.from) (sym is) tt
started_fits transfers request entry (Some x) (Ok d) place room is = subst (λ (e : Decision). CanBe e.change transfers request.from) (sym is) (place, room)
started_fits transfers request entry grant (Err err) place room is = tt

pub started_begins : (old : Transfers) (request : Request) (mac : Mac) (subscriber : ℕ) (entry : KeptBody) (grant : Option Grant) (step : Result Decision NoMemory)
    → IfSome grant (IsFor mac subscriber) → repeats request.bytes.now (map.get old request.from) ≡ false → IfOk step (Starts request entry grant)
    → IfOk step (λ d. BeginsFor (Some mac) request.bytes.now (map.get (after_change d.change request.at.0 old request.from) request.from))
started_begins old request mac subscriber entry None (Ok d) whose new is =
    subst (λ (e : Decision). BeginsFor (Some mac) request.bytes.now (map.get (after_change e.change request.at.0 old request.from) request.from)) (sym is)
    (nothing_begins (Some mac) request.bytes.now (map.get old request.from) new)
started_begins old request mac subscriber entry (Some x) (Ok d) whose new is =
    subst (λ (e : Decision). BeginsFor (Some mac) request.bytes.now (map.get (after_change e.change request.at.0 old request.from) request.from)) (sym is)
    (put_begins mac request.bytes.now old request.from (begun_by request x) whose.modem_is)
started_begins old request mac subscriber entry grant (Err err) whose new is = tt

module _ (old : Transfers) (request : Request) where
  module _ (seen : Seen) (modem : Modem) (found : KeptBody) (mac : Mac) where
    abbrev made : List ℕ → Transfer
    made file = new_transfer (came_in request) (asked_in request) (file_owner mac modem.subscriber) file

    abbrev Done : Option (List Tree) → Way → Decision → Type 0
    Done profile w d = Serves (view_with seen profile) old (came_in request) w d

    accepted : (p : List Tree) (file : List ℕ) → IsBuiltBy (view_with seen (Some p)) request.at.0 request.from.ip file → seen.modem ≡ Some modem → entry_of modem p ≡ found
        → Done (Some p) (Accepts (asked_in request) (file_owner mac modem.subscriber)) (start_of request found (made file))
    accepted p file built there entry = record {
      does = (file, (built, refl));
      keeps = λ entries.
          ap (λ (e : KeptBody). with_first mac e entries) (sym entry)
          ∙ ap (λ (m : Option Modem). kept_with mac (entry_for m (Some p)) entries) (sym there);
    }

    way_is : (own no_room : Bool) → own ≡ true → no_room ≡ false
        → Accepts (asked_in request) (file_owner mac modem.subscriber)
        ≡ cond (not (own && true)) (Denies file_not_found) (cond no_room (Denies too_many_transfers) (Accepts (asked_in request) (file_owner mac modem.subscriber)))
    way_is true false is room = refl
    way_is true true is room = cc
    way_is false no_room is room = cc

    -- the transfer is the one of the modem and its subscriber
    begun_is : (grant : Grant) → IsFor mac modem.subscriber grant → begun_by request grant ≡ made grant.file
    begun_is grant whose =
        ap (λ (m : Mac). new_transfer (came_in request) (asked_in request) (file_owner m grant.subscriber) grant.file) whose.modem_is
        ∙ ap (λ n. new_transfer (came_in request) (asked_in request) (file_owner mac n) grant.file) whose.subscriber_is

    begun_serves : (p : List Tree) (grant : Grant) (step : Result Decision NoMemory) (no_room : Bool)
        → IsBuiltBy (view_with seen (Some p)) request.at.0 request.from.ip grant.file → IsFor mac modem.subscriber grant
        → passes (is_own_name request.name.now mac request.from.ip) seen.site ≡ true → no_room ≡ false
        → IfOk step (Starts request found (Some grant)) → seen.modem ≡ Some modem → entry_of modem p ≡ found
        → IfOk step (Done (Some p) (way_for_owner (view_with seen (Some p)) request.from.ip no_room (asked_in request) (owner_by_row mac (Some modem))))
    begun_serves p grant (Err err) no_room built whose own room starts there entry = tt
    begun_serves p grant (Ok d) no_room built whose own room starts there entry =
        let whole : d ≡ start_of request found (made grant.file) = starts ∙ ap (λ (x : Transfer). start_of request found x) (begun_is grant whose) in
        subst (λ (y : Way). Done (Some p) y d) (way_is (passes (is_own_name request.name.now mac request.from.ip) seen.site) no_room own room)
        (subst (λ (e : Decision). Done (Some p) (Accepts (asked_in request) (file_owner mac modem.subscriber)) e) (sym whole) (accepted p grant.file built there entry))

    start_serves : (profile : Option (List Tree)) (grant : Option Grant) (step : Result Decision NoMemory) (no_room : Bool)
        → Some found ≡ option_map (entry_of modem) profile → IsBegun (view_with seen profile) request.at.0 request.from.ip (option_map (λ (g : Grant). g.file) grant)
        → IfSome grant (IsFor mac modem.subscriber)
        → passes (is_own_name request.name.now mac request.from.ip) seen.site ≡ true → no_room ≡ false → IfOk step (Starts request found grant) → seen.modem ≡ Some modem
        → IfOk step (Done profile (way_for_owner (view_with seen profile) request.from.ip no_room (asked_in request) (owner_by_row mac (Some modem))))
    start_serves None grant step no_room entry built whose own room starts there = cc
    start_serves (Some p) None step no_room entry built whose own room starts there =
        absurd (let e : (true && true) ≡ false = ap (λ b. b && true) (sym (site_there seen.site (is_own_name request.name.now mac request.from.ip) own)) ∙ built in cc)
    start_serves (Some p) (Some grant) step no_room entry built whose own room starts there =
        let same : entry_of modem p ≡ found = cc in
        begun_serves p grant step no_room built whose own room starts there same

  -- the same, by what the calls answered
  pub start_for : (seen : Seen) (modem : Modem) (found entry : KeptBody) (shared : List ℕ) (mac : Mac) (subscriber : ℕ) (profile : Option (List Tree)) (grant : Option Grant)
      (step : Result Decision NoMemory) (no_room : Bool)
      → modem.subscriber ≡ subscriber → seen.body ≡ Some found → entry ≡ found → shared ≡ found.body → seen.body ≡ option_map (entry_of modem) profile
      → ((view_with seen profile).site ≡ seen.site → option_map spelling profile ≡ Some shared → CanServe (view_with seen profile) request.at.0 request.from.ip
      → IsBegun (view_with seen profile) request.at.0 request.from.ip (option_map (λ (g : Grant). g.file) grant))
      → CanServe (view_with seen profile) request.at.0 request.from.ip → IfSome grant (IsFor mac subscriber)
      → HasName request.from.ip request.name.now mac seen → no_room ≡ false → IfOk step (Starts request entry grant) → seen.modem ≡ Some modem
      → IfOk step (Serves (view_with seen profile) old (came_in request)
      (way_for_owner (view_with seen profile) request.from.ip no_room (asked_in request) (owner_by_row mac (Some modem))))
  start_for seen modem found entry shared mac subscriber profile grant step no_room numbered there same shared_is made built serves whose own room starts row =
      let whole : Some found ≡ option_map (entry_of modem) profile = sym there ∙ made in
      start_serves seen modem found mac profile grant step no_room whole
      (built refl (body_of modem profile found whole ∙ ap Some (sym shared_is)) serves)
      (subst (λ (n : ℕ). IfSome grant (IsFor mac n)) (sym numbered) whose)
      (own (ap is_some there)) room
      (subst (λ (e : KeptBody). IfOk step (Starts request e grant)) same starts) row

-- ---- what was found, and begins

-- the name of a file that was found is that of its modem
own_by : (h : Option Mac) (mac : Mac) (f : Mac → Bool) → h ≡ Some mac → passes f h ≡ true → f mac ≡ true
own_by None mac f is named = cc
own_by (Some other) mac f is named =
    let same : other ≡ mac = cc in
    ap f (sym same) ∙ named

pub found_named : (request : Request) (seen : Seen) (no_room : Bool) (found : Found) → Finds request.at.0 seen no_room found → IsNamed request.at.0 request.from.ip request.name.now seen
    → passes (is_own_name request.name.now found.modem request.from.ip) seen.site ≡ true
found_named request seen no_room found finds named =
    own_by (held_by request.at.0 seen.lease) found.modem (λ mac. passes (is_own_name request.name.now mac request.from.ip) seen.site) finds.modem_is (named (ap is_some finds.body_is))

found_way : (request : Request) (seen : Seen) (no_room : Bool) (found : Found) (profile : Option (List Tree)) (finds : Finds request.at.0 seen no_room found)
    → way_for_owner (view_with seen profile) request.from.ip no_room (asked_in request) (owner_by_row found.modem (Some finds.row))
    ≡ way_anew (view_with seen profile) request.at.0 request.from.ip no_room (asked_in request)
found_way request seen no_room found profile finds =
    ap (λ (m : Option Modem). way_for_owner (view_with seen profile) request.from.ip no_room (asked_in request) (owner_by_row found.modem m)) (sym finds.row_is)
    ∙ ap (λ (h : Option Mac). way_for_holder (view_with seen profile) request.from.ip no_room (asked_in request) h) (sym finds.modem_is)

found_one : (old : Transfers) (request : Request) (seen : Seen) (no_room : Bool) (found : Found) (profile : Option (List Tree)) (d : Decision)
    → Finds request.at.0 seen no_room found → IsNamed request.at.0 request.from.ip request.name.now seen → seen.body ≡ entry_for seen.modem profile
    → CanServe (view_with seen profile) request.at.0 request.from.ip → Begins request seen.site found d
    → Serves (view_with seen profile) old (came_in request) (way_anew (view_with seen profile) request.at.0 request.from.ip no_room (asked_in request)) d
found_one old request seen no_room found profile d finds named entry serves begins =
    subst (λ (w : Way). Serves (view_with seen profile) old (came_in request) w d) (found_way request seen no_room found profile finds)
    (start_for old request seen finds.row found.body.now found.body.now found.body.now.body found.modem found.subscriber profile begins.grant (Ok d) no_room
    (sym finds.subscriber_is) finds.body_is refl refl (entry ∙ ap (λ (m : Option Modem). entry_for m profile) finds.row_is)
    (begins.built (view_with seen profile)) serves begins.whose (λ there. found_named request seen no_room found finds named) finds.room begins.starts finds.row_is)

pub found_serves : (old : Transfers) (request : Request) (seen : Seen) (no_room : Bool) (found : Found) (profile : Option (List Tree)) (step : Result Decision NoMemory)
    → Finds request.at.0 seen no_room found → no_room ≡ lacks_room old request.from → IsNamed request.at.0 request.from.ip request.name.now seen → seen.body ≡ entry_for seen.modem profile
    → CanServe (view_with seen profile) request.at.0 request.from.ip → IfOk step (Begins request seen.site found)
    → IfOk step (Serves (view_with seen profile) old (came_in request) (way_anew (view_with seen profile) request.at.0 request.from.ip (lacks_room old request.from) (asked_in request)))
found_serves old request seen no_room found profile (Ok d) finds full named entry serves begins =
    subst (λ b. Serves (view_with seen profile) old (came_in request) (way_anew (view_with seen profile) request.at.0 request.from.ip b (asked_in request)) d) full
    (found_one old request seen no_room found profile d finds named entry serves begins)
found_serves old request seen no_room found profile (Err err) finds full named entry serves begins = tt

pub found_fits : (old : Transfers) (request : Request) (seen : Seen) (no_room : Bool) (found : Found) (step : Result Decision NoMemory) → Finds request.at.0 seen no_room found
    → no_room ≡ lacks_room old request.from → IsPlaceOf old request.from request.place → IfOk step (Begins request seen.site found) → IfOk step (λ d. CanBe d.change old request.from)
found_fits old request seen no_room found (Ok d) finds full place begins =
    started_fits old request found.body.now begins.grant (Ok d) place (room_for old request.from (sym full ∙ finds.room)) begins.starts
found_fits old request seen no_room found (Err err) finds full place begins = tt

pub found_begins : (old : Transfers) (request : Request) (seen : Seen) (no_room : Bool) (found : Found) (step : Result Decision NoMemory) → Finds request.at.0 seen no_room found
    → repeats request.bytes.now (map.get old request.from) ≡ false → IfOk step (Begins request seen.site found)
    → IfOk step (λ d. BeginsFor (held_by request.at.0 seen.lease) request.bytes.now (map.get (after_change d.change request.at.0 old request.from) request.from))
found_begins old request seen no_room found (Ok d) finds new begins =
    begins_as (Some found.modem) (held_by request.at.0 seen.lease) request.bytes.now (map.get (after_change d.change request.at.0 old request.from) request.from) finds.modem_is
    (started_begins old request found.modem found.subscriber found.body.now begins.grant (Ok d) begins.whose new begins.starts)
found_begins old request seen no_room found (Err err) finds new begins = tt

-- it sees nothing of agreement
started_unseen : (request : Request) (entry : KeptBody) (grant : Option Grant) (d : Decision) → Starts request entry grant d → SeesNothing d
started_unseen request entry None d is = subst SeesNothing (sym is) (record { none = refl; ends = refl })
started_unseen request entry (Some g) d is = subst SeesNothing (sym is) (record { none = refl; ends = refl })

pub found_unseen : (request : Request) (site : Option Site) (found : Found) (step : Result Decision NoMemory) → IfOk step (Begins request site found) → IfOk step SeesNothing
found_unseen request site found (Ok d) begins = started_unseen request found.body.now begins.grant d begins.starts
found_unseen request site found (Err err) begins = tt

-- what there is for its peer agrees with a transfer that begins
found_agrees : (request : Request) (seen : Seen) (no_room : Bool) (found : Found) (grant : Grant) → Finds request.at.0 seen no_room found → IsNamed request.at.0 request.from.ip request.name.now seen
    → IsFor found.modem found.subscriber grant → agrees_now (view_of seen) request.at.0 request.from.ip (begun_by request grant) ≡ true
found_agrees request seen no_room found grant finds named whose =
    let whole : grant.subscriber ≡ finds.row.subscriber = whose.subscriber_is ∙ finds.subscriber_is in
    ap (λ (x : Transfer). agrees_now (view_of seen) request.at.0 request.from.ip x)
    (ap (λ (m : Mac). new_transfer (came_in request) (asked_in request) (file_owner m grant.subscriber) grant.file) whose.modem_is
    ∙ ap (λ n. new_transfer (came_in request) (asked_in request) (file_owner found.modem n) grant.file) whole)
    ∙ ap (λ (h : Option Mac). passes (is_mac found.modem) h && (passes (is_of_subscriber finds.row.subscriber) seen.modem && passes (is_own_name request.name.now found.modem request.from.ip) seen.site)) finds.modem_is
    ∙ ap (λ (m : Option Modem). is_mac found.modem found.modem && (passes (is_of_subscriber finds.row.subscriber) m && passes (is_own_name request.name.now found.modem request.from.ip) seen.site)) finds.row_is
    ∙ all_three (is_mac found.modem found.modem) (is_of_subscriber finds.row.subscriber finds.row) (passes (is_own_name request.name.now found.modem request.from.ip) seen.site)
    (mac_own found.modem) (eq-eqb finds.row.subscriber finds.row.subscriber refl) (found_named request seen no_room found finds named)
  where
    all_three : (a b c : Bool) → a ≡ true → b ≡ true → c ≡ true → (a && (b && c)) ≡ true
    all_three true true true p q r = refl
    all_three true true false p q r = r
    all_three true false c p q r = q
    all_three false b c p q r = p

started_agrees : (request : Request) (seen : Seen) (no_room : Bool) (found : Found) (grant : Option Grant) (d : Decision) → Finds request.at.0 seen no_room found → IsNamed request.at.0 request.from.ip request.name.now seen
    → IfSome grant (IsFor found.modem found.subscriber) → Starts request found.body.now grant d
    → IfSome (new_transfer_by d.change) (λ x. agrees_now (view_of seen) request.at.0 request.from.ip x ≡ true)
started_agrees request seen no_room found None d finds named whose is =
    subst (λ (e : Decision). IfSome (new_transfer_by e.change) (λ x. agrees_now (view_of seen) request.at.0 request.from.ip x ≡ true)) (sym is) tt
started_agrees request seen no_room found (Some g) d finds named whose is =
    subst (λ (e : Decision). IfSome (new_transfer_by e.change) (λ x. agrees_now (view_of seen) request.at.0 request.from.ip x ≡ true)) (sym is)
    (found_agrees request seen no_room found g finds named whose)

pub found_begun_agrees : (request : Request) (seen : Seen) (no_room : Bool) (found : Found) (step : Result Decision NoMemory) → Finds request.at.0 seen no_room found → IsNamed request.at.0 request.from.ip request.name.now seen
    → IfOk step (Begins request seen.site found) → IfOk step (λ d. IfSome (new_transfer_by d.change) (λ x. agrees_now (view_of seen) request.at.0 request.from.ip x ≡ true))
found_begun_agrees request seen no_room found (Ok d) finds named begins = started_agrees request seen no_room found begins.grant d finds named begins.whose begins.starts
found_begun_agrees request seen no_room found (Err err) finds named begins = tt

pub refused_agrees : (request : Request) (seen : Seen) (denial : Denial) (step : Result Decision NoMemory) → IfOk step (λ d. d ≡ refusal_of request.from denial)
    → IfOk step (λ d. IfSome (new_transfer_by d.change) (λ x. agrees_now (view_of seen) request.at.0 request.from.ip x ≡ true))
refused_agrees request seen denial (Ok d) is =
    subst (λ (e : Decision). IfSome (new_transfer_by e.change) (λ x. agrees_now (view_of seen) request.at.0 request.from.ip x ≡ true)) (sym is) tt
refused_agrees request seen denial (Err err) is = tt

-- where it agrees, what was seen of it stands for it
pub begun_sees : (v : View) (now : ℕ) (from : Peer) (d e : Decision) → e ≡ record d { agreed = e.agreed }
    → IfSome (new_transfer_by d.change) (λ x. agrees_now v now from.ip x ≡ true) → IfSome (new_transfer_by d.change) (λ x. agrees_now v now from.ip x ≡ true → passes (stands_for now from.ip x) e.agreed ≡ true)
    → SeesBegun now from e
begun_sees v now from d e same agreed stands =
    subst (λ (c : Change). IfSome (new_transfer_by c) (λ x. passes (stands_for now from.ip x) e.agreed ≡ true)) (sym (ap (λ (x : Decision). x.change) same))
    (both (new_transfer_by d.change) agreed stands)
  where
    both : (o : Option Transfer) → IfSome o (λ x. agrees_now v now from.ip x ≡ true) → IfSome o (λ x. agrees_now v now from.ip x ≡ true → passes (stands_for now from.ip x) e.agreed ≡ true)
        → IfSome o (λ x. passes (stands_for now from.ip x) e.agreed ≡ true)
    both None agreed stands = tt
    both (Some x) agreed stands = stands agreed

-- nor does what is seen of agreement change what it serves
pub serves_seen : (v : View) (now : ℕ) (old : Transfers) (from : Peer) (bytes : List ℕ) (w : Way) (d e : Decision) → e ≡ record d { agreed = e.agreed } → Serves v old (datagram_at now from bytes) w d → Serves v old (datagram_at now from bytes) w e
serves_seen v now old from bytes w d e same served =
    subst (λ (x : Decision). Serves v old (datagram_at now from bytes) w x) (sym same) (record { does = served.does; keeps = served.keeps })

-- what begins, by what the calls answered
pub begun_of : (request : Request) (site : Option Site) (found : Found) (entry : KeptBody) (shared : List ℕ) (grant : Option Grant) (step : Result Decision NoMemory)
    → entry ≡ found.body.now → shared ≡ found.body.now.body → IfOk step (Starts request entry grant) → IfSome grant (IsFor found.modem found.subscriber)
    → ((v : View) → v.site ≡ site → option_map spelling v.profile ≡ Some shared → CanServe v request.at.0 request.from.ip → IsBegun v request.at.0 request.from.ip (option_map (λ (g : Grant). g.file) grant))
    → IfOk step (Begins request site found)
begun_of request site found entry shared grant (Ok d) same alike starts whose built = record {
  grant = grant;
  starts = subst (λ (e : KeptBody). Starts request e grant d) same starts;
  whose = whose;
  built = λ v sited spells can. built v sited (spells ∙ ap Some (sym alike)) can;
}
begun_of request site found entry shared grant (Err err) same alike starts whose built = tt

-- ---- a refusal

pub refused_serves : (old : Transfers) (request : Request) (seen : Seen) (no_room : Bool) (why : Refusal) (profile : Option (List Tree)) (step : Result Decision NoMemory) → Refuses request seen no_room why
    → no_room ≡ lacks_room old request.from → IsNamed request.at.0 request.from.ip request.name.now seen → seen.body ≡ entry_for seen.modem profile → IfOk step (λ d. d ≡ refusal_of request.from (denial_of why))
    → IfOk step (Serves (view_with seen profile) old (came_in request) (way_anew (view_with seen profile) request.at.0 request.from.ip (lacks_room old request.from) (asked_in request)))
refused_serves old request seen no_room why profile (Ok d) refuses full named entry is =
    subst (λ b. Serves (view_with seen profile) old (came_in request) (way_anew (view_with seen profile) request.at.0 request.from.ip b (asked_in request)) d) full
    (subst (λ (w : Way). Serves (view_with seen profile) old (came_in request) w d) (sym (refuses profile entry named))
    (subst (λ (e : Decision). Serves (view_with seen profile) old (came_in request) (Denies (denial_of why)) e) (sym is) (record { does = refl; keeps = λ entries. refl })))
refused_serves old request seen no_room why profile (Err err) refuses full named entry is = tt

pub refused_fits : (old : Transfers) (from : Peer) (denial : Denial) (step : Result Decision NoMemory) → IfOk step (λ d. d ≡ refusal_of from denial) → IfOk step (λ d. CanBe d.change old from)
refused_fits old from denial (Ok d) is = subst (λ (e : Decision). CanBe e.change old from) (sym is) tt
refused_fits old from denial (Err err) is = tt

pub refused_begins : (old : Transfers) (request : Request) (holder : Option Mac) (denial : Denial) (step : Result Decision NoMemory) → repeats request.bytes.now (map.get old request.from) ≡ false
    → IfOk step (λ d. d ≡ refusal_of request.from denial)
    → IfOk step (λ d. BeginsFor holder request.bytes.now (map.get (after_change d.change request.at.0 old request.from) request.from))
refused_begins old request holder denial (Ok d) new is =
    subst (λ (e : Decision). BeginsFor holder request.bytes.now (map.get (after_change e.change request.at.0 old request.from) request.from)) (sym is)
    (nothing_begins holder request.bytes.now (map.get old request.from) new)
refused_begins old request holder denial (Err err) new is = tt

-- ---- the rules, one by one

module _ (request : Request) (seen : Seen) (no_room : Bool) where
  pub not_held : (h : Option Mac) → h ≡ held_by request.at.0 seen.lease → h ≡ None → Refuses request seen no_room why.NoLease
  not_held h is none = λ profile entry named.
      ap (λ (o : Option Mac). way_for_holder (view_with seen profile) request.from.ip no_room (asked_in request) o) (sym is ∙ none)

  by_row : (h : Option Mac) (mac : Mac) (profile : Option (List Tree)) (m : Option Modem) → h ≡ held_by request.at.0 seen.lease → h ≡ Some mac → seen.modem ≡ m
      → way_anew (view_with seen profile) request.at.0 request.from.ip no_room (asked_in request)
      ≡ way_for_owner (view_with seen profile) request.from.ip no_room (asked_in request) (owner_by_row mac m)
  by_row h mac profile m is held there =
      ap (λ (o : Option Mac). way_for_holder (view_with seen profile) request.from.ip no_room (asked_in request) o) (sym is ∙ held)
      ∙ ap (λ (o : Option Modem). way_for_owner (view_with seen profile) request.from.ip no_room (asked_in request) (owner_by_row mac o)) there

  pub not_agreed : (h : Option Mac) (mac : Mac) → h ≡ held_by request.at.0 seen.lease → h ≡ Some mac → seen.modem ≡ None → Refuses request seen no_room why.Agreement
  not_agreed h mac is held none = λ profile entry named. by_row h mac profile None is held none

  nameless : (mac : Mac) (row : Modem) (own : Bool) (profile : Option (List Tree)) → None ≡ option_map (entry_of row) profile
      → cond (not (own && is_some profile)) (Denies file_not_found) (cond no_room (Denies too_many_transfers) (Accepts (asked_in request) (file_owner mac row.subscriber))) ≡ Denies file_not_found
  nameless mac row true None entry = refl
  nameless mac row false None entry = refl
  nameless mac row own (Some p) entry = cc

  pub not_named : (h : Option Mac) (mac : Mac) (row : Modem) → h ≡ held_by request.at.0 seen.lease → h ≡ Some mac → seen.modem ≡ Some row → seen.body ≡ None → Refuses request seen no_room why.Name
  not_named h mac row is held there none = λ profile entry named.
      by_row h mac profile (Some row) is held there
      ∙ nameless mac row (passes (is_own_name request.name.now mac request.from.ip) seen.site) profile (sym none ∙ entry ∙ ap (λ (m : Option Modem). entry_for m profile) there)

  crowded : (mac : Mac) (row : Modem) (own : Bool) (profile : Option (List Tree)) (body : KeptBody) → own ≡ true → no_room ≡ true → Some body ≡ option_map (entry_of row) profile
      → cond (not (own && is_some profile)) (Denies file_not_found) (cond no_room (Denies too_many_transfers) (Accepts (asked_in request) (file_owner mac row.subscriber))) ≡ Denies too_many_transfers
  crowded mac row own None body is full entry = cc
  crowded mac row own (Some p) body is full entry =
      ap (λ b. cond (not (b && true)) (Denies file_not_found) (cond no_room (Denies too_many_transfers) (Accepts (asked_in request) (file_owner mac row.subscriber)))) is
      ∙ ap (λ b. cond b (Denies too_many_transfers) (Accepts (asked_in request) (file_owner mac row.subscriber))) full

  pub no_place : (h : Option Mac) (mac : Mac) (row : Modem) (body : KeptBody) → h ≡ held_by request.at.0 seen.lease → h ≡ Some mac → seen.modem ≡ Some row → seen.body ≡ Some body → no_room ≡ true
      → Refuses request seen no_room why.Full
  no_place h mac row body is held there some full = λ profile entry named.
      by_row h mac profile (Some row) is held there
      ∙ crowded mac row (passes (is_own_name request.name.now mac request.from.ip) seen.site) profile body
      (own_by h mac (λ m. passes (is_own_name request.name.now m request.from.ip) seen.site) held (ap (λ (o : Option Mac). passes (λ m. passes (is_own_name request.name.now m request.from.ip) seen.site) o) is ∙ named (ap is_some some)))
      full (sym some ∙ entry ∙ ap (λ (m : Option Modem). entry_for m profile) there)
