-- Each modem of a drill meets what booting asks.
use Rattle.std.proofs.Common.{codes, ◌≡◌, ◌≢◌, ◌⊎◌, ℕ, suc, ◌<◌, ◌≤◌, true, List, [], Option, Some, None, MatchOption, option_and_then, refl, sym, ap, subst, ◌∙◌, inl, inr, arith}
use Rattle.std.specs.FinMap as map
use Rattle.off_base.specs.declared.addresses.Ip4.{Ip4}
use Rattle.off_base.specs.declared.macs.Mac.{Mac}
use Rattle.off_base.specs.Parts.{parts_in}
use Rattle.off_defs.specs.declared.events.Event.{Event}
use Rattle.off_defs.specs.declared.keys.Key.TheVariants as key
use Rattle.off_defs.specs.declared.tables.Lease.{Lease}
use Rattle.off_defs.specs.State.{Tables, State, Transfer, peer_cmp}
use Rattle.off_dhcp.specs.Datagram.{option_in}
use Rattle.off_asking.specs.Asking.{relayed}
use Rattle.off_docsis.specs.Cable.{begins_as_modem}
use Rattle.off_account_rules.specs.Rows.{possible, as_pool, pool_in, lease_in}
use Rattle.off_table_laws.proofs.Reading.{row_lease}
use Rattle.off_defs.specs.declared.results.Outcome.TheVariants.{Did}
use Rattle.off_packets.specs.Packets.{only_size}
use Rattle.off_transfer_rules.specs.Transfers.{Transfers}
use Rattle.off_book.specs.Step.{Step}
use Rattle.off_book.specs.Run.{Turn, effect_of}
use Rattle.off_laws.specs.Leases.{moment_of}
use Rattle.off_drill_rules.specs.Rows.{site, pool, modem, mac, address, lease, moment, drill_tables}
use Rattle.off_drill_rules.specs.Messages.{by_relay, by_modem, name, discover, request, read_request}
use Rattle.off_drill_rules.specs.Events.{asks_for_offer, asks_for_lease, asks_for_file}
use Rattle.off_drill_rules.specs.Law.{drill_state}
use Rattle.off_drill_laws.specs.Stages.{offered_tables, offered_state}
use Rattle.off_drill_laws.proofs.RowLemmas.{HasRows, with_lease, with_held, drill_rows, lease_beyond, lease_within, pool_site, address_within, site_read_at, modem_read, lease_read}
use Rattle.off_drill_laws.proofs.LeaseLemmas.{discovered, requested, claim_is}
use Rattle.off_drill_laws.proofs.LeaseLemmas as said
use Rattle.off_drill_laws.proofs.PacketLemmas.{request_says}
use Rattle.off_drill_laws.proofs.TurnLemmas.{discover_turn, request_turn}
use Rattle.off_boot_laws.specs.Known.{IsOfModem}
use Rattle.off_boot_laws.specs.Stages.{Discovers, Requests, HasPlace, AsksForFile}
use Rattle.off_boot_laws.specs.Waiting.{LeaseLasts, WaitsThrough}
use Rattle.off_boot_laws.proofs.Booting.{no_turn}
use Rattle.off_boot_drill.specs.Met.{EachMeetsAll}

-- nothing comes between
waits_none : (mac : Mac) (address : Ip4) (s : State) → WaitsThrough mac address s []
waits_none mac address s before later turn from parts up_to = absurd (no_turn before later turn parts)

-- ---- the rows

pool_there : (t : Tables) (i : ℕ) → HasRows t i → pool_in t 1 ≡ Some pool
pool_there t i h = ap (λ o. option_and_then as_pool (possible (key.Pool 1) o)) (h.pool_rows 1)

known_discover : (t : Tables) (i : ℕ) → HasRows t i → IsOfModem t (discovered i)
unfolding parts_in begins_as_modem
known_discover t i h = record {
  site = site;
  number = 1;
  pool = pool;
  modem = modem i;
  site_is = pool_site t i h 1;
  pool_is = pool_there t i h;
  pooled = inl ((λ e. omega (arith, e)), refl);
  modem_is = modem_read t i h;
  vendor = refl;
  relay = refl;
  remote = λ _. refl;
  class = refl;
  serial = inl refl;
}

known_request : (t : Tables) (i : ℕ) → HasRows t i → IsOfModem t (requested i)
unfolding parts_in begins_as_modem
known_request t i h = record {
  site = site;
  number = 1;
  pool = pool;
  modem = modem i;
  site_is = pool_site t i h 1;
  pool_is = pool_there t i h;
  pooled = inl ((λ e. omega (arith, e)), refl);
  modem_is = modem_read t i h;
  vendor = refl;
  relay = refl;
  remote = λ _. refl;
  class = refl;
  serial = inl refl;
}

no_lease : (o : Option Lease) (one : Lease) → o ≡ None → o ≡ Some one → ⊥
no_lease o one e f = let both : None ≡ Some one = sym e ∙ f in cc

not_none : (o : Option (List ℕ)) (value : List ℕ) → o ≡ Some value → o ≡ None → ⊥
not_none o value e f = let both : Some value ≡ None = sym e ∙ f in cc

-- the relay names the modem
no_mac : (o : Option Mac) (one : Mac) → o ≡ Some one → o ≡ None → ⊥
no_mac o one e f = let both : Some one ≡ None = sym e ∙ f in cc

unnamed : (i : ℕ) → relayed (requested i) ≡ None → ⊥
unfolding parts_in
unnamed i none = no_mac (relayed (requested i)) (mac i) refl none

-- ---- the three messages

module _ (n k : ℕ) (few : n ≤ 4000) (more : k < n) where
  discovers_so : (turn : Turn) → turn.event ≡ asks_for_offer (suc k) → Discovers (drill_state n k) (discovered (suc k)) turn
  unfolding known_discover
  discovers_so turn event = record {
    takes = record { from = by_relay; bytes = discover (suc k); came = ap (λ (e : Event). e.what) event; read = said.read_discover (suc k) };
    kind = refl;
    known = known_discover (drill_tables n k) (suc k) (drill_rows n k (suc k) few (omega arith) (omega (arith, more)));
    told = not_none (option_in 60 (discovered (suc k)).options) (codes "docsis3.1:") refl;
    address = address (suc k);
    within = address_within (suc k) (omega arith) (omega (arith, more, few));
    opens = inr (λ one is. absurd (no_lease (lease_in (drill_tables n k) (address (suc k))) one
        (lease_read (drill_tables n k) (address (suc k)) (lease_beyond n k (suc k) (omega arith))) is));
  }

  offered_rows : HasRows (offered_tables n k) (suc k)
  offered_rows =
      with_held _ (suc k) (mac (suc k)) _
      (with_lease (drill_tables n k) (suc k) (address (suc k)) _ (drill_rows n k (suc k) few (omega arith) (omega (arith, more))))

  requests_so : (turn : Turn) → turn.event ≡ asks_for_lease (suc k) → Requests (offered_state n k) (requested (suc k)) turn (address (suc k))
  unfolding known_request
  requests_so turn event = record {
    takes = record { from = by_relay; bytes = request (suc k); came = ap (λ (e : Event). e.what) event; read = said.read_request (suc k) };
    kind = refl;
    known = known_request (offered_tables n k) (suc k) offered_rows;
    server = inr refl;
    claim = claim_is (suc k) (omega (arith, more, few));
    within = address_within (suc k) (omega arith) (omega (arith, more, few));
    unset = λ none zero lease there. absurd (unnamed (suc k) none);
  }

  -- the address is bound to it
  bound_to : lease_in (drill_tables n (suc k)) (address (suc k)) ≡ Some (lease (suc k))
  bound_to = row_lease (drill_tables n (suc k)) (address (suc k)) (lease (suc k)) (lease_within n (suc k) (suc k) (omega arith) (omega arith))

  lasts_so : (turn : Turn) → turn.event ≡ asks_for_file (suc k) → LeaseLasts (address (suc k)) (drill_state n (suc k)) turn
  lasts_so turn event one is =
      let both : Some (lease (suc k)) ≡ Some one = sym bound_to ∙ is in
      let same : lease (suc k) ≡ one = cc in
      let at : turn.event.at.0 ≡ moment (suc k) = ap (λ (e : Event). e.at.0) event in
      subst (λ (l : Lease). moment_of (drill_state n (suc k)) turn < l.expiry.0) same (omega (arith, at))

  place_so : HasPlace map.empty (by_modem (suc k)) (read_request (suc k))
  place_so =
      let none : Transfers = map.empty in
      let empty : map.len none ≡ 0 = map.len-empty peer_cmp Transfer in
      subst (λ (o : Option Transfer). MatchOption o (map.len none < 256) (λ (x : Transfer). (x.is_acknowledged ≡ true) ⊎ (x.request ≢ read_request (suc k))))
      (sym (map.get-empty peer_cmp (by_modem (suc k)))) (omega (arith, empty))

  reads_so : (turn : Turn) → turn.event ≡ asks_for_file (suc k)
      → AsksForFile (drill_state n (suc k)) (mac (suc k)) (by_modem (suc k)) (name (suc k)) (only_size 44) turn
  reads_so turn event =
      let rows = drill_rows n (suc k) (suc k) few (omega arith) (omega (arith, more)) in
      record {
        bytes = read_request (suc k);
        site = site;
        modem = modem (suc k);
        event = ap (λ (e : Event). e.what) event;
        read = request_says (suc k);
        site_is = site_read_at (drill_tables n (suc k)) (suc k) rows (address (suc k)) (address_within (suc k) (omega arith) (omega (arith, few, more)));
        modem_is = modem_read (drill_tables n (suc k)) (suc k) rows;
        named = refl;
        place = place_so;
      }

pub each_meets_all : EachMeetsAll
each_meets_all n k discovers requests reads s1 s2 s3 few more all =
    let offered : s1 ≡ offered_state n k =
    (discover_turn n k more few (effect_of discovers s1) (subst (λ (e : Event). Step (drill_state n k) e Did (effect_of discovers s1)) all.discover all.offered)).1 in
    let second : Step (offered_state n k) (asks_for_lease (suc k)) Did (effect_of requests s2) =
    subst (λ (s : State). Step s (asks_for_lease (suc k)) Did (effect_of requests s2)) offered
    (subst (λ (e : Event). Step s1 e Did (effect_of requests s2)) all.request all.acknowledged) in
    let bound : s2 ≡ drill_state n (suc k) = (request_turn n k more few (effect_of requests s2) second).1 in
    record {
      m = discovered (suc k);
      other = requested (suc k);
      sender = refl;
      same = refl;
      discover = discovers_so n k few more discovers all.discover;
      waits = waits_none (mac (suc k)) (address (suc k)) s1;
      request = subst (λ (s : State). Requests s (requested (suc k)) requests (address (suc k))) (sym offered) (requests_so n k few more requests all.request);
      waits_again = waits_none (mac (suc k)) (address (suc k)) s2;
      read = subst (λ (s : State). AsksForFile s (mac (suc k)) (by_modem (suc k)) (name (suc k)) (only_size 44) reads) (sym bound) (reads_so n k few more reads all.read);
      lasts = subst (λ (s : State). LeaseLasts (address (suc k)) s reads) (sym bound) (lasts_so n k few more reads all.read);
    }
