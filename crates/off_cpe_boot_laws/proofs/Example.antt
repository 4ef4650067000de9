-- The device of the example meets all that the laws ask, and is bound.
use Rattle.std.proofs.Common.{◌≡◌, ◌≢◌, ◌<◌, ◌≤◌, inl, inr, ℕ, max, ◌==◌, true, false, cond, List, [], ◌∷◌, ◌++◌, get_or, map, Option, Some, None, option_and_then, Ok, refl, sym, ap, subst, ◌∙◌, arith}
use Rattle.std.specs.List.{find, range_with_len}
use Rattle.off_base.specs.Parts.{parts_in}
use Rattle.off_base.specs.declared.addresses.Ip4.{Ip4}
use Rattle.off_base.specs.declared.macs.Mac.{Mac}
use Rattle.off_defs.specs.declared.events.Event.{Event}
use Rattle.off_defs.specs.declared.keys.Key.{Key}
use Rattle.off_defs.specs.declared.keys.Key.TheVariants as key
use Rattle.off_defs.specs.declared.results.Outcome.TheVariants.{Did}
use Rattle.off_defs.specs.declared.results.Sent.{Sent}
use Rattle.off_defs.specs.declared.tables.Row.{Row}
use Rattle.off_defs.specs.declared.tables.Modem.{Modem}
use Rattle.off_defs.specs.declared.tables.Subscriber.{Subscriber}
use Rattle.off_defs.specs.declared.tables.DeviceHold.TheVariants.{Offered, Bound}
use Rattle.off_defs.specs.declared.tables.DeviceLease.{DeviceLease}
use Rattle.off_defs.specs.declared.writes.Write.{Write}
use Rattle.off_defs.specs.Clock.{later_by}
use Rattle.off_defs.specs.State.{Tables, State, Effect, at_moment, start}
use Rattle.off_defs.specs.Tables.{row_at, write_all}
use Rattle.off_dhcp.specs.Datagram.{Received, message_fault, message_of}
use Rattle.off_account_rules.specs.Rows.{possible, as_site, as_pool, as_pool_hub, as_subscriber, as_modem, as_lease, as_device, number_or_0, hub_in, pool_hub_in, site_of, subscriber_in, modem_in, pool_in, device_in, devices}
use Rattle.off_account_rules.specs.Good.{Good, device_owner}
use Rattle.off_order_laws.proofs.DevicePools.{is_no_device}
use Rattle.off_table_laws.proofs.TableLaws.{device_owned, hub_of_pool}
use Rattle.off_asking.specs.Asking.{ip, client, named_address, at_address, remote_identifier}
use Rattle.off_asking.specs.Choice.{least_of, choice_by}
use Rattle.off_lease_laws.proofs.Tests.{ip_or}
use Rattle.off_cpe_rules.specs.Behind.{is_free, has_ended, own_among, modem_behind}
use Rattle.off_cpe_rules.specs.Steps.{device_row, own_drop, own_elsewhere, offered, step_behind}
use Rattle.off_cpe_laws.specs.Laws.{after_step}
use Rattle.off_cpe_laws.proofs.WriteLemmas.{the_own}
use Rattle.off_query_laws.proofs.KindLemmas.{no_query}
use Rattle.off_book.specs.Dhcp.{MessageDid, DatagramDid, device_effect}
use Rattle.off_book.specs.Step.{Step}
use Rattle.off_book.specs.Run.{Turn, effect_of, marked}
use Rattle.off_laws.specs.Leases.{TakesMessage, moment_of}
use Rattle.off_boot_laws.specs.Went.{GoesWell}
use Rattle.off_laws.proofs.Devices.{row_aside, device_is}
use Rattle.off_laws.proofs.StepLaws.{moment_is_greatest, step_good}
use Rattle.off_boot_laws.proofs.Booting.{no_turn}
use Rattle.off_cpe_boot_laws.specs.Known.{IsBehind, IsOfAnother, AreFewOthers, IsOfDevice, IsBelowLimit}
use Rattle.off_cpe_boot_laws.specs.Stages.{device_until, DeviceDiscovers, DeviceRequests}
use Rattle.off_cpe_boot_laws.specs.Limit.{NeverMayHaveMore}
use Rattle.off_cpe_boot_laws.specs.Example.{site, subscriber, modem, modem_row, modem_pool, device_pool, modem_address, tables, device, address, said, heard, selects, by_relay, event_at, Asks, SomeAsk, MeetsAll, AllCanBeMet}
use Rattle.off_cpe_boot_laws.proofs.Behind.{is_behind}
use Rattle.off_cpe_boot_laws.proofs.Owning.{given_here, given_other}
use Rattle.off_cpe_boot_laws.proofs.Messages.{known_of, discover_is}
use Rattle.off_cpe_boot_laws.proofs.Answering.{device_acts, devices_are_acknowledged}
use Rattle.off_cpe_boot_laws.proofs.ExampleRows.{all_rows, row_is, tables_are_good}

-- ---- what the messages say

abbrev asks_first : Received
asks_first = heard 1 []

abbrev asks_again : Received
asks_again = heard 3 selects

reads_first : message_of (said 1 []) ≡ Ok asks_first
unfolding message_fault parts_in
reads_first = refl

reads_again : message_of (said 3 selects) ≡ Ok asks_again
unfolding message_fault parts_in
reads_again = refl

names_first : remote_identifier asks_first ≡ Some modem.0
unfolding parts_in
names_first = refl

names_again : remote_identifier asks_again ≡ Some modem.0
unfolding parts_in
names_again = refl

apart : device ≢ modem
apart e = let second : 0 ≡ 0xaa = ap (λ (w : Mac). get_or w.0 1 0) e in omega (arith, second)

-- ---- tables whose rows are these, but for leases of devices

module _ (t : Tables) (good : Good t) (same : (q : Key) → is_no_device q ≡ true → row_at t q ≡ all_rows q) (now : ℕ) (early : now < 1700086400)
    (alone : (x : Ip4) → IsOfAnother t now modem device x → ⊥) where
  few : AreFewOthers t now modem device 2
  few [] differ all = omega arith
  few (x ∷ xs) differ all = absurd (alone x all.0)

  hub_is : hub_in t 0 ≡ Some site
  unfolding is_no_device
  hub_is = ap (λ (o : Option Row). option_and_then as_site (possible (key.Hub 0) o)) (same (key.Hub 0) refl)

  pool_hub_is : pool_hub_in t 1 ≡ 0
  unfolding is_no_device
  pool_hub_is = ap (λ (o : Option Row). number_or_0 (option_and_then as_pool_hub (possible (key.PoolHub 1) o))) (same (key.PoolHub 1) refl)

  pool_there : pool_in t 1 ≡ Some modem_pool
  unfolding is_no_device
  pool_there = ap (λ (o : Option Row). option_and_then as_pool (possible (key.Pool 1) o)) (same (key.Pool 1) refl)

  site_is : site_of t modem_address ≡ Some site
  site_is =
      ap (option_and_then (hub_in t)) (hub_of_pool t good modem_address 1 modem_pool pool_there refl) ∙ ap (hub_in t) pool_hub_is ∙ hub_is

  of_device : (m : Received) → remote_identifier m ≡ Some modem.0 → client m ≡ device → m.giaddr ≡ 0x0a800001 → IsOfDevice t now m
  unfolding is_no_device
  of_device m says sender relayed =
      let there : modem_in t modem ≡ Some modem_row = ap (λ (o : Option Row). option_and_then as_modem (possible (key.Modem modem) o)) (same (key.Modem modem) refl) in
      record {
        modem = modem;
        behind = inl (record { row = modem_row; row_is = there; says = says; six = refl; apart = λ e. apart (sym sender ∙ e) });
        row = modem_row;
        row_is = there;
        subscriber = subscriber;
        subscriber_is = ap (λ (o : Option Row). option_and_then as_subscriber (possible (key.Subscriber 7) o)) (same (key.Subscriber 7) refl);
        active = refl;
        online = modem_address;
        bound = record {
          expiry = 1700086400;
          bound = ap (λ (o : Option Row). option_and_then as_lease (possible (key.Lease modem_address) o)) (same (key.Lease modem_address) refl);
          live = early;
        };
        site = site;
        site_is = site_is;
        number = 1;
        pool = device_pool;
        pool_is = ap (λ (o : Option Row). option_and_then as_pool (possible (key.DevicePool 1) o)) (same (key.DevicePool 1) refl);
        pooled = inl ((λ e. let zero : 0x0a800001 ≡ 0 = sym relayed ∙ e in omega (arith, zero)), sym relayed);
      }

  below_limit : (m : Received) (says : remote_identifier m ≡ Some modem.0) (sender : client m ≡ device) (relayed : m.giaddr ≡ 0x0a800001) → IsBelowLimit t now m (of_device m says sender relayed)
  unfolding of_device
  below_limit m says sender relayed = subst (λ (w : Mac). AreFewOthers t now modem w 2) (sym sender) few

-- ---- it discovers

no_device_in : (x : Ip4) → device_in tables x ≡ None
no_device_in x = ap (λ (o : Option Row). option_and_then as_device (possible (key.Device x) o)) (row_is (key.Device x))

alone_first : (now : ℕ) (x : Ip4) → IsOfAnother tables now modem device x → ⊥
alone_first now x other = let both : None ≡ Some other.lease = sym (no_device_in x) ∙ other.lease_is in cc

known_first : IsOfDevice tables 1700000000 asks_first
known_first = of_device tables tables_are_good (λ q other. row_is q) 1700000000 (omega arith) (alone_first 1700000000) asks_first names_first refl refl

behind_first : IsBehind tables asks_first modem
unfolding known_first of_device
behind_first = known_first.behind

below_first : IsBelowLimit tables 1700000000 asks_first known_first
unfolding known_first
below_first = below_limit tables tables_are_good (λ q other. row_is q) 1700000000 (omega arith) (alone_first 1700000000) asks_first names_first refl refl

abbrev own : Option Ip4
own = own_among modem device (devices tables)

none_own : (o : Option Ip4) → own ≡ o → own ≡ None
none_own None e = e
none_own (Some y) e =
    let l = device_owned (device_in tables y) (modem, device) (the_own tables modem device y e) in
    let both : None ≡ Some l.0 = sym (no_device_in y) ∙ l.1 in
    cc

-- the least address is free
chosen_first : choice_by (is_free tables 1700000000 device_pool) device_pool own (at_address (named_address asks_first)) ≡ Some address
unfolding least_of parts_in
chosen_first =
    ap (λ (o : Option Ip4). choice_by (is_free tables 1700000000 device_pool) device_pool o None) (none_own own refl)
    ∙ ap (λ b. cond b (Some address) (find (is_free tables 1700000000 device_pool) (map ip (range_with_len 0x0a80000b 10))))
    (ap (has_ended 1700000000) (no_device_in address))

abbrev fresh : DeviceLease
fresh = device_until (Offered modem device) 1700000120

writes_first : (step_behind tables 1700000000 asks_first modem).writes ≡ device_row address (Offered modem device) 120 1700000000 ∷ []
unfolding known_of known_first of_device
writes_first =
    let k = known_of tables 1700000000 asks_first tables_are_good known_first below_first in
    ap (λ s. s.writes) (discover_is tables 1700000000 modem asks_first refl k address chosen_first)
    ∙ ap (λ (o : Option DeviceLease). offered 1700000000 modem device own address o) (no_device_in address)
    ∙ ap (λ (o : Option Ip4). own_drop (own_elsewhere address o) ++ device_row address (Offered modem device) 120 1700000000 ∷ []) (none_own own refl)

-- after it the address is its own for two minutes, and all other rows are as before
abbrev tables_again : Tables
tables_again = after_step tables 1700000000 asks_first modem

leased_again : device_in tables_again address ≡ Some fresh
leased_again = ap (λ (writes : List Write). device_in (write_all tables writes) address) writes_first ∙ given_here tables fresh address None

others_again : (x : Ip4) → (x ≡ address → ⊥) → device_in tables_again x ≡ None
others_again x aside =
    ap (λ (writes : List Write). device_in (write_all tables writes) x) writes_first ∙ given_other tables fresh address None x aside (λ e. cc) ∙ no_device_in x

rows_again : (q : Key) → is_no_device q ≡ true → row_at tables_again q ≡ all_rows q
rows_again q other = row_aside tables 1700000000 asks_first modem q other ∙ row_is q

-- so no other device has an address
alone_again : (now : ℕ) (x : Ip4) → IsOfAnother tables_again now modem device x → ⊥
alone_again now x other =
    elim (ip_or x address) as (λ c. ⊥) [
      | inl same ↦
          let leases : Some other.lease ≡ Some fresh = sym other.lease_is ∙ ap (device_in tables_again) same ∙ leased_again in
          let lease : other.lease ≡ fresh = cc in
          let owners : ◌≡◌ {A = Option (Mac × Mac)} (Some (modem, other.other)) (Some (modem, device)) = sym other.owned ∙ ap (λ (l : DeviceLease). device_owner l.hold) lease in
          let pair : ◌≡◌ {A = Mac × Mac} (modem, other.other) (modem, device) = cc in
          other.apart (ap (λ (w : Mac × Mac). w.1) pair)
      | inr aside ↦ let both : None ≡ Some other.lease = sym (others_again x aside) ∙ other.lease_is in cc
    ]

-- the subscriber may have two
subscriber_there : (n : ℕ) (one : Subscriber) → n ≡ 7 → subscriber_in tables n ≡ Some one → one.cpes ≤ 2
subscriber_there n one is e =
    let read : subscriber_in tables 7 ≡ Some subscriber = ap (λ (o : Option Row). option_and_then as_subscriber (possible (key.Subscriber 7) o)) (row_is (key.Subscriber 7)) in
    let both : Some one ≡ Some subscriber = sym e ∙ ap (λ (k : ℕ). subscriber_in tables k) is ∙ read in
    let same : one ≡ subscriber = cc in
    let two : one.cpes ≡ 2 = ap (λ (s : Subscriber). s.cpes) same in
    omega (arith, two)

may_have_two : (other : Modem) (one : Subscriber) → modem_in tables modem ≡ Some other → subscriber_in tables other.subscriber ≡ Some one → one.cpes ≤ 2
may_have_two other one is e =
    let read : modem_in tables modem ≡ Some modem_row = ap (λ (o : Option Row). option_and_then as_modem (possible (key.Modem modem) o)) (row_is (key.Modem modem)) in
    let both : Some other ≡ Some modem_row = sym is ∙ read in
    let same : other ≡ modem_row = cc in
    subscriber_there other.subscriber one (ap (λ (r : Modem). r.subscriber) same) e

never_more : (turn : Turn) → NeverMayHaveMore 2 modem (start tables) (turn ∷ [])
never_more turn [] later next from parts up_to other one is e =
    may_have_two other one (ap (λ (s : State). modem_in s.tables modem) (sym up_to) ∙ is) (ap (λ (s : State). subscriber_in s.tables other.subscriber) (sym up_to) ∙ e)
never_more turn (first ∷ before) later next from parts up_to other one is e = absurd (no_turn before later next (tail_is parts))
  where
    tail_is : turn ∷ [] ≡ first ∷ (before ++ next ∷ later) → [] ≡ before ++ next ∷ later
    tail_is both = cc

module _ (discovers requests : Turn) (s1 s2 : State) (all : Asks discovers requests s1 s2) where
  -- ---- the DISCOVER

  moment_first : moment_of (start tables) discovers ≡ 1700000000
  moment_first = ap (λ (e : Event). max 0 e.at.0) all.discover

  takes_first : TakesMessage asks_first discovers
  takes_first = record { from = by_relay; bytes = said 1 []; came = ap (λ (e : Event). e.what) all.discover; read = reads_first }

  known_then : IsOfDevice tables (moment_of (start tables) discovers) asks_first
  known_then =
      of_device tables tables_are_good (λ q other. row_is q) (moment_of (start tables) discovers) (subst (λ (n : ℕ). n < 1700086400) (sym moment_first) (omega arith))
      (alone_first (moment_of (start tables) discovers)) asks_first names_first refl refl

  below_then : IsBelowLimit tables (moment_of (start tables) discovers) asks_first known_then
  unfolding known_then
  below_then =
      below_limit tables tables_are_good (λ q other. row_is q) (moment_of (start tables) discovers) (subst (λ (n : ℕ). n < 1700086400) (sym moment_first) (omega arith))
      (alone_first (moment_of (start tables) discovers)) asks_first names_first refl refl

  discover_here : DeviceDiscovers (start tables) asks_first discovers
  unfolding known_then of_device
  discover_here = record {
    takes = takes_first;
    kind = refl;
    known = known_then;
    below = below_then;
    address = address;
    within = refl;
    opens = inr (λ lease is. let both : None ≡ Some lease = sym (no_device_in address) ∙ is in cc);
  }

  tables_then : s1.tables ≡ tables_again
  tables_then =
      ap (λ (e : Effect). e.after.tables)
      (device_acts (start tables) s1 discovers asks_first modem all.first takes_first all.well.0.did refl (is_behind tables asks_first modem behind_first))
      ∙ ap (λ (n : ℕ). after_step tables n asks_first modem) moment_first

  -- ---- the REQUEST

  good_then : Good s1.tables
  good_then = step_good (start tables) discovers.event discovers.outcome (effect_of discovers s1) all.first tables_are_good

  moment_then : moment_of s1 requests ≡ 1700000119
  moment_then =
      ap (λ (e : Event). max s1.held.now e.at.0) all.request
      ∙ ap (λ (n : ℕ). max n 1700000119) (moment_is_greatest (start tables) discovers.event discovers.outcome (effect_of discovers s1) all.first ∙ moment_first)

  known_again : IsOfDevice s1.tables (moment_of s1 requests) asks_again
  known_again =
      of_device s1.tables good_then (λ q other. ap (λ (t : Tables). row_at t q) tables_then ∙ rows_again q other) (moment_of s1 requests)
      (subst (λ (n : ℕ). n < 1700086400) (sym moment_then) (omega arith))
      (subst (λ (t : Tables). (x : Ip4) → IsOfAnother t (moment_of s1 requests) modem device x → ⊥) (sym tables_then) (alone_again (moment_of s1 requests)))
      asks_again names_again refl refl

  below_again : IsBelowLimit s1.tables (moment_of s1 requests) asks_again known_again
  unfolding known_again
  below_again =
      below_limit s1.tables good_then (λ q other. ap (λ (t : Tables). row_at t q) tables_then ∙ rows_again q other) (moment_of s1 requests)
      (subst (λ (n : ℕ). n < 1700086400) (sym moment_then) (omega arith))
      (subst (λ (t : Tables). (x : Ip4) → IsOfAnother t (moment_of s1 requests) modem device x → ⊥) (sym tables_then) (alone_again (moment_of s1 requests)))
      asks_again names_again refl refl

  leased_then : device_in s1.tables address ≡ Some fresh
  leased_then = ap (λ (t : Tables). device_in t address) tables_then ∙ leased_again

  request_here : DeviceRequests s1 asks_again requests address
  unfolding known_again of_device parts_in
  request_here = record {
    takes = record { from = by_relay; bytes = said 3 selects; came = ap (λ (e : Event). e.what) all.request; read = reads_again };
    kind = refl;
    known = known_again;
    server = inr refl;
    claim = refl;
    within = refl;
  }

  below_here : IsBelowLimit s1.tables (moment_of s1 requests) asks_again request_here.known
  unfolding request_here
  below_here = below_again

  meets : MeetsAll discovers requests s1 s2
  unfolding discover_here known_then request_here known_again of_device
  meets = record {
    good = tables_are_good;
    discover = discover_here;
    offered = leased_then;
    never = never_more discovers;
    waits = λ before later turn from parts up_to. absurd (no_turn before later turn parts);
    request = request_here;
    same = refl;
    below = below_here;
    bound = (devices_are_acknowledged s1 s2 requests asks_again address good_then all.second all.well.1 request_here below_here
        (ap (option_and_then (λ (l : DeviceLease). device_owner l.hold)) leased_then)).bound
        ∙ ap (λ (n : ℕ). Some (device_until (Bound modem device) (later_by 86400 n))) moment_then;
  }

pub all_can_be_met : AllCanBeMet
all_can_be_met discovers requests s1 s2 all = meets discovers requests s1 s2 all

-- ---- and there are such turns

all_sent : (items : List Sent) → marked items (map (λ _. true) items) ≡ items
all_sent [] = refl
all_sent (item ∷ items) = ap (λ (rest : List Sent). item ∷ rest) (all_sent items)

turn_of : Event → Effect → Turn
turn_of event effect = record { event = event; outcome = Did; said = effect.said; commit = effect.commit; went = map (λ _. true) effect.said.items }

goes_well : (event : Event) (effect : Effect) → GoesWell (turn_of event effect)
unfolding turn_of
goes_well event effect = record { did = refl; sent = all_sent effect.said.items }

abbrev effect_at : State → ℕ → Received → Effect
effect_at s now m = device_effect (at_moment s now) (step_behind s.tables (max s.held.now now) m modem)

gives : (s : State) (now : ℕ) (bytes : List ℕ) (m : Received) → message_of bytes ≡ Ok m → (m.kind == 10) ≡ false → modem_behind s.tables m ≡ Some modem
    → Step s (event_at now bytes) Did (effect_at s now m)
unfolding Step
gives s now bytes m read other behind =
    let here = at_moment s now in
    subst (DatagramDid here bytes (effect_at s now m)) (sym (no_query bytes m read other))
    (subst (MessageDid here bytes (effect_at s now m)) (sym (device_is s.tables here.held.now bytes m modem read behind)) refl)

behind_again : modem_behind tables_again asks_again ≡ Some modem
unfolding is_no_device
behind_again =
    is_behind tables_again asks_again modem (inl (record {
      row = modem_row;
      row_is = ap (λ (o : Option Row). option_and_then as_modem (possible (key.Modem modem) o)) (rows_again (key.Modem modem) refl);
      says = names_again;
      six = refl;
      apart = apart;
    }))

pub some_ask : SomeAsk
unfolding turn_of
some_ask =
    let one = effect_at (start tables) 1700000000 asks_first in
    let two = effect_at one.after 1700000119 asks_again in
    record {
      discovers = turn_of (event_at 1700000000 (said 1 [])) one;
      requests = turn_of (event_at 1700000119 (said 3 selects)) two;
      s1 = one.after;
      s2 = two.after;
      asks = record {
        discover = refl;
        request = refl;
        first = gives (start tables) 1700000000 (said 1 []) asks_first reads_first refl (is_behind tables asks_first modem behind_first);
        second = gives one.after 1700000119 (said 3 selects) asks_again reads_again refl behind_again;
        well = (goes_well (event_at 1700000000 (said 1 [])) one, goes_well (event_at 1700000119 (said 3 selects)) two);
      };
    }
