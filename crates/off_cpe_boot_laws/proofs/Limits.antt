-- While a device waits, other devices behind its modem get no more addresses than the rest.
use Rattle.std.proofs.Common.{◌≡◌, ◌≢◌, ◌⊎◌, inl, inr, ◌≤◌, ◌<◌, ℕ, true, false, cond, ◌&&◌, List, [], ◌∷◌, ◌++◌, Option, Some, None, option_and_then, refl, sym, ap, subst, ◌∙◌, arith}
use Rattle.std.proofs.lemmas.Bool.{and_from, lt-ltb}
use Rattle.std.specs.List.{AllByRecursion}
use Rattle.off_base.specs.declared.addresses.Ip4.{Ip4}
use Rattle.off_base.specs.declared.macs.Mac.{Mac}
use Rattle.off_defs.specs.declared.results.Outcome.{Outcome}
use Rattle.off_defs.specs.declared.tables.Modem.{Modem}
use Rattle.off_defs.specs.declared.tables.Subscriber.{Subscriber}
use Rattle.off_defs.specs.declared.tables.DeviceHold.TheVariants.{Offered, Bound, Declined}
use Rattle.off_defs.specs.declared.tables.DeviceLease.{DeviceLease}
use Rattle.off_defs.specs.declared.keys.Key.TheVariants as key
use Rattle.off_defs.specs.declared.tables.Row.TheVariants as row
use Rattle.off_defs.specs.declared.writes.Write.{Write}
use Rattle.off_defs.specs.declared.writes.Write.TheVariants.{Put, Drop}
use Rattle.off_defs.specs.State.{Tables, State, Effect, at_moment}
use Rattle.off_defs.specs.Tables.{write_all}
use Rattle.off_dhcp.specs.Datagram.{Received}
use Rattle.off_account_rules.specs.Rows.{passes, subscriber_in, modem_in, device_in, device_pools, devices}
use Rattle.off_account_rules.specs.Good.{Good, is_mac, device_owner}
use Rattle.off_account_rules.proofs.OwnerLemmas.{mac_own}
use Rattle.off_table_laws.proofs.TableLaws.{device_owned, one_address_a_device}
use Rattle.off_asking.specs.Asking.{client}
use Rattle.off_asking.specs.Choice.{pool_among}
use Rattle.off_lease_laws.proofs.Tests.{ip_or, mac_or, some_or}
use Rattle.off_cpe_rules.specs.Behind.{is_live, is_behind, own_among, behind_among, device_case}
use Rattle.off_cpe_rules.specs.Steps.{lease_for, own_drop, device_row, own_elsewhere, is_live_bound, step_behind}
use Rattle.off_cpe_rules.specs.declared.results.DeviceStep.{DeviceStep}
use Rattle.off_cpe_rules.specs.declared.words.DeviceWord.{DeviceWord}
use Rattle.off_cpe_rules.specs.declared.words.DeviceWord.TheVariants as word
use Rattle.off_cpe_laws.specs.Laws.{after_step}
use Rattle.off_cpe_laws.proofs.RowLemmas.{device_listed}
use Rattle.off_cpe_laws.proofs.LimitLemmas.{limit_holds}
use Rattle.off_cpe_laws.proofs.WordLemmas.{has_subscriber}
use Rattle.off_book.specs.Http.{answer_request}
use Rattle.off_book.specs.Step.{Step}
use Rattle.off_book.specs.Run.{Turn, effect_of}
use Rattle.off_laws.specs.Leases.{moment_of}
use Rattle.off_laws.proofs.StepLaws.{moment_is_greatest, step_good}
use Rattle.off_laws.proofs.Ways.{Way, stays, serves, forgets, hears, answers, messages, way}
use Rattle.off_laws.proofs.Ways as ways
use Rattle.off_cpe_boot_laws.specs.Known.{IsOfAnother, AreFewOthers}
use Rattle.off_cpe_boot_laws.specs.Limit.{NeverMayHaveMore, WaitingDevicesKeepTheirPlace}
use Rattle.off_cpe_boot_laws.proofs.Counting.{Counts, at_least}
use Rattle.off_cpe_boot_laws.proofs.Owning.{given_here, given_other, given_gone, dropped_here, dropped_other}
use Rattle.off_cpe_boot_laws.proofs.Aims.{Aims, idle, offering, binding, resting, freeing, aims}
use Rattle.off_cpe_boot_laws.proofs.Fates as fates
use Rattle.off_cpe_boot_laws.proofs.Clerks.{request_becomes}
use Rattle.off_cpe_boot_laws.proofs.Turns.{datagram_leaves}
use Rattle.off_cpe_boot_laws.proofs.Waiting.{turn_keeps, waits_on}

abbrev Says : DeviceWord → Type 0
Says said = (said ≡ word.Offer) ⊎ (said ≡ word.Ack)

-- ---- what a device's message makes of an address

data RowFate (t : Tables) (owner : Mac × Mac) (said : DeviceWord) (x : Ip4) (u : Tables) : Type 0 where
  left : device_in u x ≡ device_in t x → RowFate t owner said x u
  gone : device_in u x ≡ None → RowFate t owner said x u
  rested : (lease : DeviceLease) → device_in u x ≡ Some lease → device_owner lease.hold ≡ None → RowFate t owner said x u
  granted : (lease : DeviceLease) → device_in u x ≡ Some lease → device_owner lease.hold ≡ Some owner → Says said → RowFate t owner said x u

module _ (t : Tables) (now : ℕ) (m : Received) (modem : Mac) (x : Ip4) where
  abbrev own : Option Ip4
  own = own_among modem (client m) (devices t)

  abbrev F : DeviceWord → List Write → Type 0
  F said writes = RowFate t (modem, client m) said x (write_all t writes)

  same_writes : (said : DeviceWord) (writes other : List Write) → writes ≡ other → F said other → F said writes
  same_writes said writes other e f = subst (F said) (sym e) f

  put_fate : (said : DeviceWord) (lease : DeviceLease) (a : Ip4) (o : Option Ip4) → device_owner lease.hold ≡ Some (modem, client m) → Says said
      → F said (own_drop o ++ Put (key.Device a) (row.Device lease) ∷ [])
  put_fate said lease a o owner says =
      elim (ip_or x a) as (λ c. F said (own_drop o ++ Put (key.Device a) (row.Device lease) ∷ [])) [
        | inl same ↦ granted lease (ap (device_in (write_all t (own_drop o ++ Put (key.Device a) (row.Device lease) ∷ []))) same ∙ given_here t lease a o) owner says
        | inr apart ↦
            elim (some_or ip_or o x) as (λ c. F said (own_drop o ++ Put (key.Device a) (row.Device lease) ∷ [])) [
              | inl is ↦ gone (ap (λ (p : Option Ip4). device_in (write_all t (own_drop p ++ Put (key.Device a) (row.Device lease) ∷ [])) x) is ∙ given_gone t lease a x apart)
              | inr aside ↦ left (given_other t lease a o x apart aside)
            ]
      ]

  step_fate : (step : DeviceStep) → Aims t now modem m (pool_among (device_pools t) m) own step → F step.word step.writes
  step_fate step (idle e) = same_writes step.word step.writes [] e (left refl)
  step_fate step (offering pool a d among chosen e said) =
      elim (passes (is_live_bound now) (device_in t a)) as (λ b. step.writes ≡ cond b [] (own_drop (own_elsewhere a own) ++ device_row a (Offered modem (client m)) 120 now ∷ [])
      → F step.word step.writes) [
        | true ↦ λ f. same_writes step.word step.writes [] f (left refl)
        | false ↦ λ f. same_writes step.word step.writes _ f (put_fate step.word (lease_for (Offered modem (client m)) 120 now) a (own_elsewhere a own) refl (inl said))
      ] e
  step_fate step (binding a site mine e said) =
      same_writes step.word step.writes _ e (put_fate step.word (lease_for (Bound modem (client m)) site.lease now) a None refl (inr said))
  step_fate step (resting a k claim mine e) =
      same_writes step.word step.writes _ e
      (elim (ip_or x a) as (λ c. F step.word (device_row a Declined 600 now ∷ [])) [
        | inl same ↦ rested (lease_for Declined 600 now) (ap (device_in (write_all t (device_row a Declined 600 now ∷ []))) same ∙ given_here t (lease_for Declined 600 now) a None) refl
        | inr apart ↦ left (given_other t (lease_for Declined 600 now) a None x apart (λ f. cc))
      ])
  step_fate step (freeing a k claim mine e) =
      same_writes step.word step.writes _ e
      (elim (ip_or x a) as (λ c. F step.word (Drop (key.Device a) ∷ [])) [
        | inl same ↦ gone (ap (device_in (write_all t (Drop (key.Device a) ∷ []))) same ∙ dropped_here t a)
        | inr apart ↦ left (dropped_other t a x apart)
      ])

  row_fate : RowFate t (modem, client m) (step_behind t now m modem).word x (after_step t now m modem)
  row_fate = step_fate (step_behind t now m modem) (aims t now m modem)

-- ---- others have no more than before

mapped : (P Q : Ip4 → Type 0) → ((x : Ip4) → P x → Q x) → (xs : List Ip4) → AllByRecursion P xs → AllByRecursion Q xs
mapped P Q each [] all = tt
mapped P Q each (x ∷ xs) all = (each x all.0, mapped P Q each xs all.1)

no_none : (o : Option DeviceLease) (lease : DeviceLease) → o ≡ None → o ≡ Some lease → ⊥
no_none o lease e f = let both : ◌≡◌ {A = Option DeviceLease} None (Some lease) = sym e ∙ f in cc

one_lease : (o : Option DeviceLease) (a b : DeviceLease) → o ≡ Some a → o ≡ Some b → a ≡ b
one_lease o a b e f = let both : ◌≡◌ {A = Option DeviceLease} (Some a) (Some b) = sym e ∙ f in cc

module _ (modem device : Mac) where
  abbrev Other : Tables → ℕ → Ip4 → Type 0
  Other t now x = IsOfAnother t now modem device x

  kept_of : (t u : Tables) (now later : ℕ) (x : Ip4) → now ≤ later → device_in u x ≡ device_in t x → Other u later x → Other t now x
  kept_of t u now later x le same o = record {
    other = o.other;
    lease = o.lease;
    lease_is = sym same ∙ o.lease_is;
    owned = o.owned;
    apart = o.apart;
    live = (let live = o.live in omega (arith, le, live));
  }

  no_more : (t u : Tables) (now later most : ℕ) → ((x : Ip4) → Other u later x → Other t now x) → AreFewOthers t now modem device most → AreFewOthers u later modem device most
  no_more t u now later most each few others differ all = few others differ (mapped (Other u later) (Other t now) each others all)

  pub few_later : (t : Tables) (now later most : ℕ) → now ≤ later → AreFewOthers t now modem device most → AreFewOthers t later modem device most
  few_later t now later most le few = no_more t t now later most (λ x o. kept_of t t now later x le refl o) few

  pub few_wider : (t : Tables) (now one most : ℕ) → one ≤ most → AreFewOthers t now modem device one → AreFewOthers t now modem device most
  few_wider t now one most le few others differ all = (let less = few others differ all in omega (arith, le, less))

  module _ (t : Tables) (now : ℕ) (m : Received) (other : Mac) where
    abbrev u : Tables
    u = after_step t now m other

    abbrev said : DeviceWord
    said = (step_behind t now m other).word

    -- only a grant to another device behind the modem gives one more
    had_before : (Says said → other ≡ modem → client m ≢ device → ⊥) → (x : Ip4) → RowFate t (other, client m) said x u → Other u now x → Other t now x
    had_before never x (left same) o = kept_of t u now now x (omega arith) same o
    had_before never x (gone none) o = absurd (no_none (device_in u x) o.lease none o.lease_is)
    had_before never x (rested lease is owner) o =
        let same = one_lease (device_in u x) lease o.lease is o.lease_is in
        let both : ◌≡◌ {A = Option (Mac × Mac)} None (Some (modem, o.other)) = sym owner ∙ ap (λ (l : DeviceLease). device_owner l.hold) same ∙ o.owned in
        cc
    had_before never x (granted lease is owner says) o =
        let same = one_lease (device_in u x) lease o.lease is o.lease_is in
        let both : ◌≡◌ {A = Option (Mac × Mac)} (Some (other, client m)) (Some (modem, o.other)) = sym owner ∙ ap (λ (l : DeviceLease). device_owner l.hold) same ∙ o.owned in
        let pair : ◌≡◌ {A = Mac × Mac} (other, client m) (modem, o.other) = cc in
        absurd (never says (ap (λ (w : Mac × Mac). w.0) pair) (λ sender. o.apart (sym (ap (λ (w : Mac × Mac). w.1) pair) ∙ sender)))

    pub unless_granted : (most : ℕ) → (Says said → other ≡ modem → client m ≢ device → ⊥) → AreFewOthers t now modem device most → AreFewOthers u now modem device most
    unless_granted most never few = no_more t u now now most (λ x o. had_before never x (row_fate t now m other x) o) few

    -- a grant is within the limit, and the device's own address counts
    module _ (good : Good t) (address : Ip4) (lease : DeviceLease) (there : device_in t address ≡ Some lease) (owned : device_owner lease.hold ≡ Some (modem, device)) (live : now < lease.expiry.0)
        (most : ℕ) (limit : (row : Modem) (subscriber : Subscriber) → modem_in t modem ≡ Some row → subscriber_in t row.subscriber ≡ Some subscriber → subscriber.cpes ≤ most) where
      own_stays : client m ≢ device → fates.Fate t m other (modem, device) address u → device_in u address ≡ Some lease
      own_stays aside (fates.stays same) = same ∙ there
      own_stays aside (fates.keeps owner kept) = absurd (aside (ap (λ (w : Mac × Mac). w.1) owner))
      own_stays aside (fates.gives owner up) = absurd (aside (ap (λ (w : Mac × Mac). w.1) owner))

      its_subscriber : (o : Option Modem) (subscriber : Subscriber) → modem_in t modem ≡ o → option_and_then (λ (row : Modem). subscriber_in t row.subscriber) o ≡ Some subscriber → subscriber.cpes ≤ most
      its_subscriber None subscriber is e = cc
      its_subscriber (Some row) subscriber is e = limit row subscriber is e

      counts : (x : Ip4) (one : DeviceLease) (w : Mac) → device_in u x ≡ Some one → device_owner one.hold ≡ Some (modem, w) → now < one.expiry.0
          → Counts (λ (e : Ip4 × DeviceLease). is_behind modem e.1 && is_live now e.1) (devices u) x
      counts x one w is owner lives = record {
        entry = (x, one);
        is = refl;
        inside = device_listed u x one is;
        passes = and_from (is_behind modem one) (is_live now one) (ap (passes (λ (v : Mac × Mac). is_mac modem v.0)) owner ∙ mac_own modem) (lt-ltb now one.expiry.0 lives);
      }

      apart_from_own : device_in u address ≡ Some lease → (x : Ip4) → Other u now x → address ≢ x
      apart_from_own here x o same =
          let lease_same = one_lease (device_in u x) lease o.lease (ap (device_in u) (sym same) ∙ here) o.lease_is in
          let both : ◌≡◌ {A = Option (Mac × Mac)} (Some (modem, device)) (Some (modem, o.other)) = sym owned ∙ ap (λ (l : DeviceLease). device_owner l.hold) lease_same ∙ o.owned in
          let pair : ◌≡◌ {A = Mac × Mac} (modem, device) (modem, o.other) = cc in
          o.apart (sym (ap (λ (w : Mac × Mac). w.1) pair))

      granted_few : Says said → other ≡ modem → client m ≢ device → AreFewOthers u now modem device most
      unfolding device_case
      granted_few says same aside others differ all =
          let here = own_stays aside (fates.fate t good now m other (modem, device) address lease there owned live) in
          let subscriber = has_subscriber t now m other says in
          let within : behind_among now modem (devices u) ≤ subscriber.0.cpes =
          subst (λ (w : Mac). behind_among now w (devices u) ≤ subscriber.0.cpes) same (limit_holds t now m other subscriber.0 (one_address_a_device t good) says subscriber.1) in
          let few = its_subscriber (modem_in t modem) subscriber.0 refl (ap (λ (w : Mac). option_and_then (λ (row : Modem). subscriber_in t row.subscriber) (modem_in t w)) (sym same) ∙ subscriber.1) in
          let all_differ = mapped (Other u now) (λ x. address ≢ x) (apart_from_own here) others all in
          let all_count = mapped (Other u now) (Counts (λ (e : Ip4 × DeviceLease). is_behind modem e.1 && is_live now e.1) (devices u)) (λ x o. counts x o.lease o.other o.lease_is o.owned o.live) others all in
          let more =
          at_least (λ (e : Ip4 × DeviceLease). is_behind modem e.1 && is_live now e.1) (address ∷ others) (devices u) (all_differ, differ) (counts address lease device here owned live, all_count) in
          omega (arith, within, few, more)

      says_or : (w : DeviceWord) → Says w ⊎ (Says w → ⊥)
      says_or word.Offer = inl (inl refl)
      says_or word.Ack = inl (inr refl)
      says_or w = inr (λ says. elim says as (λ s. ⊥) [ inl e ↦ cc | inr e ↦ cc ])

      pub message_few : AreFewOthers t now modem device most → AreFewOthers u now modem device most
      message_few few =
          elim (says_or said) as (λ c. AreFewOthers u now modem device most) [
            | inr quiet ↦ unless_granted most (λ says same aside. quiet says) few
            | inl says ↦
                elim (mac_or other modem) as (λ c. AreFewOthers u now modem device most) [
                  | inr elsewhere ↦ unless_granted most (λ s same aside. elsewhere same) few
                  | inl same ↦
                      elim (mac_or (client m) device) as (λ c. AreFewOthers u now modem device most) [
                        | inl sender ↦ unless_granted most (λ s same aside. aside sender) few
                        | inr aside ↦ granted_few says same aside
                      ]
                ]
          ]

-- ---- a turn, and turns

module _ (s : State) (turn : Turn) (modem device : Mac) (address : Ip4) (lease : DeviceLease) (good : Good s.tables)
    (there : device_in s.tables address ≡ Some lease) (owned : device_owner lease.hold ≡ Some (modem, device)) (live : moment_of s turn < lease.expiry.0)
    (most : ℕ) (limit : (row : Modem) (subscriber : Subscriber) → modem_in s.tables modem ≡ Some row → subscriber_in s.tables row.subscriber ≡ Some subscriber → subscriber.cpes ≤ most) where
  abbrev Few : Tables → Type 0
  Few u = AreFewOthers u (moment_of s turn) modem device most

  abbrev here : State
  here = at_moment s turn.event.at.0

  same_few : (after other : State) → after ≡ other → other.tables ≡ s.tables → Few s.tables → Few after.tables
  same_few after other is same few = subst Few (sym (ap (λ (v : State). v.tables) is ∙ same)) few

  left_few : (u : Tables) → ((x : Ip4) → (device_in u x ≡ device_in s.tables x) ⊎ (device_in u x ≡ None)) → Few s.tables → Few u
  left_few u each few =
      no_more modem device s.tables u (moment_of s turn) (moment_of s turn) most (λ x o.
      elim (each x) as (λ c. IsOfAnother s.tables (moment_of s turn) modem device x) [
        | inl same ↦ kept_of modem device s.tables u (moment_of s turn) (moment_of s turn) x (omega arith) same o
        | inr none ↦ absurd (no_none (device_in u x) o.lease none o.lease_is)
      ]) few

  -- a clerk's request
  abbrev answered : List ℕ → List ℕ → List ℕ → Tables
  answered method target body = write_all s.tables (answer_request s.tables (moment_of s turn) method target body).writes

  answered_left : (method target body : List ℕ) (x : Ip4) → (device_in (answered method target body) x ≡ device_in s.tables x) ⊎ (device_in (answered method target body) x ≡ None)
  answered_left method target body x =
      elim (request_becomes x s.tables good (moment_of s turn) method target body) as (λ c.
      (device_in (answered method target body) x ≡ device_in s.tables x) ⊎ (device_in (answered method target body) x ≡ None)) [
        | inl same ↦ inl same
        | inr over ↦ inr over.1
      ]

  way_few : (outcome : Outcome) (effect : Effect) → Way here turn.event.what outcome effect → Few s.tables → Few effect.after.tables
  way_few outcome effect (stays is none) few = same_few effect.after _ is refl few
  way_few outcome effect (serves transfers is none) few = same_few effect.after _ is refl few
  way_few outcome effect (forgets conn is none) few = same_few effect.after _ is refl few
  way_few outcome effect (hears conn bytes room is none) few = same_few effect.after _ is refl few
  way_few outcome effect (answers conn piece method target body came acted is) few =
      subst (λ (e : Effect). Few e.after.tables) (sym is) (left_few (answered method target body) (answered_left method target body) few)
  way_few outcome effect (messages from bytes came acted is) few =
      subst (λ (e : Effect). Few e.after.tables) (sym is) (left_few _ (λ x. inl (datagram_leaves s.tables (moment_of s turn) bytes x)) few)
  way_few outcome effect (ways.devices from bytes m other came acted read behind is) few =
      subst (λ (e : Effect). Few e.after.tables) (sym is) (message_few modem device s.tables (moment_of s turn) m other good address lease there owned live most limit few)

  turn_few : (after : State) → Step s turn.event turn.outcome (effect_of turn after) → AreFewOthers s.tables s.held.now modem device most
      → AreFewOthers after.tables after.held.now modem device most
  unfolding Step
  turn_few after step few =
      subst (λ (n : ℕ). AreFewOthers after.tables n modem device most) (sym (moment_is_greatest s turn.event turn.outcome (effect_of turn after) step))
      (way_few turn.outcome (effect_of turn after) (way here turn.event.what turn.outcome (effect_of turn after) step)
      (few_later modem device s.tables s.held.now (moment_of s turn) most (omega arith) few))

pub never_on : (most : ℕ) (modem : Mac) (s after : State) (turn : Turn) (turns : List Turn) → Step s turn.event turn.outcome (effect_of turn after)
    → NeverMayHaveMore most modem s (turn ∷ turns) → NeverMayHaveMore most modem after turns
never_on most modem s after turn turns step never before later next from parts up_to =
    never (turn ∷ before) later next from (ap (λ (rest : List Turn). turn ∷ rest) parts) (after, (step, up_to))

pub waiting_devices_keep_their_place : WaitingDevicesKeepTheirPlace
waiting_devices_keep_their_place s last [] modem device address good run owned waits most now never few le =
    let same : s.held.now ≡ last.held.now = ap (λ (v : State). v.held.now) (sym run) in
    subst (λ (v : State). AreFewOthers v.tables now modem device most) (sym run) (few_later modem device s.tables s.held.now now most (omega (arith, same, le)) few)
waiting_devices_keep_their_place s last (turn ∷ turns) modem device address good run owned waits most now never few le =
    let here = waits [] turns turn s refl refl in
    let l = device_owned (device_in s.tables address) (modem, device) owned in
    let first = turn_keeps s run.0 turn modem device address good run.1.0 owned here.0 here.1 in
    let fewer = turn_few s turn modem device address l.0 good l.1 l.2 (here.0 l.0 l.1) most (never [] turns turn s refl refl) run.0 run.1.0 few in
    waiting_devices_keep_their_place run.0 last turns modem device address (step_good s turn.event turn.outcome (effect_of turn run.0) run.1.0 good) run.1.1 first.owned
    (waits_on modem device address s run.0 turn turns run.1.0 waits) most now (never_on most modem s run.0 turn turns run.1.0 never) fewer le
