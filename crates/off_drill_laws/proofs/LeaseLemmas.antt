-- What the office does with a modem's DISCOVER and with its REQUEST.
use Rattle.std.proofs.Common.{◌≡◌, ℕ, suc, ◌+◌, ◌-◌, ◌<◌, ◌≤◌, true, false, cond, not, ◌&&◌, nat_le, leb, eqb, List, [], ◌∷◌, ◌++◌, Option, Some, None, is_some, is_err, Ok, MatchOption, refl, sym, ap, subst, ◌∙◌, inl, inr, arith}
use Rattle.std.proofs.lemmas.Bool.{cases_lt, le-leb, lt-leb, leb-true, and_parts, and_from, eq-eqb, and_right}
use Rattle.std.proofs.lemmas.Slice.Eq.{bytes_eq-Decides}
use Rattle.std.proofs.lemmas.Nat.{from_be_bytes-to_be_bytes_4}
use Rattle.std.specs.Int.{w32, from_be_bytes}
use Rattle.std.specs.Str.{bytes_eq}
use Rattle.off_base.specs.declared.addresses.Ip4.{Ip4}
use Rattle.off_base.specs.Parts.{parts_in}
use Rattle.off_defs.specs.declared.keys.Key.TheVariants as key
use Rattle.off_defs.specs.declared.tables.Row.TheVariants as row
use Rattle.off_defs.specs.declared.tables.Lease.{Lease}
use Rattle.off_defs.specs.declared.tables.Pool.{Pool}
use Rattle.off_defs.specs.declared.writes.Write.TheVariants.{Put}
use Rattle.off_defs.specs.State.{Tables}
use Rattle.off_base.specs.declared.macs.Mac.{Mac}
use Rattle.off_dhcp.specs.Datagram.{Received, mac_of_client, message_fault, message_of}
use Rattle.off_dhcp.specs.Reply.{zeros, four, option}
use Rattle.off_docsis.specs.Cable.{begins_as_modem}
use Rattle.off_account_rules.specs.Rows.{passes, has_address, modem_in, lease_in, held_in}
use Rattle.off_account_rules.specs.Good.{is_address}
use Rattle.off_table_laws.proofs.Reading.{row_lease, row_held}
use Rattle.off_defs.specs.Tables.{with_row}
use Rattle.off_defs.proofs.TableLemmas.{row_with_here}
use Rattle.off_asking.specs.Asking.{claimed, relay_parts, relayed}
use Rattle.off_cpe_rules.specs.Behind.{modem_by, modem_behind}
use Rattle.off_lease_rules.specs.Free.{case_of, has_ended, is_free, least_free, chosen_in}
use Rattle.off_asking.specs.Claims.{claims_wrongly, refused_by}
use Rattle.off_lease_rules.specs.Rules.{rules_for}
use Rattle.off_lease_rules.specs.Steps.{lease_row, reply_for, lease_step_for, lease_step_in, lease_step, step_of, dhcp_step, unless_refused, accepts}
use Rattle.off_lease_rules.specs.declared.cases.Case.{Case}
use Rattle.off_lease_rules.specs.declared.results.LeaseStep.{LeaseStep}
use Rattle.off_lease_rules.specs.declared.words.DhcpWord.TheVariants as word
use Rattle.off_lease_laws.proofs.FreeLemmas.{least_is_least}
use Rattle.off_drill_rules.specs.Rows.{site, pool, modem, mac, address, lease, moment, drill_tables}
use Rattle.off_drill_rules.specs.Messages.{modem_options, discover, request}
use Rattle.off_drill_laws.specs.Stages.{offered_lease, offered_tables}
use Rattle.off_drill_laws.proofs.RowLemmas.{HasRows, with_lease, with_held, drill_rows, lease_beyond, held_beyond, lease_within, address_within, site_read_for, modem_read, pool_read_for, lease_read, held_read}
use Rattle.off_asking.proofs.ClaimLemmas.{none_broken}

-- ---- what the two messages say

abbrev pub heard : ℕ → ℕ → List ℕ → Received
heard kind i options = record {
  kind = kind;
  xid = from_be_bytes w32 (four i);
  flags = 0;
  ciaddr = 0;
  giaddr = 0x0a400001;
  hardware = (mac i).0 ++ zeros 10;
  options = options;
}

abbrev pub discovered : ℕ → Received
discovered i = heard 1 i (option 53 (1 ∷ []) ++ modem_options i)

abbrev pub requested : ℕ → Received
requested i = heard 3 i (option 53 (3 ∷ []) ++ option 50 (four (address i).0) ++ option 54 (four site.server.0) ++ modem_options i)

pub read_discover : (i : ℕ) → message_of (discover i) ≡ Ok (discovered i)
unfolding discover message_fault parts_in
read_discover i = refl

pub read_request : (i : ℕ) → message_of (request i) ≡ Ok (requested i)
unfolding request message_fault parts_in
read_request i = refl

-- and no device's: the relay names the modem itself
own_relayed : (t : Tables) (m : Received) (remote : Mac) → relayed m ≡ Some remote → remote.0 ≡ mac_of_client m → modem_behind t m ≡ None
unfolding modem_behind
own_relayed t m remote named own =
    elim (is_err (relay_parts m)) as (λ b. cond b None (modem_by t m (relayed m)) ≡ None) [
      | true ↦ refl
      | false ↦ ap (modem_by t m) named ∙ ap (λ b. cond (not b && is_some (modem_in t remote)) (Some remote) None) ((bytes_eq-Decides remote.0 (mac_of_client m)).1 own)
    ]

pub own_discover : (t : Tables) (i : ℕ) → modem_behind t (discovered i) ≡ None
unfolding parts_in
own_discover t i = own_relayed t (discovered i) (mac i) refl refl

pub own_request : (t : Tables) (i : ℕ) → modem_behind t (requested i) ≡ None
unfolding parts_in
own_request t i = own_relayed t (requested i) (mac i) refl refl

-- ---- rules, none of which is broken

-- the relay names the client itself
own_remote : (i : ℕ) → not (bytes_eq (mac i).0 (mac i).0) ≡ false
own_remote i = ap not ((bytes_eq-Decides (mac i).0 (mac i).0).1 refl)

abbrev pub held_case : Option Ip4 → ℕ → Case
held_case held i = record { site = Some site; pool = Some pool; modem = Some (modem i); held = held }

discover_rules : (i : ℕ) → refused_by (rules_for (discovered i) (held_case None i) (Some (address i))) ≡ None
unfolding parts_in begins_as_modem
discover_rules i =
    none_broken (rules_for (discovered i) (held_case None i) (Some (address i)))
    (refl, (refl, (refl, (own_remote i, (refl, (refl, (refl, (refl, (refl, (refl, (refl, (refl, (refl, tt)))))))))))))

abbrev pub offer_step : ℕ → LeaseStep
offer_step i = record {
  writes = lease_row (address i) (offered_lease i).hold 120 (moment i) ∷ Put (key.Held (mac i)) (row.Held (address i)) ∷ [];
  reply = reply_for 2 (discovered i) (held_case None i) (Some (address i));
  word = word.Offer;
}

discover_settled : (i : ℕ) → lease_step_for (moment i) (discovered i) (held_case None i) (Some (address i)) None ≡ offer_step i
unfolding lease_step_for
discover_settled i =
    ap (unless_refused (discovered i) (held_case None i) (accepts (moment i) (discovered i) (held_case None i) (Some (address i)) None)) (discover_rules i)

-- ---- the least free address

-- a lease of another modem lasts for a day
live : (k j : ℕ) → j ≤ k → k < 4000 → nat_le (moment j + 86400) (moment (suc k)) ≡ false
live k j within few = lt-leb (moment j + 86400) (moment (suc k)) (omega (arith, within, few))

module _ (n k : ℕ) (more : k < n) (few : n ≤ 4000) where
  here_free : is_free (drill_tables n k) (moment (suc k)) pool (address (suc k)) ≡ true
  here_free =
      and_from (has_address pool (address (suc k))) (has_ended (moment (suc k)) (lease_in (drill_tables n k) (address (suc k))))
      (address_within (suc k) (omega arith) (omega (arith, more, few)))
      (ap (has_ended (moment (suc k))) (lease_read (drill_tables n k) (address (suc k)) (lease_beyond n k (suc k) (omega arith))))

  -- an address below it is another modem's
  taken : (j : ℕ) → 1 ≤ j → j ≤ k → is_free (drill_tables n k) (moment (suc k)) pool (address j) ≡ false
  taken j first within =
      ap (λ o. has_address pool (address j) && has_ended (moment (suc k)) o) (row_lease (drill_tables n k) (address j) (lease j) (lease_within n k j first within))
      ∙ ap (λ b. has_address pool (address j) && b) (live k j within (omega (arith, more, few)))
      ∙ and_right (has_address pool (address j)) false refl

  not_below : (a : ℕ) → is_free (drill_tables n k) (moment (suc k)) pool (record { 0 = a }) ≡ true → 0x0a400fff + suc k ≤ a
  not_below a free =
      elim (cases_lt a (0x0a400fff + suc k)) as (λ c. 0x0a400fff + suc k ≤ a) [
        | inl below ↦
            let within = and_parts (has_address pool (record { 0 = a })) (has_ended (moment (suc k)) (lease_in (drill_tables n k) (record { 0 = a }))) free in
            let least = leb-true 0x0a401000 a (and_parts (leb 0x0a401000 a) (leb a 0x0a401fff) within.0).0 in
            let same : 0x0a400fff + (a - 0x0a400fff) ≡ a = omega (arith, least) in
            let not_free = taken (a - 0x0a400fff) (omega (arith, least)) (omega (arith, below)) in
            let f : is_free (drill_tables n k) (moment (suc k)) pool (record { 0 = a }) ≡ false =
            subst (λ (x : ℕ). is_free (drill_tables n k) (moment (suc k)) pool (record { 0 = x }) ≡ false) same not_free in
            let e : true ≡ false = sym free ∙ f in cc
        | inr above ↦ above
      ]

  least_by : (o : Option Ip4)
      → MatchOption o ((address : Ip4) → is_free (drill_tables n k) (moment (suc k)) pool address ≡ false)
      (λ least. (is_free (drill_tables n k) (moment (suc k)) pool least ≡ true) × ((address : Ip4) → is_free (drill_tables n k) (moment (suc k)) pool address ≡ true → least.0 ≤ address.0))
      → o ≡ Some (address (suc k))
  least_by None none = let e : true ≡ false = sym here_free ∙ none (address (suc k)) in cc
  least_by (Some least) is =
      let below = is.1 (address (suc k)) here_free in
      let above = not_below least.0 is.0 in
      let same : least.0 ≡ 0x0a400fff + suc k = omega (arith, below, above) in
      λ j. Some (record { 0 = same j })

  least_here : least_free (drill_tables n k) (moment (suc k)) pool ≡ Some (address (suc k))
  least_here = least_by (least_free (drill_tables n k) (moment (suc k)) pool) (least_is_least (drill_tables n k) (moment (suc k)) pool)

-- ---- a DISCOVER is answered by an offer

module _ (t : Tables) (now i : ℕ) (m : Received) (c : Case) (a : Ip4) (before : Option Lease) (step : LeaseStep) where
  -- the rows, the chosen address and its lease decide
  by_case : case_of t m ≡ c → chosen_in t now m c ≡ Some a → lease_in t a ≡ before → lease_step_for now m c (Some a) before ≡ step → lease_step t now m ≡ step
  unfolding lease_step
  by_case case chosen lease is =
      ap (λ (x : Case). lease_step_in t now m x (chosen_in t now m x)) case
      ∙ ap (lease_step_in t now m c) chosen
      ∙ ap (lease_step_for now m c (Some a)) lease
      ∙ is

module _ (t : Tables) (i : ℕ) (h : HasRows t i) where
  case_of_discover : held_in t (mac i) ≡ None → case_of t (discovered i) ≡ held_case None i
  unfolding case_of
  case_of_discover held = λ j. record {
    site = site_read_for t i h (discovered i) refl refl j;
    pool = pool_read_for t i h (discovered i) refl j;
    modem = modem_read t i h j;
    held = held j;
  }

  case_of_request : held_in t (mac i) ≡ Some (address i) → case_of t (requested i) ≡ held_case (Some (address i)) i
  unfolding case_of parts_in
  case_of_request held = λ j. record {
    site = site_read_for t i h (requested i) refl refl j;
    pool = pool_read_for t i h (requested i) refl j;
    modem = modem_read t i h j;
    held = held j;
  }

chosen_least : (t : Tables) (now i : ℕ) → chosen_in t now (discovered i) (held_case None i) ≡ least_free t now pool
unfolding parts_in
chosen_least t now i = refl

pub offer_is : (n k : ℕ) → k < n → n ≤ 4000 → dhcp_step (drill_tables n k) (moment (suc k)) (discover (suc k)) ≡ offer_step (suc k)
unfolding dhcp_step
offer_is n k more few =
    let t = drill_tables n k in
    let i = suc k in
    let h = drill_rows n k i few (omega arith) (omega (arith, more)) in
    ap (step_of t (moment i)) (read_discover i)
    ∙ by_case t (moment i) i (discovered i) (held_case None i) (address i) None (offer_step i)
    (case_of_discover t i h (held_read t (mac i) (held_beyond n k i (omega arith) (omega (arith, more, few)))))
    (chosen_least t (moment i) i ∙ least_here n k more few)
    (lease_read t (address i) (lease_beyond n k i (omega arith)))
    (discover_settled i)

-- ---- a REQUEST for it is acknowledged

spoken_is : (i : ℕ) → i ≤ 4000 → from_be_bytes w32 (four (address i).0) ≡ (address i).0
spoken_is i few = from_be_bytes-to_be_bytes_4 (0x0a400fff + i) (omega (arith, few))

pub claim_is : (i : ℕ) → i ≤ 4000 → claimed (requested i) ≡ Some (address i)
unfolding parts_in
claim_is i few = λ j. Some (record { 0 = spoken_is i few j })

module _ (i : ℕ) (first : 1 ≤ i) (few : i ≤ 4000) where
  claims_right : claims_wrongly (requested i) (Some (address i)) (Some pool) ≡ false
  unfolding parts_in
  claims_right =
      ap (λ (o : Option Ip4). not (passes (λ (a : Ip4). passes (is_address a) (Some (address i))) o && passes (λ (a : Ip4). passes (λ (p : Pool). has_address p a) (Some pool)) o)) (claim_is i few)
      ∙ ap not (and_from (eqb (address i).0 (address i).0) (has_address pool (address i)) (eq-eqb (address i).0 (address i).0 refl)
      (and_from (leb 0x0a401000 (0x0a400fff + i)) (leb (0x0a400fff + i) 0x0a401fff) (le-leb 0x0a401000 (0x0a400fff + i) (omega (arith, first))) (le-leb (0x0a400fff + i) 0x0a401fff (omega (arith, few)))))

  request_rules : refused_by (rules_for (requested i) (held_case (Some (address i)) i) (Some (address i))) ≡ None
  unfolding parts_in begins_as_modem
  request_rules =
      none_broken (rules_for (requested i) (held_case (Some (address i)) i) (Some (address i)))
      (refl, (refl, (refl, (own_remote i, (refl, (refl, (refl, (refl, (refl, (refl, (refl, (refl, (claims_right, tt)))))))))))))

abbrev pub ack_step : ℕ → LeaseStep
ack_step i = record {
  writes = lease_row (address i) (lease i).hold 86400 (moment i) ∷ [];
  reply = reply_for 5 (requested i) (held_case (Some (address i)) i) (Some (address i));
  word = word.Ack;
}

request_settled : (i : ℕ) → 1 ≤ i → i ≤ 4000 → (before : Option Lease) → lease_step_for (moment i) (requested i) (held_case (Some (address i)) i) (Some (address i)) before ≡ ack_step i
unfolding lease_step_for
request_settled i first few before =
    ap (unless_refused (requested i) (held_case (Some (address i)) i) (accepts (moment i) (requested i) (held_case (Some (address i)) i) (Some (address i)) before))
    (request_rules i first few)

chosen_claim : (t : Tables) (now i : ℕ) (c : Case) → chosen_in t now (requested i) c ≡ claimed (requested i)
unfolding parts_in
chosen_claim t now i c = refl

pub ack_is : (n k : ℕ) → k < n → n ≤ 4000 → dhcp_step (offered_tables n k) (moment (suc k)) (request (suc k)) ≡ ack_step (suc k)
unfolding dhcp_step
ack_is n k more few =
    let i = suc k in
    let t = offered_tables n k in
    let before = drill_tables n k in
    let within : i ≤ 4000 = omega (arith, more, few) in
    let first : 1 ≤ i = omega arith in
    let h = with_held (with_row before (key.Lease (address i)) (row.Lease (offered_lease i))) i (mac i) (row.Held (address i))
    (with_lease before i (address i) (row.Lease (offered_lease i)) (drill_rows n k i few first (omega (arith, more)))) in
    let held = row_held t (mac i) (address i) (row_with_here (with_row before (key.Lease (address i)) (row.Lease (offered_lease i))) (key.Held (mac i)) (row.Held (address i))) in
    ap (step_of t (moment i)) (read_request i)
    ∙ by_case t (moment i) i (requested i) (held_case (Some (address i)) i) (address i) (lease_in t (address i)) (ack_step i)
    (case_of_request t i h held)
    (chosen_claim t (moment i) i (held_case (Some (address i)) i) ∙ claim_is i within)
    refl
    (request_settled i first within (lease_in t (address i)))
