-- The rows that are read for a message are those by which it's judged.
use Rattle.std.proofs.Common.{◌≡◌, ℕ, true, cond, not, ◌&&◌, ◌||◌, is_some, Option, Some, None, IfSome, option_map, option_and_then, refl, sym, ap, subst, ◌∙◌, arith}
use Rattle.std.proofs.lemmas.Bool.Decides.{nat_tests}
use Rattle.off_base.specs.declared.addresses.Ip4.{Ip4}
use Rattle.off_base.specs.declared.macs.Mac.{Mac}
use Rattle.off_defs.specs.declared.tables.Modem.{Modem}
use Rattle.off_defs.specs.declared.tables.Subscriber.{Subscriber}
use Rattle.off_defs.specs.declared.tables.DeviceLease.{DeviceLease}
use Rattle.off_defs.specs.State.{Tables}
use Rattle.off_dhcp.specs.Datagram.{Received}
use Rattle.off_account_rules.specs.Rows.{passes, subscriber_in, modem_in, lease_in, held_in, site_of, device_in, device_pools, devices}
use Rattle.off_outside.specs.KeeperSeen.{KeeperSeen}
use Rattle.off_outside.specs.KeeperCalls.{Reads}
use Rattle.off_outside.proofs.KeeperLemmas.{reads_then}
use Rattle.off_asking.specs.Asking.{ip, client, is_discover, is_request, is_release}
use Rattle.off_asking.specs.Choice.{pool_among}
use Rattle.off_cpe_rules.specs.Behind.{is_another, named_modem, modem_for, recorded_modem, own_among, others_among, device_case}
use Rattle.off_account_rules.specs.Good.{is_live_bound}
use Rattle.off_cpe_rules.specs.declared.cases.DeviceCase.{DeviceCase}
use Rattle.off_cpe.specs.declared.modems.FoundModem.{FoundModem}
use Rattle.off_cpe.specs.Stages.{IsFound}

pub recorded : (t : Tables) (m : Received) (address : Ip4) (lease : Option DeviceLease) → (is_request m || is_release m) ≡ true → address.0 ≡ m.ciaddr → lease ≡ device_in t address
    → option_and_then (modem_for (client m)) lease ≡ recorded_modem t m
recorded t m address lease of at read =
    ap (option_and_then (modem_for (client m))) (read ∙ ap (λ (n : ℕ). device_in t (ip n)) at)
    ∙ ap (λ b. cond b (option_and_then (modem_for (client m)) (device_in t (ip m.ciaddr))) None) (sym of)

-- ---- the modem that is found

named_by : (t : Tables) (remote : Mac) (row : Option Modem) → row ≡ modem_in t remote → IsFound (option_map (λ r. record { mac = remote; subscriber = Some r.subscriber }) row) t (cond (is_some row) (Some remote) None)
named_by t remote None e = record { is = refl; read = tt }
named_by t remote (Some r) e = record { is = refl; read = ap (option_map (λ (x : Modem). x.subscriber)) (sym e) }

pub named_found : (t : Tables) (m : Received) (remote : Mac) (row : Option Modem) (found : Option FoundModem) → is_another m remote ≡ true → row ≡ modem_in t remote
    → found ≡ option_map (λ r. record { mac = remote; subscriber = Some r.subscriber }) row → IsFound found t (named_modem t m remote)
named_found t m remote row found another e is =
    subst (λ (f : Option FoundModem). IsFound f t (named_modem t m remote)) (sym is)
    (subst (λ (modem : Option Mac). IsFound (option_map (λ (r : Modem). record { mac = remote; subscriber = Some r.subscriber }) row) t modem)
    (ap (λ (o : Option Modem). cond (is_some o) (Some remote) None) e ∙ ap (λ b. cond (b && is_some (modem_in t remote)) (Some remote) None) (sym another))
    (named_by t remote row e))

abbrev read_as : Mac → Option Modem → Option FoundModem
read_as remote row = option_map (λ r. record { mac = remote; subscriber = Some r.subscriber }) row

pub named_read : (remote : Mac) (row : Option Modem) (found : Option FoundModem) → found ≡ read_as remote row → IfSome found (λ f. is_some f.subscriber ≡ true)
named_read remote row found is = subst (λ (f : Option FoundModem). IfSome f (λ x. is_some x.subscriber ≡ true)) (sym is) (each row)
  where
    each : (r : Option Modem) → IfSome (read_as remote r) (λ x. is_some x.subscriber ≡ true)
    each None = tt
    each (Some r) = refl

pub unread_found : (t : Tables) (modem : Option Mac) (found : Option FoundModem) (is_modem : Option Mac) → found ≡ option_map (λ mac. record { mac = mac; subscriber = None }) modem → modem ≡ is_modem → IsFound found t is_modem
unread_found t modem found is_modem is same =
    subst (λ (f : Option FoundModem). IsFound f t is_modem) (sym is) (subst (λ (x : Option Mac). IsFound (option_map (λ (mac : Mac). record { mac = mac; subscriber = None }) modem) t x) same (each modem))
  where
    each : (x : Option Mac) → IsFound (option_map (λ (mac : Mac). record { mac = mac; subscriber = None }) x) t x
    each None = record { is = refl; read = tt }
    each (Some mac) = record { is = refl; read = tt }

pub none_found : (t : Tables) (modem : Option Mac) → modem ≡ None → IsFound None t modem
none_found t modem none = record { is = sym none; read = tt }

pub found_as : (t : Tables) (found : Option FoundModem) (one other : Option Mac) → one ≡ other → IsFound found t one → IsFound found t other
found_as t found one other same is = subst (IsFound found t) same is

-- a DISCOVER is about no lease
pub no_lease : (m : Received) → is_discover m ≡ true → not (is_request m || is_release m) ≡ true
no_lease m d = grind (arith, nat_tests)

-- the subscriber by its number that the modem's row has
pub by_number : (t : Tables) (number : ℕ) (row : Option Modem) (subscriber : Option Subscriber) → option_map (λ (r : Modem). r.subscriber) row ≡ Some number → subscriber ≡ subscriber_in t number
    → subscriber ≡ option_and_then (λ (r : Modem). subscriber_in t r.subscriber) row
by_number t number None subscriber e is = cc
by_number t number (Some r) subscriber e is = let same : r.subscriber ≡ number = cc in is ∙ ap (subscriber_in t) (sym same)

module _ (t : Tables) (now : ℕ) (m : Received) (modem : Mac) where
  pub case_read : (case : DeviceCase) (held : Option Ip4) → case.pool ≡ pool_among (device_pools t) m
      → case.subscriber ≡ option_and_then (λ (row : Modem). subscriber_in t row.subscriber) (modem_in t modem) → held ≡ held_in t modem
      → case.is_online ≡ passes (is_live_bound now) (option_and_then (lease_in t) held) → case.site ≡ option_and_then (site_of t) held
      → case.own ≡ own_among modem (client m) (devices t) → case.others ≡ others_among now modem (client m) (devices t) → case ≡ device_case t now m modem
  unfolding device_case
  case_read case held pool subscriber holds online site own others =
      let bound = online ∙ ap (λ (o : Option Ip4). passes (is_live_bound now) (option_and_then (lease_in t) o)) holds in
      let hub = site ∙ ap (option_and_then (site_of t)) holds in
      λ i. record { pool = pool i; subscriber = subscriber i; is_online = bound i; site = hub i; own = own i; others = others i }

-- four readings in a row
pub four_reads : {P Q R S V : Tables → Type 0} {a b c d e : KeeperSeen} → Reads P a b → Reads Q b c → Reads R c d → Reads S d e
    → ((t : Tables) → P t → Q t → R t → S t → V t) → Reads V a e
four_reads {P} {Q} {R} {S} {V} p q r s join =
    let two = reads_then {R = λ t. P t × Q t} p q (λ t x y. (x, y)) in
    let three = reads_then {R = λ t. (P t × Q t) × R t} two r (λ t x y. (x, y)) in
    reads_then three s (λ t x y. join t x.0.0 x.0.1 x.1 y)
