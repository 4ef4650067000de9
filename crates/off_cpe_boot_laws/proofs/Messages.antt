-- No rule refuses the DISCOVER or the REQUEST of a device that may have an address: so it's offered, or acknowledged.
use Rattle.std.proofs.Common.{◌≡◌, ℕ, ◌<◌, true, false, not, ◌&&◌, Option, Some, None, option_and_then, refl, ap, subst, ◌∙◌}
use Rattle.std.proofs.lemmas.Bool.{and_from, eq-eqb, lt-leb, lt-ltb}
use Rattle.off_base.specs.declared.addresses.Ip4.{Ip4}
use Rattle.off_base.specs.declared.macs.Mac.{Mac}
use Rattle.off_defs.specs.declared.tables.Site.{Site}
use Rattle.off_defs.specs.declared.tables.Pool.{Pool}
use Rattle.off_defs.specs.declared.tables.Subscriber.{Subscriber}
use Rattle.off_defs.specs.declared.tables.Modem.{Modem}
use Rattle.off_defs.specs.declared.tables.Lease.{Lease}
use Rattle.off_defs.specs.State.{Tables}
use Rattle.off_dhcp.specs.Datagram.{Received}
use Rattle.off_account_rules.specs.Rows.{passes, site_of, subscriber_in, modem_in, lease_in, held_in, device_in, device_pools, devices, has_address}
use Rattle.off_account_rules.specs.Good.{Good, owner_of, is_address, is_live_bound}
use Rattle.off_asking.specs.Asking.{client, claimed, form_of, named_address, at_address, is_selecting}
use Rattle.off_asking.specs.Choice.{pool_among, choice_by}
use Rattle.off_asking.specs.Claims.{names_another_server, claims_own, claims_wrongly, refused_by}
use Rattle.off_asking.proofs.ClaimLemmas.{none_broken}
use Rattle.off_lease_laws.proofs.GoodLemmas.{good_agree}
use Rattle.off_cpe_rules.specs.Behind.{is_free, is_online, own_among, others_among, device_case, chosen_in}
use Rattle.off_cpe_rules.specs.Rules.{rules_for}
use Rattle.off_cpe_rules.specs.Steps.{offers, acknowledges, accepts, unless_refused, device_step_for, device_step_in, step_behind}
use Rattle.off_cpe_rules.specs.declared.cases.DeviceCase.{DeviceCase}
use Rattle.off_boot_laws.proofs.Messages.{of_kind, kind_is, formed, no_lack}
use Rattle.off_cpe_boot_laws.specs.Known.{IsOfDevice, IsBelowLimit}
use Rattle.off_cpe_boot_laws.proofs.Pooling.{pool_is_found}
use Rattle.off_cpe_boot_laws.proofs.Others.{others_are_few}

-- ---- what the rules read

pub record Known (t : Tables) (now : ℕ) (m : Received) (modem : Mac) : Type 0 where
  pub site : Site
  pub pool : Pool
  pub subscriber : Subscriber
  pub site_is : option_and_then (site_of t) (held_in t modem) ≡ Some site
  pub pool_is : pool_among (device_pools t) m ≡ Some pool
  pub subscriber_is : option_and_then (λ (row : Modem). subscriber_in t row.subscriber) (modem_in t modem) ≡ Some subscriber
  pub active : subscriber.active ≡ true
  pub online : is_online t now modem ≡ true
  pub few : others_among now modem (client m) (devices t) < subscriber.cpes

unfoldable pub known_of : (t : Tables) (now : ℕ) (m : Received) → Good t → (k : IsOfDevice t now m) → IsBelowLimit t now m k → Known t now m k.modem
known_of t now m good k below =
    let owned = ap (option_and_then (λ (lease : Lease). owner_of lease.hold)) k.bound.bound in
    let held : held_in t k.modem ≡ Some k.online = (good_agree t good k.modem k.online).0 owned in
    record {
      site = k.site;
      pool = k.pool;
      subscriber = k.subscriber;
      site_is = ap (option_and_then (site_of t)) held ∙ k.site_is;
      pool_is = pool_is_found t m k.number k.pool good k.pool_is k.pooled;
      subscriber_is = ap (option_and_then (λ (row : Modem). subscriber_in t row.subscriber)) k.row_is ∙ k.subscriber_is;
      active = k.active;
      online = ap (λ (o : Option Ip4). passes (is_live_bound now) (option_and_then (lease_in t) o)) held
          ∙ ap (passes (is_live_bound now)) k.bound.bound ∙ lt-ltb now k.bound.expiry k.bound.live;
      few = others_are_few t now k.modem (client m) k.subscriber.cpes below;
    }

module _ (t : Tables) (now : ℕ) (m : Received) (modem : Mac) (k : Known t now m modem) where
  abbrev pub case_own : Option Ip4 → DeviceCase
  case_own own = record {
    pool = Some k.pool;
    subscriber = Some k.subscriber;
    is_online = true;
    site = Some k.site;
    own = own;
    others = others_among now modem (client m) (devices t);
  }

  abbrev pub known_case : DeviceCase
  known_case = case_own (own_among modem (client m) (devices t))

  case_known : device_case t now m modem ≡ known_case
  unfolding device_case
  case_known = λ j. record {
    pool = k.pool_is j;
    subscriber = k.subscriber_is j;
    is_online = k.online j;
    site = k.site_is j;
    own = own_among modem (client m) (devices t);
    others = others_among now modem (client m) (devices t);
  }

  -- the rows and the chosen address decide
  accepted : (a : Ip4) → chosen_in t now m known_case ≡ Some a → refused_by (rules_for m known_case (Some a)) ≡ None
      → step_behind t now m modem ≡ accepts now modem m known_case (Some a) (device_in t a)
  unfolding step_behind device_step_for
  accepted a chosen none =
      ap (λ (c : DeviceCase). device_step_in t now modem m c (chosen_in t now m c)) case_known
      ∙ ap (device_step_in t now modem m known_case) chosen
      ∙ ap (unless_refused m known_case (accepts now modem m known_case (Some a) (device_in t a))) none

-- ---- a DISCOVER

module _ (t : Tables) (now : ℕ) (modem : Mac) where
  abbrev pub IsChosen : (m : Received) → Known t now m modem → Ip4 → Type 0
  IsChosen m k a = choice_by (is_free t now k.pool) k.pool (own_among modem (client m) (devices t)) (at_address (named_address m)) ≡ Some a

  discover_rules : (m : Received) (k : Known t now (of_kind 1 m) modem) (a : Ip4) → refused_by (rules_for (of_kind 1 m) (known_case t now (of_kind 1 m) modem k) (Some a)) ≡ None
  discover_rules m k a =
      none_broken (rules_for (of_kind 1 m) (known_case t now (of_kind 1 m) modem k) (Some a))
      (refl, (refl, (refl, (ap not k.active, (refl, (refl, (lt-leb k.subscriber.cpes (others_among now modem (client m) (devices t)) k.few, (refl, (refl, (refl, tt))))))))))

  discover_of : (m : Received) (k : Known t now (of_kind 1 m) modem) (a : Ip4) → IsChosen (of_kind 1 m) k a
      → step_behind t now (of_kind 1 m) modem ≡ offers now modem (of_kind 1 m) (known_case t now (of_kind 1 m) modem k) (Some a) (device_in t a)
  discover_of m k a chosen = accepted t now (of_kind 1 m) modem k a chosen (discover_rules m k a)

  pub discover_is : (m : Received) → m.kind ≡ 1 → (k : Known t now m modem) (a : Ip4) → IsChosen m k a
      → step_behind t now m modem ≡ offers now modem m (known_case t now m modem k) (Some a) (device_in t a)
  discover_is m kind =
      subst (λ (n : Received). (k : Known t now n modem) (a : Ip4) → IsChosen n k a
      → step_behind t now n modem ≡ offers now modem n (known_case t now n modem k) (Some a) (device_in t a)) (kind_is m 1 kind)
      (discover_of m)

-- ---- a REQUEST

module _ (t : Tables) (now : ℕ) (modem : Mac) where
  own_claim : (m : Received) (pool : Pool) (a : Ip4) → claimed (of_kind 3 m) ≡ Some a → has_address pool a ≡ true → claims_wrongly (of_kind 3 m) (Some a) (Some pool) ≡ false
  own_claim m pool a claim within =
      (λ j. not (passes (λ (b : Ip4). passes (is_address b) (Some a)) (claim j) && passes (λ (b : Ip4). passes (λ (p : Pool). has_address p b) (Some pool)) (claim j)))
      ∙ ap not (and_from (is_address a a) (has_address pool a) (eq-eqb a.0 a.0 refl) within)

  abbrev Claims : (m : Received) → Known t now m modem → Ip4 → Type 0
  Claims m k a = (names_another_server m k.site ≡ false) × (claimed m ≡ Some a) × (has_address k.pool a ≡ true)

  request_rules : (m : Received) (k : Known t now (of_kind 3 m) modem) (a : Ip4) → Claims (of_kind 3 m) k a
      → refused_by (rules_for (of_kind 3 m) (case_own t now (of_kind 3 m) modem k (Some a)) (Some a)) ≡ None
  request_rules m k a claims =
      none_broken (rules_for (of_kind 3 m) (case_own t now (of_kind 3 m) modem k (Some a)) (Some a)) (
        refl,
        (
          formed (form_of m) a claims.1,
          (
            refl,
            (
              ap not k.active,
              (
                refl,
                (
                  claims.0,
                  (
                    lt-leb k.subscriber.cpes (others_among now modem (client m) (devices t)) k.few,
                    (refl, (no_lack (is_selecting (form_of m)) (claims_own (of_kind 3 m) (Some a)), (own_claim m k.pool a claims.1 claims.2, tt))),
                  ),
                ),
              ),
            ),
          ),
        ),
      )

  request_of : (m : Received) (k : Known t now (of_kind 3 m) modem) (a : Ip4) → own_among modem (client m) (devices t) ≡ Some a → Claims (of_kind 3 m) k a
      → step_behind t now (of_kind 3 m) modem ≡ acknowledges now modem (of_kind 3 m) (known_case t now (of_kind 3 m) modem k) (Some a)
  request_of m k a own claims =
      accepted t now (of_kind 3 m) modem k a claims.1
      (ap (λ (o : Option Ip4). refused_by (rules_for (of_kind 3 m) (case_own t now (of_kind 3 m) modem k o) (Some a))) own ∙ request_rules m k a claims)

  pub request_is : (m : Received) → m.kind ≡ 3 → (k : Known t now m modem) (a : Ip4) → own_among modem (client m) (devices t) ≡ Some a
      → names_another_server m k.site ≡ false → claimed m ≡ Some a → has_address k.pool a ≡ true
      → step_behind t now m modem ≡ acknowledges now modem m (known_case t now m modem k) (Some a)
  request_is m kind k a own server claim within =
      subst (λ (n : Received). (k : Known t now n modem) (a : Ip4) → own_among modem (client n) (devices t) ≡ Some a → Claims n k a
      → step_behind t now n modem ≡ acknowledges now modem n (known_case t now n modem k) (Some a)) (kind_is m 3 kind)
      (request_of m) k a own (server, claim, within)
