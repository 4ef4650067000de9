-- What a message writes, in four ways, and that a device keeps one address by each.
use Rattle.std.proofs.Common.{◌≡◌, ℕ, Bool, true, false, cond, not, ◌&&◌, ◌||◌, eqb, Option, Some, None, is_none, option_map, option_and_then, List, [], ◌∷◌, ◌++◌, ◌⊎◌, inl, inr, refl, sym, ap, subst, ◌∙◌, true≢false}
use Rattle.std.proofs.lemmas.Bool.{and_parts, or_parts, eqb-true, not-false}
use Rattle.std.specs.List.{find}
use Rattle.std.specs.Option.{option_or}
use Rattle.off_base.specs.declared.addresses.Ip4.{Ip4}
use Rattle.off_base.specs.declared.macs.Mac.{Mac}
use Rattle.off_defs.specs.declared.keys.Key.TheVariants as key
use Rattle.off_defs.specs.declared.tables.Row.TheVariants as row
use Rattle.off_defs.specs.declared.tables.Site.{Site}
use Rattle.off_defs.specs.declared.tables.DeviceHold.TheVariants.{Offered, Bound, Declined}
use Rattle.off_defs.specs.declared.tables.DeviceLease.{DeviceLease}
use Rattle.off_defs.specs.declared.writes.Write.{Write}
use Rattle.off_defs.specs.declared.writes.Write.TheVariants.{Put, Drop}
use Rattle.off_defs.specs.State.{Tables}
use Rattle.off_defs.specs.Tables.{with_row, without, write_all}
use Rattle.off_dhcp.specs.Datagram.{Received}
use Rattle.off_account_rules.specs.Rows.{passes, has_address, device_in, device_pools, devices}
use Rattle.off_account_rules.specs.Good.{is_address, is_same_owner, device_owner}
use Rattle.off_asking.specs.Choice.{addresses, least_of, provided, choice_by, pool_among, for_some}
use Rattle.off_asking.specs.Asking.{named_address, at_address, client, claimed, form_of, is_selecting, is_discover, is_request, is_decline, is_release, gives_back}
use Rattle.off_asking.specs.Claims.{claims_own, claims_in_pool, refused_by}
use Rattle.off_defs.specs.declared.tables.Pool.{Pool}
use Rattle.off_cpe_rules.specs.Behind.{has_ended, is_free, is_owned, own_among, device_case, chosen_in}
use Rattle.off_cpe_rules.specs.Rules.{rules_for}
use Rattle.off_cpe_rules.specs.Steps.{lease_for, own_drop, own_elsewhere, is_live_bound, bound, accepts, offers, acknowledges, declines, releases, device_step_for, step_behind, unless_refused}
use Rattle.off_cpe_rules.specs.declared.cases.DeviceCase.{DeviceCase}
use Rattle.off_cpe_rules.specs.declared.results.DeviceStep.{DeviceStep}
use Rattle.off_table_laws.specs.Laws.{device_owner_in, OneAddress}
use Rattle.off_cpe_laws.specs.Laws.{OneAddressStays, after_step}
use Rattle.off_table_laws.proofs.ListLemmas.{none_found, found_passes}
use Rattle.off_cpe_laws.proofs.RowLemmas.{is_ip, same_ip, own_ip, device_with, device_without, device_listed, listed_device}
use Rattle.off_account_rules.proofs.OwnerLemmas.{owner_own, owner_found}
use Rattle.off_table_laws.proofs.TableLaws.{device_owned}
use Rattle.off_cpe_laws.proofs.RuleLemmas.{unbroken}

-- an address lies in the pool of a message
abbrev pub lies_in : Option Pool → Ip4 → Bool
lies_in pool address = passes (λ (p : Pool). has_address p address) pool

-- it gives an address of the pool, or has the device's own one rest, or frees one
pub data Wrote (modem device : Mac) (pool : Option Pool) (own : Option Ip4) (step : DeviceStep) : Type 0 where
  nothing : step.writes ≡ [] → Wrote modem device pool own step
  gives : (address : Ip4) (lease : DeviceLease) → device_owner lease.hold ≡ Some (modem, device) → lies_in pool address ≡ true
      → step.writes ≡ own_drop (own_elsewhere address own) ++ Put (key.Device address) (row.Device lease) ∷ [] → Wrote modem device pool own step
  rests : (address : Ip4) (lease : DeviceLease) → device_owner lease.hold ≡ None → own ≡ Some address → step.writes ≡ Put (key.Device address) (row.Device lease) ∷ []
      → Wrote modem device pool own step
  frees : (address : Ip4) → step.writes ≡ Drop (key.Device address) ∷ [] → Wrote modem device pool own step

none_some : {A : Type 0} {x : A} → None ≡ Some x → ⊥
none_some {A} {x} e = subst (λ (o : Option A). elim o as (λ _. Type 0) [ None ↦ Unit {0} | Some y ↦ ⊥ ]) e tt

own_is : (own : Option Ip4) (address : Ip4) → passes (is_address address) own ≡ true → own ≡ Some address
own_is None address e = cc
own_is (Some other) address e = ap (λ (n : ℕ). Some (record { 0 = n })) (eqb-true other.0 address.0 e)

none_elsewhere : (own : Option Ip4) (address : Ip4) → passes (is_address address) own ≡ true → own_elsewhere address own ≡ None
none_elsewhere None address e = refl
none_elsewhere (Some other) address e = ap (λ b. cond (not b) (Some other) None) e

claim_of : (m : Received) (own : Option Ip4) (address : Ip4) (o : Option Ip4) → o ≡ Some address → passes (λ (a : Ip4). passes (is_address a) own) o ≡ true
    → passes (is_address address) own ≡ true
claim_of m own address o is e = ap (passes (λ (a : Ip4). passes (is_address a) own)) (sym is) ∙ e

-- the address that is claimed lies in the pool
claim_in : (m : Received) (pool : Option Pool) (address : Ip4) (o : Option Ip4) → o ≡ Some address → passes (lies_in pool) o ≡ true → lies_in pool address ≡ true
claim_in m pool address o is e = ap (passes (lies_in pool)) (sym is) ∙ e

-- the address that is chosen lies in the pool
provided_passes : {A : Type 0} (test : A → Bool) (o : Option A) (x : A) → provided test o ≡ Some x → test x ≡ true
provided_passes test None x e = cc
provided_passes test (Some y) x e =
    elim (test y) as (λ b. test y ≡ b → cond b (Some y) None ≡ Some x → test x ≡ true) [
      | true ↦ λ t f. let same : y ≡ x = cc in ap test (sym same) ∙ t
      | false ↦ λ t f. cc
    ] refl e

or_passes : {A : Type 0} (test : A → Bool) (one other : Option A) → ((x : A) → one ≡ Some x → test x ≡ true) → ((x : A) → other ≡ Some x → test x ≡ true)
    → (x : A) → option_or one other ≡ Some x → test x ≡ true
or_passes test None other h k x e = k x e
or_passes test (Some y) other h k x e = h x e

choice_within : (t : Tables) (now : ℕ) (pool : Pool) (own asked : Option Ip4) (address : Ip4) → choice_by (is_free t now pool) pool own asked ≡ Some address → has_address pool address ≡ true
unfolding least_of
choice_within t now pool own asked =
    or_passes (has_address pool) (provided (has_address pool) own) (option_or (provided (is_free t now pool) asked) (least_of (is_free t now pool) pool))
    (provided_passes (has_address pool) own)
    (or_passes (has_address pool) (provided (is_free t now pool) asked) (least_of (is_free t now pool) pool)
    (λ x e. within x (provided_passes (is_free t now pool) asked x e))
    (λ x e. within x (found_passes (is_free t now pool) (addresses pool) x e).1))
  where
    within : (x : Ip4) → is_free t now pool x ≡ true → has_address pool x ≡ true
    within x e = (and_parts (has_address pool x) (has_ended now (device_in t x)) e).0

module _ (now : ℕ) (modem : Mac) (m : Received) (c : DeviceCase) (chosen : Option Ip4) (lease : Option DeviceLease) (fits : is_discover m ≡ false → chosen ≡ claimed m)
    (lies : is_discover m ≡ true → (address : Ip4) → chosen ≡ Some address → lies_in c.pool address ≡ true) where
  abbrev W : DeviceStep → Type 0
  W step = Wrote modem (client m) c.pool c.own step

  offer_wrote : (o : Option Ip4) → ((address : Ip4) → o ≡ Some address → lies_in c.pool address ≡ true) → W (offers now modem m c o lease)
  offer_wrote None within = nothing refl
  offer_wrote (Some address) within =
      elim (passes (is_live_bound now) lease) as (λ b. passes (is_live_bound now) lease ≡ b → W (offers now modem m c (Some address) lease)) [
        | true ↦ λ e. nothing (ap (λ b. cond b [] (own_drop (own_elsewhere address c.own) ++ Put (key.Device address) (row.Device (lease_for (Offered modem (client m)) 120 now)) ∷ [])) e)
        | false ↦ λ e. gives address (lease_for (Offered modem (client m)) 120 now) refl (within address refl) (ap (λ b. cond b [] (own_drop (own_elsewhere address c.own) ++ Put (key.Device address) (row.Device (lease_for (Offered modem (client m)) 120 now)) ∷ [])) e)
      ] refl

  bind_wrote : (o : Option Ip4) (site : Option Site) → c.site ≡ site → ((address : Ip4) → o ≡ Some address → passes (is_address address) c.own ≡ true)
      → ((address : Ip4) → o ≡ Some address → lies_in c.pool address ≡ true) → W (acknowledges now modem m c o)
  bind_wrote None site is own within = nothing refl
  bind_wrote (Some address) None is own within = nothing (ap (λ (s : Option Site). for_some (bound now modem (client m) address) s) is)
  bind_wrote (Some address) (Some site) is own within =
      gives address (lease_for (Bound modem (client m)) site.lease now) refl (within address refl)
      (ap (λ (s : Option Site). for_some (bound now modem (client m) address) s) is
      ∙ ap (λ (o : Option Ip4). own_drop o ++ Put (key.Device address) (row.Device (lease_for (Bound modem (client m)) site.lease now)) ∷ []) (sym (none_elsewhere c.own address (own address refl))))

  decline_wrote : (o : Option Ip4) → ((address : Ip4) → o ≡ Some address → passes (is_address address) c.own ≡ true) → W (declines now o)
  decline_wrote None own = nothing refl
  decline_wrote (Some address) own = rests address (lease_for Declined 600 now) refl (own_is c.own address (own address refl)) refl

  release_wrote : (o : Option Ip4) → W (releases o)
  release_wrote None = nothing refl
  release_wrote (Some address) = frees address refl

  accept_wrote : refused_by (rules_for m c chosen) ≡ None → W (accepts now modem m c chosen lease)
  accept_wrote none =
      let u = unbroken m c chosen none in
      elim (is_discover m) as (λ b. is_discover m ≡ b → W (cond b (offers now modem m c chosen lease) (cond (is_request m) (acknowledges now modem m c chosen) (cond (is_decline m) (declines now chosen) (releases chosen))))) [
        | true ↦ λ d. offer_wrote chosen (lies d)
        | false ↦ λ d.
            elim (is_request m) as (λ b. is_request m ≡ b → W (cond b (acknowledges now modem m c chosen) (cond (is_decline m) (declines now chosen) (releases chosen)))) [
              | true ↦ λ r.
                  let right : not (claims_own m c.own && claims_in_pool m c.pool) ≡ false = ap (λ b. b && not (claims_own m c.own && claims_in_pool m c.pool)) (sym r) ∙ u.own in
                  let both = not-false (claims_own m c.own && claims_in_pool m c.pool) right in
                  bind_wrote chosen c.site refl (λ address is. claim_of m c.own address (claimed m) (sym (fits d) ∙ is) (and_parts (claims_own m c.own) (claims_in_pool m c.pool) both).0)
                  (λ address is. claim_in m c.pool address (claimed m) (sym (fits d) ∙ is) (and_parts (claims_own m c.own) (claims_in_pool m c.pool) both).1)
              | false ↦ λ r.
                  elim (is_decline m) as (λ b. is_decline m ≡ b → W (cond b (declines now chosen) (releases chosen))) [
                    | true ↦ λ g.
                        let back : gives_back m ≡ true = ap (λ b. b || is_release m) g in
                        let lacks : (gives_back m && not (claims_own m c.own)) ≡ false = (or_parts (is_request m && not (is_selecting (form_of m)) && is_none c.own) (gives_back m && not (claims_own m c.own)) u.known).1 in
                        let claims : claims_own m c.own ≡ true = not-false (claims_own m c.own) (ap (λ b. b && not (claims_own m c.own)) (sym back) ∙ lacks) in
                        decline_wrote chosen (λ address is. claim_of m c.own address (claimed m) (sym (fits d) ∙ is) claims)
                    | false ↦ λ g. release_wrote chosen
                  ] refl
            ] refl
      ] refl

  settled_wrote : W (device_step_for now modem m c chosen lease)
  unfolding device_step_for
  settled_wrote =
      elim (refused_by (rules_for m c chosen)) as (λ o. refused_by (rules_for m c chosen) ≡ o → W (unless_refused m c (accepts now modem m c chosen lease) o)) [
        | None ↦ λ none. accept_wrote none
        | Some w ↦ λ broken. nothing refl
      ] refl

pub chosen_fits : (t : Tables) (now : ℕ) (m : Received) (c : DeviceCase) → is_discover m ≡ false → chosen_in t now m c ≡ claimed m
chosen_fits t now m c d = ap (λ b. cond b (option_and_then (λ (pool : Pool). choice_by (is_free t now pool) pool c.own (at_address (named_address m))) c.pool) (claimed m)) d

chosen_lies : (t : Tables) (now : ℕ) (m : Received) (c : DeviceCase) → is_discover m ≡ true → (address : Ip4) → chosen_in t now m c ≡ Some address → lies_in c.pool address ≡ true
chosen_lies t now m c d address e = by_pool c.pool (sym (ap (λ b. cond b (option_and_then (λ (pool : Pool). choice_by (is_free t now pool) pool c.own (at_address (named_address m))) c.pool) (claimed m)) d) ∙ e)
  where
    by_pool : (o : Option Pool) → option_and_then (λ (pool : Pool). choice_by (is_free t now pool) pool c.own (at_address (named_address m))) o ≡ Some address → lies_in o address ≡ true
    by_pool None f = cc
    by_pool (Some pool) f = choice_within t now pool c.own (at_address (named_address m)) address f

pub wrote : (t : Tables) (now : ℕ) (m : Received) (modem : Mac) → Wrote modem (client m) (pool_among (device_pools t) m) (own_among modem (client m) (devices t)) (step_behind t now m modem)
unfolding step_behind device_case
wrote t now m modem =
    let c = device_case t now m modem in
    settled_wrote now modem m c (chosen_in t now m c) (option_and_then (device_in t) (chosen_in t now m c)) (chosen_fits t now m c) (chosen_lies t now m c)

-- ---- one address stays

module _ (t : Tables) (modem device : Mac) where
  abbrev own : Option Ip4
  own = own_among modem device (devices t)

  -- where the device has no address, no lease is its own
  no_own : own ≡ None → (x : Ip4) → device_owner_in t x ≡ Some (modem, device) → ⊥
  no_own none x e =
      let l = device_owned (device_in t x) (modem, device) e in
      let lost = none_found (λ (entry : Ip4 × DeviceLease). is_owned modem device entry.1) (devices t) (found_none (find (λ (entry : Ip4 × DeviceLease). is_owned modem device entry.1) (devices t)) none) (x, l.0) (device_listed t x l.0 l.1) in
      let kept : is_owned modem device l.0 ≡ true = ap (passes (is_same_owner (modem, device))) l.2 ∙ owner_own (modem, device) in
      absurd (true≢false (sym kept ∙ lost))
    where
      found_none : (o : Option (Ip4 × DeviceLease)) → option_map (λ (entry : Ip4 × DeviceLease). entry.0) o ≡ None → o ≡ None
      found_none None e = refl
      found_none (Some x) e = cc

  -- and where it has one, that lease is its own
  pub the_own : (y : Ip4) → own ≡ Some y → device_owner_in t y ≡ Some (modem, device)
  the_own y is = by_found (find (λ (entry : Ip4 × DeviceLease). is_owned modem device entry.1) (devices t)) refl is
    where
      by_found : (o : Option (Ip4 × DeviceLease)) → find (λ (entry : Ip4 × DeviceLease). is_owned modem device entry.1) (devices t) ≡ o
          → option_map (λ (entry : Ip4 × DeviceLease). entry.0) o ≡ Some y → device_owner_in t y ≡ Some (modem, device)
      by_found None f e = cc
      by_found (Some entry) f e =
          let there = found_passes (λ (other : Ip4 × DeviceLease). is_owned modem device other.1) (devices t) entry f in
          let same : entry.0 ≡ y = cc in
          ap (device_owner_in t) (sym same) ∙ ap (option_and_then (λ (lease : DeviceLease). device_owner lease.hold)) (listed_device t entry.0 entry.1 there.0) ∙ owner_found (device_owner entry.1.hold) (modem, device) there.1

owner_with : (t : Tables) (a : Ip4) (lease : DeviceLease) (x : Ip4) → device_owner_in (with_row t (key.Device a) (row.Device lease)) x ≡ cond (is_ip a x) (device_owner lease.hold) (device_owner_in t x)
owner_with t a lease x =
    ap (option_and_then (λ (l : DeviceLease). device_owner l.hold)) (device_with t a lease x)
    ∙ elim (is_ip a x) as (λ b. option_and_then (λ (l : DeviceLease). device_owner l.hold) (cond b (Some lease) (device_in t x)) ≡ cond b (device_owner lease.hold) (device_owner_in t x)) [
      | true ↦ refl
      | false ↦ refl
    ]

owner_without : (t : Tables) (a x : Ip4) → device_owner_in (without t (key.Device a)) x ≡ cond (is_ip a x) None (device_owner_in t x)
owner_without t a x =
    ap (option_and_then (λ (l : DeviceLease). device_owner l.hold)) (device_without t a x)
    ∙ elim (is_ip a x) as (λ b. option_and_then (λ (l : DeviceLease). device_owner l.hold) (cond b None (device_in t x)) ≡ cond b None (device_owner_in t x)) [
      | true ↦ refl
      | false ↦ refl
    ]

-- what an address has behind a write: what is put, or what it had
by_test : (b : Bool) (new old : Option (Mac × Mac)) (w : Mac × Mac) → cond b new old ≡ Some w → ((b ≡ true) × (new ≡ Some w)) ⊎ ((b ≡ false) × (old ≡ Some w))
by_test true new old w e = inl (refl, e)
by_test false new old w e = inr (refl, e)

module _ (t : Tables) (one : OneAddress t) (a : Ip4) where
  drop_one : OneAddress (without t (key.Device a))
  drop_one x y w e f = one x y w (kept x w e) (kept y w f)
    where
      kept : (z : Ip4) (w : Mac × Mac) → device_owner_in (without t (key.Device a)) z ≡ Some w → device_owner_in t z ≡ Some w
      kept z w e = elim (by_test (is_ip a z) None (device_owner_in t z) w (sym (owner_without t a z) ∙ e)) as (λ s. device_owner_in t z ≡ Some w) [ inl h ↦ absurd (none_some h.1) | inr h ↦ h.1 ]

  -- a lease without an owner is put
  rest_one : (lease : DeviceLease) → device_owner lease.hold ≡ None → OneAddress (with_row t (key.Device a) (row.Device lease))
  rest_one lease none x y w e f = one x y w (kept x w e) (kept y w f)
    where
      kept : (z : Ip4) (w : Mac × Mac) → device_owner_in (with_row t (key.Device a) (row.Device lease)) z ≡ Some w → device_owner_in t z ≡ Some w
      kept z w e = elim (by_test (is_ip a z) (device_owner lease.hold) (device_owner_in t z) w (sym (owner_with t a lease z) ∙ e)) as (λ s. device_owner_in t z ≡ Some w) [ inl h ↦ absurd (none_some (sym none ∙ h.1)) | inr h ↦ h.1 ]

  -- a lease of an owner who has no other one is put
  put_one : (lease : DeviceLease) (o : Mac × Mac) → device_owner lease.hold ≡ Some o → ((x : Ip4) → is_ip a x ≡ false → device_owner_in t x ≡ Some o → ⊥)
      → OneAddress (with_row t (key.Device a) (row.Device lease))
  put_one lease o is alone x y w e f = joined (at x w e) (at y w f)
    where
      at : (z : Ip4) (w : Mac × Mac) → device_owner_in (with_row t (key.Device a) (row.Device lease)) z ≡ Some w
          → ((is_ip a z ≡ true) × (device_owner lease.hold ≡ Some w)) ⊎ ((is_ip a z ≡ false) × (device_owner_in t z ≡ Some w))
      at z w e = by_test (is_ip a z) (device_owner lease.hold) (device_owner_in t z) w (sym (owner_with t a lease z) ∙ e)

      joined : ((is_ip a x ≡ true) × (device_owner lease.hold ≡ Some w)) ⊎ ((is_ip a x ≡ false) × (device_owner_in t x ≡ Some w))
          → ((is_ip a y ≡ true) × (device_owner lease.hold ≡ Some w)) ⊎ ((is_ip a y ≡ false) × (device_owner_in t y ≡ Some w)) → x ≡ y
      joined (inl p) (inl q) = same_ip a x p.0 ∙ sym (same_ip a y q.0)
      joined (inl p) (inr q) = absurd (alone y q.0 (q.1 ∙ sym p.1 ∙ is))
      joined (inr p) (inl q) = absurd (alone x p.0 (p.1 ∙ sym q.1 ∙ is))
      joined (inr p) (inr q) = one x y w p.1 q.1

module _ (t : Tables) (one : OneAddress t) (modem device : Mac) (a : Ip4) (lease : DeviceLease) (is : device_owner lease.hold ≡ Some (modem, device)) where
  after : Option Ip4 → Tables
  after o = write_all t (own_drop o ++ Put (key.Device a) (row.Device lease) ∷ [])

  given_with : (y : Ip4) (b : Bool) → eqb y.0 a.0 ≡ b → own_among modem device (devices t) ≡ Some y → OneAddress (after (cond (not b) (Some y) None))
  unfolding after
  given_with y true same own =
      let here : y ≡ a = ap (λ (n : ℕ). record { 0 = n }) (eqb-true y.0 a.0 same) in
      put_one t one a lease (modem, device) is (λ x other e.
      let at : x ≡ a = one x y (modem, device) e (the_own t modem device y own) ∙ here in
      true≢false (sym (ap (is_ip a) at ∙ own_ip a) ∙ other))
  given_with y false apart own =
      put_one (without t (key.Device y)) (drop_one t one y) a lease (modem, device) is (λ x other e.
      elim (by_test (is_ip y x) None (device_owner_in t x) (modem, device) (sym (owner_without t y x) ∙ e)) as (λ s. ⊥) [
        | inl h ↦ none_some h.1
        | inr h ↦ let at : x ≡ y = one x y (modem, device) h.1 (the_own t modem device y own) in true≢false (sym (ap (is_ip y) at ∙ own_ip y) ∙ h.0)
      ])

  given_one : (o : Option Ip4) → own_among modem device (devices t) ≡ o → OneAddress (after (own_elsewhere a o))
  unfolding after
  given_one None own = put_one t one a lease (modem, device) is (λ x other e. no_own t modem device own x e)
  given_one (Some y) own = given_with y (eqb y.0 a.0) refl own

pub one_address_stays : OneAddressStays
unfolding after
one_address_stays t now m modem one =
    elim (wrote t now m modem) as (λ w. OneAddress (after_step t now m modem)) [
      | nothing e ↦ subst (λ (ws : List Write). OneAddress (write_all t ws)) (sym e) one
      | gives a lease is within e ↦ subst (λ (ws : List Write). OneAddress (write_all t ws)) (sym e) (given_one t one modem (client m) a lease is (own_among modem (client m) (devices t)) refl)
      | rests a lease is mine e ↦ subst (λ (ws : List Write). OneAddress (write_all t ws)) (sym e) (rest_one t one a lease is)
      | frees a e ↦ subst (λ (ws : List Write). OneAddress (write_all t ws)) (sym e) (drop_one t one a)
    ]
