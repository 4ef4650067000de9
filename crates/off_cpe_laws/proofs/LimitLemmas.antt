-- The limit of devices behind a modem.
use Rattle.std.proofs.Common.{◌≡◌, ◌≤◌, ◌<◌, ◌⊎◌, ℕ, ◌+◌, Bool, true, false, cond, not, ◌&&◌, ◌||◌, leb, Option, Some, None, option_and_then, List, [], ◌∷◌, ◌++◌, inl, inr, refl, sym, ap, subst, ◌∙◌, arith, true≢false}
use Rattle.std.proofs.lemmas.Bool.{and_parts, leb-false, and_right}
use Rattle.std.specs.Prelude.{nat_le}
use Rattle.std.specs.List.{count_by}
use Rattle.off_base.specs.declared.addresses.Ip4.{Ip4}
use Rattle.off_base.specs.declared.macs.Mac.{Mac}
use Rattle.off_defs.specs.declared.keys.Key.TheVariants as key
use Rattle.off_defs.specs.declared.tables.Row.TheVariants as row
use Rattle.off_defs.specs.declared.tables.Subscriber.{Subscriber}
use Rattle.off_defs.specs.declared.tables.DeviceLease.{DeviceLease}
use Rattle.off_defs.specs.declared.writes.Write.{Write}
use Rattle.off_defs.specs.declared.writes.Write.TheVariants.{Put}
use Rattle.off_defs.specs.State.{Tables}
use Rattle.off_defs.specs.Tables.{without, write_all}
use Rattle.off_dhcp.specs.Datagram.{Received}
use Rattle.off_account_rules.specs.Rows.{passes, device_in, devices}
use Rattle.off_account_rules.specs.Good.{is_mac, is_same_owner, device_owner}
use Rattle.off_asking.specs.Asking.{client, is_discover, is_request, is_decline, asks}
use Rattle.off_asking.specs.Claims.{refused_by}
use Rattle.off_cpe_rules.specs.Words.{acts}
use Rattle.off_cpe_rules.specs.Behind.{is_live, is_owned, is_behind, is_other, own_among, others_among, behind_among, device_case, chosen_in}
use Rattle.off_cpe_rules.specs.Rules.{is_full, rules_for}
use Rattle.off_cpe_rules.specs.Steps.{own_drop, own_elsewhere, offers, acknowledges, declines, releases, accepts, unless_refused, device_step_for, step_behind}
use Rattle.off_cpe_rules.specs.declared.cases.DeviceCase.{DeviceCase}
use Rattle.off_cpe_rules.specs.declared.words.DeviceWord.{DeviceWord}
use Rattle.off_cpe_rules.specs.declared.words.DeviceWord.TheVariants as word
use Rattle.off_table_laws.specs.Laws.{device_owner_in, OneAddress}
use Rattle.off_cpe_laws.specs.Laws.{after_step, OthersDontGrow, LimitHolds}
use Rattle.off_cpe_laws.proofs.CountLemmas.{count_split, count_one}
use Rattle.off_cpe_laws.proofs.RowLemmas.{count_with, count_without, distinct_devices, listed_device}
use Rattle.off_account_rules.proofs.OwnerLemmas.{owner_own, owner_found}
use Rattle.off_cpe_laws.proofs.RuleLemmas.{unbroken, refusals}
use Rattle.off_cpe_laws.proofs.WriteLemmas.{nothing, gives, rests, frees, wrote, one_address_stays}

module _ (now : ℕ) (modem device : Mac) where
  abbrev other : Ip4 × DeviceLease → Bool
  other e = is_other now modem device e.1

  -- a lease of the device itself isn't another's, and one without an owner isn't
  own_no_other : (a : Ip4) (lease : DeviceLease) → device_owner lease.hold ≡ Some (modem, device) → other (a, lease) ≡ false
  own_no_other a lease is =
      ap (λ b. is_behind modem lease && (not b && is_live now lease)) (ap (passes (is_same_owner (modem, device))) is ∙ owner_own (modem, device)) ∙ and_right (is_behind modem lease) false refl

  none_no_other : (a : Ip4) (lease : DeviceLease) → device_owner lease.hold ≡ None → other (a, lease) ≡ false
  none_no_other a lease is = ap (λ (o : Option (Mac × Mac)). passes (λ (w : Mac × Mac). is_mac modem w.0) o && (not (is_owned modem device lease) && is_live now lease)) is

  fewer : (t : Tables) (a : Ip4) (lease : DeviceLease) → device_owner lease.hold ≡ Some (modem, device) → (o : Option Ip4)
      → count_by other (devices (write_all t (own_drop o ++ Put (key.Device a) (row.Device lease) ∷ []))) ≤ count_by other (devices t)
  fewer t a lease is None = count_with other t a lease (own_no_other a lease is)
  fewer t a lease is (Some y) = omega (arith, count_with other (without t (key.Device y)) a lease (own_no_other a lease is), count_without other t y)

pub others_dont_grow : OthersDontGrow
others_dont_grow t now m modem =
    let p = other now modem (client m) in
    elim (wrote t now m modem) as (λ w. count_by p (devices (after_step t now m modem)) ≤ count_by p (devices t)) [
      | nothing e ↦ subst (λ (ws : List Write). count_by p (devices (write_all t ws)) ≤ count_by p (devices t)) (sym e) (omega arith)
      | gives a lease is within e ↦ subst (λ (ws : List Write). count_by p (devices (write_all t ws)) ≤ count_by p (devices t)) (sym e) (fewer now modem (client m) t a lease is (own_elsewhere a (own_among modem (client m) (devices t))))
      | rests a lease is own e ↦ subst (λ (ws : List Write). count_by p (devices (write_all t ws)) ≤ count_by p (devices t)) (sym e) (count_with p t a lease (none_no_other now modem (client m) a lease is))
      | frees a e ↦ subst (λ (ws : List Write). count_by p (devices (write_all t ws)) ≤ count_by p (devices t)) (sym e) (count_without p t a)
    ]

-- ---- those behind a modem are the others' and the device's own, which is one at most

module _ (now : ℕ) (modem device : Mac) where
  abbrev mine : Ip4 × DeviceLease → Bool
  mine e = is_owned modem device e.1 && is_live now e.1

  three : (x y l : Bool) → cond (x && l) 1 0 ≡ cond (x && (not (x && y) && l)) 1 0 + cond ((x && y) && l) 1 0
  three false y l = refl
  three true true true = refl
  three true true false = refl
  three true false true = refl
  three true false false = refl

  by_owner : (o : Option (Mac × Mac)) (l : Bool)
      → cond (passes (λ (w : Mac × Mac). is_mac modem w.0) o && l) 1 0
      ≡ cond (passes (λ (w : Mac × Mac). is_mac modem w.0) o && (not (passes (is_same_owner (modem, device)) o) && l)) 1 0 + cond (passes (is_same_owner (modem, device)) o && l) 1 0
  by_owner None l = refl
  by_owner (Some w) l = three (is_mac modem w.0) (is_mac device w.1) l

  split : (xs : List (Ip4 × DeviceLease)) → behind_among now modem xs ≡ others_among now modem device xs + count_by mine xs
  split xs = count_split (λ (e : Ip4 × DeviceLease). is_behind modem e.1 && is_live now e.1) (other now modem device) mine (λ e. by_owner (device_owner e.1.hold) (is_live now e.1)) xs

  one_mine : (u : Tables) → OneAddress u → count_by mine (devices u) ≤ 1
  one_mine u one =
      count_one mine (devices u) (distinct_devices u) (λ x y i j p q.
      let f = listed_device u x.0 x.1 i in
      let g = listed_device u y.0 y.1 j in
      let a : device_owner_in u x.0 ≡ Some (modem, device) = ap (option_and_then (λ (l : DeviceLease). device_owner l.hold)) f ∙ owner_found (device_owner x.1.hold) (modem, device) (and_parts (is_owned modem device x.1) (is_live now x.1) p).0 in
      let b : device_owner_in u y.0 ≡ Some (modem, device) = ap (option_and_then (λ (l : DeviceLease). device_owner l.hold)) g ∙ owner_found (device_owner y.1.hold) (modem, device) (and_parts (is_owned modem device y.1) (is_live now y.1) q).0 in
      let same : x.0 ≡ y.0 = one x.0 y.0 (modem, device) a b in
      let both : Some x.1 ≡ Some y.1 = sym f ∙ ap (device_in u) same ∙ g in
      let lease : x.1 ≡ y.1 = cc in
      λ k. (same k, lease k))

-- ---- who is offered or acknowledged an address was below the limit

module _ (now : ℕ) (modem : Mac) (m : Received) (c : DeviceCase) (chosen : Option Ip4) (lease : Option DeviceLease) where
  abbrev pub Says : DeviceWord → Type 0
  Says w = (w ≡ word.Offer) ⊎ (w ≡ word.Ack)

  pub no_refusal : (w : DeviceWord) → acts w ≡ false → Says w → ⊥
  no_refusal w idle (inl e) = true≢false (sym (ap acts e) ∙ idle)
  no_refusal w idle (inr e) = true≢false (sym (ap acts e) ∙ idle)

  pub said_asks : Says (accepts now modem m c chosen lease).word → asks m ≡ true
  said_asks says =
      elim (is_discover m) as (λ b. Says (cond b (offers now modem m c chosen lease) (cond (is_request m) (acknowledges now modem m c chosen) (cond (is_decline m) (declines now chosen) (releases chosen)))).word → (b || is_request m) ≡ true) [
        | true ↦ λ s. refl
        | false ↦ elim (is_request m) as (λ b. Says (cond b (acknowledges now modem m c chosen) (cond (is_decline m) (declines now chosen) (releases chosen))).word → b ≡ true) [
          | true ↦ λ s. refl
          | false ↦ elim (is_decline m) as (λ b. Says (cond b (declines now chosen) (releases chosen)).word → false ≡ true) [
            | true ↦ λ s. absurd (no_refusal_other word.Declined s refl)
            | false ↦ λ s. absurd (no_refusal_other word.Released s refl)
          ]
        ]
      ] says
    where
      grants : DeviceWord → Bool
      grants word.Offer = true
      grants word.Ack = true
      grants w = false

      no_refusal_other : (w : DeviceWord) → Says w → grants w ≡ false → ⊥
      no_refusal_other w (inl e) idle = true≢false (sym (ap grants e) ∙ idle)
      no_refusal_other w (inr e) idle = true≢false (sym (ap grants e) ∙ idle)

  below : (subscriber : Subscriber) → c.subscriber ≡ Some subscriber → Says (device_step_for now modem m c chosen lease).word → c.others < subscriber.cpes
  unfolding device_step_for
  below subscriber is says =
      elim (refused_by (rules_for m c chosen)) as (λ o. refused_by (rules_for m c chosen) ≡ o → Says (unless_refused m c (accepts now modem m c chosen lease) o).word → c.others < subscriber.cpes) [
        | None ↦ λ none s.
            let u = unbroken m c chosen none in
            let asked : (true && is_full c) ≡ false = ap (λ b. b && is_full c) (sym (said_asks s)) ∙ u.limit in
            let room : leb subscriber.cpes c.others ≡ false = ap (passes (λ (x : Subscriber). nat_le x.cpes c.others)) (sym is) ∙ asked in
            leb-false subscriber.cpes c.others room
        | Some w ↦ λ broken s. absurd (no_refusal w (refusals m c chosen w broken) s)
      ] refl says

pub limit_holds : LimitHolds
unfolding step_behind device_case
limit_holds t now m modem subscriber one says is =
    let c = device_case t now m modem in
    let chosen = chosen_in t now m c in
    let u = after_step t now m modem in
    let room : others_among now modem (client m) (devices t) < subscriber.cpes = below now modem m c chosen (option_and_then (device_in t) chosen) subscriber is says in
    let others = others_dont_grow t now m modem in
    let own = one_mine now modem (client m) u (one_address_stays t now m modem one) in
    let all = split now modem (client m) (devices u) in
    omega (arith, room, others, own, all)
