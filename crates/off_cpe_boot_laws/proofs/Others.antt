-- The count of other devices' live leases is below a number where every list of such addresses is shorter.
use Rattle.std.proofs.Common.{◌≡◌, ◌≢◌, ◌<◌, ℕ, ◌+◌, Bool, true, false, cond, not, ◌&&◌, length, Option, Some, None, List, [], ◌∷◌, inl, inr, refl, sym, ap, subst, ◌∙◌, arith}
use Rattle.std.proofs.lemmas.Bool.{and_parts, not-true, ltb-true}
use Rattle.std.specs.List.{AllByRecursion, count_by}
use Rattle.off_base.specs.declared.addresses.Ip4.{Ip4}
use Rattle.off_base.specs.declared.macs.Mac.{Mac}
use Rattle.off_defs.specs.declared.tables.DeviceLease.{DeviceLease}
use Rattle.off_defs.specs.State.{Tables}
use Rattle.off_account_rules.specs.Rows.{passes, device_in, devices}
use Rattle.off_account_rules.specs.Good.{is_mac, is_same_owner, device_owner}
use Rattle.off_table_laws.proofs.ListLemmas.{In, Distinct, count_first}
use Rattle.off_account_rules.proofs.OwnerLemmas.{mac_same, owner_own}
use Rattle.off_cpe_rules.specs.Behind.{is_live, is_owned, is_behind, is_other, others_among}
use Rattle.off_cpe_laws.proofs.RowLemmas.{distinct_devices, listed_device}
use Rattle.off_cpe_boot_laws.specs.Known.{IsOfAnother, Differ, AreFewOthers}

-- ---- the addresses of entries that count

module _ {X : Type 0} (p : Ip4 × X → Bool) where
  addresses_of : List (Ip4 × X) → List Ip4
  addresses_of [] = []
  addresses_of (e ∷ es) = cond (p e) (e.0 ∷ addresses_of es) (addresses_of es)

  as_many : (es : List (Ip4 × X)) → length (addresses_of es) ≡ count_by p es
  unfolding addresses_of
  as_many [] = refl
  as_many (e ∷ es) =
      elim (p e) as (λ b. length (cond b (e.0 ∷ addresses_of es) (addresses_of es)) ≡ cond b 1 0 + count_by p es) [
        | true ↦ omega (arith, as_many es)
        | false ↦ omega (arith, as_many es)
      ] ∙ sym (count_first p e es)

  each : (P : Ip4 → Type 0) (es : List (Ip4 × X)) → ((e : Ip4 × X) → In e es → p e ≡ true → P e.0) → AllByRecursion P (addresses_of es)
  unfolding addresses_of
  each P [] h = tt
  each P (e ∷ es) h =
      elim (p e) as (λ b. p e ≡ b → AllByRecursion P (cond b (e.0 ∷ addresses_of es) (addresses_of es))) [
        | true ↦ λ t. (h e (inl refl) t, each P es (λ x i. h x (inr i)))
        | false ↦ λ t. each P es (λ x i. h x (inr i))
      ] refl

  differ : (es : List (Ip4 × X)) → Distinct es → ((a b : Ip4 × X) → In a es → In b es → a.0 ≡ b.0 → a ≡ b) → Differ (addresses_of es)
  unfolding addresses_of
  differ [] d one = tt
  differ (e ∷ es) d one =
      let rest = differ es d.1 (λ a b i j. one a b (inr i) (inr j)) in
      elim (p e) as (λ b. Differ (cond b (e.0 ∷ addresses_of es) (addresses_of es))) [
        | true ↦ (each (λ other. e.0 ≢ other) es (λ x i t same. d.0 (subst (λ (w : Ip4 × X). In w es) (sym (one e x (inl refl) (inr i) same)) i)), rest)
        | false ↦ rest
      ]

-- ---- the leases of devices

module _ (t : Tables) (now : ℕ) (modem device : Mac) where
  abbrev other : Ip4 × DeviceLease → Bool
  other e = is_other now modem device e.1

  one_lease : (a b : Ip4 × DeviceLease) → In a (devices t) → In b (devices t) → a.0 ≡ b.0 → a ≡ b
  one_lease a b i j same =
      let rows : Some a.1 ≡ Some b.1 = sym (listed_device t a.0 a.1 i) ∙ ap (device_in t) same ∙ listed_device t b.0 b.1 j in
      let lease : a.1 ≡ b.1 = cc in
      λ k. (same k, lease k)

  -- an entry that counts is another's
  anothers : (address : Ip4) (lease : DeviceLease) → device_in t address ≡ Some lease → (o : Option (Mac × Mac)) → device_owner lease.hold ≡ o
      → passes (λ (w : Mac × Mac). is_mac modem w.0) o ≡ true → passes (is_same_owner (modem, device)) o ≡ false → is_live now lease ≡ true
      → IsOfAnother t now modem device address
  anothers address lease is None own behind apart live = cc
  anothers address lease is (Some w) own behind apart live =
      let first : modem ≡ w.0 = mac_same modem w.0 behind in
      record {
        other = w.1;
        lease = lease;
        lease_is = is;
        owned = own ∙ (λ i. Some (sym first i, w.1));
        apart = λ same.
            let both : (modem, device) ≡ w = λ i. (first i, sym same i) in
            let owned : is_same_owner (modem, device) w ≡ true = ap (is_same_owner (modem, device)) (sym both) ∙ owner_own (modem, device) in
            let clash : true ≡ false = sym owned ∙ apart in
            cc;
        live = ltb-true now lease.expiry.0 live;
      }

  each_anothers : (e : Ip4 × DeviceLease) → In e (devices t) → other e ≡ true → IsOfAnother t now modem device e.0
  each_anothers e i h =
      let parts = and_parts (is_behind modem e.1) (not (is_owned modem device e.1) && is_live now e.1) h in
      let more = and_parts (not (is_owned modem device e.1)) (is_live now e.1) parts.1 in
      anothers e.0 e.1 (listed_device t e.0 e.1 i) (device_owner e.1.hold) refl parts.0 (not-true (is_owned modem device e.1) more.0) more.1

  pub others_are_few : (most : ℕ) → AreFewOthers t now modem device most → others_among now modem device (devices t) < most
  others_are_few most few =
      subst (λ (n : ℕ). n < most) (as_many other (devices t))
      (few (addresses_of other (devices t)) (differ other (devices t) (distinct_devices t) one_lease) (each other (IsOfAnother t now modem device) (devices t) each_anothers))
