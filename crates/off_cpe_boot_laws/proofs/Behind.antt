-- Who is behind which modem, in the words of the message and of the tables, is whom the definitions take for it.
use Rattle.std.proofs.Common.{◌≡◌, ◌≢◌, ◌⊎◌, inl, inr, ℕ, true, false, cond, not, ◌&&◌, ◌||◌, eqb, length, List, Option, Some, None, is_some, is_err, option_map, option_and_then, Result, Ok, Err, refl, sym, ap, ◌∙◌}
use Rattle.std.proofs.lemmas.Bool.{and_parts, and_from, or_cases, or_left, or_right, eqb-true, eq-eqb, false_from_ne_true}
use Rattle.std.proofs.lemmas.Slice.Eq.{bytes_eq-Decides}
use Rattle.std.specs.Str.{bytes_eq}
use Rattle.off_base.specs.declared.macs.Mac.{Mac}
use Rattle.off_base.specs.Parts.{Part}
use Rattle.off_defs.specs.declared.tables.Modem.{Modem}
use Rattle.off_defs.specs.declared.tables.DeviceLease.{DeviceLease}
use Rattle.off_defs.specs.State.{Tables}
use Rattle.off_dhcp.specs.Datagram.{Received, mac_of_client}
use Rattle.off_account_rules.specs.Rows.{modem_in, device_in}
use Rattle.off_account_rules.specs.Good.{is_mac, device_owner}
use Rattle.off_account_rules.proofs.OwnerLemmas.{mac_same, mac_own}
use Rattle.off_table_laws.proofs.TableLaws.{device_owned}
use Rattle.off_asking.specs.Asking.{ip, mac, client, is_request, is_release, relay_parts, value_in, remote_identifier, relayed, six_bytes}
use Rattle.off_asking.specs.Choice.{provided}
use Rattle.off_cpe_rules.specs.Behind.{is_another, named_modem, modem_for, recorded_modem, modem_by, modem_behind}
use Rattle.off_cpe_boot_laws.specs.Known.{IsNamed, IsRecorded, IsBehind, WhoIsBehind}

-- what gives a value could be read
whole_by : (parts : Result (List Part) ℕ) (value : List ℕ) → value_in 2 parts ≡ Some value → is_err parts ≡ false
whole_by (Ok parts) value e = refl
whole_by (Err place) value e = cc

module _ (t : Tables) (m : Received) (modem : Mac) where
  -- ---- the relay names it

  another : client m ≢ modem → is_another m modem ≡ true
  another apart =
      ap not (false_from_ne_true (bytes_eq modem.0 (mac_of_client m)) (λ e.
      let same : modem.0 ≡ mac_of_client m = (bytes_eq-Decides modem.0 (mac_of_client m)).0 e in
      apart (sym (ap mac same))))

  there : (o : Option Modem) (row : Modem) → o ≡ Some row → is_some o ≡ true
  there o row e = ap is_some e

  named_behind : IsNamed t m modem → modem_behind t m ≡ Some modem
  unfolding modem_behind
  named_behind n =
      ap (λ b. cond b None (modem_by t m (relayed m))) (whole_by (relay_parts m) modem.0 n.says)
      ∙ ap (λ (o : Option (List ℕ)). modem_by t m (six_bytes o)) n.says
      ∙ ap (λ b. modem_by t m (cond b (Some modem) None)) (eq-eqb (length modem.0) 6 n.six)
      ∙ ap (λ b. cond b (Some modem) None) (and_from (is_another m modem) (is_some (modem_in t modem)) (another n.apart) (there (modem_in t modem) n.row n.row_is))

  -- ---- no relay names it, and it renews or releases

  unnamed_by : (o : Option (List ℕ)) → ((value : List ℕ) → o ≡ Some value → length value ≢ 6) → six_bytes o ≡ None
  unnamed_by None other = refl
  unnamed_by (Some value) other =
      ap (λ b. cond b (Some (mac value)) None) (false_from_ne_true (eqb (length value) 6) (λ e. other value refl (eqb-true (length value) 6 e)))

  its_kind : (m.kind ≡ 3) ⊎ (m.kind ≡ 7) → (is_request m || is_release m) ≡ true
  its_kind (inl e) = or_left (is_request m) (is_release m) (eq-eqb m.kind 3 e)
  its_kind (inr e) = or_right (is_request m) (is_release m) (eq-eqb m.kind 7 e)

  lease_names : (o : Option DeviceLease) → option_and_then (λ (lease : DeviceLease). device_owner lease.hold) o ≡ Some (modem, client m)
      → option_and_then (modem_for (client m)) o ≡ Some modem
  lease_names o own =
      let found = device_owned o (modem, client m) own in
      ap (option_and_then (modem_for (client m))) found.1
      ∙ ap (λ (w : Option (Mac × Mac)). option_map (λ (owner : Mac × Mac). owner.0) (provided (λ (owner : Mac × Mac). is_mac (client m) owner.1) w)) found.2
      ∙ ap (λ b. option_map (λ (owner : Mac × Mac). owner.0) (cond b (Some (modem, client m)) None)) (mac_own (client m))

  recorded_behind : IsRecorded t m modem → modem_behind t m ≡ Some modem
  unfolding modem_behind
  recorded_behind r =
      ap (λ b. cond b None (modem_by t m (relayed m))) r.whole
      ∙ ap (modem_by t m) (unnamed_by (remote_identifier m) r.unnamed)
      ∙ ap (λ b. cond b (option_and_then (modem_for (client m)) (device_in t (ip m.ciaddr))) None) (its_kind r.kind)
      ∙ lease_names (device_in t (ip m.ciaddr)) r.own

  pub is_behind : IsBehind t m modem → modem_behind t m ≡ Some modem
  is_behind (inl named) = named_behind named
  is_behind (inr recorded) = recorded_behind recorded

  -- ---- and the other way round

  given : (o : Option Modem) → is_some o ≡ true → (row : Modem) × (o ≡ Some row)
  given None e = cc
  given (Some row) e = (row, refl)

  apart_from : (value : List ℕ) → not (bytes_eq value (mac_of_client m)) ≡ true → mac value ≡ modem → client m ≢ modem
  apart_from value other same e =
      let bytes : value ≡ mac_of_client m = ap (λ (w : Mac). w.0) (same ∙ sym e) in
      let equal : bytes_eq value (mac_of_client m) ≡ true = (bytes_eq-Decides value (mac_of_client m)).1 bytes in
      let clash : false ≡ true = sym (ap not equal) ∙ other in
      cc

  by_name : (value : List ℕ) → remote_identifier m ≡ Some value → length value ≡ 6 → named_modem t m (mac value) ≡ Some modem → IsNamed t m modem
  by_name value says six e =
      elim (is_another m (mac value) && is_some (modem_in t (mac value))) as (λ b. (is_another m (mac value) && is_some (modem_in t (mac value))) ≡ b → cond b (Some (mac value)) None ≡ Some modem → IsNamed t m modem) [
        | true ↦ λ h f.
            let parts = and_parts (is_another m (mac value)) (is_some (modem_in t (mac value))) h in
            let same : mac value ≡ modem = cc in
            let row = given (modem_in t modem) (ap (λ (w : Mac). is_some (modem_in t w)) (sym same) ∙ parts.1) in
            record {
              row = row.0;
              row_is = row.1;
              says = says ∙ ap (λ (w : Mac). Some w.0) same;
              six = ap (λ (w : Mac). length w.0) (sym same) ∙ six;
              apart = apart_from value parts.0 same;
            }
        | false ↦ λ h f. cc
      ] refl e

  kind_of_both : (is_request m || is_release m) ≡ true → (m.kind ≡ 3) ⊎ (m.kind ≡ 7)
  kind_of_both h =
      elim (or_cases (is_request m) (is_release m) h) as (λ c. (m.kind ≡ 3) ⊎ (m.kind ≡ 7)) [
        | inl e ↦ inl (eqb-true m.kind 3 e)
        | inr e ↦ inr (eqb-true m.kind 7 e)
      ]

  by_owner : (o : Option (Mac × Mac)) → option_map (λ (owner : Mac × Mac). owner.0) (provided (λ (owner : Mac × Mac). is_mac (client m) owner.1) o) ≡ Some modem
      → o ≡ Some (modem, client m)
  by_owner None e = cc
  by_owner (Some owner) e =
      elim (is_mac (client m) owner.1) as (λ b. is_mac (client m) owner.1 ≡ b → option_map (λ (w : Mac × Mac). w.0) (cond b (Some owner) None) ≡ Some modem → Some owner ≡ Some (modem, client m)) [
        | true ↦ λ h f.
            let first : owner.0 ≡ modem = cc in
            let second : owner.1 ≡ client m = sym (mac_same (client m) owner.1 h) in
            λ i. Some (first i, second i)
        | false ↦ λ h f. cc
      ] refl e

  by_lease : (o : Option DeviceLease) → option_and_then (modem_for (client m)) o ≡ Some modem
      → option_and_then (λ (lease : DeviceLease). device_owner lease.hold) o ≡ Some (modem, client m)
  by_lease None e = cc
  by_lease (Some lease) e = by_owner (device_owner lease.hold) e

  by_record : is_err (relay_parts m) ≡ false → ((value : List ℕ) → remote_identifier m ≡ Some value → length value ≢ 6) → recorded_modem t m ≡ Some modem → IsRecorded t m modem
  by_record whole unnamed e =
      elim (is_request m || is_release m) as (λ b. (is_request m || is_release m) ≡ b → cond b (option_and_then (modem_for (client m)) (device_in t (ip m.ciaddr))) None ≡ Some modem → IsRecorded t m modem) [
        | true ↦ λ h f. record { whole = whole; unnamed = unnamed; kind = kind_of_both h; own = by_lease (device_in t (ip m.ciaddr)) f }
        | false ↦ λ h f. cc
      ] refl e

  none_value : (o : Option (List ℕ)) (value : List ℕ) → o ≡ None → o ≡ Some value → ⊥
  none_value o value e f = let both : ◌≡◌ {A = Option (List ℕ)} None (Some value) = sym e ∙ f in cc

  one_value : (o : Option (List ℕ)) (one other : List ℕ) → o ≡ Some one → o ≡ Some other → one ≡ other
  one_value o one other e f = let both : ◌≡◌ {A = Option (List ℕ)} (Some one) (Some other) = sym e ∙ f in cc

  by_remote : is_err (relay_parts m) ≡ false → (o : Option (List ℕ)) → remote_identifier m ≡ o → modem_by t m (six_bytes o) ≡ Some modem → IsBehind t m modem
  by_remote whole None is e = inr (by_record whole (λ value f. absurd (none_value (remote_identifier m) value is f)) e)
  by_remote whole (Some value) is e =
      elim (eqb (length value) 6) as (λ b. eqb (length value) 6 ≡ b → modem_by t m (cond b (Some (mac value)) None) ≡ Some modem → IsBehind t m modem) [
        | true ↦ λ h f. inl (by_name value is (eqb-true (length value) 6 h) f)
        | false ↦ λ h f.
            inr (by_record whole (λ other g six.
            let same : value ≡ other = one_value (remote_identifier m) value other is g in
            let long : eqb (length value) 6 ≡ true = eq-eqb (length value) 6 (ap (λ (v : List ℕ). length v) same ∙ six) in
            let clash : false ≡ true = sym h ∙ long in
            cc) f)
      ] refl e

  pub behind_is : modem_behind t m ≡ Some modem → IsBehind t m modem
  unfolding modem_behind
  behind_is e =
      elim (is_err (relay_parts m)) as (λ b. is_err (relay_parts m) ≡ b → cond b None (modem_by t m (relayed m)) ≡ Some modem → IsBehind t m modem) [
        | true ↦ λ h f. cc
        | false ↦ λ h f. by_remote h (remote_identifier m) refl f
      ] refl e

pub who_is_behind : WhoIsBehind
who_is_behind t m modem = (behind_is t m modem, is_behind t m modem)
