-- A modem's own message is no device's: its relay names the modem itself, or nobody by six bytes, and the address that it renews is none of a device's.
use Rattle.std.proofs.Common.{◌≡◌, ℕ, true, false, cond, not, ◌&&◌, ◌||◌, eqb, length, List, Option, Some, None, is_some, is_err, option_and_then, refl, sym, ap, subst, ◌∙◌}
use Rattle.std.proofs.lemmas.Bool.{eqb-true}
use Rattle.std.proofs.lemmas.Slice.Eq.{bytes_eq-Decides}
use Rattle.off_base.specs.declared.addresses.Ip4.{Ip4}
use Rattle.off_base.specs.declared.macs.Mac.{Mac}
use Rattle.off_defs.specs.declared.tables.DeviceLease.{DeviceLease}
use Rattle.off_defs.specs.State.{Tables, State}
use Rattle.off_dhcp.specs.Datagram.{Received, mac_of_client}
use Rattle.off_account_rules.specs.Rows.{modem_in, device_in, has_address}
use Rattle.off_account_rules.specs.Good.{Good}
use Rattle.off_table_laws.proofs.TableLaws.{pools_have_no_devices}
use Rattle.off_asking.specs.Asking.{ip, mac, client, claimed, at_address, named_address, named_server, form_by, asked_by, relay_parts, remote_identifier, relayed, six_bytes}
use Rattle.off_asking.specs.declared.forms.Named.{Named}
use Rattle.off_asking.specs.declared.forms.Named.TheVariants.{Absent, Malformed, At}
use Rattle.off_cpe_rules.specs.Behind.{modem_for, recorded_modem, modem_by, modem_behind}
use Rattle.off_book.specs.Run.{Turn}
use Rattle.off_boot_laws.specs.Known.{NamesNoOther}
use Rattle.off_boot_laws.specs.Stages.{Discovers, Requests}

module _ (t : Tables) (m : Received) where
  -- the relay's word
  named_by_relay : (value : List ℕ) → value ≡ mac_of_client m → modem_by t m (Some (mac value)) ≡ None
  named_by_relay value own =
      ap (λ b. cond (not b && is_some (modem_in t (mac value))) (Some (mac value)) None) ((bytes_eq-Decides value (mac_of_client m)).1 own)

  by_relay : (o : Option (List ℕ)) → NamesNoOther (mac_of_client m) o → (six_bytes o ≡ None → recorded_modem t m ≡ None) → modem_by t m (six_bytes o) ≡ None
  by_relay None own none = none refl
  by_relay (Some value) own none =
      elim (eqb (length value) 6) as (λ b. eqb (length value) 6 ≡ b → (cond b (Some (mac value)) None ≡ None → recorded_modem t m ≡ None) → modem_by t m (cond b (Some (mac value)) None) ≡ None) [
        | true ↦ λ six f. named_by_relay value (own (eqb-true (length value) 6 six))
        | false ↦ λ other f. f refl
      ] refl none

  own_message : NamesNoOther (mac_of_client m) (remote_identifier m) → (relayed m ≡ None → recorded_modem t m ≡ None) → modem_behind t m ≡ None
  unfolding modem_behind
  own_message own none =
      elim (is_err (relay_parts m)) as (λ b. cond b None (modem_by t m (relayed m)) ≡ None) [
        | true ↦ refl
        | false ↦ by_relay (remote_identifier m) own none
      ]

  abbrev Recorded : ℕ → Option Mac
  Recorded kind = cond (eqb kind 3 || eqb kind 7) (option_and_then (modem_for (client m)) (device_in t (ip m.ciaddr))) None

  -- a REQUEST that has no form claims nothing, and one that renews the address that it has
  renewed : (address ciaddr : Ip4) (named server : Named) → asked_by (form_by named server false ciaddr) ≡ Some address → ciaddr ≡ address
  renewed address ciaddr Absent Absent e = cc
  renewed address ciaddr Absent Malformed e = cc
  renewed address ciaddr Absent (At s) e = cc
  renewed address ciaddr Malformed Absent e = cc
  renewed address ciaddr Malformed Malformed e = cc
  renewed address ciaddr Malformed (At s) e = cc
  renewed address ciaddr (At a) Absent e = cc
  renewed address ciaddr (At a) Malformed e = cc
  renewed address ciaddr (At a) (At s) e = cc

  claimed_by : m.kind ≡ 3 → claimed m ≡ asked_by (form_by (named_address m) (named_server m) (eqb m.ciaddr 0) (ip m.ciaddr))
  claimed_by kind =
      ap (λ k. cond (eqb k 3) (asked_by (form_by (named_address m) (named_server m) (eqb m.ciaddr 0) (ip m.ciaddr))) (cond (eqb k 4) (at_address (named_address m)) (Some (ip m.ciaddr)))) kind

pub discover_own : (s : State) (turn : Turn) (m : Received) → Discovers s m turn → modem_behind s.tables m ≡ None
discover_own s turn m d = own_message s.tables m d.known.remote (λ _. ap (Recorded s.tables m) d.kind)

-- so it has no device's lease of the address that a REQUEST gives as its own
module _ (s : State) (turn : Turn) (m : Received) (address : Ip4) (good : Good s.tables) (r : Requests s m turn address) where
  abbrev modem_at : ℕ → Option Mac
  modem_at n = option_and_then (modem_for (client m)) (device_in s.tables (ip n))

  none_at : (o : Option DeviceLease) → ((lease : DeviceLease) → o ≡ Some lease → modem_for (client m) lease ≡ None) → option_and_then (modem_for (client m)) o ≡ None
  none_at None others = refl
  none_at (Some lease) others = others lease refl

  no_device_has : relayed m ≡ None → modem_at m.ciaddr ≡ None
  no_device_has unnamed =
      elim (eqb m.ciaddr 0) as (λ b. eqb m.ciaddr 0 ≡ b → modem_at m.ciaddr ≡ None) [
        | true ↦ λ e. let zero : m.ciaddr ≡ 0 = eqb-true m.ciaddr 0 e in ap modem_at zero ∙ none_at (device_in s.tables (ip 0)) (r.unset unnamed zero)
        | false ↦ λ e.
            let claim : asked_by (form_by (named_address m) (named_server m) false (ip m.ciaddr)) ≡ Some address =
            sym (claimed_by s.tables m r.kind ∙ ap (λ b. asked_by (form_by (named_address m) (named_server m) b (ip m.ciaddr))) e) ∙ r.claim in
            let same : ip m.ciaddr ≡ address = renewed s.tables m address (ip m.ciaddr) (named_address m) (named_server m) claim in
            ap (option_and_then (modem_for (client m))) (pools_have_no_devices s.tables good (ip m.ciaddr) r.known.number r.known.pool r.known.pool_is
            (subst (λ (a : Ip4). has_address r.known.pool a ≡ true) (sym same) r.within))
      ] refl

  pub request_own : modem_behind s.tables m ≡ None
  request_own =
      own_message s.tables m r.known.remote (λ unnamed.
      ap (Recorded s.tables m) r.kind ∙ no_device_has unnamed)
