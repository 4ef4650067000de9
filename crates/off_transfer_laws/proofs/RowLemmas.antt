-- Tables with the same rows for an address have the same view.
use Rattle.std.proofs.Common.{◌≡◌, ℕ, List, Option, Some, None, option_map, option_and_then, refl, ap, ◌∙◌}
use Rattle.std.specs.List.{filter_map}
use Rattle.off_base.specs.Tree.{Tree}
use Rattle.off_base.specs.declared.addresses.Ip4.{Ip4}
use Rattle.off_base.specs.declared.macs.Mac.{Mac}
use Rattle.off_defs.specs.Bounds.{add_on_numbers}
use Rattle.off_defs.specs.declared.tables.Class.{Class}
use Rattle.off_defs.specs.declared.tables.Subscriber.{Subscriber}
use Rattle.off_defs.specs.declared.tables.Modem.{Modem}
use Rattle.off_defs.specs.State.{Tables}
use Rattle.off_account_rules.specs.Rows.{modem_in, lease_in}
use Rattle.off_file_rules.specs.Profile.{profile_of, add_ons_in, profile_at, profile_in}
use Rattle.off_transfer_rules.specs.View.{owner_by, view}
use Rattle.off_transfer_laws.specs.SameRows.{SameForModem, SameRows, RowsDecide}
use Rattle.off_transfer_laws.proofs.StepLaws.{views_decide}

same_then : {A B : Type 0} (f g : A → Option B) (o : Option A) → ((a : A) → o ≡ Some a → f a ≡ g a) → option_and_then f o ≡ option_and_then g o
same_then f g None same = refl
same_then f g (Some a) same = same a refl

same_add_ons : (t u : Tables) (modem : Modem) → SameForModem t u modem → add_ons_in t modem.subscriber ≡ add_ons_in u modem.subscriber
same_add_ons t u modem same = λ i. filter_map (λ (k : ℕ). option_map (λ (settings : List Tree). (k, settings)) (same.add_ons k i)) add_on_numbers

same_profile_at : (t u : Tables) (modem : Modem) → SameForModem t u modem → profile_at t modem.subscriber modem.class ≡ profile_at u modem.subscriber modem.class
same_profile_at t u modem same = λ i.
    option_and_then (λ (who : Subscriber). option_map (λ (c : Class). profile_of who.active who.cpes c.settings (same_add_ons t u modem same i)) (same.classes i)) (same.subscribers i)

same_profile : (t u : Tables) (mac : Mac) → modem_in t mac ≡ modem_in u mac → ((modem : Modem) → modem_in t mac ≡ Some modem → SameForModem t u modem) → profile_in t mac ≡ profile_in u mac
unfolding profile_in
same_profile t u mac modems same =
    same_then (λ (m : Modem). profile_at t m.subscriber m.class) (λ (m : Modem). profile_at u m.subscriber m.class) (modem_in t mac) (λ modem is. same_profile_at t u modem (same modem is))
    ∙ ap (option_and_then (λ (m : Modem). profile_at u m.subscriber m.class)) modems

pub same_view : (t u : Tables) (ip : Ip4) → SameRows t u ip → view t ip ≡ view u ip
unfolding view
same_view t u ip same =
    let owners : owner_by (lease_in t ip) ≡ owner_by (lease_in u ip) = ap owner_by same.leases in
    let modems : option_and_then (modem_in t) (owner_by (lease_in t ip)) ≡ option_and_then (modem_in u) (owner_by (lease_in u ip)) =
    same_then (modem_in t) (modem_in u) (owner_by (lease_in t ip)) same.modems ∙ ap (option_and_then (modem_in u)) owners in
    let profiles : option_and_then (profile_in t) (owner_by (lease_in t ip)) ≡ option_and_then (profile_in u) (owner_by (lease_in u ip)) =
    same_then (profile_in t) (profile_in u) (owner_by (lease_in t ip)) (λ mac is. same_profile t u mac (same.modems mac is) (λ modem has. same.others mac modem is has))
    ∙ ap (option_and_then (profile_in u)) owners in
    λ i. record { site = same.sites i; lease = same.leases i; modem = modems i; profile = profiles i }

pub rows_decide : RowsDecide
rows_decide t u xs d given same step = views_decide t u xs d given (same_view t u d.from.ip same) step
