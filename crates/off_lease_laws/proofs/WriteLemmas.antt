-- What each of the four lists of writes leaves of the rows of leases and of their holders.
use Rattle.std.proofs.Common.{◌≡◌, Bool, false, cond, Option, Some, None, option_and_then, [], ◌∷◌, ◌++◌, List, refl, ap, ◌∙◌}
use Rattle.std.proofs.lemmas.Bool.{false_from_ne_true}
use Rattle.std.specs.Ordering.{eq_by_cmp}
use Rattle.off_base.specs.declared.addresses.Ip4.{Ip4}
use Rattle.off_base.specs.declared.macs.Mac.{Mac}
use Rattle.off_defs.specs.declared.keys.Key.TheVariants as key
use Rattle.off_defs.specs.declared.tables.Row.{Row}
use Rattle.off_defs.specs.declared.tables.Lease.{Lease}
use Rattle.off_defs.specs.declared.writes.Write.{Write}
use Rattle.off_defs.specs.declared.writes.Write.TheVariants.{Put}
use Rattle.off_defs.specs.Keys.{key_cmp}
use Rattle.off_defs.specs.State.{Tables}
use Rattle.off_defs.specs.Tables.{row_at, write_all}
use Rattle.off_defs.proofs.TableLemmas.{same_key}
use Rattle.off_account_rules.specs.Rows.{possible, as_lease, as_held, lease_in, held_in}
use Rattle.off_account_rules.specs.Changes.{held_drop}
use Rattle.off_table_laws.proofs.Rows.{Rows, rows_after, all_written}
use Rattle.off_lease_rules.specs.Steps.{lease_drop}

abbrev pub lease_read : Ip4 → Option Row → Option Lease
lease_read address o = option_and_then as_lease (possible (key.Lease address) o)

abbrev pub held_read : Mac → Option Row → Option Ip4
held_read mac o = option_and_then as_held (possible (key.Held mac) o)

pub lease_after : (t : Tables) (writes : List Write) (address : Ip4) (o : Option Row) → rows_after (row_at t) writes (key.Lease address) ≡ o
    → lease_in (write_all t writes) address ≡ lease_read address o
lease_after t writes address o e = ap (λ (rows : Rows). lease_read address (rows (key.Lease address))) (all_written t writes) ∙ ap (lease_read address) e

pub held_after : (t : Tables) (writes : List Write) (mac : Mac) (o : Option Row) → rows_after (row_at t) writes (key.Held mac) ≡ o
    → held_in (write_all t writes) mac ≡ held_read mac o
held_after t writes mac o e = ap (λ (rows : Rows). held_read mac (rows (key.Held mac))) (all_written t writes) ∙ ap (held_read mac) e

-- the tests of keys
abbrev pub is_ip : Ip4 → Ip4 → Bool
is_ip address other = eq_by_cmp key_cmp (key.Lease other) (key.Lease address)

abbrev pub is_client : Mac → Mac → Bool
is_client mac other = eq_by_cmp key_cmp (key.Held other) (key.Held mac)

pub other_ip : (address other : Ip4) → (other ≡ address → ⊥) → is_ip address other ≡ false
other_ip address other apart =
    false_from_ne_true (is_ip address other) (λ e. apart (let k = same_key (key.Lease other) (key.Lease address) e in cc))

pub other_client : (mac other : Mac) → (other ≡ mac → ⊥) → is_client mac other ≡ false
other_client mac other apart =
    false_from_ne_true (is_client mac other) (λ e. apart (let k = same_key (key.Held other) (key.Held mac) e in cc))

abbrev pub is_some_ip : Option Ip4 → Ip4 → Bool
is_some_ip None other = false
is_some_ip (Some address) other = is_ip address other

abbrev pub is_some_client : Option Mac → Mac → Bool
is_some_client None other = false
is_some_client (Some mac) other = is_client mac other

pub not_some_ip : (o : Option Ip4) (other : Ip4) → (o ≡ Some other → ⊥) → is_some_ip o other ≡ false
not_some_ip None other apart = refl
not_some_ip (Some address) other apart = other_ip address other (λ same. apart (ap Some (let s : address ≡ other = cc in s)))

pub not_some_client : (o : Option Mac) (other : Mac) → (o ≡ Some other → ⊥) → is_some_client o other ≡ false
not_some_client None other apart = refl
not_some_client (Some mac) other apart = other_client mac other (λ same. apart (ap Some (let s : mac ≡ other = cc in s)))

-- the writes of an offer, whatever the client held and whoever owned the lease
abbrev pub offer_writes : Option Ip4 → Option Mac → Ip4 → Row → Mac → Row → List Write
offer_writes held owner address lease mac holder = lease_drop held ++ held_drop owner ++ Put (key.Lease address) lease ∷ Put (key.Held mac) holder ∷ []

pub offer_lease : (rows : Rows) (held : Option Ip4) (owner : Option Mac) (address : Ip4) (lease : Row) (mac : Mac) (holder : Row) (other : Ip4)
    → rows_after rows (offer_writes held owner address lease mac holder) (key.Lease other)
    ≡ cond (is_ip address other) (Some lease) (cond (is_some_ip held other) None (rows (key.Lease other)))
offer_lease rows None None address lease mac holder other = refl
offer_lease rows None (Some owner) address lease mac holder other = refl
offer_lease rows (Some held) None address lease mac holder other = refl
offer_lease rows (Some held) (Some owner) address lease mac holder other = refl

pub offer_held : (rows : Rows) (held : Option Ip4) (owner : Option Mac) (address : Ip4) (lease : Row) (mac : Mac) (holder : Row) (other : Mac)
    → rows_after rows (offer_writes held owner address lease mac holder) (key.Held other)
    ≡ cond (is_client mac other) (Some holder) (cond (is_some_client owner other) None (rows (key.Held other)))
offer_held rows None None address lease mac holder other = refl
offer_held rows None (Some owner) address lease mac holder other = refl
offer_held rows (Some held) None address lease mac holder other = refl
offer_held rows (Some held) (Some owner) address lease mac holder other = refl
