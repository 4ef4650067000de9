-- A message writes leases and their holders alone, so that all other rows stay, and so do all
-- counts.
use Rattle.std.proofs.Common.{◌≡◌, ℕ, Bool, true, false, cond, Option, Some, None, [], ◌∷◌, List, refl, sym, ap, subst, ◌∙◌}
use Rattle.std.proofs.lemmas.Bool.{and_parts}
use Rattle.std.specs.List.{list_all}
use Rattle.std.specs.Ordering.{eq_by_cmp}
use Rattle.off_base.specs.declared.addresses.Ip4.{Ip4}
use Rattle.off_base.specs.declared.macs.Mac.{Mac}
use Rattle.off_defs.specs.declared.keys.Key.{Key}
use Rattle.off_defs.specs.declared.keys.Key.TheVariants as key
use Rattle.off_defs.specs.declared.tables.Row.TheVariants as row
use Rattle.off_defs.specs.declared.tables.Lease.{Lease}
use Rattle.off_defs.specs.declared.writes.Write.{Write}
use Rattle.off_defs.specs.declared.writes.Write.TheVariants.{Put, Drop}
use Rattle.off_defs.specs.Keys.{key_cmp}
use Rattle.off_defs.specs.Kinds.{kind_of}
use Rattle.off_defs.specs.State.{Tables}
use Rattle.off_defs.specs.Tables.{row_at, written, write_all}
use Rattle.off_dhcp.specs.Datagram.{Received}
use Rattle.off_account_rules.specs.Rows.{passes, counts_of, lease_in}
use Rattle.off_table_laws.proofs.Rows.{Rows, row_written, rows_after, all_written}
use Rattle.off_table_laws.proofs.GoodRows.{Possible}
use Rattle.off_table_laws.proofs.RowChanges.{possible_put, possible_drop}
use Rattle.off_table_laws.proofs.CountLemmas.{counts_with_other, counts_without_other}
use Rattle.off_asking.specs.Asking.{client}
use Rattle.off_lease_rules.specs.Steps.{lease_step}
use Rattle.off_account_rules.specs.Good.{is_live_bound}
use Rattle.off_lease_rules.specs.declared.results.LeaseStep.{LeaseStep}
use Rattle.off_lease_laws.specs.Outcomes.{Outcome, refusal, offering, binding, declining, releasing}
use Rattle.off_lease_laws.proofs.OutcomeLemmas.{outcome}
use Rattle.off_lease_laws.proofs.WriteLemmas.{offer_writes}

unfoldable pub is_lease_write : Write → Bool
is_lease_write (Put (key.Lease address) (row.Lease lease)) = true
is_lease_write (Put (key.Held mac) (row.Held address)) = true
is_lease_write (Drop (key.Lease address)) = true
is_lease_write (Drop (key.Held mac)) = true
is_lease_write write = false

-- keys of other kinds are other keys
apart_lease : (q : Key) (address : Ip4) → (kind_of q ≡ 7 → ⊥) → eq_by_cmp key_cmp q (key.Lease address) ≡ false
apart_lease (key.Lease other) address h = absurd (h refl)
apart_lease q address h = refl

apart_held : (q : Key) (mac : Mac) → (kind_of q ≡ 8 → ⊥) → eq_by_cmp key_cmp q (key.Held mac) ≡ false
apart_held (key.Held other) mac h = absurd (h refl)
apart_held q mac h = refl

one_other : (rows : Rows) (write : Write) → is_lease_write write ≡ true → (q : Key) → (kind_of q ≡ 7 → ⊥) → (kind_of q ≡ 8 → ⊥) → row_written rows write q ≡ rows q
unfolding is_lease_write
one_other rows (Put (key.Lease address) (row.Lease lease)) h q a b = ap (λ t. cond t (Some (row.Lease lease)) (rows q)) (apart_lease q address a)
one_other rows (Put (key.Held mac) (row.Held address)) h q a b = ap (λ t. cond t (Some (row.Held address)) (rows q)) (apart_held q mac b)
one_other rows (Drop (key.Lease address)) h q a b = ap (λ t. cond t None (rows q)) (apart_lease q address a)
one_other rows (Drop (key.Held mac)) h q a b = ap (λ t. cond t None (rows q)) (apart_held q mac b)
one_other rows write h q a b = cc

one_possible : (rows : Rows) (write : Write) → is_lease_write write ≡ true → Possible rows → Possible (row_written rows write)
unfolding is_lease_write
one_possible rows (Put (key.Lease address) (row.Lease lease)) h p = possible_put rows (key.Lease address) (row.Lease lease) p refl
one_possible rows (Put (key.Held mac) (row.Held address)) h p = possible_put rows (key.Held mac) (row.Held address) p refl
one_possible rows (Drop (key.Lease address)) h p = possible_drop rows (key.Lease address) p
one_possible rows (Drop (key.Held mac)) h p = possible_drop rows (key.Held mac) p
one_possible rows write h p = cc

one_count : (t : Tables) (write : Write) → is_lease_write write ≡ true → counts_of (written t write) ≡ counts_of t
unfolding is_lease_write
one_count t (Put (key.Lease address) (row.Lease lease)) h = counts_with_other (key.Lease address) (row.Lease lease) t (λ kind. refl)
one_count t (Put (key.Held mac) (row.Held address)) h = counts_with_other (key.Held mac) (row.Held address) t (λ kind. refl)
one_count t (Drop (key.Lease address)) h = counts_without_other (key.Lease address) t (λ kind. refl)
one_count t (Drop (key.Held mac)) h = counts_without_other (key.Held mac) t (λ kind. refl)
one_count t write h = cc

-- of several writes
all_other : (rows : Rows) (writes : List Write) → list_all is_lease_write writes ≡ true → (q : Key) → (kind_of q ≡ 7 → ⊥) → (kind_of q ≡ 8 → ⊥) → rows_after rows writes q ≡ rows q
all_other rows [] h q a b = refl
all_other rows (write ∷ writes) h q a b =
    let parts = and_parts (is_lease_write write) (list_all is_lease_write writes) h in
    all_other (row_written rows write) writes parts.1 q a b ∙ one_other rows write parts.0 q a b

all_possible : (rows : Rows) (writes : List Write) → list_all is_lease_write writes ≡ true → Possible rows → Possible (rows_after rows writes)
all_possible rows [] h p = p
all_possible rows (write ∷ writes) h p =
    let parts = and_parts (is_lease_write write) (list_all is_lease_write writes) h in
    all_possible (row_written rows write) writes parts.1 (one_possible rows write parts.0 p)

all_counts : (t : Tables) (writes : List Write) → list_all is_lease_write writes ≡ true → counts_of (write_all t writes) ≡ counts_of t
all_counts t [] h = refl
all_counts t (write ∷ writes) h =
    let parts = and_parts (is_lease_write write) (list_all is_lease_write writes) h in
    all_counts (written t write) writes parts.1 ∙ one_count t write parts.0

-- a message writes no others
offer_kinds : (held : Option Ip4) (owner : Option Mac) (address : Ip4) (lease : Lease) (mac : Mac)
    → list_all is_lease_write (offer_writes held owner address (row.Lease lease) mac (row.Held address)) ≡ true
unfolding is_lease_write
offer_kinds None None address lease mac = refl
offer_kinds None (Some owner) address lease mac = refl
offer_kinds (Some held) None address lease mac = refl
offer_kinds (Some held) (Some owner) address lease mac = refl

unless_live : (live : Bool) (writes : List Write) → list_all is_lease_write writes ≡ true → list_all is_lease_write (cond live [] writes) ≡ true
unless_live true writes h = refl
unless_live false writes h = h

module _ (t : Tables) (now : ℕ) (m : Received) where
  outcome_kinds : (step : LeaseStep) → Outcome t now m step → list_all is_lease_write step.writes ≡ true
  unfolding is_lease_write
  outcome_kinds step (refusal was) = ap (list_all is_lease_write) was.writes
  outcome_kinds step (offering was) = ap (list_all is_lease_write) was.writes ∙ unless_live (passes (is_live_bound now) (lease_in t was.address)) _ (offer_kinds _ _ was.address _ (client m))
  outcome_kinds step (binding was) = ap (list_all is_lease_write) was.writes
  outcome_kinds step (declining was) = ap (list_all is_lease_write) was.writes
  outcome_kinds step (releasing was) = ap (list_all is_lease_write) was.writes

  pub kinds : list_all is_lease_write (lease_step t now m).writes ≡ true
  kinds = outcome_kinds (lease_step t now m) (outcome t now m)

  pub others_stay : (q : Key) → (kind_of q ≡ 7 → ⊥) → (kind_of q ≡ 8 → ⊥) → row_at (write_all t (lease_step t now m).writes) q ≡ row_at t q
  others_stay q a b =
      ap (λ (rows : Rows). rows q) (all_written t (lease_step t now m).writes) ∙ all_other (row_at t) (lease_step t now m).writes kinds q a b

  pub stays_possible : Possible (row_at t) → Possible (row_at (write_all t (lease_step t now m).writes))
  stays_possible p = subst Possible (sym (all_written t (lease_step t now m).writes)) (all_possible (row_at t) (lease_step t now m).writes kinds p)

  pub counts_stay : counts_of (write_all t (lease_step t now m).writes) ≡ counts_of t
  counts_stay = all_counts t (lease_step t now m).writes kinds
