-- What a clerk's command leaves of leases: an import keeps them all, and every other command drops
-- none but those that have ended.
use Rattle.std.proofs.Common.{◌≡◌, ℕ, ◌+◌, ◌<◌, true, false, cond, Option, Some, None, option_and_then, Result, Ok, Err, IfOk, List, [], ◌∷◌, ◌++◌, length, ◌⊎◌, inl, inr, leb, refl, sym, ap, subst, ◌∙◌, arith}
use Rattle.std.proofs.lemmas.Bool.{leb-true, le-leb, ltb-false}
use Rattle.std.specs.Prelude.{nat_lt}
use Rattle.std.specs.List.{flat_map}
use Rattle.off_base.specs.Choices.{first_there}
use Rattle.off_base.specs.declared.addresses.Ip4.{Ip4}
use Rattle.off_defs.specs.declared.keys.Key.{Key}
use Rattle.off_defs.specs.declared.keys.Key.TheVariants as key
use Rattle.off_defs.specs.declared.tables.Row.{Row}
use Rattle.off_defs.specs.declared.tables.Row.TheVariants as row
use Rattle.off_defs.specs.declared.tables.Batch.{Batch}
use Rattle.off_defs.specs.declared.tables.ImportKind.{ImportKind}
use Rattle.off_defs.specs.declared.tables.Lease.{Lease}
use Rattle.off_defs.specs.declared.tables.Pool.{Pool}
use Rattle.off_orders.specs.declared.orders.Command.{Command}
use Rattle.off_orders.specs.declared.orders.Command.TheVariants.{PutHub, PutSubscriber, PutAddOn, PutModem, PutClass, PutPool, PutDevicePool, Remove, Show, Import}
use Rattle.off_orders.specs.declared.orders.ImportRow.{ImportRow}
use Rattle.off_orders.specs.declared.orders.ImportRow.TheVariants as imported
use Rattle.off_orders.specs.declared.orders.Reply.{Reply}
use Rattle.off_orders.specs.declared.orders.Reply.TheVariants.{Done, Rows}
use Rattle.off_defs.specs.declared.writes.Write.{Write}
use Rattle.off_defs.specs.declared.writes.Write.TheVariants.{Put}
use Rattle.off_defs.specs.declared.kinds.Kind.TheVariants.{Batches}
use Rattle.off_orders.specs.declared.rules.Rule.{Rule}
use Rattle.off_defs.specs.State.{Tables}
use Rattle.off_defs.specs.Tables.{row_at, write_all}
use Rattle.off_orders.specs.Sound.{is_sound, is_removable}
use Rattle.off_account_rules.specs.Rows.{seen_at, lease_in, pool_in, batch_in, leases}
use Rattle.off_account_rules.specs.Changes.{gives_up}
use Rattle.off_orders.specs.Clerk.{Refusal, Decision, Accepted, accepted, by_rule, shown_as, shown, limit, rules_of, removal_rules, writes_of, removal_writes, lost_leases, lost_devices, is_live, lease_drops, pool_has_leases, row_writes, row_breaks, then_writes, unless_broken, rows_written, batch_row, imported_as, import_decided, decided, stepped_by, clerk_step}
use Rattle.off_table_laws.proofs.ListLemmas.{none_found, in_kept}
use Rattle.off_table_laws.proofs.Rows as rows
use Rattle.off_table_laws.proofs.Rows.{put_row, drop_row, rows_after, all_written}
use Rattle.off_table_laws.proofs.GoodRows.{GoodRows}
use Rattle.off_table_laws.proofs.Judging.{good_rows}
use Rattle.off_table_laws.proofs.PoolLemmas.{set_pool, set_both}
use Rattle.off_order_laws.proofs.LostLeases.{rows_append, lease_in_all, lost_left}
use Rattle.off_order_laws.proofs.DevicePools.{drops_aside, is_no_device}
use Rattle.off_table_laws.proofs.Reading.{lease_row}
use Rattle.off_order_laws.proofs.ClerkSteps.{hub_written, unbroken}
use Rattle.off_tree.proofs.GoodLemmas.{not_mapped}
use Rattle.off_lease_rules.specs.Free.{has_ended}
use Rattle.off_laws.specs.Leases.{StaysOrWasOver, CommandsDropEnded, CommandsKeepLive, ImportsKeepLeases}
use Rattle.off_lease_laws.proofs.WriteLemmas.{lease_read}

-- where no rule is broken first, none is
module _ (address : Ip4) where
  -- writes that leave the row of the lease, over these rows, or over all
  abbrev Leaves : rows.Rows → List Write → Type 0
  Leaves all writes = rows_after all writes (key.Lease address) ≡ all (key.Lease address)

  abbrev Spares : List Write → Type 0
  Spares writes = (all : rows.Rows) → Leaves all writes

  spares_both : (one other : List Write) → Spares one → Spares other → Spares (one ++ other)
  spares_both one other first second all =
      ap (λ (r : rows.Rows). r (key.Lease address)) (rows_append all one other) ∙ second (rows_after all one) ∙ first all

  -- where a decision's writes leave the row, so does its step
  decision_leaves : (t : Tables) (decision : Decision) → IfOk decision (λ (done : Accepted). Leaves (row_at t) done.writes)
      → row_at (stepped_by t decision).tables (key.Lease address) ≡ row_at t (key.Lease address)
  decision_leaves t (Ok done) leaves = ap (λ (r : rows.Rows). r (key.Lease address)) (all_written t done.writes) ∙ leaves
  decision_leaves t (Err refused) leaves = refl

  ruled : (t : Tables) (writes : List Write) (reply : Reply) (broken : Option Rule) → (broken ≡ None → Leaves (row_at t) writes)
      → IfOk (by_rule 0 (accepted writes reply) broken) (λ (done : Accepted). Leaves (row_at t) done.writes)
  ruled t writes reply None leaves = leaves refl
  ruled t writes reply (Some broken) leaves = tt

  -- imports
  row_spares : (t : Tables) (first : ImportRow) → Spares (row_writes t first)
  row_spares t (imported.Subscriber n subscriber) all = refl
  row_spares t (imported.Modem mac modem) all = refl

  then_spares : (writes : List Write) (rest : Result (List Write) Refusal) → Spares writes → IfOk rest Spares → IfOk (then_writes writes rest) Spares
  then_spares writes (Ok more) one other = spares_both writes more one other
  then_spares writes (Err refused) one other = tt

  unless_spares : (at : ℕ) (broken : Option Rule) (rest : Result (List Write) Refusal) → IfOk rest Spares → IfOk (unless_broken at broken rest) Spares
  unless_spares at None rest spares = spares
  unless_spares at (Some broken) rest spares = tt

  rows_spare : (now : ℕ) (rest : List ImportRow) (t : Tables) (at : ℕ) → IfOk (rows_written t now at rest) Spares
  rows_spare now [] t at = λ all. refl
  rows_spare now (first ∷ rest) t at =
      unless_spares at (row_breaks t now first) _
      (then_spares (row_writes t first) _ (row_spares t first) (rows_spare now rest (write_all t (row_writes t first)) (at + 1)))

  batch_spares : (n : ℕ) (held : Row) → Spares (Put (key.Batch n) held ∷ [])
  batch_spares n held all = refl

  imported_leaves : (t : Tables) (kind : ImportKind) (batch : ℕ) (digest : List ℕ) (read : List ImportRow) (result : Result (List Write) Refusal) → IfOk result Spares
      → IfOk (imported_as t kind batch digest read result) (λ (done : Accepted). Leaves (row_at t) done.writes)
  imported_leaves t kind batch digest read (Err refused) spares = tt
  imported_leaves t kind batch digest read (Ok writes) spares =
      ruled t (writes ++ Put (key.Batch batch) (batch_row kind digest read) ∷ []) (Rows (length read)) (limit t (key.Batch batch) Batches) (λ _.
      spares_both writes (Put (key.Batch batch) (batch_row kind digest read) ∷ []) spares (batch_spares batch (batch_row kind digest read)) (row_at t))

  import_leaves : (t : Tables) (now : ℕ) (kind : ImportKind) (batch : ℕ) (digest : List ℕ) (read : List ImportRow) (old : Option Batch)
      → IfOk (import_decided t now kind batch digest read old) (λ (done : Accepted). Leaves (row_at t) done.writes)
  import_leaves t now kind batch digest read (Some old) = ruled t [] (Rows old.rows) _ (λ _. refl)
  import_leaves t now kind batch digest read None = imported_leaves t kind batch digest read (rows_written t now 1 read) (rows_spare now read t 1)

  -- whatever the command, the row stays, or its lease had ended and is dropped
  module _ (t : Tables) (g : GoodRows (row_at t)) (now : ℕ) where
    abbrev Fate : Option Row → Type 0
    Fate after = (after ≡ row_at t (key.Lease address)) ⊎ ((has_ended now (lease_in t address) ≡ true) × (after ≡ None))

    abbrev DecisionFate : Decision → Type 0
    DecisionFate decision = IfOk decision (λ (done : Accepted). Fate (rows_after (row_at t) done.writes (key.Lease address)))

    stays_so : (decision : Decision) → IfOk decision (λ (done : Accepted). Leaves (row_at t) done.writes) → DecisionFate decision
    stays_so (Ok done) leaves = inl leaves
    stays_so (Err refused) leaves = tt

    decision_fate : (decision : Decision) → DecisionFate decision → Fate (row_at (stepped_by t decision).tables (key.Lease address))
    decision_fate (Ok done) fate = subst (λ (all : rows.Rows). Fate (all (key.Lease address))) (sym (all_written t done.writes)) fate
    decision_fate (Err refused) fate = inl refl

    ruled_fate : (writes : List Write) (reply : Reply) (broken : Option Rule) → (broken ≡ None → Fate (rows_after (row_at t) writes (key.Lease address)))
        → DecisionFate (by_rule 0 (accepted writes reply) broken)
    ruled_fate writes reply None fate = fate refl
    ruled_fate writes reply (Some broken) fate = tt

    -- a lease whose address a pool may give up has ended
    over : (n : ℕ) (new : Option Pool) → pool_has_leases t now n new ≡ None → gives_up (pool_in t n) new address ≡ true
        → (found : Option Lease) → lease_in t address ≡ found → has_ended now found ≡ true
    over n new none lost None is = refl
    over n new none lost (Some lease) is =
        let there = lease_in_all t address lease (lease_row t address lease is) in
        let inside = in_kept (λ entry. gives_up (pool_in t n) new entry.0) (leases t) (address, lease) there lost in
        let ended : nat_lt now lease.expiry.0 ≡ false = none_found (is_live now) (lost_leases t n new) (not_mapped _ _ none) (address, lease) inside in
        le-leb lease.expiry.0 now (ltb-false now lease.expiry.0 ended)

    pool_fate : (n : ℕ) (new : Option Pool) (hub : ℕ) → pool_has_leases t now n new ≡ None
        → Fate (rows_after (set_both (row_at t) n new hub) (flat_map lease_drops (lost_leases t n new)) (key.Lease address))
    pool_fate n new hub none =
        subst (λ (all : rows.Rows). Fate (all (key.Lease address))) (sym (lost_left t g n new hub))
        (elim (gives_up (pool_in t n) new address) as (λ b. gives_up (pool_in t n) new address ≡ b → Fate (cond b None (row_at t (key.Lease address)))) [
          | true ↦ λ lost. inr (over n new none lost (lease_in t address) refl, refl)
          | false ↦ λ stays. inl refl
        ] refl)

    removal_fate : (removed : Key) → is_removable removed ≡ true → first_there (removal_rules t now removed) ≡ None
        → Fate (rows_after (row_at t) (removal_writes t removed) (key.Lease address))
    unfolding is_no_device
    removal_fate (key.Subscriber n) sound whole = inl refl
    removal_fate (key.AddOn n k) sound whole = inl refl
    removal_fate (key.Modem mac) sound whole = inl refl
    removal_fate (key.Class n) sound whole = inl refl
    removal_fate (key.Pool n) sound whole = pool_fate n None 0 (unbroken (removal_rules t now (key.Pool n)) whole).1.0
    removal_fate (key.Hub n) sound whole = inl refl
    removal_fate (key.DevicePool n) sound whole = inl (drops_aside (drop_row (row_at t) (key.DevicePool n)) (lost_devices t n None) (key.Lease address) refl)
    removal_fate removed sound whole = cc

    shown_leaves : (o : Option Reply) → IfOk (shown o) (λ (done : Accepted). Leaves (row_at t) done.writes)
    shown_leaves None = tt
    shown_leaves (Some reply) = refl

    command_fate : (command : Command) → is_sound command ≡ true → DecisionFate (decided t now command)
    unfolding is_no_device
    command_fate (Show q) sound = let o : Option Reply = option_and_then (shown_as t q) (seen_at t q) in stays_so (shown o) (shown_leaves o)
    command_fate (Import kind batch digest read) sound =
        stays_so (import_decided t now kind batch digest read (batch_in t batch)) (import_leaves t now kind batch digest read (batch_in t batch))
    command_fate (PutHub n site) sound = ruled_fate (writes_of t (PutHub n site)) Done (first_there (rules_of t now (PutHub n site))) (λ _. inl refl)
    command_fate (PutSubscriber n subscriber) sound =
        ruled_fate (writes_of t (PutSubscriber n subscriber)) Done (first_there (rules_of t now (PutSubscriber n subscriber))) (λ _. inl refl)
    command_fate (PutAddOn n number settings) sound =
        ruled_fate (writes_of t (PutAddOn n number settings)) Done (first_there (rules_of t now (PutAddOn n number settings))) (λ _. inl refl)
    command_fate (PutModem mac modem) sound = ruled_fate (writes_of t (PutModem mac modem)) Done (first_there (rules_of t now (PutModem mac modem))) (λ _. inl refl)
    command_fate (PutClass n class) sound = ruled_fate (writes_of t (PutClass n class)) Done (first_there (rules_of t now (PutClass n class))) (λ _. inl refl)
    command_fate (PutPool n pool hub) sound =
        ruled_fate (writes_of t (PutPool n pool hub)) Done (first_there (rules_of t now (PutPool n pool hub)))
        (λ whole.
        subst (λ (all : rows.Rows). Fate (rows_after all (flat_map lease_drops (lost_leases t n (Some pool))) (key.Lease address)))
        (sym (hub_written (set_pool (row_at t) n (Some pool)) n hub))
        (pool_fate n (Some pool) hub (unbroken (rules_of t now (PutPool n pool hub)) whole).1.1.1.1.1.0))
    command_fate (PutDevicePool n pool) sound =
        ruled_fate (writes_of t (PutDevicePool n pool)) Done (first_there (rules_of t now (PutDevicePool n pool)))
        (λ _. inl (drops_aside (put_row (row_at t) (key.DevicePool n) (row.Pool pool)) (lost_devices t n (Some pool)) (key.Lease address) refl))
    command_fate (Remove removed) sound =
        ruled_fate (writes_of t (Remove removed)) Done (first_there (rules_of t now (Remove removed))) (removal_fate removed sound)

  read_fate : (t : Tables) (g : GoodRows (row_at t)) (now : ℕ) (after : Option Row) → Fate t g now after → StaysOrWasOver now (lease_in t address) (lease_read address after)
  read_fate t g now after (inl same) = inl (ap (lease_read address) same)
  read_fate t g now after (inr over) = inr (over.0, ap (lease_read address) over.1)

pub commands_drop_ended : CommandsDropEnded
unfolding clerk_step
commands_drop_ended t now command address good sound =
    let g = good_rows t good.opens in
    read_fate address t g now _ (decision_fate address t g now (decided t now command) (command_fate address t g now command sound))

lives_on : (now : ℕ) (lease : Lease) (old new : Option Lease) → old ≡ Some lease → now < lease.expiry.0 → StaysOrWasOver now old new → new ≡ Some lease
lives_on now lease old new is live (inl same) = same ∙ is
lives_on now lease old new is live (inr over) =
    let ended : leb lease.expiry.0 now ≡ true = sym (ap (has_ended now) is) ∙ over.0 in
    let late = leb-true lease.expiry.0 now ended in
    absurd (omega (arith, late, live))

pub commands_keep_live : CommandsKeepLive
commands_keep_live t now command address lease good sound there live =
    lives_on now lease (lease_in t address) _ there live (commands_drop_ended t now command address good sound)

pub imports_keep_leases : ImportsKeepLeases
unfolding clerk_step
imports_keep_leases t now kind batch digest read address =
    ap (lease_read address)
    (decision_leaves address t (decided t now (Import kind batch digest read)) (import_leaves address t now kind batch digest read (batch_in t batch)))
