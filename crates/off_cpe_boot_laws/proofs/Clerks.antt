-- A clerk's request keeps each lease of a device, or drops one that has ended.
use Rattle.std.proofs.Common.{◌≡◌, ◌⊎◌, inl, inr, ℕ, ◌+◌, ◌<◌, true, false, cond, length, List, [], ◌∷◌, ◌++◌, map, Option, Some, None, option_and_then, Result, Ok, Err, IfOk, refl, sym, ap, subst, ◌∙◌, arith}
use Rattle.std.proofs.lemmas.Bool.{ltb-false}
use Rattle.std.specs.Prelude.{nat_lt}
use Rattle.std.specs.List.{flat_map}
use Rattle.off_base.specs.Choices.{first_there}
use Rattle.off_base.specs.declared.addresses.Ip4.{Ip4}
use Rattle.off_defs.specs.declared.keys.Key.{Key}
use Rattle.off_defs.specs.declared.keys.Key.TheVariants as key
use Rattle.off_defs.specs.declared.tables.Row.{Row}
use Rattle.off_defs.specs.declared.tables.Batch.{Batch}
use Rattle.off_defs.specs.declared.tables.DeviceLease.{DeviceLease}
use Rattle.off_defs.specs.declared.tables.ImportKind.{ImportKind}
use Rattle.off_defs.specs.declared.tables.Pool.{Pool}
use Rattle.off_orders.specs.declared.orders.Command.{Command}
use Rattle.off_orders.specs.declared.orders.Command.TheVariants.{PutHub, PutSubscriber, PutAddOn, PutModem, PutClass, PutPool, PutDevicePool, Remove, Show, Import}
use Rattle.off_orders.specs.declared.orders.ImportRow.{ImportRow}
use Rattle.off_orders.specs.declared.orders.ImportRow.TheVariants as imported
use Rattle.off_defs.specs.declared.kinds.Kind.TheVariants.{Batches}
use Rattle.off_orders.specs.declared.orders.Reply.{Reply}
use Rattle.off_orders.specs.declared.orders.Reply.TheVariants.{Done, Rows}
use Rattle.off_defs.specs.declared.writes.Write.{Write}
use Rattle.off_defs.specs.declared.writes.Write.TheVariants.{Put}
use Rattle.off_orders.specs.declared.rules.Rule.{Rule}
use Rattle.off_defs.specs.State.{Tables}
use Rattle.off_defs.specs.Tables.{row_at, write_all}
use Rattle.off_orders.specs.Sound.{is_sound, is_removable}
use Rattle.off_account_rules.specs.Rows.{seen_at, device_in, device_pool_in, batch_in, devices}
use Rattle.off_account_rules.specs.Good.{Good}
use Rattle.off_account_rules.specs.Changes.{gives_up}
use Rattle.off_orders.specs.Clerk.{Refusal, Decision, Accepted, accepted, by_rule, shown_as, shown, limit, rules_of, removal_rules, writes_of, removal_writes, lost_leases, lost_devices, is_live_device, lease_drops, device_drop, pool_has_devices, row_writes, row_breaks, then_writes, unless_broken, rows_written, batch_row, imported_as, import_decided, decided, stepped_by, clerk_step}
use Rattle.off_clerk_rules.specs.Commands.{command_read}
use Rattle.off_clerk_rules.specs.declared.faults.ClerkErr.{ClerkErr}
use Rattle.off_table_laws.proofs.ListLemmas.{none_found, in_kept}
use Rattle.off_table_laws.proofs.Rows as rows
use Rattle.off_table_laws.proofs.Rows.{drop_row, rows_after, all_written}
use Rattle.off_table_laws.proofs.GoodRows.{GoodRows}
use Rattle.off_table_laws.proofs.Judging.{good_rows}
use Rattle.off_table_laws.proofs.PoolLemmas.{set_pool, set_hub}
use Rattle.off_order_laws.proofs.LostLeases.{rows_append, drops_other, is_other}
use Rattle.off_order_laws.proofs.DevicePools.{set_device_pool, devices_left}
use Rattle.off_order_laws.proofs.ClerkSteps.{hub_written, unbroken}
use Rattle.off_tree.proofs.GoodLemmas.{not_mapped}
use Rattle.off_cpe_laws.proofs.RowLemmas.{device_listed, device_read}
use Rattle.off_book.specs.Http.{answer_result, answer_command, answer_request}
use Rattle.off_laws.proofs.Requests.{MayBe, request_may}
use Rattle.off_laws.proofs.Answers.{step_tables}

module _ (address : Ip4) where
  -- writes that leave the row of the lease, over these rows, or over all
  abbrev Spares : rows.Rows → List Write → Type 0
  Spares all writes = rows_after all writes (key.Device address) ≡ all (key.Device address)

  abbrev SparesAny : List Write → Type 0
  SparesAny writes = (all : rows.Rows) → Spares all writes

  spares_both : (one other : List Write) → SparesAny one → SparesAny other → SparesAny (one ++ other)
  spares_both one other first second all =
      ap (λ (r : rows.Rows). r (key.Device address)) (rows_append all one other) ∙ second (rows_after all one) ∙ first all

  -- imports
  row_spares : (t : Tables) (first : ImportRow) → SparesAny (row_writes t first)
  row_spares t (imported.Subscriber n subscriber) all = refl
  row_spares t (imported.Modem mac modem) all = refl

  then_spares : (writes : List Write) (rest : Result (List Write) Refusal) → SparesAny writes → IfOk rest SparesAny → IfOk (then_writes writes rest) SparesAny
  then_spares writes (Ok more) one other = spares_both writes more one other
  then_spares writes (Err refused) one other = tt

  unless_spares : (at : ℕ) (broken : Option Rule) (rest : Result (List Write) Refusal) → IfOk rest SparesAny → IfOk (unless_broken at broken rest) SparesAny
  unless_spares at None rest spares = spares
  unless_spares at (Some broken) rest spares = tt

  rows_spare : (now : ℕ) (rest : List ImportRow) (t : Tables) (at : ℕ) → IfOk (rows_written t now at rest) SparesAny
  rows_spare now [] t at = λ all. refl
  rows_spare now (first ∷ rest) t at =
      unless_spares at (row_breaks t now first) _
      (then_spares (row_writes t first) _ (row_spares t first) (rows_spare now rest (write_all t (row_writes t first)) (at + 1)))

  batch_spares : (n : ℕ) (held : Row) → SparesAny (Put (key.Batch n) held ∷ [])
  batch_spares n held all = refl

  -- whatever the command, the row stays, or a lease that has ended is dropped
  module _ (t : Tables) (good : Good t) (now : ℕ) where
    g : GoodRows (row_at t)
    g = good_rows t good.opens

    abbrev Over : Type 0
    Over = (lease : DeviceLease) → device_in t address ≡ Some lease → now < lease.expiry.0 → ⊥

    abbrev Fate : Option Row → Type 0
    Fate after = (after ≡ row_at t (key.Device address)) ⊎ (Over × (after ≡ None))

    abbrev After : List Write → Type 0
    After writes = Fate (rows_after (row_at t) writes (key.Device address))

    abbrev LeftBy : Decision → Type 0
    LeftBy decision = IfOk decision (λ (done : Accepted). After done.writes)

    ruled : (writes : List Write) (reply : Reply) (broken : Option Rule) → (broken ≡ None → After writes) → LeftBy (by_rule 0 (accepted writes reply) broken)
    ruled writes reply None leaves = leaves refl
    ruled writes reply (Some broken) leaves = tt

    imported_leaves : (kind : ImportKind) (batch : ℕ) (digest : List ℕ) (read : List ImportRow) (result : Result (List Write) Refusal) → IfOk result SparesAny
        → LeftBy (imported_as t kind batch digest read result)
    imported_leaves kind batch digest read (Err refused) spares = tt
    imported_leaves kind batch digest read (Ok writes) spares =
        ruled (writes ++ Put (key.Batch batch) (batch_row kind digest read) ∷ []) (Rows (length read)) (limit t (key.Batch batch) Batches) (λ _.
        inl (spares_both writes (Put (key.Batch batch) (batch_row kind digest read) ∷ []) spares (batch_spares batch (batch_row kind digest read)) (row_at t)))

    import_leaves : (kind : ImportKind) (batch : ℕ) (digest : List ℕ) (read : List ImportRow) (old : Option Batch) → LeftBy (import_decided t now kind batch digest read old)
    import_leaves kind batch digest read (Some old) = ruled [] (Rows old.rows) _ (λ _. inl refl)
    import_leaves kind batch digest read None = imported_leaves kind batch digest read (rows_written t now 1 read) (rows_spare now read t 1)

    shown_leaves : (o : Option Reply) → LeftBy (shown o)
    shown_leaves None = tt
    shown_leaves (Some reply) = inl refl

    -- a pool may not give up the address of a lease that hasn't ended
    over : (n : ℕ) (new : Option Pool) → pool_has_devices t now n new ≡ None → gives_up (device_pool_in t n) new address ≡ true → Over
    over n new none lost lease there live =
        let inside = in_kept (λ entry. gives_up (device_pool_in t n) new entry.0) (devices t) (address, lease) (device_listed t address lease there) lost in
        let ended : nat_lt now lease.expiry.0 ≡ false = none_found (is_live_device now) (lost_devices t n new) (not_mapped _ _ none) (address, lease) inside in
        let late = ltb-false now lease.expiry.0 ended in
        omega (arith, late, live)

    pool_leaves : (n : ℕ) (new : Option Pool) → pool_has_devices t now n new ≡ None
        → Fate (rows_after (set_device_pool (row_at t) n new) (map device_drop (lost_devices t n new)) (key.Device address))
    pool_leaves n new none =
        subst (λ (all : rows.Rows). Fate (all (key.Device address))) (sym (devices_left t g n new))
        (elim (gives_up (device_pool_in t n) new address) as (λ b. gives_up (device_pool_in t n) new address ≡ b → Fate (cond b None (row_at t (key.Device address)))) [
          | true ↦ λ lost. inr (over n new none lost, refl)
          | false ↦ λ kept. inl refl
        ] refl)

    removal_leaves : (removed : Key) → is_removable removed ≡ true → first_there (removal_rules t now removed) ≡ None → After (removal_writes t removed)
    unfolding is_other
    removal_leaves (key.Subscriber n) sound whole = inl refl
    removal_leaves (key.AddOn n k) sound whole = inl refl
    removal_leaves (key.Modem mac) sound whole = inl refl
    removal_leaves (key.Class n) sound whole = inl refl
    removal_leaves (key.Pool n) sound whole = inl (drops_other (drop_row (drop_row (row_at t) (key.Pool n)) (key.PoolHub n)) (lost_leases t n None) (key.Device address) refl)
    removal_leaves (key.Hub n) sound whole = inl refl
    removal_leaves (key.DevicePool n) sound whole = pool_leaves n None (unbroken (removal_rules t now (key.DevicePool n)) whole).1.0
    removal_leaves removed sound whole = cc

    put_pool_leaves : (n : ℕ) (pool : Pool) (hub : ℕ) → After (writes_of t (PutPool n pool hub))
    unfolding is_other
    put_pool_leaves n pool hub =
        inl (ap (λ (all : rows.Rows). rows_after all (flat_map lease_drops (lost_leases t n (Some pool))) (key.Device address)) (hub_written (set_pool (row_at t) n (Some pool)) n hub)
        ∙ drops_other (set_hub (set_pool (row_at t) n (Some pool)) n hub) (lost_leases t n (Some pool)) (key.Device address) refl)

    command_leaves : (command : Command) → is_sound command ≡ true → LeftBy (decided t now command)
    command_leaves (Show q) sound = let o : Option Reply = option_and_then (shown_as t q) (seen_at t q) in shown_leaves o
    command_leaves (Import kind batch digest read) sound = import_leaves kind batch digest read (batch_in t batch)
    command_leaves (PutHub n site) sound = ruled (writes_of t (PutHub n site)) Done (first_there (rules_of t now (PutHub n site))) (λ _. inl refl)
    command_leaves (PutSubscriber n subscriber) sound = ruled (writes_of t (PutSubscriber n subscriber)) Done (first_there (rules_of t now (PutSubscriber n subscriber))) (λ _. inl refl)
    command_leaves (PutAddOn n number settings) sound = ruled (writes_of t (PutAddOn n number settings)) Done (first_there (rules_of t now (PutAddOn n number settings))) (λ _. inl refl)
    command_leaves (PutModem mac modem) sound = ruled (writes_of t (PutModem mac modem)) Done (first_there (rules_of t now (PutModem mac modem))) (λ _. inl refl)
    command_leaves (PutClass n class) sound = ruled (writes_of t (PutClass n class)) Done (first_there (rules_of t now (PutClass n class))) (λ _. inl refl)
    command_leaves (PutPool n pool hub) sound = ruled (writes_of t (PutPool n pool hub)) Done (first_there (rules_of t now (PutPool n pool hub))) (λ _. put_pool_leaves n pool hub)
    command_leaves (PutDevicePool n pool) sound =
        ruled (writes_of t (PutDevicePool n pool)) Done (first_there (rules_of t now (PutDevicePool n pool)))
        (λ whole. pool_leaves n (Some pool) (unbroken (rules_of t now (PutDevicePool n pool)) whole).1.1.1.1.0)
    command_leaves (Remove removed) sound = ruled (writes_of t (Remove removed)) Done (first_there (rules_of t now (Remove removed))) (removal_leaves removed sound)

    decision_leaves : (decision : Decision) → LeftBy decision → Fate (row_at (stepped_by t decision).tables (key.Device address))
    decision_leaves (Ok done) leaves = subst (λ (all : rows.Rows). Fate (all (key.Device address))) (sym (all_written t done.writes)) leaves
    decision_leaves (Err refused) leaves = inl refl

    -- ---- a request: the lease is as it was, or it had ended and is there no more

    abbrev Becomes : Option DeviceLease → Type 0
    Becomes after = (after ≡ device_in t address) ⊎ (Over × (after ≡ None))

    read_fate : (after : Option Row) → Fate after → Becomes (device_read address after)
    read_fate after (inl same) = inl (ap (device_read address) same)
    read_fate after (inr gone) = inr (gone.0, ap (device_read address) gone.1)

    command_becomes : (command : Command) → is_sound command ≡ true → Becomes (device_in (clerk_step t now command).tables address)
    unfolding clerk_step
    command_becomes command sound = read_fate _ (decision_leaves (decided t now command) (command_leaves command sound))

    abbrev Stays : List Write → Type 0
    Stays writes = Becomes (device_in (write_all t writes) address)

    result_becomes : (writes : List Write) (r : Result Reply Refusal) → Stays writes → Stays (answer_result writes r).writes
    result_becomes writes (Ok reply) same = same
    result_becomes writes (Err refused) same = inl refl

    read_becomes : (read : Result Command ClerkErr) → IfOk read MayBe → Stays (answer_command t now read).writes
    read_becomes (Ok command) may =
        result_becomes (clerk_step t now command).writes (clerk_step t now command).answer
        (subst (λ (u : Tables). Becomes (device_in u address)) (step_tables t now command) (command_becomes command may.0))
    read_becomes (Err err) may = inl refl

    pub request_becomes : (method target body : List ℕ) → (device_in (write_all t (answer_request t now method target body).writes) address ≡ device_in t address)
        ⊎ (((lease : DeviceLease) → device_in t address ≡ Some lease → now < lease.expiry.0 → ⊥) × (device_in (write_all t (answer_request t now method target body).writes) address ≡ None))
    request_becomes method target body = read_becomes (command_read method target body) (request_may method target body)
