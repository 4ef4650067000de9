use Rattle.std.proofs.Common.{◌≡◌, ◌∙◌, sym, subst, true, Option, Some, arith}
use Rattle.std.specs.Prelude.{nat_lt}
use Rattle.off_defs.specs.declared.keys.Key.{Key}
use Rattle.off_defs.specs.declared.keys.Key.TheVariants as key
use Rattle.off_defs.specs.declared.tables.Row.{Row}
use Rattle.off_defs.specs.Kinds.{kind_of}
use Rattle.off_defs.specs.Tables.{is_after}
use Rattle.off_readers.specs.Walks.{IfBehind}
use Rattle.off_outside.proofs.KeeperLemmas.{reads_then, reads_none, reads_as}
use Rattle.off_accounts.proofs.HubLemmas.{seek_begins, seek_none, seek_past, seek_found, seek_on, hub_walk_begins, hub_walk_goes_on, hub_walk_stops}
use Rattle.off_accounts.specs.declared.whose.Whose.TheVariants.{Modems as OfModems}
use Rattle.off_accounts.proofs.LostLemmas.{pools_begin, pool_looked}
use Rattle.off_accounts.proofs.WalkedLemmas.{begins_on}
use Rattle.off_accounts.proofs.hubs.least_of_hub.Goals as goal

pub walk-init : goal.walk-init
walk-init g c = record {
  told = reads_none (λ t. seek_begins c.args.hub (key.Class 4294967295) t (omega arith));
  walked = hub_walk_begins (key.Class 4294967295) (g.K.Keeper.seen c.args.keeper.now);
  begins = pools_begin OfModems;
}

pub returns-in_default-clause-told : goal.returns-in_default-clause-told
returns-in_default-clause-told g c = reads_then c.walk.invariant.told c.in_ok-key.ensures.told (λ t left next. seek_none c.args.hub c.walk.place t left (sym c.in_default.is ∙ next))

pub returns-then-is_past-clause-told : goal.returns-then-is_past-clause-told
returns-then-is_past-clause-told g c =
    reads_then c.walk.invariant.told c.in_ok-key.ensures.told (λ t left next.
    seek_past c.args.hub c.walk.place (c.in-Some.key, c.in-Some.row) t (sym c.is_past.ensures.passed ∙ c.if-is_past.true) left (sym c.in-Some.is ∙ next))

pub returns-then-is_some-clause-told : goal.returns-then-is_some-clause-told
returns-then-is_some-clause-told g c =
    let entry : Key × Row = (c.in-Some.key, c.in-Some.row) in
    let next = reads_as c.in_ok-key.ensures.told (λ t is. sym c.in-Some.is ∙ is) in
    seek_found c.args.hub c.walk.place entry c.pool_at.result c.in_ok-found.found c.pool_at.ensures c.walk.invariant.told next c.in_ok-found.ensures.told (sym c.is_some.ensures ∙ c.if-is_some.true)

pub returns-then-is_some-clause-walks : goal.returns-then-is_some-clause-walks
returns-then-is_some-clause-walks g c =
    let entry : Key × Row = (c.in-Some.key, c.in-Some.row) in
    let after : is_after (Some c.walk.place) entry ≡ true = (subst (λ (v : Option (Key × Row)). IfBehind (Some c.walk.place) v) c.in-Some.is c.in_ok-key.ensures.rises).after in
    let here = pool_looked OfModems c.in-Some.key (c.walk.invariant.begins c.in-Some.key c.in-Some.row c.is_past.ensures.ranged after) (sym c.is_past.ensures.passed ∙ c.if-is_past.false) in
    let next = reads_as c.in_ok-key.ensures.told (λ t is. sym c.in-Some.is ∙ is) in
    hub_walk_stops c.walk.place entry here c.walk.invariant.walked c.walk.invariant.told next c.in_ok-key.ensures.counted c.in_ok-found.ensures.spent

pub returns-in_err-found-clause-walks : goal.returns-in_err-found-clause-walks
returns-in_err-found-clause-walks g c =
    let entry : Key × Row = (c.in-Some.key, c.in-Some.row) in
    let after : is_after (Some c.walk.place) entry ≡ true = (subst (λ (v : Option (Key × Row)). IfBehind (Some c.walk.place) v) c.in-Some.is c.in_ok-key.ensures.rises).after in
    let here = pool_looked OfModems c.in-Some.key (c.walk.invariant.begins c.in-Some.key c.in-Some.row c.is_past.ensures.ranged after) (sym c.is_past.ensures.passed ∙ c.if-is_past.false) in
    let next = reads_as c.in_ok-key.ensures.told (λ t is. sym c.in-Some.is ∙ is) in
    hub_walk_stops c.walk.place entry here c.walk.invariant.walked c.walk.invariant.told next c.in_ok-key.ensures.counted c.in_err-found.ensures.spent

pub walk-preserved-else-is_some : goal.walk-preserved-else-is_some
walk-preserved-else-is_some g c =
    let entry : Key × Row = (c.in-Some.key, c.in-Some.row) in
    let after : is_after (Some c.walk.place) entry ≡ true = (subst (λ (v : Option (Key × Row)). IfBehind (Some c.walk.place) v) c.in-Some.is c.in_ok-key.ensures.rises).after in
    let here = pool_looked OfModems c.in-Some.key (c.walk.invariant.begins c.in-Some.key c.in-Some.row c.is_past.ensures.ranged after) (sym c.is_past.ensures.passed ∙ c.if-is_past.false) in
    let next = reads_as c.in_ok-key.ensures.told (λ t is. sym c.in-Some.is ∙ is) in
    record {
      told = seek_on c.args.hub c.walk.place entry c.pool_at.result c.in_ok-found.found c.pool_at.ensures c.walk.invariant.told next c.in_ok-found.ensures.told (sym c.is_some.ensures ∙ c.if-is_some.false);
      walked = hub_walk_goes_on c.walk.place entry here c.walk.invariant.walked c.walk.invariant.told next c.in_ok-key.ensures.counted c.in_ok-found.ensures.spent;
      begins = begins_on (λ other. nat_lt 5 (kind_of other)) c.walk.place entry c.walk.invariant.begins after;
    }

pub walk-preserved-else-is_some-2 : goal.walk-preserved-else-is_some-2
walk-preserved-else-is_some-2 g c =
    let entry : Key × Row = (c.in-Some.key, c.in-Some.row) in
    let after : is_after (Some c.walk.place) entry ≡ true = (subst (λ (v : Option (Key × Row)). IfBehind (Some c.walk.place) v) c.in-Some.is c.in_ok-key.ensures.rises).after in
    let here = pool_looked OfModems c.in-Some.key (c.walk.invariant.begins c.in-Some.key c.in-Some.row c.is_past.ensures.ranged after) (sym c.is_past.ensures.passed ∙ c.if-is_past.false) in
    let next = reads_as c.in_ok-key.ensures.told (λ t is. sym c.in-Some.is ∙ is) in
    record {
      told = seek_on c.args.hub c.walk.place entry c.pool_at.result c.in_ok-found.found c.pool_at.ensures c.walk.invariant.told next c.in_ok-found.ensures.told (sym c.is_some.ensures ∙ c.if-is_some.false);
      walked = hub_walk_goes_on c.walk.place entry here c.walk.invariant.walked c.walk.invariant.told next c.in_ok-key.ensures.counted c.in_ok-found.ensures.spent;
      begins = begins_on (λ other. nat_lt 5 (kind_of other)) c.walk.place entry c.walk.invariant.begins after;
    }

pub walk-preserved : goal.walk-preserved
walk-preserved g c =
    let entry : Key × Row = (c.in-Some.key, c.in-Some.row) in
    let after : is_after (Some c.walk.place) entry ≡ true = (subst (λ (v : Option (Key × Row)). IfBehind (Some c.walk.place) v) c.in-Some.is c.in_ok-key.ensures.rises).after in
    let here = pool_looked OfModems c.in-Some.key (c.walk.invariant.begins c.in-Some.key c.in-Some.row c.is_past.ensures.ranged after) (sym c.is_past.ensures.passed ∙ c.if-is_past.false) in
    let next = reads_as c.in_ok-key.ensures.told (λ t is. sym c.in-Some.is ∙ is) in
    record {
      told = seek_on c.args.hub c.walk.place entry c.pool_at.result c.in_ok-found.found c.pool_at.ensures c.walk.invariant.told next c.in_ok-found.ensures.told (sym c.is_some.ensures ∙ c.if-is_some.false);
      walked = hub_walk_goes_on c.walk.place entry here c.walk.invariant.walked c.walk.invariant.told next c.in_ok-key.ensures.counted c.in_ok-found.ensures.spent;
      begins = begins_on (λ other. nat_lt 5 (kind_of other)) c.walk.place entry c.walk.invariant.begins after;
    }
