use Rattle.std.proofs.Common.{◌≡◌, ◌∙◌, sym, subst, true, Option, Some}
use Rattle.off_defs.specs.declared.keys.Key.{Key}
use Rattle.off_defs.specs.declared.tables.Row.{Row}
use Rattle.off_defs.specs.Tables.{is_after}
use Rattle.off_readers.specs.Walks.{IfBehind}
use Rattle.off_outside.proofs.KeeperLemmas.{reads_then, reads_none, reads_as}
use Rattle.off_accounts.specs.Walking.{looks_at, is_reached}
use Rattle.off_accounts.proofs.SearchLemmas.{search_begin, search_none, search_past, search_found, search_on, none_at, none_behind}
use Rattle.off_accounts.proofs.WalkedLemmas.{walk_begins, walk_goes_on, begins_on, sought_looked}
use Rattle.off_accounts.proofs.searching.search.Goals as goal

pub walk-init : goal.walk-init
walk-init g c = record {
  told = reads_none (λ t. search_begin c.args.sought.now c.before-place.result t c.before-place.ensures.none);
  walked = walk_begins (looks_at c.args.sought.now) c.before-place.result (g.K.Keeper.seen c.args.keeper.now);
  begins = c.before-place.ensures.begins;
}

pub returns-in_default-clause-told : goal.returns-in_default-clause-told
returns-in_default-clause-told g c = reads_then c.walk.invariant.told c.in_ok-key.ensures.told (λ t left next. search_none c.args.sought.now c.walk.place t left (sym c.in_default.is ∙ next))

pub returns-then-is_past-clause-told : goal.returns-then-is_past-clause-told
returns-then-is_past-clause-told g c =
    reads_then c.walk.invariant.told c.in_ok-key.ensures.told (λ t left next.
    search_past c.args.sought.now c.walk.place (c.in-Some.key, c.in-Some.row) t left (sym c.in-Some.is ∙ next)
    (none_at c.args.sought.now c.in-Some.key c.in-Some.row (sym c.is_past.ensures.passed ∙ c.if-is_past.true))
    (λ other after. none_behind c.args.sought.now c.in-Some.key other (sym c.is_past.ensures.passed ∙ c.if-is_past.true) after))

pub returns-then-is_wanted-clause-told : goal.returns-then-is_wanted-clause-told
returns-then-is_wanted-clause-told g c =
    reads_then c.walk.invariant.told c.in_ok-key.ensures.told (λ t left next.
    search_found c.args.sought.now c.walk.place (c.in-Some.key, c.in-Some.row) t left (sym c.in-Some.is ∙ next) (sym c.is_wanted.ensures ∙ c.if-is_wanted.true))

pub walk-preserved-else-is_wanted : goal.walk-preserved-else-is_wanted
walk-preserved-else-is_wanted g c =
    let entry : Key × Row = (c.in-Some.key, c.in-Some.row) in
    let after : is_after (Some c.walk.place) entry ≡ true = (subst (λ (v : Option (Key × Row)). IfBehind (Some c.walk.place) v) c.in-Some.is c.in_ok-key.ensures.rises).after in
    let here = sought_looked c.args.sought.now c.in-Some.key (c.walk.invariant.begins c.in-Some.key c.in-Some.row c.is_past.ensures.ranged after) (sym c.is_past.ensures.passed ∙ c.if-is_past.false) in
    record {
      told = reads_then c.walk.invariant.told c.in_ok-key.ensures.told (λ t left next.
          search_on c.args.sought.now c.walk.place entry t left (sym c.in-Some.is ∙ next) (sym c.is_wanted.ensures ∙ c.if-is_wanted.false));
      walked = walk_goes_on (looks_at c.args.sought.now) c.walk.place entry here c.walk.invariant.walked c.walk.invariant.told (reads_as c.in_ok-key.ensures.told (λ t next. sym c.in-Some.is ∙ next)) c.in_ok-key.ensures.counted;
      begins = begins_on (is_reached c.args.sought.now) c.walk.place entry c.walk.invariant.begins after;
    }

pub walk-preserved-else-is_wanted-2 : goal.walk-preserved-else-is_wanted-2
walk-preserved-else-is_wanted-2 g c =
    let entry : Key × Row = (c.in-Some.key, c.in-Some.row) in
    let after : is_after (Some c.walk.place) entry ≡ true = (subst (λ (v : Option (Key × Row)). IfBehind (Some c.walk.place) v) c.in-Some.is c.in_ok-key.ensures.rises).after in
    let here = sought_looked c.args.sought.now c.in-Some.key (c.walk.invariant.begins c.in-Some.key c.in-Some.row c.is_past.ensures.ranged after) (sym c.is_past.ensures.passed ∙ c.if-is_past.false) in
    record {
      told = reads_then c.walk.invariant.told c.in_ok-key.ensures.told (λ t left next.
          search_on c.args.sought.now c.walk.place entry t left (sym c.in-Some.is ∙ next) (sym c.is_wanted.ensures ∙ c.if-is_wanted.false));
      walked = walk_goes_on (looks_at c.args.sought.now) c.walk.place entry here c.walk.invariant.walked c.walk.invariant.told (reads_as c.in_ok-key.ensures.told (λ t next. sym c.in-Some.is ∙ next)) c.in_ok-key.ensures.counted;
      begins = begins_on (is_reached c.args.sought.now) c.walk.place entry c.walk.invariant.begins after;
    }

pub walk-preserved : goal.walk-preserved
walk-preserved g c =
    let entry : Key × Row = (c.in-Some.key, c.in-Some.row) in
    let after : is_after (Some c.walk.place) entry ≡ true = (subst (λ (v : Option (Key × Row)). IfBehind (Some c.walk.place) v) c.in-Some.is c.in_ok-key.ensures.rises).after in
    let here = sought_looked c.args.sought.now c.in-Some.key (c.walk.invariant.begins c.in-Some.key c.in-Some.row c.is_past.ensures.ranged after) (sym c.is_past.ensures.passed ∙ c.if-is_past.false) in
    record {
      told = reads_then c.walk.invariant.told c.in_ok-key.ensures.told (λ t left next.
          search_on c.args.sought.now c.walk.place entry t left (sym c.in-Some.is ∙ next) (sym c.is_wanted.ensures ∙ c.if-is_wanted.false));
      walked = walk_goes_on (looks_at c.args.sought.now) c.walk.place entry here c.walk.invariant.walked c.walk.invariant.told (reads_as c.in_ok-key.ensures.told (λ t next. sym c.in-Some.is ∙ next)) c.in_ok-key.ensures.counted;
      begins = begins_on (is_reached c.args.sought.now) c.walk.place entry c.walk.invariant.begins after;
    }
