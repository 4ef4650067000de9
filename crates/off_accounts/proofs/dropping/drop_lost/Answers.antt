use Rattle.std.proofs.Common.{◌≡◌, ◌∙◌, sym, subst, true, Option, Some}
use Rattle.off_defs.specs.declared.keys.Key.{Key}
use Rattle.off_defs.specs.declared.tables.Row.{Row}
use Rattle.off_defs.specs.Tables.{is_after}
use Rattle.off_readers.specs.Walks.{IfBehind}
use Rattle.off_outside.proofs.KeeperLemmas.{reads_then, reads_none, reads_as}
use Rattle.off_accounts.specs.Walking.{is_lease_in, is_past_first}
use Rattle.off_accounts.proofs.DropLemmas.{drop_begin, drop_none, drop_past, drop_on}
use Rattle.off_accounts.proofs.LostLemmas.{lease_looked, none_here, none_later}
use Rattle.off_accounts.proofs.WalkedLemmas.{walk_begins, walk_goes_on, begins_on}
use Rattle.off_accounts.proofs.dropping.drop_lost.Goals as goal

pub walk-init : goal.walk-init
walk-init g c = record {
  told = reads_none (λ t. drop_begin c.args.lost.now c.args.writes.now c.before_lost-place.result t c.before_lost-place.ensures.none);
  walked = walk_begins (is_lease_in c.args.lost.now.whose c.args.lost.now.old) c.before_lost-place.result (g.K.Keeper.seen c.args.keeper.now);
  begins = c.before_lost-place.ensures.begins;
}

pub returns-in_default-clause-told : goal.returns-in_default-clause-told
returns-in_default-clause-told g c =
    reads_then c.walk.invariant.told c.in_ok-key.ensures.told (λ t left next. drop_none c.args.lost.now c.args.writes.now c.walk.writes c.walk.place t left (sym c.in_default.is ∙ next))

pub returns-then-is_past_lost-clause-told : goal.returns-then-is_past_lost-clause-told
returns-then-is_past_lost-clause-told g c =
    reads_then c.walk.invariant.told c.in_ok-key.ensures.told (λ t left next.
    drop_past c.args.lost.now c.args.writes.now c.walk.writes c.walk.place (c.in-Some.key, c.in-Some.row) t left (sym c.in-Some.is ∙ next)
    (none_here c.args.lost.now c.in-Some.key (sym c.is_past_lost.ensures.last ∙ c.if-is_past_lost.true))
    (λ other after. none_later c.args.lost.now c.in-Some.key (sym c.is_past_lost.ensures.last ∙ c.if-is_past_lost.true) other after))

pub walk-preserved-in_ok-push_drops : goal.walk-preserved-in_ok-push_drops
walk-preserved-in_ok-push_drops g c =
    let entry : Key × Row = (c.in-Some.key, c.in-Some.row) in
    let after : is_after (Some c.walk.place) entry ≡ true = (subst (λ (v : Option (Key × Row)). IfBehind (Some c.walk.place) v) c.in-Some.is c.in_ok-key.ensures.rises).after in
    let here = lease_looked c.args.lost.now c.in-Some.key (c.walk.invariant.begins c.in-Some.key c.in-Some.row c.is_past_lost.ensures.ranged after) (sym c.is_past_lost.ensures.last ∙ c.if-is_past_lost.false) in
    record {
      told = reads_then c.walk.invariant.told c.in_ok-key.ensures.told (λ t left next.
          drop_on c.args.lost.now c.args.writes.now c.walk.writes c.push_drops.new.writes c.walk.place entry t left (sym c.in-Some.is ∙ next) c.in_ok-push_drops.ensures);
      walked = walk_goes_on (is_lease_in c.args.lost.now.whose c.args.lost.now.old) c.walk.place entry here c.walk.invariant.walked c.walk.invariant.told (reads_as c.in_ok-key.ensures.told (λ t next. sym c.in-Some.is ∙ next)) c.in_ok-key.ensures.counted;
      begins = begins_on (is_past_first c.args.lost.now) c.walk.place entry c.walk.invariant.begins after;
    }

pub walk-preserved-in_ok-push_drops-2 : goal.walk-preserved-in_ok-push_drops-2
walk-preserved-in_ok-push_drops-2 g c =
    let entry : Key × Row = (c.in-Some.key, c.in-Some.row) in
    let after : is_after (Some c.walk.place) entry ≡ true = (subst (λ (v : Option (Key × Row)). IfBehind (Some c.walk.place) v) c.in-Some.is c.in_ok-key.ensures.rises).after in
    let here = lease_looked c.args.lost.now c.in-Some.key (c.walk.invariant.begins c.in-Some.key c.in-Some.row c.is_past_lost.ensures.ranged after) (sym c.is_past_lost.ensures.last ∙ c.if-is_past_lost.false) in
    record {
      told = reads_then c.walk.invariant.told c.in_ok-key.ensures.told (λ t left next.
          drop_on c.args.lost.now c.args.writes.now c.walk.writes c.push_drops.new.writes c.walk.place entry t left (sym c.in-Some.is ∙ next) c.in_ok-push_drops.ensures);
      walked = walk_goes_on (is_lease_in c.args.lost.now.whose c.args.lost.now.old) c.walk.place entry here c.walk.invariant.walked c.walk.invariant.told (reads_as c.in_ok-key.ensures.told (λ t next. sym c.in-Some.is ∙ next)) c.in_ok-key.ensures.counted;
      begins = begins_on (is_past_first c.args.lost.now) c.walk.place entry c.walk.invariant.begins after;
    }

pub walk-preserved : goal.walk-preserved
walk-preserved g c =
    let entry : Key × Row = (c.in-Some.key, c.in-Some.row) in
    let after : is_after (Some c.walk.place) entry ≡ true = (subst (λ (v : Option (Key × Row)). IfBehind (Some c.walk.place) v) c.in-Some.is c.in_ok-key.ensures.rises).after in
    let here = lease_looked c.args.lost.now c.in-Some.key (c.walk.invariant.begins c.in-Some.key c.in-Some.row c.is_past_lost.ensures.ranged after) (sym c.is_past_lost.ensures.last ∙ c.if-is_past_lost.false) in
    record {
      told = reads_then c.walk.invariant.told c.in_ok-key.ensures.told (λ t left next.
          drop_on c.args.lost.now c.args.writes.now c.walk.writes c.push_drops.new.writes c.walk.place entry t left (sym c.in-Some.is ∙ next) c.in_ok-push_drops.ensures);
      walked = walk_goes_on (is_lease_in c.args.lost.now.whose c.args.lost.now.old) c.walk.place entry here c.walk.invariant.walked c.walk.invariant.told (reads_as c.in_ok-key.ensures.told (λ t next. sym c.in-Some.is ∙ next)) c.in_ok-key.ensures.counted;
      begins = begins_on (is_past_first c.args.lost.now) c.walk.place entry c.walk.invariant.begins after;
    }
