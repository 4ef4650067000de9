use Rattle.std.proofs.Common.{◌∙◌, sym, arith}
use Rattle.off_defs.specs.declared.keys.Key.TheVariants as key
use Rattle.off_outside.proofs.KeeperLemmas.{reads_then, reads_none}
use Rattle.off_query.proofs.WalkLemmas.{left_begins, left_none, left_past, left_found, left_on}
use Rattle.off_query.proofs.walking.wanted_pool.Goals as goal

pub walk-init : goal.walk-init
walk-init g c = reads_none (λ t. left_begins c.args.wanted (key.Class 4294967295) t (omega arith))

pub returns-in_default : goal.returns-in_default
returns-in_default g c = reads_then c.walk.invariant c.in_ok-key.ensures.told (λ t left next. left_none c.args.wanted c.walk.place t left (sym c.in_default.is ∙ next))

pub returns-then-is_past_pools : goal.returns-then-is_past_pools
returns-then-is_past_pools g c =
    reads_then c.walk.invariant c.in_ok-key.ensures.told (λ t left next.
    left_past c.args.wanted c.walk.place (c.in-Some.key, c.in-Some.row) t (sym c.is_past_pools.ensures ∙ c.if-is_past_pools.true) left (sym c.in-Some.is ∙ next))

pub returns-then-is_some : goal.returns-then-is_some
returns-then-is_some g c =
    reads_then c.walk.invariant c.in_ok-key.ensures.told (λ t left next.
    left_found c.args.wanted c.walk.place (c.in-Some.key, c.in-Some.row) c.wanting-number.result t c.wanting-number.ensures (sym c.is_some.ensures ∙ c.if-is_some.true) left (sym c.in-Some.is ∙ next))

pub walk-preserved-else-is_some : goal.walk-preserved-else-is_some
walk-preserved-else-is_some g c =
    reads_then c.walk.invariant c.in_ok-key.ensures.told (λ t left next.
    left_on c.args.wanted c.walk.place (c.in-Some.key, c.in-Some.row) c.wanting-number.result t c.wanting-number.ensures (sym c.is_some.ensures ∙ c.if-is_some.false) left (sym c.in-Some.is ∙ next))

pub walk-preserved-else-is_some-2 : goal.walk-preserved-else-is_some-2
walk-preserved-else-is_some-2 g c =
    reads_then c.walk.invariant c.in_ok-key.ensures.told (λ t left next.
    left_on c.args.wanted c.walk.place (c.in-Some.key, c.in-Some.row) c.wanting-number.result t c.wanting-number.ensures (sym c.is_some.ensures ∙ c.if-is_some.false) left (sym c.in-Some.is ∙ next))

pub walk-preserved : goal.walk-preserved
walk-preserved g c =
    reads_then c.walk.invariant c.in_ok-key.ensures.told (λ t left next.
    left_on c.args.wanted c.walk.place (c.in-Some.key, c.in-Some.row) c.wanting-number.result t c.wanting-number.ensures (sym c.is_some.ensures ∙ c.if-is_some.false) left (sym c.in-Some.is ∙ next))
