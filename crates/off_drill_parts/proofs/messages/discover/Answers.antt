use Rattle.off_drill_parts.proofs.MessageLemmas.{discover_is}
use Rattle.off_drill_parts.proofs.messages.discover.Goals as goal

pub returns : goal.returns
returns c = discover_is c.args.i _ _ _ _ c.in_ok-bytes.ensures c.in_ok-push_all.ensures.ok c.in_ok-push_all-2.ensures.ok c.modem_options.ensures
