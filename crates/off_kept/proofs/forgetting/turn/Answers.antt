use Rattle.std.proofs.Common.{rules}
use Rattle.off_kept.specs.Entries.{is_written}
use Rattle.off_base.specs.Macs.{is_same_mac}
use Rattle.off_base.proofs.MacLemmas.{mac_decides}
use Rattle.off_kept.proofs.TurnLemmas.{goes_out, goes_first}
use Rattle.off_kept.proofs.forgetting.turn.Goals as goal

pub returns-then-is_gone-clause-turns : goal.returns-then-is_gone-clause-turns
returns-then-is_gone-clause-turns c =
    goes_out (is_written c.args.writes.now) c.args.cache.now.entries c.pop_lru-gone.new.self.entries c.in-Some.modem c.in-Some.is_gone (search rules) (search rules) (search rules)

pub returns-else-is_gone-clause-turns : goal.returns-else-is_gone-clause-turns
returns-else-is_gone-clause-turns c =
    goes_first (is_written c.args.writes.now) is_same_mac mac_decides c.args.cache.now.entries c.promote-is_there.new.self.entries c.in-Some.modem c.in-Some.is_gone c.len-len.ensures.valid.0
    (search rules) (search rules) (search rules)
