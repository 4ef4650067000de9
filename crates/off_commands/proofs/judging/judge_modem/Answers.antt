use Rattle.off_commands.proofs.JudgeLemmas.{modem_read}
use Rattle.off_commands.proofs.judging.judge_modem.Goals as goal

pub returns-clause-told : goal.returns-clause-told
returns-clause-told g c =
    modem_read c.args.so_far.now c.args.mac c.args.modem.now c.in_ok-has_subscriber.has_subscriber c.in_ok-has_class.has_class c.in_ok-is_known.is_known c.count_put.result
    c.if-not-has_subscriber.false c.if-not-has_class.false c.in_ok-has_subscriber.ensures.told c.in_ok-has_class.ensures.told c.in_ok-is_known.ensures.told c.count_put.ensures
