use Rattle.off_commands.proofs.JudgeLemmas.{subscriber_read}
use Rattle.off_commands.proofs.judging.judge.Goals as goal

pub returns-in_ok-is_there-in-Subscriber-clause-told : goal.returns-in_ok-is_there-in-Subscriber-clause-told
returns-in_ok-is_there-in-Subscriber-clause-told g c =
    subscriber_read c.args.so_far.now c.args.row.now c.in-Subscriber.n c.in-Subscriber.field-1 c.in_ok-is_there-in-Subscriber.is_there c.count_put.result c.in-Subscriber.is c.requires.sound
    c.in_ok-is_there-in-Subscriber.ensures.told c.count_put.ensures
