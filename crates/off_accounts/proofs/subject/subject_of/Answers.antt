use Rattle.std.proofs.Common.{sym, subst}
use Rattle.off_orders.specs.declared.orders.Command.{Command}
use Rattle.off_outside.specs.KeeperCalls.{Looks}
use Rattle.off_users.specs.Users.{StandsFor}
use Rattle.off_accounts.specs.Tests.{IsSubject}
use Rattle.off_accounts.proofs.subject.subject_of.Goals as goal

pub returns-in-PutSubscriber-clause-told : goal.returns-in-PutSubscriber-clause-told
returns-in-PutSubscriber-clause-told g c =
    subst
    (λ (v : Command). Looks c.at_key-in-PutSubscriber.result (g.K.Keeper.seen c.args.keeper.now) (g.K.Keeper.seen c.at_key-in-PutSubscriber.new.keeper) (λ subject t. StandsFor c.args.users.now t → IsSubject v subject t))
    (sym c.in-PutSubscriber.is) c.at_key-in-PutSubscriber.ensures.told

pub returns-in-PutClass-clause-told : goal.returns-in-PutClass-clause-told
returns-in-PutClass-clause-told g c =
    subst
    (λ (v : Command). Looks c.at_key-in-PutClass.result (g.K.Keeper.seen c.args.keeper.now) (g.K.Keeper.seen c.at_key-in-PutClass.new.keeper) (λ subject t. StandsFor c.args.users.now t → IsSubject v subject t))
    (sym c.in-PutClass.is) c.at_key-in-PutClass.ensures.told
