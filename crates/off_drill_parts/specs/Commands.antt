-- The commands of a drill.
use Rattle.std.specs.Prelude.{ℕ, zero, suc, ◌+◌, List, [], ◌∷◌, ◌++◌}
use Rattle.off_orders.specs.declared.orders.Command.{Command}
use Rattle.off_orders.specs.declared.orders.Command.TheVariants.{PutHub, PutSubscriber, PutModem, PutClass, PutPool}
use Rattle.off_drill_rules.specs.Rows.{site, class, pool, subscriber, modem, mac}

abbrev pub put_hub : Command
put_hub = PutHub 0 site

abbrev pub put_class : Command
put_class = PutClass 1 class

abbrev pub put_pool : Command
put_pool = PutPool 1 pool 0

abbrev pub put_subscriber : ℕ → Command
put_subscriber i = PutSubscriber i (subscriber i)

abbrev pub put_modem : ℕ → Command
put_modem i = PutModem (mac i) (modem i)

-- the commands of the next modem behind k others, of so many modems, and of a whole office
abbrev pub settling : ℕ → List Command
settling k = put_subscriber (k + 1) ∷ put_modem (k + 1) ∷ []

abbrev pub peopling : ℕ → List Command
peopling zero = []
peopling (suc k) = peopling k ++ settling k

abbrev pub founding : ℕ → List Command
founding n = put_hub ∷ put_class ∷ put_pool ∷ peopling n
