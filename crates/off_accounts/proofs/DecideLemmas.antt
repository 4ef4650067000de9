-- From tests that were passed, or not, to what becomes of a command.
use Rattle.std.proofs.Common.{◌≡◌, ℕ, Bool, true, false, Option, Some, None, Result, Ok, Err, MatchResult, List, map, refl, sym, ap, ◌∙◌}
use Rattle.off_base.specs.Choices.{first_there}
use Rattle.off_orders.specs.declared.rules.Rule.{Rule}
use Rattle.off_defs.specs.declared.writes.Write.{Write}
use Rattle.off_orders.specs.declared.orders.Reply.TheVariants.{Done}
use Rattle.off_orders.specs.declared.orders.Command.{Command}
use Rattle.off_orders.specs.declared.orders.Command.TheVariants.{PutHub, PutSubscriber, PutAddOn, PutModem, PutClass, PutPool, PutDevicePool, Remove, Show, Import}
use Rattle.off_defs.specs.State.{Tables}
use Rattle.off_defs.specs.Tables.{write_all}
use Rattle.off_account_rules.specs.declared.counts.Counts.{Counts}
use Rattle.off_account_rules.specs.Rows.{counts_of}
use Rattle.off_orders.specs.Clerk.{rules_of, writes_of, by_rule, accepted}
use Rattle.off_users.specs.Users.{UsersHeld, StandsFor}
use Rattle.off_outside.specs.declared.keeper.KeepErr.{KeepErr}
use Rattle.off_outside.specs.declared.keeper.KeepErr.TheVariants as keeper
use Rattle.off_outside.specs.KeeperSeen.{KeeperSeen}
use Rattle.off_outside.specs.KeeperCalls.{Reads, NotDone}
use Rattle.off_outside.proofs.KeeperLemmas.{reads_then}
use Rattle.off_accounts.specs.declared.results.Asked.{Asked}
use Rattle.off_accounts.specs.declared.results.Planned.{Planned}
use Rattle.off_accounts.specs.declared.results.AccountErr.{AccountErr}
use Rattle.off_accounts.specs.declared.subject.Subject.{Subject}
use Rattle.off_accounts.specs.declared.testing.Test.{Test}
use Rattle.off_accounts.specs.After.{CountsAfter}
use Rattle.off_accounts.specs.Tests.{says, IsSubject, tests_of}
use Rattle.off_accounts.specs.Deciding.{is_import, IsByRules, IsDecided, IsRuling, NotDecided, clerk_answer}
use Rattle.off_accounts.proofs.TestLemmas.{tests_say}

abbrev pub is_show : Command → Bool
is_show (Show key) = true
is_show command = false

-- commands that change the tables, but for imports, are decided by their rules
pub by_rules : (c : Command) → is_import c ≡ false → is_show c ≡ false → IsByRules c
by_rules (PutHub n site) e f = λ t now. refl
by_rules (PutSubscriber n subscriber) e f = λ t now. refl
by_rules (PutAddOn n number settings) e f = λ t now. refl
by_rules (PutModem mac modem) e f = λ t now. refl
by_rules (PutClass n class) e f = λ t now. refl
by_rules (PutPool n pool hub) e f = λ t now. refl
by_rules (PutDevicePool n pool) e f = λ t now. refl
by_rules (Remove removed) e f = λ t now. refl
by_rules (Show shown) e f = cc
by_rules (Import kind batch digest rows) e f = cc

module _ (asked : Asked) (users : UsersHeld) (subject : Subject) (c : Command) (tests : List Test) (by : IsByRules c) (are : tests ≡ tests_of asked.counts asked.at subject c) where
  -- what the tests say is what the rules say
  rules_say : (t : Tables) (broken : Option Rule) → asked.counts ≡ counts_of t → IsSubject c subject t → broken ≡ first_there (map (says t) tests) → first_there (rules_of t asked.at.0 c) ≡ broken
  rules_say t broken agree stands is = sym (tests_say asked.at subject t asked.counts c agree stands) ∙ ap (λ (v : List Test). first_there (map (says t) v)) (sym are) ∙ sym is

  pub refused_by : {a b d : KeeperSeen} (broken : Rule) → Reads (λ t. StandsFor users t → IsSubject c subject t) a b → Reads (λ t. Some broken ≡ first_there (map (says t) tests)) b d
      → Reads (λ t. IsRuling asked.counts users asked.at.0 c t (Err broken)) a d
  refused_by broken looked tested = reads_then looked tested (λ t stands is agree used.
      by t asked.at.0 ∙ ap (by_rule 0 (accepted (writes_of t c) Done)) (rules_say t (Some broken) agree (stands used) is))

  pub planned_by : {k l m n o : KeeperSeen} (writes : List Write) (after : Counts) → Reads (λ t. StandsFor users t → IsSubject c subject t) k l → Reads (λ t. None ≡ first_there (map (says t) tests)) l m
      → Reads (λ t. IsSubject c subject t → writes ≡ writes_of t c) m n → Reads (λ t. CountsAfter asked.counts subject c t after) n o
      → Reads (λ t. IsRuling asked.counts users asked.at.0 c t (Ok (record { writes = writes; reply = Done; counts = after }))) k o
  planned_by writes after looked tested planned counted =
      reads_then (reads_then {R = λ t. (StandsFor users t → IsSubject c subject t) × (None ≡ first_there (map (says t) tests))} looked tested (λ t p q. (p, q)))
      (reads_then {R = λ t. (IsSubject c subject t → writes ≡ writes_of t c) × CountsAfter asked.counts subject c t after} planned counted (λ t p q. (p, q)))
      (λ t p q agree used.
      let stands = p.0 used in
      let none = rules_say t None agree stands p.1 in
      let all = q.0 stands in
      record {
        accepted = by t asked.at.0 ∙ ap (by_rule 0 (accepted (writes_of t c) Done)) none ∙ ap (λ (w : List Write). Ok (accepted w Done)) (sym all);
        counted = q.1 asked.at.0 agree stands none ∙ ap (λ (w : List Write). counts_of (write_all t w)) (sym all);
      })

-- the answer of the whole call, from the verdict
pub answers_so : (counts : Counts) (users : UsersHeld) (now : ℕ) (c : Command) (a b : KeeperSeen) (verdict : Result (Result Planned Rule) KeepErr) (result : Result Planned AccountErr) → result ≡ clerk_answer verdict
    → MatchResult verdict (λ one. Reads (λ t. IsRuling counts users now c t one) a b) (λ err. NotDone err a b)
    → MatchResult result (λ planned. Reads (λ t. counts ≡ counts_of t → StandsFor users t → IsDecided counts now c planned t) a b) (λ err. NotDecided counts users now c err a b)
answers_so counts users now c a b (Ok (Ok planned)) result is p = rw is p
answers_so counts users now c a b (Ok (Err broken)) result is p = rw is p
answers_so counts users now c a b (Err keeper.Memory) result is p = rw is p
answers_so counts users now c a b (Err keeper.Failed) result is p = rw is p
