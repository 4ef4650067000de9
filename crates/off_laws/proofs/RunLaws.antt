-- The laws of runs, by the laws of their events.
use Rattle.std.proofs.Common.{◌≡◌, ℕ, ◌+◌, ◌≤◌, List, [], ◌∷◌, length, All, refl, sym, ap, ◌∙◌, subst, arith}
use Rattle.std.proofs.lemmas.List.Elements.{All-head, All-tail}
use Rattle.off_defs.specs.declared.writes.Write.{Write}
use Rattle.off_defs.specs.Counts.{commits_after}
use Rattle.std.specs.Ordering.{nat_cmp}
use Rattle.std.specs.FinMap as map
use Rattle.off_defs.specs.State.{Tables, State, Effect, start}
use Rattle.off_account_rules.specs.Good.{Good}
use Rattle.off_book.specs.Step.{Step}
use Rattle.off_book.specs.Run.{Turn, Run, effect_of, tables_after, moment_after, commits_by}
use Rattle.off_laws.specs.Laws.{OneEnd, MomentNeverFalls, RunKeepsGood, FewAreLive, RunTells, OneCommit}
use Rattle.off_laws.proofs.StepLaws.{one_result, moment_is_greatest, step_good, tables_by_commit}
use Rattle.off_laws.proofs.Connections.{AreFew, step_few}

-- what a turn said, and a state after it
abbrev turned : Turn → State → Effect
turned turn after = effect_of turn after

pub one_end : OneEnd
one_end s one other [] p q = p ∙ sym q
one_end s one other (turn ∷ turns) p q =
    let same : p.0 ≡ q.0 = ap (λ (e : Effect). e.after) (one_result s turn.event turn.outcome (turned turn p.0) (turned turn q.0) p.1.0 q.1.0) in
    one_end q.0 one other turns (subst (λ m. Run m turns one) same p.1.1) q.1.1

pub moment_never_falls : MomentNeverFalls
moment_never_falls s last [] p = omega (arith, ap (λ (m : State). m.held.now) p)
moment_never_falls s last (turn ∷ turns) p =
    let next = moment_is_greatest s turn.event turn.outcome (turned turn p.0) p.1.0 in
    let rest = moment_never_falls p.0 last turns p.1.1 in
    omega arith

-- what each event keeps, a run keeps
kept : (P : State → Type 0)
    → ((s : State) (turn : Turn) (after : State) → Step s turn.event turn.outcome (turned turn after) → P s → P after)
    → (s last : State) (turns : List Turn) → Run s turns last → P s → P last
kept P keeps s last [] p holds = subst P (sym p) holds
kept P keeps s last (turn ∷ turns) p holds = kept P keeps p.0 last turns p.1.1 (keeps s turn p.0 p.1.0 holds)

pub run_keeps_good : RunKeepsGood
run_keeps_good s last turns p good =
    kept (λ (u : State). Good u.tables) (λ u turn after step holds. step_good u turn.event turn.outcome (turned turn after) step holds) s last turns p good

none_live : (tables : Tables) → AreFew (start tables)
none_live tables = omega (arith, map.len-empty nat_cmp (List ℕ))

pub few_are_live : FewAreLive
few_are_live tables last turns p =
    kept AreFew (λ u turn after step few. step_few u turn.event turn.outcome (turned turn after) step few) (start tables) last turns p (none_live tables)

-- the tables and the moment at the end are told by the turns
pub run_tells : RunTells
run_tells s last [] p = (ap (λ (m : State). m.tables) p, ap (λ (m : State). m.held.now) p)
run_tells s last (turn ∷ turns) p =
    let tables = tables_by_commit s turn.event turn.outcome (turned turn p.0) p.1.0 in
    let moment = moment_is_greatest s turn.event turn.outcome (turned turn p.0) p.1.0 in
    let rest = run_tells p.0 last turns p.1.1 in
    (rest.0 ∙ ap (λ (t : Tables). tables_after t turns) tables, rest.1 ∙ ap (λ n. moment_after n turns) moment)

-- a turn commits once at most
commit_most : (commit : List Write) (n : ℕ) → commits_after commit n ≤ n + 1
commit_most [] n = omega arith
commit_most (write ∷ writes) n = omega arith

commits_most : (turns : List Turn) (n : ℕ) → commits_by turns n ≤ n + length turns
commits_most [] n = omega arith
commits_most (turn ∷ turns) n =
    let one = commit_most turn.commit n in
    let rest = commits_most turns (commits_after turn.commit n) in
    omega (arith, one, rest)

abbrev WritesNothing : Turn → Type 0
WritesNothing turn = turn.commit ≡ []

commits_none : (turns : List Turn) (n : ℕ) → All WritesNothing turns → commits_by turns n ≡ n
commits_none [] n none = refl
commits_none (turn ∷ turns) n none =
    ap (λ (writes : List Write). commits_by turns (commits_after writes n)) (All-head WritesNothing turn turns none)
    ∙ commits_none turns n (All-tail WritesNothing turn turns none)

pub one_commit : OneCommit
one_commit turns n = (commits_most turns n, commits_none turns n)
