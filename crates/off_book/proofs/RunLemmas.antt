-- A run with one more turn at its end.
use Rattle.std.proofs.Common.{◌≡◌, ℕ, suc, ◌+◌, Bool, true, false, not, cond, List, [], ◌∷◌, ◌++◌, length, count_by, refl, sym, ap, ◌∙◌, subst, arith, append_assoc, append-nil}
use Rattle.std.proofs.lemmas.List.Sums.{sum_by-append}
use Rattle.off_defs.specs.declared.results.Sent.{Sent}
use Rattle.off_defs.specs.Counts.{commits_after, calls_after}
use Rattle.off_defs.specs.State.{State}
use Rattle.off_book.specs.Step.{Step}
use Rattle.off_book.specs.Run.{Turn, Run, effect_of, marked, sent_in, sent_by, lost_in, lost_by, keeper_failures, failures_by, trouble, troubles_by, commits_by, writes_by, line_of, lines_from, all_went}

pub sent_by_push : (turns : List Turn) (turn : Turn) → sent_by (turns ++ turn ∷ []) ≡ sent_by turns ++ sent_in turn
sent_by_push [] turn = append-nil (sent_in turn)
sent_by_push (first ∷ turns) turn = ap (λ v. sent_in first ++ v) (sent_by_push turns turn) ∙ sym (append_assoc (sent_in first) (sent_by turns) (sent_in turn))

pub lost_by_push : (turns : List Turn) (turn : Turn) → lost_by (turns ++ turn ∷ []) ≡ lost_by turns + lost_in turn
lost_by_push [] turn = omega arith
lost_by_push (first ∷ turns) turn = omega (arith, lost_by_push turns turn)

pub failures_by_push : (turns : List Turn) (turn : Turn) → failures_by (turns ++ turn ∷ []) ≡ failures_by turns + keeper_failures turn.outcome
failures_by_push [] turn = omega arith
failures_by_push (first ∷ turns) turn = omega (arith, failures_by_push turns turn)

pub troubles_by_push : (turns : List Turn) (turn : Turn) → troubles_by (turns ++ turn ∷ []) ≡ troubles_by turns + trouble turn.outcome
troubles_by_push [] turn = omega arith
troubles_by_push (first ∷ turns) turn = omega (arith, troubles_by_push turns turn)

pub commits_by_push : (turns : List Turn) (turn : Turn) (n : ℕ) → commits_by (turns ++ turn ∷ []) n ≡ commits_after turn.commit (commits_by turns n)
commits_by_push [] turn n = refl
commits_by_push (first ∷ turns) turn n = commits_by_push turns turn (commits_after first.commit n)

pub writes_by_push : (turns : List Turn) (turn : Turn) (n : ℕ) → writes_by (turns ++ turn ∷ []) n ≡ calls_after turn.said.line (writes_by turns n)
writes_by_push [] turn n = refl
writes_by_push (first ∷ turns) turn n = writes_by_push turns turn (calls_after first.said.line n)

pub lines_from_push : (n : ℕ) (turns : List Turn) (turn : Turn) → lines_from n (turns ++ turn ∷ []) ≡ lines_from n turns ++ line_of (n + length turns) turn
lines_from_push n [] turn =
    let e : n ≡ n + 0 = omega arith in
    append-nil (line_of n turn) ∙ ap (λ k. line_of k turn) e
lines_from_push n (first ∷ turns) turn =
    let e : (n + 1) + length turns ≡ n + suc (length turns) = omega arith in
    (ap (λ v. line_of n first ++ v) (lines_from_push (n + 1) turns turn) ∙ sym (append_assoc (line_of n first) (lines_from (n + 1) turns) (line_of ((n + 1) + length turns) turn)))
    ∙ ap (λ k. (line_of n first ++ lines_from (n + 1) turns) ++ line_of k turn) e

-- one more item and its mark
pub marked_push : (items : List Sent) (marks : List Bool) (item : Sent) (mark : Bool) → length items ≡ length marks
    → marked (items ++ item ∷ []) (marks ++ mark ∷ []) ≡ marked items marks ++ (cond mark (item ∷ []) [])
marked_push [] [] item true same = refl
marked_push [] [] item false same = refl
marked_push [] (m ∷ marks) item mark same = absurd (omega arith)
marked_push (i ∷ items) [] item mark same = absurd (omega arith)
marked_push (i ∷ items) (true ∷ marks) item mark same = ap (λ v. i ∷ v) (marked_push items marks item mark (omega arith))
marked_push (i ∷ items) (false ∷ marks) item mark same = marked_push items marks item mark (omega arith)

pub all_went_push : (marks : List Bool) (mark : Bool) → all_went (marks ++ mark ∷ []) ≡ cond (all_went marks) mark false
all_went_push [] true = refl
all_went_push [] false = refl
all_went_push (true ∷ marks) mark = all_went_push marks mark
all_went_push (false ∷ marks) mark = refl

-- how many items were lost, with one more mark
pub lost_push : (marks : List Bool) (mark : Bool) → count_by not (marks ++ mark ∷ []) ≡ count_by not marks + cond mark 0 1
lost_push marks true = sum_by-append (λ m. cond (not m) 1 0) marks (true ∷ [])
lost_push marks false = sum_by-append (λ m. cond (not m) 1 0) marks (false ∷ [])

-- it is a run, whose last turn is a step from where the others led to
pub run_push : (s : State) (turns : List Turn) (mid last : State) (turn : Turn) → Run s turns mid → Step mid turn.event turn.outcome (effect_of turn last) → Run s (turns ++ turn ∷ []) last
run_push s [] mid last turn run step = (last, (subst (λ v. Step v turn.event turn.outcome (effect_of turn last)) run step, refl))
run_push s (first ∷ turns) mid last turn run step = (run.0, (run.1.0, run_push run.0 turns mid last turn run.1.1 step))
