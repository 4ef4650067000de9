-- The laws of imports, over turns.
use Rattle.std.proofs.Common.{◌≡◌, ℕ, ◌+◌, Option, Some, None, List, [], ◌∷◌, ◌++◌, codes, sym, ap, subst, ◌∙◌, arith}
use Rattle.off_defs.specs.declared.tables.Batch.{Batch}
use Rattle.off_defs.specs.State.{State, Effect}
use Rattle.off_account_rules.specs.Rows.{batch_in}
use Rattle.off_http.specs.Reply.{reply}
use Rattle.off_book.specs.Http.{answer_and_close}
use Rattle.off_book.specs.Run.{Turn, Run}
use Rattle.off_laws.proofs.Standings.{runs_have_places}
use Rattle.off_import_runs.specs.Puts.{puts_in, puts_by, PutOnce}
use Rattle.off_import_runs.specs.Asked.{AsksImport}
use Rattle.off_import_runs.specs.Once.{IsKept, ImportsActOnce}
use Rattle.off_import_runs.specs.Laws.{BatchesArePutOnce, ImportsDo, ImportsActOnceOverRuns}
use Rattle.off_import_runs.proofs.Decisions.{none_put}
use Rattle.off_import_runs.proofs.Turns.{turn_acts, import_effect, is_repeated, is_done, is_whole, is_refused}
use Rattle.off_import_runs.proofs.Sources.{only_imports_put}

-- what is put once over a stretch and over the next is put once over both
stood : (old : Batch) (new last : Option Batch) (puts more : ℕ) → new ≡ Some old → puts ≡ 0 → PutOnce new last more → PutOnce (Some old) last (puts + more)
stood old None last puts more same none rest = cc
stood old (Some new) last puts more same none rest = (rest.0 ∙ same, omega (arith, none, rest.1))

came : (new : Batch) (last : Option Batch) (puts more : ℕ) → puts ≡ 1 → PutOnce (Some new) last more → PutOnce None last (puts + more)
came new None puts more one rest = let no = rest.0 in cc
came new (Some last) puts more one rest = omega (arith, one, rest.1)

still_none : (last : Option Batch) (puts more : ℕ) → puts ≡ 0 → PutOnce None last more → PutOnce None last (puts + more)
still_none None puts more none rest = omega (arith, none, rest)
still_none (Some last) puts more none rest = omega (arith, none, rest)

both_once : (old new last : Option Batch) (puts more : ℕ) → PutOnce old new puts → PutOnce new last more → PutOnce old last (puts + more)
both_once (Some old) new last puts more one rest = stood old new last puts more one.0 one.1 rest
both_once None (Some new) last puts more one rest = came new last puts more one rest
both_once None None last puts more one rest = still_none last puts more one rest

pub batches_are_put_once : BatchesArePutOnce
batches_are_put_once s last [] n run =
    subst (λ (u : State). PutOnce (batch_in s.tables n) (batch_in u.tables n) 0) (sym run) (none_put (batch_in s.tables n))
batches_are_put_once s last (turn ∷ turns) n run =
    both_once (batch_in s.tables n) (batch_in run.0.tables n) (batch_in last.tables n) (puts_in n turn.commit) (puts_by n turns)
    (turn_acts n s run.0 turn run.1.0) (batches_are_put_once run.0 last turns n run.1.1)

-- what stands stays
stands_on : (old new : Option Batch) (held : Batch) (puts : ℕ) → PutOnce old new puts → old ≡ Some held → new ≡ Some held
stands_on (Some old) new held puts once is = once.0 ∙ is
stands_on None new held puts once is = cc

kept : (s last : State) (turn : Turn) (turns : List Turn) (asks : AsksImport s turn) → Run s (turn ∷ turns) last → turn.said.line ≡ codes "http 200"
    → IsKept s turn asks last
kept s last turn turns asks run line =
    let done = is_done s run.0 turn run.1.0 asks line in
    let is = import_effect s run.0 turn run.1.0 asks in
    let behind : batch_in run.0.tables asks.batch ≡ Some done.held = ap (λ (e : Effect). batch_in e.after.tables asks.batch) is ∙ done.stands in
    record {
      held = done.held;
      stands = stands_on (batch_in run.0.tables asks.batch) (batch_in last.tables asks.batch) done.held (puts_by asks.batch turns)
          (batches_are_put_once run.0 last turns asks.batch run.1.1) behind;
      same = done.same;
      told = record { answer = ap (λ (e : Effect). e.said.items) is ∙ (λ i. answer_and_close asks.conn (reply (done.status i) (done.body i))); line = line };
    }

pub imports_do : ImportsDo
imports_do s last turn turns asks run = record {
  repeated = λ held stands. is_repeated s run.0 turn asks held run.1.0 stands;
  done = λ line. kept s last turn turns asks run line;
  whole = λ none line. is_whole s run.0 turn run.1.0 asks none line;
  refused = λ line. is_refused s run.0 turn run.1.0 asks line;
}

abbrev RunsTo : State → State → List Turn → Type 0
RunsTo from to stretch = Run from stretch to

pub imports_act_once : (from to : State) (stretch : List Turn) → Run from stretch to → ImportsActOnce from to stretch
imports_act_once from to stretch run = record {
  once = λ batch. batches_are_put_once from to stretch batch run;
  first = λ turn turns is asks. imports_do from to turn turns asks (subst (RunsTo from to) is run);
  only = λ turn turns is batch. let first = subst (RunsTo from to) is run in only_imports_put from first.0 turn batch first.1.0;
}

pub imports_act_once_through : ImportsActOnceOverRuns
imports_act_once_through s last turns run before stretch later parts =
    let first = runs_have_places s last before (stretch ++ later) (subst (RunsTo s last) parts run) in
    let second = runs_have_places first.state last stretch later first.onward in
    record {
      from = first.state;
      to = second.state;
      up_to = first.up_to;
      onward = second.up_to;
      hold = imports_act_once first.state second.state stretch second.up_to;
    }
