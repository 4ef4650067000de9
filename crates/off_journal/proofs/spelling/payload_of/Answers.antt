use Rattle.std.proofs.Common.{ℕ, ◌∙◌, ◌++◌, List, ap, sym}
use Rattle.std.proofs.lemmas.Result.{err_from_is_err_and}
use Rattle.off_journal.specs.Payload.{write_bytes}
use Rattle.off_spelled.proofs.SpellLemmas.{spelled_more}
use Rattle.off_journal.proofs.WriteLemmas.{not_spelled, payload_more}
use Rattle.off_journal.proofs.spelling.payload_of.Goals as goal

pub returns-in_err-push_write : goal.returns-in_err-push_write
returns-in_err-push_write c =
    let p = err_from_is_err_and c.from_residual.result c.from_residual.ensures.1 in
    rw (p.1, p.2) (not_spelled c.args.writes.now c.loop-i.i c.get.result.now _ c.loop-i.payload c.push_write.new.out c.args.own.now c.loop-i.own c.push_write.new.own c.get.ensures
    c.loop-i.invariant.own c.in_err-push_write.ensures)

pub loop-i-preserved : goal.loop-i-preserved
loop-i-preserved c = record {
  spelled = spelled_more c.args.writes.now c.loop-i.i c.get.result.now c.get.ensures c.loop-i.invariant.spelled c.in_ok-push_write.ensures.0;
  bytes = c.in_ok-push_write.ensures.1.0 ∙ (ap (λ (l : List ℕ). l ++ write_bytes c.get.result.now) c.loop-i.invariant.bytes
      ∙ sym (payload_more c.args.writes.now c.loop-i.i c.get.result.now c.get.ensures));
  own = c.in_ok-push_write.ensures.1.1 ∙ c.loop-i.invariant.own;
}
