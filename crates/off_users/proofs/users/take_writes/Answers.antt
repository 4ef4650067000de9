use Rattle.std.proofs.Common.{List, sym, subst, arith}
use Rattle.std.proofs.lemmas.List.{take_all}
use Rattle.off_defs.specs.declared.writes.Write.{Write}
use Rattle.off_defs.specs.State.{Tables}
use Rattle.off_defs.specs.Tables.{write_all}
use Rattle.off_users.specs.Users.{StandsFor}
use Rattle.off_defs.proofs.TableLemmas.{written_more}
use Rattle.off_users.proofs.WriteLemmas.{puts_left}
use Rattle.off_users.proofs.users.take_writes.Goals as goal

pub take_write-requires : goal.take_write-requires
take_write-requires c = omega (arith, c.loop-place.invariant.room, puts_left c.args.writes.now c.loop-place.place c.get.result.now c.get.ensures)

pub loop-place-preserved : goal.loop-place-preserved
loop-place-preserved c = record {
  stands = λ t s.
      subst (λ (u : Tables). StandsFor c.take_write.new.self u) (sym (written_more t c.args.writes.now c.loop-place.place c.get.result.now c.get.ensures))
      (c.take_write.ensures.stands _ (c.loop-place.invariant.stands t s));
  room = omega (arith, c.loop-place.invariant.room, c.take_write.ensures.room, puts_left c.args.writes.now c.loop-place.place c.get.result.now c.get.ensures);
}

pub returns : goal.returns
returns c = λ t s.
    subst (λ (ws : List Write). StandsFor c.loop-place.users (write_all t ws)) (take_all c.loop-place.place c.args.writes.now (omega arith)) (c.loop-place.invariant.stands t s)
