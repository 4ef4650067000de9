use Rattle.std.proofs.Common.{◌<◌, List, length, take, sym, subst, arith}
use Rattle.std.proofs.lemmas.List.{take_all}
use Rattle.off_defs.specs.declared.writes.Write.{Write}
use Rattle.off_defs.specs.State.{Tables}
use Rattle.off_defs.specs.Tables.{write_all}
use Rattle.off_account_rules.specs.Rows.{devices}
use Rattle.off_behind.specs.Buckets.{Indexes}
use Rattle.off_behind.specs.Changes.{puts_in}
use Rattle.off_defs.proofs.TableLemmas.{written_more}
use Rattle.off_behind.proofs.WriteLemmas.{any_there, room_left}
use Rattle.off_behind.proofs.writing.follow_each.Goals as goal

pub follow_write-requires-clause-room : goal.follow_write-requires-clause-room
follow_write-requires-clause-room c = λ place within puts.
    let any = any_there (puts_in place) c.args.writes.now c.loop-place.place c.get.result.now c.get.ensures puts in
    omega (arith, c.loop-place.invariant.room place within any, c.loop-place-test.true, c.len-place-end.ensures)

pub loop-place-preserved : goal.loop-place-preserved
loop-place-preserved c =
    let was = c.loop-place.invariant in
    let writes = c.args.writes.now in
    let i = c.loop-place.place in
    let below : i < length writes = omega (arith, c.loop-place-test.true, c.len-place-end.ensures) in
    record {
      len = c.follow_write.ensures.len;
      stands = λ t first.
          subst (λ (u : Tables). Indexes c.follow_write.new.buckets.items (devices u)) (sym (written_more t writes i c.get.result.now c.get.ensures))
          (c.follow_write.ensures.stands (write_all t (take i writes)) (was.stands t first));
      room = room_left (length writes) i writes c.loop-place.buckets.items c.follow_write.new.buckets.items below was.room c.follow_write.ensures.grown c.follow_write.ensures.rooms;
    }

pub returns-clause-stands : goal.returns-clause-stands
returns-clause-stands c = λ t first.
    subst (λ (ws : List Write). Indexes c.loop-place.buckets.items (devices (write_all t ws)))
    (take_all c.loop-place.place c.args.writes.now (omega (arith, c.loop-place-test.false, c.len-place-end.ensures))) (c.loop-place.invariant.stands t first)
