use Rattle.std.proofs.Common.{◌≡◌, ◌∙◌, length, subst, ap, arith}
use Rattle.off_journal.specs.Begin.{HasLooked}
use Rattle.off_journal.specs.declared.begin.Gate.{Gate}
use Rattle.off_disk.proofs.Moments.{kept_then}
use Rattle.off_journal.proofs.Walk.{so_far_more}
use Rattle.off_journal.proofs.begin.read_all.Goals as goal

pub records-preserved : goal.records-preserved
records-preserved g c =
    let d1 = g.D.Disk.seen c.records.disk in
    let d2 = g.D.Disk.seen c.read_record.new.disk in
    let look = subst (λ (f : Gate). HasLooked f c.records.gate d1 d2) c.in-Open.is c.in_ok-read_record.ensures in
    let done = c.in_ok-do_payload-in-Open.ensures in
    let size : c.len.result ≡ length c.in-Open.payload.items = omega (arith, c.len.ensures, c.deref.ensures.len, ap length c.deref.ensures.value) in
    record {
      kept = kept_then c.records.invariant.kept look.kept;
      faults = look.faults ∙ c.records.invariant.faults;
      within = omega (arith, look.within.0, look.kept.size, size);
      so_far = so_far_more c.records.rows.tables c.do_payload.new.rows.tables c.records.gate _ done.0 c.in-Open.payload.items d1 d2 look.kept c.records.invariant.so_far done.1.0
          (done.1.1.0 ∙ c.deref.ensures.value) look.within.1 look.at done.1.1.1 (omega (arith, size));
    }
