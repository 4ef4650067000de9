use Rattle.std.proofs.Common.{◌+◌, ◌-◌, ◌<◌, ◌∙◌, arith}
use Rattle.off_disk.proofs.Moments.{kept_then}
use Rattle.off_journal.proofs.Gates.{looked_shut, looked_short, looked_broken, looked_open}
use Rattle.off_journal.proofs.begin.read_record.Goals as goal

pub returns-then-is_one : goal.returns-then-is_one
returns-then-is_one g c = looked_short c.args.gate c.read.new.out (g.D.Disk.seen c.args.disk.now) (g.D.Disk.seen c.read.new.self) (λ b told. g.met.D.Disk.lengths c.args.disk.now b told)
    c.in_ok-read.ensures c.if-is_one.ensures (omega (arith, c.if-left-lt5.true, c.length.ensures))

pub returns-then-left-lt5 : goal.returns-then-left-lt5
returns-then-left-lt5 g c = looked_shut c.args.gate c.read.new.out (g.D.Disk.seen c.args.disk.now) (g.D.Disk.seen c.read.new.self) c.in_ok-read.ensures c.if-is_one.ensures

pub returns-in_default : goal.returns-in_default
returns-in_default g c = looked_shut c.args.gate c.read-2.new.out (g.D.Disk.seen c.args.disk.now) (g.D.Disk.seen c.read-2.new.self) c.in_ok-read-2.ensures c.in_default.ensures

pub returns-then-from-left : goal.returns-then-from-left
returns-then-from-left g c = looked_broken c.args.gate _ c.read-2.new.out (g.D.Disk.seen c.args.disk.now) (g.D.Disk.seen c.read-2.new.self)
    (λ b told. g.met.D.Disk.lengths c.args.disk.now b told) c.in_ok-read-2.ensures c.in-Some.ensures.0 c.in-Some.ensures.1
    (omega (arith, c.if-from-left.true, c.length.ensures, c.from.ensures))

pub returns : goal.returns
returns g c =
    let size = c.length.ensures in
    let long = c.in_ok-payload.ensures.1 in
    let many : c.in-Some.length + 5 < (g.D.Disk.seen c.args.disk.now).size - c.args.gate = omega (arith, size, c.if-from-left.false, c.from.ensures) in
    record {
      kept = kept_then c.in_ok-read-2.ensures.kept c.in_ok-payload.ensures.0.kept;
      faults = c.in_ok-payload.ensures.0.faults ∙ c.in_ok-read-2.ensures.faults;
      within = (omega (arith, many, long), omega (arith, c.in-Some.ensures.0, long));
      at = λ b told. looked_open c.args.gate c.in-Some.length c.read-2.new.out c.in_ok-payload.payload.items (g.D.Disk.seen c.args.disk.now) (g.D.Disk.seen c.read-2.new.self)
          (g.D.Disk.seen c.read_bytes.new.disk)
          (λ x shown. g.met.D.Disk.lengths c.args.disk.now x shown) c.in_ok-read-2.ensures c.in-Some.ensures.0 c.in-Some.ensures.1
          many c.in_ok-payload.ensures.0 long b told;
    }
