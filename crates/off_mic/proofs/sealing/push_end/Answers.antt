use Rattle.std.proofs.Common.{ℕ, ◌-◌, ◌%◌, ap}
use Rattle.std.proofs.lemmas.Result.{on_ok_weaker}
use Rattle.off_mic.proofs.SealLemmas.{end_pushed}
use Rattle.off_mic.proofs.sealing.push_end.Goals as goal

pub returns : goal.returns
returns c =
    on_ok_weaker c.push_all-2.result
    (end_pushed c.args.out.now c.push_all.new.self c.push_all-2.new.self ((4 - c.len.result % 4) % 4) c.in_ok-push_all.ensures.ok (ap (λ (n : ℕ). (4 - n % 4) % 4) c.len.ensures))
    c.push_all-2.ensures.ok
