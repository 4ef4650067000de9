use Rattle.std.proofs.Common.{◌≡◌, true, length, Option, arith, sym, ap, ◌∙◌}
use Rattle.off_base.specs.declared.addresses.Ip4.{Ip4}
use Rattle.off_defs.specs.declared.tables.DeviceLease.{DeviceLease}
use Rattle.off_account_rules.specs.Rows.{passes}
use Rattle.off_behind.specs.Buckets.{Leases, bucket_at}
use Rattle.off_behind.specs.Changes.{holds, puts_in}
use Rattle.off_behind.proofs.StepLemmas.{stepped, unstepped, left_few, taken_few}
use Rattle.off_behind.proofs.writing.take_write.Goals as goal

pub returns-in_default-clause-stands : goal.returns-in_default-clause-stands
returns-in_default-clause-stands c = λ t was stands. unstepped t c.args.write.now c.args.buckets.now.items c.in_default.ensures stands

pub take_in-requires-clause-room : goal.take_in-requires-clause-room
take_in-requires-clause-room c = λ place within inside.
    let puts : puts_in place c.args.write.now ≡ true = ap (passes (λ (change : Ip4 × Option DeviceLease). holds place change.0 change.1)) (sym c.in-Some.ensures) ∙ inside in
    let was = c.requires.room place within puts in
    let left = ap (λ (xs : Leases). length xs) (c.forget.ensures.left place) in
    omega (arith, was, left, left_few place c.in-Some.address c.args.former (bucket_at c.args.buckets.now.items place), c.forget.ensures.rooms place)

pub returns-clause-stands : goal.returns-clause-stands
returns-clause-stands c = λ t was stands.
    stepped t c.args.write.now c.in-Some.address c.in-Some.lease c.args.former c.args.buckets.now.items c.forget.new.buckets.items c.take_in.new.buckets.items c.in-Some.ensures was c.forget.ensures.left c.take_in.ensures.put stands

pub returns-clause-grown : goal.returns-clause-grown
returns-clause-grown c = λ place.
    let left = ap (λ (xs : Leases). length xs) (c.forget.ensures.left place) in
    let put = ap (λ (xs : Leases). length xs) (c.take_in.ensures.put place) in
    omega (arith, left, put, left_few place c.in-Some.address c.args.former (bucket_at c.args.buckets.now.items place), taken_few place c.in-Some.address c.in-Some.lease (bucket_at c.forget.new.buckets.items place))
