use Rattle.std.proofs.Common.{ap, ◌∙◌}
use Rattle.off_behind.specs.Changes.{holds}
use Rattle.off_behind.proofs.PlaceLemmas.{put_here, put_nowhere, is_itself}
use Rattle.off_behind.proofs.writing.take_in.Goals as goal

pub insert_in-requires-clause-room : goal.insert_in-requires-clause-room
insert_in-requires-clause-room c =
    let p = c.in-Some-place_of.place in
    c.requires.room p c.in-Some-place_of.ensures.within (ap (holds p c.args.address) c.in-Some.is ∙ c.in-Some-place_of.ensures.place p c.args.address ∙ is_itself p)

pub returns-in-Some-place_of-clause-put : goal.returns-in-Some-place_of-clause-put
returns-in-Some-place_of-clause-put c = λ place.
    c.insert_in.ensures.put.leases_are place
    ∙ put_here c.args.buckets.now.items c.in-Some-place_of.place place c.args.address c.args.lease c.in-Some.given c.in-Some.is (ap (holds place c.args.address) c.in-Some.is ∙ c.in-Some-place_of.ensures.place place c.args.address)

pub returns-in-None-clause-put : goal.returns-in-None-clause-put
returns-in-None-clause-put c = λ place. put_nowhere place c.args.address c.args.lease _ (ap (holds place c.args.address) c.in-Some.is ∙ c.in-None.ensures.place place c.args.address)
