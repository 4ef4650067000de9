use Rattle.off_tftp.specs.Seen.{held_by}
use Rattle.off_tftp.specs.Deciding.{denial_of}
use Rattle.off_tftp.proofs.DoesLemmas.{refused_unseen}
use Rattle.off_tftp.proofs.OpenLemmas.{found_serves, found_fits, found_begins, found_unseen, found_begun_agrees, refused_serves, refused_fits, refused_begins, refused_agrees}
use Rattle.off_tftp.proofs.transfers.Transfers.open.Goals as goal

pub returns-in-Ok-clause-done : goal.returns-in-Ok-clause-done
returns-in-Ok-clause-done c = λ profile entry serves.
    found_serves c.args.self.now c.args.request.now c.args.seen.now c.lacks_room.result c.in-Ok.found profile c.begin.result c.in-Ok.ensures c.lacks_room.ensures c.requires.named entry serves c.begin.ensures

pub returns-in-Ok-clause-able : goal.returns-in-Ok-clause-able
returns-in-Ok-clause-able c =
    found_fits c.args.self.now c.args.request.now c.args.seen.now c.lacks_room.result c.in-Ok.found c.begin.result c.in-Ok.ensures c.lacks_room.ensures c.requires.place c.begin.ensures

pub returns-in-Ok-clause-begins : goal.returns-in-Ok-clause-begins
returns-in-Ok-clause-begins c = λ new.
    found_begins c.args.self.now c.args.request.now c.args.seen.now c.lacks_room.result c.in-Ok.found c.begin.result c.in-Ok.ensures new c.begin.ensures

pub returns-in-Err-clause-done : goal.returns-in-Err-clause-done
returns-in-Err-clause-done c = λ profile entry serves.
    refused_serves c.args.self.now c.args.request.now c.args.seen.now c.lacks_room.result c.in-Err.why profile c.refuse.result c.in-Err.ensures c.lacks_room.ensures c.requires.named entry c.refuse.ensures

pub returns-in-Err-clause-able : goal.returns-in-Err-clause-able
returns-in-Err-clause-able c = refused_fits c.args.self.now c.args.request.now.from (denial_of c.in-Err.why) c.refuse.result c.refuse.ensures

pub returns-in-Err-clause-begins : goal.returns-in-Err-clause-begins
returns-in-Err-clause-begins c = λ new.
    refused_begins c.args.self.now c.args.request.now (held_by c.args.request.now.at.0 c.args.seen.now.lease) (denial_of c.in-Err.why) c.refuse.result new c.refuse.ensures

pub returns-in-Ok-clause-unseen : goal.returns-in-Ok-clause-unseen
returns-in-Ok-clause-unseen c = found_unseen c.args.request.now c.args.seen.now.site c.in-Ok.found c.begin.result c.begin.ensures

pub returns-in-Err-clause-unseen : goal.returns-in-Err-clause-unseen
returns-in-Err-clause-unseen c = refused_unseen c.args.request.now.from (denial_of c.in-Err.why) c.refuse.result c.refuse.ensures

pub returns-in-Ok-clause-agrees : goal.returns-in-Ok-clause-agrees
returns-in-Ok-clause-agrees c = found_begun_agrees c.args.request.now c.args.seen.now c.lacks_room.result c.in-Ok.found c.begin.result c.in-Ok.ensures c.requires.named c.begin.ensures

pub returns-in-Err-clause-agrees : goal.returns-in-Err-clause-agrees
returns-in-Err-clause-agrees c = refused_agrees c.args.request.now c.args.seen.now (denial_of c.in-Err.why) c.refuse.result c.refuse.ensures
