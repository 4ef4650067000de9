use Rattle.std.proofs.Common.{refl}
use Rattle.std.proofs.lemmas.List.{take_at}
use Rattle.off_http.proofs.PartLemmas.{stage_says, stage_answers}
use Rattle.off_http.proofs.sessions.Session.feed.Goals as goal

pub invariant_of-self : goal.invariant_of-self
invariant_of-self c = rw c.in_err-push_all.ensures.err c.self.invariant

pub next_stage-self-inside-requires-clause-held : goal.next_stage-self-inside-requires-clause-held
next_stage-self-inside-requires-clause-held c =
    rw (c.as_slice.ensures, c.in_ok-push_all.ensures.ok, c.len-seen.ensures, take_at c.self.inside.bytes c.args.piece.now _ refl) c.self.invariant

pub invariant_of-self-2 : goal.invariant_of-self-2
invariant_of-self-2 c = rw c.as_slice.ensures at c.next_stage-self-inside.ensures

pub returns-clause-says : goal.returns-clause-says
returns-clause-says c = stage_says _ _ (rw c.as_slice.ensures at c.next_stage-self-inside.ensures)

pub returns-clause-answers : goal.returns-clause-answers
returns-clause-answers c = rw c.piece_answer.ensures (stage_answers _ c.next_stage-self-inside.result)
