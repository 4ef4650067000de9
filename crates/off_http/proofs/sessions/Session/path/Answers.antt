use Rattle.off_http.proofs.PartLemmas.{slice_is_part}
use Rattle.off_http.proofs.sessions.Session.path.Goals as goal

pub returns-clause-part : goal.returns-clause-part
returns-clause-part c = rw (c.of.ensures, c.as_slice.ensures, ← c.self.view_is) (slice_is_part c.self.inside.bytes c.parts_of.result.target.start c.parts_of.result.target.end)
