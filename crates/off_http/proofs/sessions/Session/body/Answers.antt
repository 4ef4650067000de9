use Rattle.std.proofs.Common.{◌+◌}
use Rattle.off_http.proofs.PartLemmas.{slice_is_part}
use Rattle.off_http.proofs.sessions.Session.body.Goals as goal

pub returns-clause-part : goal.returns-clause-part
returns-clause-part c =
    let parts = c.parts_of-parts.result in
    rw (c.as_slice.ensures, ← c.self.view_is) (slice_is_part c.self.inside.bytes parts.head_len (parts.head_len + parts.body_len))
