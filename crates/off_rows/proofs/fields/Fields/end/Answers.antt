use Rattle.std.proofs.Common.{refl}
use Rattle.off_rows.proofs.FieldLemmas.{drop_some}
use Rattle.off_rows.proofs.fields.Fields.end.Goals as goal

pub returns-then-self : goal.returns-then-self
returns-then-self c = rw (← c.self.view_is) (record { place = refl; some = drop_some c.self.inside.place c.self.inside.bytes.now c.if-self.true })
