use Rattle.off_sqlcells.proofs.writing.write_cell.Goals as goal

pub returns-in-Put-clause-done : goal.returns-in-Put-clause-done
returns-in-Put-clause-done g c = rw (c.in-Put.is, ← c.as_slice.ensures.bytes, ← c.as_slice-in-Put.ensures) c.put_cell.ensures.done

pub returns-in-Drop-clause-done : goal.returns-in-Drop-clause-done
returns-in-Drop-clause-done g c = rw (c.in-Drop.is, ← c.as_slice-in-Drop.ensures.bytes) c.drop_cell.ensures.done

pub returns-in-Put-clause-cause : goal.returns-in-Put-clause-cause
returns-in-Put-clause-cause g c = rw (c.in-Put.is, ← c.as_slice.ensures.bytes, ← c.as_slice-in-Put.ensures) c.put_cell.ensures.cause

pub returns-in-Drop-clause-cause : goal.returns-in-Drop-clause-cause
returns-in-Drop-clause-cause g c = rw (c.in-Drop.is, ← c.as_slice-in-Drop.ensures.bytes) c.drop_cell.ensures.cause
