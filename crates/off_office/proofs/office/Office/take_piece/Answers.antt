use Rattle.off_office.proofs.StepLemmas.{heard_handled, failed_handled}
use Rattle.off_office.proofs.office.Office.take_piece.Goals as goal

pub returns-in-Ok : goal.returns-in-Ok
returns-in-Ok g c = heard_handled _ _ _ _ _ _ _ c.in-Ok.ensures.told c.hear.ensures.asks

pub returns-in-Err : goal.returns-in-Err
returns-in-Err g c = failed_handled _ _ _ _ _ _ _ _ _ c.in-Err.ensures.told c.hear.ensures.asks c.fail.ensures
