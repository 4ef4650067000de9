use Rattle.off_jobs.specs.Ending.{unread_end}
use Rattle.off_jobs.proofs.EndingLemmas.{tells_by}
use Rattle.off_jobs.proofs.telling.tell_unread.Goals as goal

pub returns-in-TooLong : goal.returns-in-TooLong
returns-in-TooLong g c = tells_by (unread_end c.args.own) _ _ _ _ _ c.in-TooLong.is c.tell.ensures

pub returns-in-Failed : goal.returns-in-Failed
returns-in-Failed g c = tells_by (unread_end c.args.own) _ _ _ _ _ c.in-Failed.is c.tell-in-Failed.ensures
