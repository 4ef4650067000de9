-- How a drill ends.
use Rattle.std.specs.Prelude.{ℕ, codes}
use Rattle.off_jobs.specs.Ending.{Ending, ending_of, refused_as, undone_end}
use Rattle.off_office.specs.Closed.{closed_end}
use Rattle.off_drill_rules.specs.Numbers.{summary}
use Rattle.off_drill_job.specs.declared.drilling.Ended.{Ended}
use Rattle.off_drill_job.specs.declared.drilling.Ended.TheVariants.{Closed, NotEmpty, Broken, Done}

abbrev pub drill_end : ℕ → Ended → Ending
drill_end n (Closed err) = closed_end err
drill_end n NotEmpty = refused_as 9 (codes "not-empty")
drill_end n (Broken err) = undone_end err
drill_end n (Done tally) = ending_of 0 (summary n tally)
