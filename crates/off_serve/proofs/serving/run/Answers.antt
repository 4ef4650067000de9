use Rattle.off_serve.specs.Headline.{DoesJob, outside_of}
use Rattle.off_words.specs.Reading.{asked_for}
use Rattle.off_serve.proofs.HeadlineLemmas.{by_words}
use Rattle.off_serve.proofs.serving.run.Goals as goal

pub returns-in-Some : goal.returns-in-Some
returns-in-Some g c =
    by_words _
    (λ job. DoesJob job (outside_of (g.L.Link.seen c.args.link.now) (g.K.Keeper.seen c.args.keeper.now) (g.S.Source.seen c.args.source.now) (g.W.Sink.seen c.args.out.now))
    (outside_of (g.L.Link.seen c.do_job.new.link) (g.K.Keeper.seen c.do_job.new.keeper) (g.S.Source.seen c.do_job.new.source) (g.W.Sink.seen c.do_job.new.out)) c.do_job.result)
    (asked_for c.in-Some.asked) _ c.in-Some.ensures.job c.do_job.ensures
