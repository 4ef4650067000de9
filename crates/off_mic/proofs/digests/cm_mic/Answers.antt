use Rattle.std.proofs.Common.{[], sym, ap, ◌∙◌}
use Rattle.md5.specs.Md5.{md5}
use Rattle.off_mic.specs.declared.feeding.Wanted.TheVariants.{ButMics}
use Rattle.off_mic.proofs.FeedLemmas.{wanted_text-append}
use Rattle.off_mic.proofs.digests.cm_mic.Goals as goal

pub returns : goal.returns
returns c = λ front back e f.
    c.finalize.ensures _ (c.feed-2.ensures _ back f (c.feed.ensures [] front e c.new-hasher.ensures)) ∙ ap md5 (sym (wanted_text-append ButMics front back))
