use Rattle.std.proofs.Common.{refl, sym, subst, ap, ◌∙◌}
use Rattle.md5.specs.Md5.{md5, Holds}
use Rattle.md5.specs.declared.Md5.{Md5}
use Rattle.off_mic.specs.declared.feeding.Wanted.TheVariants.{ButMics}
use Rattle.off_mic.specs.Feed.{wanted_text}
use Rattle.off_mic.proofs.FeedLemmas.{wanted_text-append}
use Rattle.off_mic.proofs.started.Started.cm_mic.Goals as goal

pub returns : goal.returns
returns c = λ front back begun e.
    c.finalize.ensures _ (c.feed.ensures (wanted_text ButMics front) back e (subst (λ (h : Md5). Holds h (wanted_text ButMics front)) (sym c.copied-hasher.ensures) (begun.cm front refl)))
    ∙ ap md5 (sym (wanted_text-append ButMics front back))
