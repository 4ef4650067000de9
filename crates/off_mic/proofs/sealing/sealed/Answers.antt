use Rattle.std.proofs.Common.{◌≡◌, ℕ, List, [], ◌++◌, refl, ap, ◌∙◌}
use Rattle.off_base.specs.Tree.{spelling}
use Rattle.off_mic.specs.declared.feeding.Wanted.TheVariants.{ButMics}
use Rattle.off_mic.specs.Mic.{without_mics, with_cm}
use Rattle.off_mic.specs.Feed.{wanted_text}
use Rattle.off_mic.proofs.SealLemmas.{without_again, cm_pushed, both_pushed, sealed_is}
use Rattle.off_mic.proofs.sealing.sealed.Goals as goal

pub returns : goal.returns
returns c = λ trees e.
    let rest = without_mics trees in
    let first : c.push_without_mics.new.out ≡ spelling (without_mics trees) =
    c.in_ok-push_without_mics.ensures trees e ∙ ap (λ (x : List ℕ). x ++ wanted_text ButMics trees) c.new-out.ensures in
    let second : c.push_mic.new.out ≡ spelling (with_cm (without_mics trees)) =
    cm_pushed (without_mics trees) c.push_without_mics.new.out c.cm_mic-cm.result c.push_mic.new.out first
    (c.cm_mic-cm.ensures (without_mics trees) [] (c.as_slice.ensures ∙ first) refl) c.in_ok-push_mic.ensures in
    let third = both_pushed c.args.secret.now (without_mics trees) c.push_mic.new.out c.cmts_mic-cmts.result c.push_mic-2.new.out second
    (c.cmts_mic-cmts.ensures (with_cm (without_mics trees)) [] (c.as_slice-2.ensures ∙ second) refl) c.in_ok-push_mic-2.ensures in
    sealed_is c.args.secret.now (without_mics trees) c.push_mic-2.new.out c.push_end.new.out (without_again trees) third c.in_ok-push_end.ensures
