use Rattle.std.proofs.Common.{ℕ, List, [], ◌++◌, refl, sym, subst, ◌∙◌, append-nil}
use Rattle.off_base.specs.Tree.{Tree}
use Rattle.off_mic.specs.Hmac.{HoldsKeyed}
use Rattle.off_mic.specs.Mic.{text_of_codes}
use Rattle.off_mic.specs.Started.{codes_first}
use Rattle.off_mic.proofs.started.Started.over.Goals as goal

pub returns : goal.returns
returns c =
    record {
      cm = λ trees e. c.feed.ensures [] trees e c.new-cm.ensures;
      cmts = λ trees e.
          let under : HoldsKeyed c.take_codes.new.hmac c.as_slice.result.now (text_of_codes codes_first (trees ++ [])) = c.take_codes.ensures c.as_slice.result.now [] trees [] e refl c.new-cmts.ensures in
          let same : HoldsKeyed c.take_codes.new.hmac c.copy.result (text_of_codes codes_first (trees ++ [])) =
          subst (λ (s : List ℕ). HoldsKeyed c.take_codes.new.hmac s (text_of_codes codes_first (trees ++ []))) (c.as_slice.ensures.bytes ∙ sym c.copy.ensures) under in
          subst (λ (ts : List Tree). HoldsKeyed c.take_codes.new.hmac c.copy.result (text_of_codes codes_first ts)) (append-nil trees) same;
    }
