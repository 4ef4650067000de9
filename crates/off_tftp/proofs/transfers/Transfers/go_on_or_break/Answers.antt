use Rattle.std.proofs.Common.{rules, sym, ◌∙◌}
use Rattle.std.specs.FinMap as map
use Rattle.off_tftp.specs.Seen.{view_of}
use Rattle.off_tftp.proofs.DoesLemmas.{seen_does_on}
use Rattle.off_tftp.proofs.transfers.Transfers.go_on_or_break.Goals as goal

pub returns-clause-done : goal.returns-clause-done
returns-clause-done c = λ bytes.
    seen_does_on c.args.now.0 c.args.self.now c.args.from bytes (view_of c.args.seen.now) c.args.from.ip (map.get c.args.self.now c.args.from) c.go_on_by.result
    (sym c.seen_to_agree-agreed.ensures.agrees ∙ search rules) c.requires.more (c.go_on_by.ensures.done (view_of c.args.seen.now) c.args.now.0 bytes)
