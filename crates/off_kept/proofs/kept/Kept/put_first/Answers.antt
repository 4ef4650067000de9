use Rattle.std.proofs.Common.{ap, sym, ◌∙◌}
use Rattle.off_kept.specs.Entries.{Entries, with_first}
use Rattle.off_base.specs.Macs.{is_same_mac}
use Rattle.off_base.proofs.MacLemmas.{mac_decides}
use Rattle.off_kept.proofs.PutLemmas.{put_is}
use Rattle.off_base.proofs.ResultLemmas.{if_ok}
use Rattle.off_kept.proofs.kept.Kept.put_first.Goals as goal

pub returns-then-is_put-clause-ok : goal.returns-then-is_put-clause-ok
returns-then-is_put-clause-ok c =
    let put = if_ok c.put.result (sym c.is_ok-is_put.ensures.value ∙ c.if-is_put.true) c.put.ensures.entries in
    ap (λ cache. cache.entries) put ∙ put_is is_same_mac mac_decides c.args.modem c.self.inside.cache 511 c.args.kept c.self.invariant c.len-len.ensures.valid
    ∙ ap (λ (entries : Entries). with_first c.args.modem c.args.kept entries) c.self.view_is
