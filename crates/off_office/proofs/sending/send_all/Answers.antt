use Rattle.std.proofs.Common.{sym, subst, ◌&&◌, arith}
use Rattle.std.proofs.lemmas.List.{take_all}
use Rattle.off_office.specs.Sending.{SentAll}
use Rattle.off_office.proofs.SendLemmas.{sent_none, sent_more, one_more_item}
use Rattle.off_office.proofs.sending.send_all.Goals as goal

pub loop-i-init : goal.loop-i-init
loop-i-init g c = (sent_none _ _, c.len-i-end.ensures)

pub loop-i-preserved : goal.loop-i-preserved
loop-i-preserved g c =
    let items = c.args.replies.now.items in (
      subst (λ xs. SentAll xs c.args.pass.moment (c.loop-i.all && c.send_one-went.result) (g.L.Link.seen c.args.link.now) (g.L.Link.seen c.send_one-went.new.link))
          (sym (one_more_item items c.loop-i.i c.get.result.now (omega (arith, c.loop-i-test.true, c.len-i-end.ensures)) c.get.ensures))
          (sent_more _ _ _ _ _ c.loop-i.invariant.0 c.send_one-went.ensures),
      c.loop-i.invariant.1,
    )

pub returns : goal.returns
returns g c =
    let items = c.args.replies.now.items in
    subst (λ xs. SentAll xs c.args.pass.moment c.loop-i.all (g.L.Link.seen c.args.link.now) (g.L.Link.seen c.loop-i.link))
    (take_all c.loop-i.i items (omega (arith, c.loop-i-test.false, c.len-i-end.ensures))) c.loop-i.invariant.0
