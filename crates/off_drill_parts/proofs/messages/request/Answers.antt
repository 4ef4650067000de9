use Rattle.std.proofs.Common.{ap, ◌∙◌}
use Rattle.off_base.specs.declared.addresses.Ip4.{Ip4}
use Rattle.off_dhcp.specs.Reply.{four}
use Rattle.off_drill_parts.proofs.MessageLemmas.{request_is}
use Rattle.off_drill_parts.proofs.messages.request.Goals as goal

pub returns : goal.returns
returns c =
    request_is c.args.i _ _ _ _ _ _ _ _ c.in_ok-bytes.ensures c.in_ok-push_all.ensures.ok c.in_ok-push_all-2.ensures.ok c.in_ok-push_all-3.ensures.ok
    (c.to_be_bytes.ensures ∙ ap (λ (a : Ip4). four a.0) c.address_of.ensures) c.in_ok-push_all-4.ensures.ok c.in_ok-push_all-5.ensures.ok c.modem_options.ensures
