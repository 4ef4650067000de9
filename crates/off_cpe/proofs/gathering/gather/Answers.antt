use Rattle.std.proofs.Common.{option_map, ap, ◌∙◌}
use Rattle.off_base.specs.declared.addresses.Ip4.{Ip4}
use Rattle.off_defs.specs.declared.tables.DeviceLease.{DeviceLease}
use Rattle.off_cpe.proofs.RowLemmas.{case_read, four_reads}
use Rattle.off_cpe.proofs.gathering.gather.Goals as goal

pub returns-clause-told : goal.returns-clause-told
returns-clause-told g c =
    four_reads c.in_ok-subscriber.ensures.told c.in_ok-held.ensures.told c.in_ok-is_online.ensures.told c.in_ok-site.ensures.told (λ t subscriber held online site known seen read.
    case_read t c.args.now.0 c.args.m.now c.args.modem.mac _ c.in_ok-held.held (c.pool_for.ensures.is t known.free.keeps) (subscriber read) held online (site known.hubs.keeps)
    (c.address_of.ensures ∙ ap (option_map (λ (lease : Ip4 × DeviceLease). lease.0)) seen.own) seen.others)
