use Rattle.std.proofs.Common.{◌≡◌, sym, ap, ◌∙◌, Option, option_and_then}
use Rattle.off_defs.specs.declared.tables.Site.{Site}
use Rattle.off_defs.specs.State.{Tables}
use Rattle.off_account_rules.specs.Rows.{hub_in, site_of}
use Rattle.off_runs.specs.Held.{KeepsPools}
use Rattle.off_runs.specs.Leases.{ground}
use Rattle.off_readers.proofs.LooksLemmas.{looks_as}
use Rattle.off_cpe.proofs.gathering.site_of.Goals as goal

pub returns-clause-told : goal.returns-clause-told
returns-clause-told g c =
    looks_as _ _ c.read_site.result (λ (site : Option Site) (t : Tables). site ≡ option_and_then (hub_in t) c.hub_around-hub.result)
    (λ (site : Option Site) (t : Tables). KeepsPools c.args.modems.now.pools (ground t) → site ≡ option_and_then (site_of t) c.args.held) c.read_site.ensures.told
    (λ site t is keeps. is ∙ ap (option_and_then (hub_in t)) (c.hub_around-hub.ensures (ground t) keeps) ∙ ap (option_and_then (site_of t)) (sym c.in-Some.is))
