-- When the tables agree with a file for a modem at an address, in rows.
use Rattle.std.specs.Prelude.{◌≡◌, ℕ, ◌<◌, List, Some}
use Rattle.off_base.specs.declared.addresses.Ip4.{Ip4}
use Rattle.off_defs.specs.declared.tables.Site.{Site}
use Rattle.off_defs.specs.declared.tables.Modem.{Modem}
use Rattle.off_defs.specs.declared.tables.Lease.{Lease}
use Rattle.off_defs.specs.declared.tables.Hold.TheVariants.{Bound}
use Rattle.off_defs.specs.State.{Tables}
use Rattle.off_account_rules.specs.Rows.{site_of, modem_in, lease_in}
use Rattle.off_file_rules.specs.Name.{name_of}
use Rattle.off_transfer_rules.specs.Requests.{FileOwner}

-- the address is bound to the modem by a lease that hasn't ended, the modem is the subscriber's,
-- and the name is the one that the site's secret makes for both
pub record Agreement (tables : Tables) (now : ℕ) (ip : Ip4) (name : List ℕ)
    (owner : FileOwner) : Type 0 where
  pub lease : Lease
  pub modem : Modem
  pub site : Site
  pub lease_is : lease_in tables ip ≡ Some lease
  pub bound : lease.hold ≡ Bound owner.modem
  pub live : now < lease.expiry.0
  pub modem_is : modem_in tables owner.modem ≡ Some modem
  pub owned : modem.subscriber ≡ owner.subscriber
  pub site_is : site_of tables ip ≡ Some site
  pub named : name ≡ name_of site.secret owner.modem ip
