-- What each of the four words that act says of the tables behind it, and what the client was told.
use Rattle.std.specs.Prelude.{◌≡◌, ◌⊎◌, ℕ, ◌<◌, Option, Some, None}
use Rattle.off_base.specs.declared.addresses.Ip4.{Ip4}
use Rattle.off_base.specs.declared.macs.Mac.{Mac}
use Rattle.off_defs.specs.declared.tables.Site.{Site}
use Rattle.off_defs.specs.declared.tables.Pool.{Pool}
use Rattle.off_defs.specs.declared.tables.Hold.{Hold}
use Rattle.off_defs.specs.declared.tables.Hold.TheVariants.{Offered, Bound, Declined}
use Rattle.off_defs.specs.declared.tables.Lease.{Lease}
use Rattle.off_defs.specs.Clock.{later_by}
use Rattle.off_defs.specs.State.{Tables}
use Rattle.off_defs.specs.Tables.{write_all}
use Rattle.off_dhcp.specs.Datagram.{Received}
use Rattle.off_account_rules.specs.Rows.{lease_in, held_in}
use Rattle.off_lease_rules.specs.Free.{pool_for, site_for}
use Rattle.off_asking.specs.Asking.{client, claimed}
use Rattle.off_lease_rules.specs.Steps.{offer_to}
use Rattle.off_lease_rules.specs.declared.results.LeaseStep.{LeaseStep}
use Rattle.off_lease_laws.specs.Moves.{LiesInAPool}

-- a lease that ends at a moment
abbrev pub lease_until : Hold → ℕ → Lease
lease_until hold expiry = record { hold = hold; expiry = record { 0 = expiry } }

abbrev pub bound_until : Mac → ℕ → Lease
bound_until mac expiry = lease_until (Bound mac) expiry

pub record IsLiveBound (now : ℕ) (mac : Mac) (lease : Option Lease) : Type 0 where
  pub expiry : ℕ
  pub bound : lease ≡ Some (bound_until mac expiry)
  pub live : now < expiry

-- the address that the client is offered is its own for two minutes, or it is bound to it already;
-- a pool has it
pub record IsOfferedBy (tables : Tables) (now : ℕ) (m : Received) (step : LeaseStep) : Type 0 where
  pub site : Site
  pub pool : Pool
  pub address : Ip4
  pub site_is : site_for tables m ≡ Some site
  pub reply : step.reply ≡ Some (offer_to 2 m site pool address)
  pub lease : (lease_in (write_all tables step.writes) address
      ≡ Some (lease_until (Offered (client m)) (later_by 120 now)))
      ⊎ IsLiveBound now (client m) (lease_in (write_all tables step.writes) address)
  pub held : held_in (write_all tables step.writes) (client m) ≡ Some address
  pub in_pool : LiesInAPool tables address

-- the address for which the client asked, and that is acknowledged, is bound to it for as long as
-- the site's leases last; a pool has it
pub record IsBoundBy (tables : Tables) (now : ℕ) (m : Received) (step : LeaseStep) : Type 0 where
  pub site : Site
  pub pool : Pool
  pub address : Ip4
  pub site_is : site_for tables m ≡ Some site
  pub pool_is : pool_for tables m ≡ Some pool
  pub claim : claimed m ≡ Some address
  pub reply : step.reply ≡ Some (offer_to 5 m site pool address)
  pub lease : lease_in (write_all tables step.writes) address
      ≡ Some (bound_until (client m) (later_by site.lease now))
  pub held : held_in (write_all tables step.writes) (client m) ≡ Some address
  pub in_pool : LiesInAPool tables address

-- the address that the client declined rests for ten minutes, and the client holds nothing
pub record IsDeclinedBy (tables : Tables) (now : ℕ) (m : Received) (step : LeaseStep) : Type 0 where
  pub address : Ip4
  pub claim : claimed m ≡ Some address
  pub reply : step.reply ≡ None
  pub lease : lease_in (write_all tables step.writes) address
      ≡ Some (lease_until Declined (later_by 600 now))
  pub held : held_in (write_all tables step.writes) (client m) ≡ None

-- the address that the client released has no lease, and the client holds nothing
pub record IsReleasedBy (tables : Tables) (m : Received) (step : LeaseStep) : Type 0 where
  pub address : Ip4
  pub claim : claimed m ≡ Some address
  pub reply : step.reply ≡ None
  pub lease : lease_in (write_all tables step.writes) address ≡ None
  pub held : held_in (write_all tables step.writes) (client m) ≡ None
