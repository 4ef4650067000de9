-- What may become of a message: one of five things, each with what holds of the tables before.
use Rattle.std.specs.Prelude.{◌≡◌, ℕ, false, IsTrue, [], Some, None}
use Rattle.off_base.specs.declared.addresses.Ip4.{Ip4}
use Rattle.off_defs.specs.declared.tables.Site.{Site}
use Rattle.off_defs.specs.declared.tables.Pool.{Pool}
use Rattle.off_defs.specs.State.{Tables}
use Rattle.off_dhcp.specs.Datagram.{Received}
use Rattle.off_account_rules.specs.Rows.{lease_in, held_in, has_address}
use Rattle.off_lease_rules.specs.Words.{acts}
use Rattle.off_asking.specs.Asking.{client, asks, named_address, at_address, claimed}
use Rattle.off_lease_rules.specs.Free.{pool_for, site_for, case_of, choice}
use Rattle.off_lease_rules.specs.Steps.{offered, bound, set_aside, given_up, offer_to, reply_to_refused}
use Rattle.off_lease_rules.specs.declared.results.LeaseStep.{LeaseStep}
use Rattle.off_lease_rules.specs.declared.words.DhcpWord.TheVariants as word

-- it was refused: nothing is written, and there is no reply but the NAK
pub record WasRefused (tables : Tables) (m : Received) (step : LeaseStep) : Type 0 where
  pub said : acts step.word ≡ false
  pub writes : step.writes ≡ []
  pub reply : step.reply ≡ reply_to_refused m (case_of tables m) step.word

-- an address was offered, the one that is chosen for the client in its pool
pub record WasOffered (tables : Tables) (now : ℕ) (m : Received) (step : LeaseStep) : Type 0 where
  pub site : Site
  pub pool : Pool
  pub address : Ip4
  pub site_is : site_for tables m ≡ Some site
  pub pool_is : pool_for tables m ≡ Some pool
  pub asking : IsTrue (asks m)
  pub chosen : choice tables now pool (held_in tables (client m)) (at_address (named_address m))
      ≡ Some address
  pub said : step.word ≡ word.Offer
  pub writes : step.writes ≡ offered now (client m) (held_in tables (client m)) address
      (lease_in tables address)
  pub reply : step.reply ≡ Some (offer_to 2 m site pool address)

-- the client got the address for which it asked: one of its pool, which it held already
pub record WasBound (tables : Tables) (now : ℕ) (m : Received) (step : LeaseStep) : Type 0 where
  pub site : Site
  pub pool : Pool
  pub address : Ip4
  pub site_is : site_for tables m ≡ Some site
  pub pool_is : pool_for tables m ≡ Some pool
  pub asking : IsTrue (asks m)
  pub claim : claimed m ≡ Some address
  pub held : held_in tables (client m) ≡ Some address
  pub within : IsTrue (has_address pool address)
  pub said : step.word ≡ word.Ack
  pub writes : step.writes ≡ bound now (client m) address site
  pub reply : step.reply ≡ Some (offer_to 5 m site pool address)

-- the client declined the address that it held, or released it; neither has a reply
pub record WasDeclined (tables : Tables) (now : ℕ) (m : Received) (step : LeaseStep) : Type 0 where
  pub address : Ip4
  pub claim : claimed m ≡ Some address
  pub held : held_in tables (client m) ≡ Some address
  pub said : step.word ≡ word.Declined
  pub writes : step.writes ≡ set_aside now (client m) address
  pub reply : step.reply ≡ None

pub record WasReleased (tables : Tables) (m : Received) (step : LeaseStep) : Type 0 where
  pub address : Ip4
  pub claim : claimed m ≡ Some address
  pub held : held_in tables (client m) ≡ Some address
  pub said : step.word ≡ word.Released
  pub writes : step.writes ≡ given_up (client m) address
  pub reply : step.reply ≡ None

pub data Outcome (tables : Tables) (now : ℕ) (m : Received) (step : LeaseStep) : Type 0 where
  refusal : WasRefused tables m step → Outcome tables now m step
  offering : WasOffered tables now m step → Outcome tables now m step
  binding : WasBound tables now m step → Outcome tables now m step
  declining : WasDeclined tables now m step → Outcome tables now m step
  releasing : WasReleased tables m step → Outcome tables now m step
