-- What the definitions say of a message that is accepted, by its kind, where all is there that it is
-- granted.
use Rattle.std.proofs.Common.{◌≡◌, ℕ, true, false, Option, Some, Result, IfOk, refl, subst}
use Rattle.off_base.specs.declared.addresses.Ip4.{Ip4}
use Rattle.off_base.specs.declared.octets.NoMemory.{NoMemory}
use Rattle.off_defs.specs.declared.tables.Site.{Site}
use Rattle.off_defs.specs.declared.tables.Pool.{Pool}
use Rattle.off_defs.specs.declared.tables.Lease.{Lease}
use Rattle.off_dhcp.specs.Datagram.{Received}
use Rattle.off_asking.specs.Asking.{client, is_discover, is_request, is_decline}
use Rattle.off_lease_rules.specs.Steps.{lease_step_by, offered, bound, offer_to, offers, acknowledges, declines, releases, accepts}
use Rattle.off_lease_rules.specs.declared.results.LeaseStep.{LeaseStep}
use Rattle.off_lease_rules.specs.declared.cases.Case.{Case}
use Rattle.off_lease_rules.specs.declared.words.DhcpWord.TheVariants as word

-- ---- where all is there that is granted

pub offers_granted : (now : ℕ) (m : Received) (c : Case) (chosen : Option Ip4) (lease : Option Lease) (site : Site) (pool : Pool) (address : Ip4)
    → c.site ≡ Some site → c.pool ≡ Some pool → chosen ≡ Some address
    → lease_step_by word.Offer (offered now (client m) c.held address lease) (Some (offer_to 2 m site pool address)) ≡ offers now m c chosen lease
offers_granted now m c chosen lease site pool address s p a = rw (s, p, a) refl

pub acknowledges_granted : (now : ℕ) (m : Received) (c : Case) (chosen : Option Ip4) (site : Site) (pool : Pool) (address : Ip4)
    → c.site ≡ Some site → c.pool ≡ Some pool → chosen ≡ Some address
    → lease_step_by word.Ack (bound now (client m) address site) (Some (offer_to 5 m site pool address)) ≡ acknowledges now m c chosen
acknowledges_granted now m c chosen site pool address s p a = rw (s, p, a) refl

-- ---- what is accepted, by its kind

pub by_discover : (now : ℕ) (m : Received) (c : Case) (chosen : Option Ip4) (lease : Option Lease) → is_discover m ≡ true
    → accepts now m c chosen lease ≡ offers now m c chosen lease
by_discover now m c chosen lease d = rw d refl

pub by_request : (now : ℕ) (m : Received) (c : Case) (chosen : Option Ip4) (lease : Option Lease) → is_discover m ≡ false → is_request m ≡ true
    → accepts now m c chosen lease ≡ acknowledges now m c chosen
by_request now m c chosen lease d r = rw (d, r) refl

pub by_decline : (now : ℕ) (m : Received) (c : Case) (chosen : Option Ip4) (lease : Option Lease) → is_discover m ≡ false → is_request m ≡ false → is_decline m ≡ true
    → accepts now m c chosen lease ≡ declines now m chosen
by_decline now m c chosen lease d r e = rw (d, r, e) refl

pub by_release : (now : ℕ) (m : Received) (c : Case) (chosen : Option Ip4) (lease : Option Lease) → is_discover m ≡ false → is_request m ≡ false → is_decline m ≡ false
    → accepts now m c chosen lease ≡ releases m chosen
by_release now m c chosen lease d r e = rw (d, r, e) refl

pub as_made : (step : Result LeaseStep NoMemory) (made other : LeaseStep) → IfOk step (λ s. s ≡ made) → made ≡ other → IfOk step (λ s. s ≡ other)
as_made step made other is same = subst (λ (x : LeaseStep). IfOk step (λ s. s ≡ x)) same is
