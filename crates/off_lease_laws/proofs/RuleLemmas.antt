-- What is known of a message that no rule refuses, and of the word of one that some rule does.
use Rattle.std.proofs.Common.{◌≡◌, false, not, ◌&&◌, Option, Some, None, is_none, refl}
use Rattle.std.proofs.lemmas.Bool.{not-true}
use Rattle.off_base.specs.declared.addresses.Ip4.{Ip4}
use Rattle.off_dhcp.specs.Datagram.{Received}
use Rattle.off_lease_rules.specs.Words.{acts}
use Rattle.off_asking.specs.Asking.{is_discover, asks}
use Rattle.off_asking.specs.Claims.{is_served, lacks_record, claims_wrongly, refused_by}
use Rattle.off_asking.proofs.ClaimLemmas.{all_unbroken, refused_passes}
use Rattle.off_lease_rules.specs.Rules.{rules_for}
use Rattle.off_lease_rules.specs.declared.cases.Case.{Case}
use Rattle.off_lease_rules.specs.declared.words.DhcpWord.{DhcpWord}

-- no rule is broken
pub record Unbroken (m : Received) (c : Case) (chosen : Option Ip4) : Type 0 where
  pub site : (asks m && is_none c.site) ≡ false
  pub served : not (is_served m) ≡ false
  pub pool : (asks m && is_none c.pool) ≡ false
  pub full : (is_discover m && is_none chosen) ≡ false
  pub known : lacks_record m c.held ≡ false
  pub own : claims_wrongly m c.held c.pool ≡ false

pub unbroken : (m : Received) (c : Case) (chosen : Option Ip4) → refused_by (rules_for m c chosen) ≡ None → Unbroken m c chosen
unbroken m c chosen e =
    let all = all_unbroken (rules_for m c chosen) e in
    record {
      served = all.0;
      pool = all.1.1.1.1.1.0;
      site = all.1.1.1.1.1.1.0;
      full = all.1.1.1.1.1.1.1.1.1.1.0;
      known = all.1.1.1.1.1.1.1.1.1.1.1.0;
      own = all.1.1.1.1.1.1.1.1.1.1.1.1.0;
    }

-- the word of a refusal isn't one of those that act
pub refusals : (m : Received) (c : Case) (chosen : Option Ip4) (w : DhcpWord) → refused_by (rules_for m c chosen) ≡ Some w → acts w ≡ false
refusals m c chosen w e = not-true (acts w) (refused_passes (λ v. not (acts v)) (rules_for m c chosen) w refl e)
