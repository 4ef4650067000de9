-- What is known of a message that no rule refuses, and of the word of one that some rule does.
use Rattle.std.proofs.Common.{◌≡◌, false, not, ◌&&◌, Option, Some, None, is_none, refl}
use Rattle.std.proofs.lemmas.Bool.{not-true}
use Rattle.off_base.specs.declared.addresses.Ip4.{Ip4}
use Rattle.off_dhcp.specs.Datagram.{Received}
use Rattle.off_asking.specs.Asking.{is_discover, asks}
use Rattle.off_asking.specs.Claims.{claims_wrongly, lacks_record, refused_by}
use Rattle.off_asking.proofs.ClaimLemmas.{all_unbroken, refused_passes}
use Rattle.off_cpe_rules.specs.Words.{acts}
use Rattle.off_cpe_rules.specs.Rules.{is_full, has_service, rules_for}
use Rattle.off_cpe_rules.specs.declared.cases.DeviceCase.{DeviceCase}
use Rattle.off_cpe_rules.specs.declared.words.DeviceWord.{DeviceWord}

-- no rule is broken
pub record Unbroken (m : Received) (c : DeviceCase) (chosen : Option Ip4) : Type 0 where
  pub service : (asks m && not (has_service c)) ≡ false
  pub limit : (asks m && is_full c) ≡ false
  pub full : (is_discover m && is_none chosen) ≡ false
  pub known : lacks_record m c.own ≡ false
  pub own : claims_wrongly m c.own c.pool ≡ false

pub unbroken : (m : Received) (c : DeviceCase) (chosen : Option Ip4) → refused_by (rules_for m c chosen) ≡ None → Unbroken m c chosen
unbroken m c chosen e =
    let all = all_unbroken (rules_for m c chosen) e in
    record {
      service = all.1.1.1.0;
      limit = all.1.1.1.1.1.1.0;
      full = all.1.1.1.1.1.1.1.0;
      known = all.1.1.1.1.1.1.1.1.0;
      own = all.1.1.1.1.1.1.1.1.1.0;
    }

-- the word of a refusal isn't one of those that act
pub refusals : (m : Received) (c : DeviceCase) (chosen : Option Ip4) (w : DeviceWord) → refused_by (rules_for m c chosen) ≡ Some w → acts w ≡ false
refusals m c chosen w e = not-true (acts w) (refused_passes (λ v. not (acts v)) (rules_for m c chosen) w refl e)
