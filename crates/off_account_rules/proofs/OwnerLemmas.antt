-- Hardware addresses, and a modem with a device behind it: each is itself, and no other.
use Rattle.std.proofs.Common.{◌≡◌, true, Option, Some, None, sym, ap}
use Rattle.std.proofs.lemmas.Bool.{and_parts, and_from}
use Rattle.off_base.specs.declared.macs.Mac.{Mac}
use Rattle.off_defs.specs.declared.keys.Key.TheVariants as key
use Rattle.off_defs.proofs.TableLemmas.{same_key, own_key}
use Rattle.off_account_rules.specs.Rows.{passes}
use Rattle.off_account_rules.specs.Good.{is_mac, is_same_owner}

-- a modem is itself, and no other
pub mac_same : (mac other : Mac) → is_mac mac other ≡ true → mac ≡ other
mac_same mac other e = let k : key.Modem mac ≡ key.Modem other = same_key (key.Modem mac) (key.Modem other) e in cc

pub mac_own : (mac : Mac) → is_mac mac mac ≡ true
mac_own mac = own_key (key.Modem mac)

-- a modem and its device are themselves, and no others
pub owner_same : (one other : Mac × Mac) → is_same_owner one other ≡ true → one ≡ other
owner_same one other e =
    let parts = and_parts (is_mac one.0 other.0) (is_mac one.1 other.1) e in
    let modem = mac_same one.0 other.0 parts.0 in
    let device = mac_same one.1 other.1 parts.1 in
    λ i. (modem i, device i)

pub owner_own : (owner : Mac × Mac) → is_same_owner owner owner ≡ true
owner_own owner = and_from (is_mac owner.0 owner.0) (is_mac owner.1 owner.1) (mac_own owner.0) (mac_own owner.1)

-- what passes for an owner is it
pub owner_found : (o : Option (Mac × Mac)) (owner : Mac × Mac) → passes (is_same_owner owner) o ≡ true → o ≡ Some owner
owner_found None owner e = cc
owner_found (Some other) owner e = ap Some (sym (owner_same owner other e))
