-- The order of keys is total, and keys that it takes for equal are equal.
use Rattle.std.proofs.Common.{◌≡◌, ℕ, List, refl, ap, subst}
use Rattle.std.specs.Cmp.{IsTotalOrder}
use Rattle.std.specs.Ordering.{ordering_then, nat_cmp}
use Rattle.std.specs.Cmp.Lexicographic.{slice_cmp}
use Rattle.std.specs.declared.cmp.Ordering.{Ordering}
use Rattle.std.specs.declared.cmp.Ordering.TheVariants.{Less, Equal, Greater}
use Rattle.std.specs.FinMap.{IsAntisymmetric, nat_cmp-IsAntisymmetric, slice_cmp-IsAntisymmetric}
use Rattle.off_base.specs.declared.macs.Mac.{Mac}
use Rattle.off_base.specs.declared.addresses.Ip4.{Ip4}
use Rattle.off_defs.specs.declared.keys.Key.{Key}
use Rattle.off_defs.specs.declared.keys.Key.TheVariants.{Site, Subscriber, AddOn, Modem, Class, Pool, Lease, Held, Batch, Hub, PoolHub, DevicePool, Device}
use Rattle.off_defs.specs.Keys.{key_cmp}
use Rattle.off_defs.specs.contracts.keys.KeyOrd.TheImpl as derived
use Rattle.off_defs.specs.contracts.keys.KeyOrd.TheImpl.Laws.{total-law}

-- the derived order of keys is this one
derived_at : (a b : Key) → (derived.ghosts).cmp a b ≡ key_cmp a b
derived_at Site Site = refl
derived_at (Subscriber a) (Subscriber b) = refl
derived_at (AddOn a i) (AddOn b j) = refl
derived_at (Modem a) (Modem b) = refl
derived_at (Class a) (Class b) = refl
derived_at (Pool a) (Pool b) = refl
derived_at (Lease a) (Lease b) = refl
derived_at (Held a) (Held b) = refl
derived_at (Batch a) (Batch b) = refl
derived_at (Hub a) (Hub b) = refl
derived_at (PoolHub a) (PoolHub b) = refl
derived_at (DevicePool a) (DevicePool b) = refl
derived_at (Device a) (Device b) = refl
derived_at _ _ = refl

pub derived_is : (derived.ghosts).cmp ≡ key_cmp
derived_is = λ i a b. derived_at a b i

pub key_total : IsTotalOrder key_cmp
key_total = subst IsTotalOrder derived_is total-law

-- two comparisons in a row that find nothing differ in neither
both_equal : (a b : Ordering) → ordering_then a b ≡ Equal → (a ≡ Equal) × (b ≡ Equal)
both_equal Less b e = cc
both_equal Equal b e = (refl, e)
both_equal Greater b e = cc

same_mac : (a b : Mac) → slice_cmp nat_cmp a.0 b.0 ≡ Equal → a ≡ b
same_mac a b e = ap (λ (x : List ℕ). record { 0 = x }) (slice_cmp-IsAntisymmetric nat_cmp-IsAntisymmetric a.0 b.0 e)

same_ip : (a b : Ip4) → nat_cmp a.0 b.0 ≡ Equal → a ≡ b
same_ip a b e = ap (λ (x : ℕ). record { 0 = x }) (nat_cmp-IsAntisymmetric a.0 b.0 e)

pub key_exact : IsAntisymmetric key_cmp
key_exact Site Site e = refl
key_exact (Subscriber a) (Subscriber b) e = ap Subscriber (nat_cmp-IsAntisymmetric a b e)
key_exact (AddOn a i) (AddOn b j) e =
    let both = both_equal (nat_cmp a b) (nat_cmp i j) e in
    let one = nat_cmp-IsAntisymmetric a b both.0 in
    let other = nat_cmp-IsAntisymmetric i j both.1 in
    cc
key_exact (Modem a) (Modem b) e = ap Modem (same_mac a b e)
key_exact (Class a) (Class b) e = ap Class (nat_cmp-IsAntisymmetric a b e)
key_exact (Pool a) (Pool b) e = ap Pool (nat_cmp-IsAntisymmetric a b e)
key_exact (Lease a) (Lease b) e = ap Lease (same_ip a b e)
key_exact (Held a) (Held b) e = ap Held (same_mac a b e)
key_exact (Batch a) (Batch b) e = ap Batch (nat_cmp-IsAntisymmetric a b e)
key_exact (Hub a) (Hub b) e = ap Hub (nat_cmp-IsAntisymmetric a b e)
key_exact (PoolHub a) (PoolHub b) e = ap PoolHub (nat_cmp-IsAntisymmetric a b e)
key_exact (DevicePool a) (DevicePool b) e = ap DevicePool (nat_cmp-IsAntisymmetric a b e)
key_exact (Device a) (Device b) e = ap Device (same_ip a b e)
key_exact _ _ e = cc
