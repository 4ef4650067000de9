-- What a modem's bucket says is what all leases say.
use Rattle.std.proofs.Common.{◌≡◌, ℕ, ◌<◌, Bool, true, false, cond, not, ◌&&◌, eqb, Option, Some, None, List, [], ◌∷◌, refl, sym, ap, ◌∙◌, arith, true≢false}
use Rattle.std.proofs.lemmas.Bool.{and_parts, eq-eqb}
use Rattle.std.specs.List.{filter, find, count_by}
use Rattle.off_base.specs.declared.addresses.Ip4.{Ip4}
use Rattle.off_base.specs.declared.macs.Mac.{Mac}
use Rattle.off_defs.specs.declared.tables.DeviceLease.{DeviceLease}
use Rattle.off_account_rules.specs.Rows.{passes}
use Rattle.off_account_rules.specs.Good.{is_mac, is_same_owner, device_owner}
use Rattle.off_cpe_rules.specs.Behind.{is_live, is_owned, is_behind, is_other, others_among}
use Rattle.off_behind.specs.Buckets.{bucket_of, is_in}
use Rattle.off_account_rules.proofs.OwnerLemmas.{mac_same}
use Rattle.off_behind.specs.Neighbours.{AreNeighbours}
use Rattle.off_behind.specs.declared.leases.Neighbours.{Neighbours}
use Rattle.off_table_laws.proofs.ListLemmas.{count_first}

module _ {A : Type 0} (p q : A → Bool) (inside : (x : A) → p x ≡ true → q x ≡ true) where
  pub find_kept : (xs : List A) → find p (filter q xs) ≡ find p xs
  find_kept [] = refl
  find_kept (x ∷ xs) =
      elim (p x) as (λ b. p x ≡ b → find p (cond (q x) (x ∷ filter q xs) (filter q xs)) ≡ cond b (Some x) (find p xs)) [
        | true ↦ λ h. ap (λ b. find p (cond b (x ∷ filter q xs) (filter q xs))) (inside x h) ∙ ap (λ b. cond b (Some x) (find p (filter q xs))) h
        | false ↦ λ h.
            elim (q x) as (λ b. find p (cond b (x ∷ filter q xs) (filter q xs)) ≡ find p xs) [
              | true ↦ ap (λ b. cond b (Some x) (find p (filter q xs))) h ∙ find_kept xs
              | false ↦ find_kept xs
            ]
      ] refl

  pub count_kept : (xs : List A) → count_by p (filter q xs) ≡ count_by p xs
  count_kept [] = refl
  count_kept (x ∷ xs) =
      elim (q x) as (λ b. q x ≡ b → count_by p (cond b (x ∷ filter q xs) (filter q xs)) ≡ count_by p (x ∷ xs)) [
        | true ↦ λ h. omega (arith, count_first p x (filter q xs), count_first p x xs, count_kept xs)
        | false ↦ λ h. omega (arith, count_first p x xs, count_kept xs, uncounted x h (p x) refl)
      ] refl
    where
      uncounted : (x : A) → q x ≡ false → (b : Bool) → p x ≡ b → ◌≡◌ {A = ℕ} (cond (p x) 1 0) 0
      uncounted x h true e = absurd (true≢false (sym (inside x e) ∙ h))
      uncounted x h false e = ap (λ b. cond {A = ℕ} b 1 0) e

-- a lease behind the modem is in its bucket
in_bucket : (modem : Mac) (o : Option (Mac × Mac)) → passes (λ (owner : Mac × Mac). is_mac modem owner.0) o ≡ true
    → passes (λ (owner : Mac × Mac). eqb (bucket_of owner.0) (bucket_of modem)) o ≡ true
in_bucket modem None e = cc
in_bucket modem (Some owner) e = eq-eqb (bucket_of owner.0) (bucket_of modem) (ap bucket_of (sym (mac_same modem owner.0 e)))

own_behind : (modem device : Mac) (o : Option (Mac × Mac)) → passes (is_same_owner (modem, device)) o ≡ true → passes (λ (owner : Mac × Mac). is_mac modem owner.0) o ≡ true
own_behind modem device None e = cc
own_behind modem device (Some owner) e = (and_parts (is_mac modem owner.0) (is_mac device owner.1) e).0

own_in_bucket : (modem device : Mac) (leases : List (Ip4 × DeviceLease))
    → find (λ e. is_owned modem device e.1) (filter (is_in (bucket_of modem)) leases) ≡ find (λ e. is_owned modem device e.1) leases
own_in_bucket modem device leases =
    find_kept (λ (e : Ip4 × DeviceLease). is_owned modem device e.1) (is_in (bucket_of modem)) (λ e h. in_bucket modem (device_owner e.1.hold) (own_behind modem device (device_owner e.1.hold) h)) leases

others_in_bucket : (now : ℕ) (modem device : Mac) (leases : List (Ip4 × DeviceLease))
    → others_among now modem device (filter (is_in (bucket_of modem)) leases) ≡ others_among now modem device leases
others_in_bucket now modem device leases =
    count_kept (λ (e : Ip4 × DeviceLease). is_other now modem device e.1) (is_in (bucket_of modem))
    (λ e h. in_bucket modem (device_owner e.1.hold) (and_parts (is_behind modem e.1) (not (is_owned modem device e.1) && is_live now e.1) h).0) leases

pub neighbours_in_bucket : (now : ℕ) (modem device : Mac) (leases : List (Ip4 × DeviceLease)) (seen : Neighbours)
    → AreNeighbours seen now modem device (filter (is_in (bucket_of modem)) leases) → AreNeighbours seen now modem device leases
neighbours_in_bucket now modem device leases seen are = record {
  own = are.own ∙ own_in_bucket modem device leases;
  others = are.others ∙ others_in_bucket now modem device leases;
}

pub bucket_low : (modem : Mac) → bucket_of modem < 16384
bucket_low modem = omega arith
