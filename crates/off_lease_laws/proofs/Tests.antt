-- What tests say: of options, of addresses and of clients.
use Rattle.std.proofs.Common.{◌≡◌, Bool, true, false, ◌&&◌, ◌||◌, Option, Some, None, is_some, is_none, ◌⊎◌, inl, inr, refl, sym, ap, ◌∙◌}
use Rattle.std.proofs.lemmas.Bool.{eqb-true}
use Rattle.std.specs.Ordering.{eq_by_cmp}
use Rattle.off_base.specs.declared.addresses.Ip4.{Ip4}
use Rattle.off_base.specs.declared.macs.Mac.{Mac}
use Rattle.off_defs.specs.declared.keys.Key.TheVariants as key
use Rattle.off_defs.specs.Keys.{key_cmp}
use Rattle.off_defs.proofs.TableLemmas.{same_key, own_key}
use Rattle.off_account_rules.specs.Rows.{passes}
use Rattle.off_account_rules.specs.Good.{is_address}

pub second_false : (a b : Bool) → a ≡ true → (a && b) ≡ false → b ≡ false
second_false true b p e = e
second_false false b p e = cc

pub second_true : (a b : Bool) → a ≡ false → (a || b) ≡ true → b ≡ true
second_true true b p e = cc
second_true false b p e = e

pub some_of : {X : Type 0} (o : Option X) → is_none o ≡ false → (x : X) × (o ≡ Some x)
some_of None e = cc
some_of (Some x) e = (x, refl)

pub some_is : {X : Type 0} (o : Option X) → is_none o ≡ false → is_some o ≡ true
some_is None e = cc
some_is (Some x) e = refl

-- a claim that is held
pub held_claim : (claim held : Option Ip4) → passes (λ address. passes (is_address address) held) claim ≡ true
    → (address : Ip4) × (claim ≡ Some address) × (held ≡ Some address)
held_claim (Some address) (Some other) e = (address, refl, let n = eqb-true other.0 address.0 e in λ i. Some (record { 0 = n i }))
held_claim (Some address) None e = cc
held_claim None held e = cc

-- equal, or not
pub ip_or : (a b : Ip4) → (a ≡ b) ⊎ (a ≡ b → ⊥)
ip_or a b =
    elim (eq_by_cmp key_cmp (key.Lease a) (key.Lease b)) as (λ t. eq_by_cmp key_cmp (key.Lease a) (key.Lease b) ≡ t → (a ≡ b) ⊎ (a ≡ b → ⊥)) [
      | true ↦ λ e. inl (let k = same_key (key.Lease a) (key.Lease b) e in cc)
      | false ↦ λ e. inr (λ same. let own = ap (λ x. eq_by_cmp key_cmp (key.Lease a) (key.Lease x)) (sym same) ∙ own_key (key.Lease a) in cc)
    ] refl

pub mac_or : (a b : Mac) → (a ≡ b) ⊎ (a ≡ b → ⊥)
mac_or a b =
    elim (eq_by_cmp key_cmp (key.Held a) (key.Held b)) as (λ t. eq_by_cmp key_cmp (key.Held a) (key.Held b) ≡ t → (a ≡ b) ⊎ (a ≡ b → ⊥)) [
      | true ↦ λ e. inl (let k = same_key (key.Held a) (key.Held b) e in cc)
      | false ↦ λ e. inr (λ same. let own = ap (λ x. eq_by_cmp key_cmp (key.Held a) (key.Held x)) (sym same) ∙ own_key (key.Held a) in cc)
    ] refl

module _ {X : Type 0} (equal : (a b : X) → (a ≡ b) ⊎ (a ≡ b → ⊥)) where
  pub some_or : (o : Option X) (x : X) → (o ≡ Some x) ⊎ (o ≡ Some x → ⊥)
  some_or None x = inr (λ e. cc)
  some_or (Some y) x =
      elim (equal y x) as (λ c. (◌≡◌ {A = Option X} (Some y) (Some x)) ⊎ (◌≡◌ {A = Option X} (Some y) (Some x) → ⊥)) [
        | inl same ↦ inl (ap Some same)
        | inr apart ↦ inr (λ e. apart (let same : y ≡ x = cc in same))
      ]
