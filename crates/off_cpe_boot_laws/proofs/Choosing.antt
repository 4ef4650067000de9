-- The address that is chosen in a pool is one that passes, the client's own where that lies there; and one is chosen where there is any.
use Rattle.std.proofs.Common.{◌≡◌, ◌⊎◌, ◌+◌, ◌-◌, Bool, true, true≢false, cond, leb, Option, Some, None, inl, inr, refl, sym, ap, ◌∙◌, arith}
use Rattle.std.proofs.lemmas.Bool.{and_parts, leb-true}
use Rattle.std.specs.Option.{option_or}
use Rattle.off_base.specs.declared.addresses.Ip4.{Ip4}
use Rattle.off_defs.specs.declared.tables.Pool.{Pool}
use Rattle.off_account_rules.specs.Rows.{has_address}
use Rattle.off_table_laws.proofs.ListLemmas.{In, none_found, found_passes}
use Rattle.off_asking.specs.Choice.{addresses, least_of, provided, choice_by}
use Rattle.off_lease_laws.proofs.ChoiceLemmas.{provided_is, either, neither}
use Rattle.off_lease_laws.proofs.FreeLemmas.{in_range}

in_pool : (pool : Pool) (address : Ip4) → has_address pool address ≡ true → In address (addresses pool)
in_pool pool address h =
    let parts = and_parts (leb pool.first.0 address.0) (leb address.0 pool.last.0) h in
    let above = leb-true pool.first.0 address.0 parts.0 in
    let below = leb-true address.0 pool.last.0 parts.1 in
    in_range pool.first.0 (pool.last.0 + 1 - pool.first.0) address.0 above (omega (arith, above, below))

module _ (free : Ip4 → Bool) (pool : Pool) (own asked : Option Ip4) where
  -- it's its own and lies in the pool, or passes the test of those that are free
  abbrev Opens : Ip4 → Type 0
  Opens address = ((own ≡ Some address) × (has_address pool address ≡ true)) ⊎ (free address ≡ true)

  pub chosen_opens : (address : Ip4) → choice_by free pool own asked ≡ Some address → ((own ≡ Some address) × (has_address pool address ≡ true)) ⊎ (free address ≡ true)
  unfolding least_of
  chosen_opens address e =
      elim (either (provided (has_address pool) own) (option_or (provided free asked) (least_of free pool)) address e) as (λ c. Opens address) [
        | inl p ↦ inl (provided_is (has_address pool) own address p)
        | inr p ↦
            elim (either (provided free asked) (least_of free pool) address p) as (λ c. Opens address) [
              | inl q ↦ inr (provided_is free asked address q).1
              | inr q ↦ inr (found_passes free (addresses pool) address q).1
            ]
      ]

  -- its own comes first
  pub own_chosen : (held : Ip4) → own ≡ Some held → has_address pool held ≡ true → choice_by free pool own asked ≡ Some held
  own_chosen held is within =
      ap (λ (o : Option Ip4). option_or (provided (has_address pool) o) (option_or (provided free asked) (least_of free pool))) is
      ∙ ap (λ b. option_or (cond b (Some held) None) (option_or (provided free asked) (least_of free pool))) within

  -- where one passes, one is chosen
  some_chosen : (address : Ip4) → has_address pool address ≡ true → free address ≡ true → (o : Option Ip4) → choice_by free pool own asked ≡ o
      → (a : Ip4) × (choice_by free pool own asked ≡ Some a)
  unfolding least_of
  some_chosen address within passes None e =
      let others = neither (provided (has_address pool) own) (option_or (provided free asked) (least_of free pool)) e in
      let least = neither (provided free asked) (least_of free pool) others.1 in
      let none = none_found free (addresses pool) least.1 address (in_pool pool address within) in
      absurd (true≢false (sym passes ∙ none))
  some_chosen address within passes (Some a) e = (a, e)

  pub is_chosen : (address : Ip4) → has_address pool address ≡ true → (own ≡ Some address) ⊎ (free address ≡ true) → (a : Ip4) × (choice_by free pool own asked ≡ Some a)
  is_chosen address within (inl is) = (address, own_chosen address is within)
  is_chosen address within (inr passes) = some_chosen address within passes (choice_by free pool own asked) refl
