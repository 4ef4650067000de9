-- What a message does to leases and to who holds them, whichever of its kinds it is: laws over many
-- messages need no more of it.
use Rattle.std.specs.Prelude.{◌≡◌, ◌≢◌, ◌⊎◌, ◌↔◌, ℕ, IsTrue, IsSome, Some, None}
use Rattle.off_base.specs.declared.addresses.Ip4.{Ip4}
use Rattle.off_base.specs.declared.macs.Mac.{Mac}
use Rattle.off_defs.specs.declared.tables.Pool.{Pool}
use Rattle.off_defs.specs.State.{Tables}
use Rattle.off_account_rules.specs.Rows.{hub_in, pool_hub_in, lease_in, held_in, pool_in, has_address}
use Rattle.off_table_laws.specs.Laws.{owner_in}
use Rattle.off_lease_rules.specs.Free.{has_ended}

-- Leases and holders agree where a client owns the lease of the address that it holds, and holds
-- the address whose lease it owns.
abbrev pub HoldersAgree : Tables → Type 0
HoldersAgree tables =
    (mac : Mac) (address : Ip4) →
    (owner_in tables address ≡ Some mac) ↔ (held_in tables mac ≡ Some address)

-- What becomes of one client and one address: the address that the client held before, if another,
-- has no lease any more; who owned this one, if another, holds nothing any more; all others stay as
-- they are; and the client owns and holds the address, or nobody does.
pub record Reassigns (mac : Mac) (address : Ip4) (old new : Tables) : Type 0 where
  pub left : (other : Ip4) → other ≢ address → held_in old mac ≡ Some other →
      lease_in new other ≡ None
  pub other_leases : (other : Ip4) → other ≢ address → held_in old mac ≢ Some other →
      lease_in new other ≡ lease_in old other
  pub lost : (other : Mac) → other ≢ mac → owner_in old address ≡ Some other →
      held_in new other ≡ None
  pub other_holders : (other : Mac) → other ≢ mac → owner_in old address ≢ Some other →
      held_in new other ≡ held_in old other
  pub taken : ((owner_in new address ≡ Some mac) × (held_in new mac ≡ Some address))
      ⊎ ((owner_in new address ≡ None) × (held_in new mac ≡ None))

-- a pool of the tables has the address, and its hub is there
pub record LiesInAPool (tables : Tables) (address : Ip4) : Type 0 where
  pub number : ℕ
  pub pool : Pool
  pub there : pool_in tables number ≡ Some pool
  pub within : IsTrue (has_address pool address)
  pub hub_is : IsSome (hub_in tables (pool_hub_in tables number))

-- the address was the client's before, or nobody's: one of a pool, whose lease, if it had one, had
-- ended
abbrev pub WasOpenTo : ℕ → Mac → Ip4 → Tables → Type 0
WasOpenTo now mac address old =
    (held_in old mac ≡ Some address)
    ⊎ (IsTrue (has_ended now (lease_in old address)) × LiesInAPool old address)

pub record Moved (now : ℕ) (mac : Mac) (old new : Tables) : Type 0 where
  pub address : Ip4
  pub changes : Reassigns mac address old new
  pub was_open : WasOpenTo now mac address old
  pub in_pool : owner_in new address ≡ Some mac → LiesInAPool old address

-- a message moves one client to one address, or changes nothing
abbrev pub Moves : ℕ → Mac → Tables → Tables → Type 0
Moves now mac old new = (new ≡ old) ⊎ Moved now mac old new
