-- Which pool and which hub a query asks about, and which addresses are a hub's.
use Rattle.std.specs.Prelude.{ℕ, ◌==◌, Bool, Option, option_map}
use Rattle.std.specs.List.{find}
use Rattle.off_base.specs.declared.addresses.Ip4.{Ip4}
use Rattle.off_defs.specs.declared.tables.Pool.{Pool}
use Rattle.off_defs.specs.State.{Tables}
use Rattle.off_account_rules.specs.Rows.{passes, pool_hub_in, hub_of, pools, has_address}
use Rattle.off_query_rules.specs.declared.wanted.Wanted.{Wanted}
use Rattle.off_query_rules.specs.declared.wanted.Wanted.TheVariants.{Relay, Address}

-- a pool is looked for by its relay or by an address
abbrev pub wants : Wanted → Pool → Bool
wants (Relay relay) pool = pool.relay.0 == relay.0
wants (Address address) pool = has_address pool address

-- the number of the first pool that is wanted, and that pool's hub
abbrev pub wanted_pool : Tables → Wanted → Option ℕ
wanted_pool tables wanted = option_map (λ e. e.0) (find (λ e. wants wanted e.1) (pools tables))

abbrev pub wanted_hub : Tables → Wanted → Option ℕ
wanted_hub tables wanted = option_map (pool_hub_in tables) (wanted_pool tables wanted)

abbrev pub lies_in_hub : Tables → ℕ → Ip4 → Bool
lies_in_hub tables hub address = passes (λ other. other == hub) (hub_of tables address)
