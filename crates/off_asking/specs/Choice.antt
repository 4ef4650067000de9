-- The pool of a message, and how an address of it is chosen, whichever client it is for: by the
-- addresses that are free, and the client's own.
use Rattle.std.specs.Prelude.{ℕ, ◌+◌, ◌-◌, ◌==◌, Bool, ◌&&◌, List, [], map, Option, Some, None, option_map, option_and_then, if◌then◌else◌}
use Rattle.std.specs.Option.{option_or}
use Rattle.std.specs.List.{find, range_with_len}
use Rattle.off_base.specs.declared.addresses.Ip4.{Ip4}
use Rattle.off_defs.specs.declared.tables.Pool.{Pool}
use Rattle.off_defs.specs.declared.writes.Write.{Write}
use Rattle.off_dhcp.specs.Datagram.{Received}
use Rattle.off_account_rules.specs.Rows.{has_address}
use Rattle.off_asking.specs.Asking.{ip, is_request, is_discover, is_renewing, form_of, named_address, at_address, claimed}

-- The pool of a message is that of its relay (RFC 2131 section 4.3.1: giaddr). Without a relay a
-- client can only renew, and its pool has the address that it renews.
abbrev pub is_renewal : Received → Bool
is_renewal m = is_request m && is_renewing (form_of m)

abbrev pub serves : Received → Pool → Bool
serves m pool =
    if m.giaddr == 0 then is_renewal m && has_address pool (ip m.ciaddr)
    else pool.relay.0 == m.giaddr

-- the pool with its number, of pools that have one each
abbrev pub numbered_among : List (ℕ × Pool) → Received → Option (ℕ × Pool)
numbered_among pools m = find (λ entry. serves m entry.1) pools

abbrev pub pool_among : List (ℕ × Pool) → Received → Option Pool
pool_among pools m = option_map (λ entry. entry.1) (numbered_among pools m)

abbrev pub addresses : Pool → List Ip4
addresses pool = map ip (range_with_len pool.first.0 (pool.last.0 + 1 - pool.first.0))

-- the least address of a pool that passes the test of those that are free, or None where none does
unfoldable pub least_of : (Ip4 → Bool) → Pool → Option Ip4
least_of is_free pool = find is_free (addresses pool)

-- what there is, where it passes the test
abbrev pub provided : {A : Type 0} → (A → Bool) → Option A → Option A
provided test None = None
provided test (Some x) = if test x then Some x else None

-- the writes for what there is
abbrev pub for_some : {X : Type 0} → (X → List Write) → Option X → List Write
for_some writes None = []
for_some writes (Some x) = writes x

-- The address for a client of the pool (RFC 2131 section 4.3.1): its own; else the one that it asks
-- for, where that is free; else the least that is free
abbrev pub choice_by : (Ip4 → Bool) → Pool → Option Ip4 → Option Ip4 → Option Ip4
choice_by is_free pool own asked =
    option_or (provided (has_address pool) own)
    (option_or (provided is_free asked) (least_of is_free pool))

-- the address that a message is about: for a DISCOVER it is chosen
abbrev pub chosen_by : (Pool → Ip4 → Bool) → Received → Option Pool → Option Ip4 → Option Ip4
chosen_by is_free m pool own =
    if is_discover m then option_and_then
    (λ pool. choice_by (is_free pool) pool own (at_address (named_address m))) pool else claimed m
