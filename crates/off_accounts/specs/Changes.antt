-- How the counts of rows change where a key gets a row, and where it loses it.
use Rattle.std.specs.Prelude.{ℕ, ◌+◌, ◌-◌, Bool, true, false}
use Rattle.off_defs.specs.declared.kinds.Kind.{Kind}
use Rattle.off_defs.specs.declared.kinds.Kind.TheVariants.{Subscribers, AddOns, Modems, Classes, Pools, Batches, Hubs, DevicePools}
use Rattle.off_account_rules.specs.declared.counts.Counts.{Counts}

-- the count of a kind
abbrev pub count_in : Kind → Counts → ℕ
count_in Subscribers counts = counts.subscribers
count_in AddOns counts = counts.addons
count_in Modems counts = counts.modems
count_in Classes counts = counts.classes
count_in Pools counts = counts.pools
count_in Batches counts = counts.batches
count_in Hubs counts = counts.hubs
count_in DevicePools counts = counts.device_pools

-- the counts with another count of a kind
abbrev pub with_count : Kind → ℕ → Counts → Counts
with_count Subscribers n counts = record counts { subscribers = n }
with_count AddOns n counts = record counts { addons = n }
with_count Modems n counts = record counts { modems = n }
with_count Classes n counts = record counts { classes = n }
with_count Pools n counts = record counts { pools = n }
with_count Batches n counts = record counts { batches = n }
with_count Hubs n counts = record counts { hubs = n }
with_count DevicePools n counts = record counts { device_pools = n }

-- after a key of the kind got a row, which was there before or wasn't
abbrev pub counts_put : Kind → Bool → Counts → Counts
counts_put kind true counts = counts
counts_put kind false counts = with_count kind (count_in kind counts + 1) counts

-- after a key of the kind lost its row, where it had one
abbrev pub counts_drop : Kind → Bool → Counts → Counts
counts_drop kind true counts = with_count kind (count_in kind counts - 1) counts
counts_drop kind false counts = counts
