-- The order of the tables' keys, in which walks go over them: by kind, and within a kind by number.
-- A hardware address is compared byte by byte, an add-on's key by its subscriber first.
use Rattle.std.specs.Ordering.{nat_cmp, ordering_then}
use Rattle.std.specs.Cmp.Lexicographic.{slice_cmp}
use Rattle.std.specs.declared.cmp.Ordering.{Ordering}
use Rattle.off_defs.specs.declared.keys.Key.{Key}
use Rattle.off_defs.specs.declared.keys.Key.TheVariants.{Subscriber, AddOn, Modem, Class}
use Rattle.off_defs.specs.declared.keys.Key.TheVariants.{Pool, Lease, Held, Batch}
use Rattle.off_defs.specs.declared.keys.Key.TheVariants.{Hub, PoolHub, DevicePool, Device}
use Rattle.off_defs.specs.Kinds.{kind_of}

-- Keys that compare as equal are equal, which is a law: so a kind whose keys have numbers has a
-- line of its own here.
abbrev pub key_cmp : Key → Key → Ordering
key_cmp (Subscriber a) (Subscriber b) = nat_cmp a b
key_cmp (AddOn a i) (AddOn b j) = ordering_then (nat_cmp a b) (nat_cmp i j)
key_cmp (Modem a) (Modem b) = slice_cmp nat_cmp a.0 b.0
key_cmp (Class a) (Class b) = nat_cmp a b
key_cmp (Pool a) (Pool b) = nat_cmp a b
key_cmp (Lease a) (Lease b) = nat_cmp a.0 b.0
key_cmp (Held a) (Held b) = slice_cmp nat_cmp a.0 b.0
key_cmp (Batch a) (Batch b) = nat_cmp a b
key_cmp (Hub a) (Hub b) = nat_cmp a b
key_cmp (PoolHub a) (PoolHub b) = nat_cmp a b
key_cmp (DevicePool a) (DevicePool b) = nat_cmp a b
key_cmp (Device a) (Device b) = nat_cmp a.0 b.0
key_cmp a b = nat_cmp (kind_of a) (kind_of b)
