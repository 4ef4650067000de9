-- The devices that have leases, and those that have several.
use Rattle.std.specs.Prelude.{◌≡◌, ℕ, Bool, ◌&&◌, ◌||◌, nat_lt, List, Option, count_by}
use Rattle.std.specs.Ordering.{nat_cmp, ordering_then}
use Rattle.std.specs.Cmp.Lexicographic.{slice_cmp}
use Rattle.std.specs.declared.cmp.Ordering.{Ordering}
use Rattle.std.specs.BTreeSet.{BTreeSet, contains}
use Rattle.off_base.specs.declared.macs.Mac.{Mac}
use Rattle.off_defs.specs.State.{Tables}
use Rattle.off_account_rules.specs.Rows.{passes, devices}
use Rattle.off_account_rules.specs.Good.{is_same_owner, device_owner}
use Rattle.off_opening.specs.declared.marks.Mark.{Mark}
use Rattle.off_opening.specs.declared.owners.Owners.{Owners}
use Rattle.off_opening.specs.Marks.{marked_owner}

-- the order of devices with their modems, by which a set of them goes
abbrev pub owner_cmp : Mac × Mac → Mac × Mac → Ordering
owner_cmp one other =
    ordering_then (slice_cmp nat_cmp one.0.0 other.0.0) (slice_cmp nat_cmp one.1.0 other.1.0)

unfoldable pub has_owner : BTreeSet (Mac × Mac) → Mac × Mac → Bool
has_owner owners q = contains owner_cmp owners q

-- whether a device is the one that there may be
abbrev pub is_owner : Mac × Mac → Option (Mac × Mac) → Bool
is_owner q owner = passes (is_same_owner q) owner

-- how many leases it has, by the marks of all rows, and by the tables
abbrev pub count_marked_owner : Mac × Mac → List Mark → ℕ
count_marked_owner q marks = count_by (λ mark. is_owner q (marked_owner mark)) marks

abbrev pub count_owner : Mac × Mac → Tables → ℕ
count_owner q tables =
    count_by (λ entry. is_owner q (device_owner entry.1.hold)) (devices tables)

-- one more is among them
abbrev pub IsAdded : Mac × Mac → BTreeSet (Mac × Mac) → BTreeSet (Mac × Mac) → Type 0
IsAdded owner old new =
    (q : Mac × Mac) → has_owner new q ≡ (is_same_owner q owner || has_owner old q)

-- one more lease was noted, or none
abbrev pub IsNoted : Option (Mac × Mac) → Owners → Owners → Type 0
IsNoted owner old new =
    (q : Mac × Mac)
    → (has_owner new.known q ≡ (is_owner q owner || has_owner old.known q))
    × (has_owner new.several q
    ≡ ((is_owner q owner && has_owner old.known q) || has_owner old.several q))

-- those that have leases by these marks, and those that have several
abbrev pub HaveSeveral : List Mark → BTreeSet (Mac × Mac) → Type 0
HaveSeveral marks several =
    (q : Mac × Mac) → has_owner several q ≡ nat_lt 1 (count_marked_owner q marks)

abbrev pub AreOwners : List Mark → Owners → Type 0
AreOwners marks owners = HaveSeveral marks owners.several
