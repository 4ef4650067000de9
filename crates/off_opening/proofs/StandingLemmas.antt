-- Tables that open, by the marks of all rows.
use Rattle.std.proofs.Common.{◌≡◌, ℕ, ◌+◌, ◌^◌, ◌<◌, ◌≤◌, min, true, false, inl, inr, ◌&&◌, Option, Some, None, Result, Ok, Err, IfOk, IfErr, Bool, List, [], ◌∷◌, map, length, count_by, cond, refl, sym, ap, subst, ◌∙◌, arith, ◌||◌, ◌==◌, option_map}
use Rattle.std.proofs.lemmas.List.Sums.{sum_by-cons}
use Rattle.std.proofs.lemmas.Bool.{cases_lt}
use Rattle.std.specs.List.{filter_map, cons_option, list_any, list_all, find}
use Rattle.std.specs.Prelude.{slice_index_or}
use Rattle.std.specs.declared.cmp.Ordering.TheVariants.{Less, Equal}
use Rattle.std.specs.Cmp.{tied_itself}
use Rattle.std.specs.FinMap as map_of
use Rattle.off_base.specs.Number.{greatest_u64}
use Rattle.off_base.specs.declared.addresses.Ip4.{Ip4}
use Rattle.off_base.specs.declared.macs.Mac.{Mac}
use Rattle.off_defs.specs.declared.keys.Key.{Key}
use Rattle.off_defs.specs.declared.keys.Key.TheVariants as key
use Rattle.off_defs.specs.declared.tables.Row.{Row}
use Rattle.off_defs.specs.declared.tables.Row.TheVariants as row
use Rattle.off_defs.specs.declared.tables.Pool.{Pool}
use Rattle.off_defs.specs.declared.tables.DeviceLease.{DeviceLease}
use Rattle.off_defs.specs.declared.kinds.Kind.{Kind}
use Rattle.off_defs.specs.declared.kinds.Kind.TheVariants.{Subscribers, AddOns, Modems, Classes, Pools, Batches, Hubs, DevicePools}
use Rattle.off_defs.specs.Keys.{key_cmp}
use Rattle.off_defs.specs.State.{Tables}
use Rattle.off_defs.specs.Tables.{row_at}
use Rattle.off_defs.proofs.KeyLemmas.{key_total, key_exact}
use Rattle.off_account_rules.specs.declared.counts.Counts.{Counts}
use Rattle.off_account_rules.specs.Rows.{is_possible, count_of, counts_of, has_address, passes, devices}
use Rattle.off_account_rules.specs.Good.{raw_pool_of, raw_pools, raw_device_pool_of, raw_device_pools, device_pools_around, device_owner, is_owned_apart, stands_right, keeps, Judged, is_of_hubs, names_hubs, stored_hub, stored_hub_of, is_hub_there}
use Rattle.off_outside.specs.declared.keeper.KeepErr.{KeepErr}
use Rattle.off_outside.specs.declared.keeper.KeepErr.TheVariants as keep
use Rattle.off_outside.specs.KeeperSeen.{KeeperSeen}
use Rattle.off_outside.specs.KeeperCalls.{Reads, NotDone, Looks}
use Rattle.off_outside.proofs.KeeperLemmas.{reads_as, reads_forgotten}
use Rattle.off_opening.specs.declared.marks.Mark.{Mark}
use Rattle.off_opening.specs.declared.marks.Tie.TheVariants as tie
use Rattle.off_opening.specs.Marks.{tie_of, mark_of, marks_of, tied_pool, marked_pool, tied_device_pool, marked_device_pool, is_marked}
use Rattle.off_opening.specs.Standing.{tie_stands, is_sole, is_kept, IsCompared}
use Rattle.off_opening.specs.declared.standing.Compared.{Compared}
use Rattle.off_opening.specs.Owners.{HaveSeveral}
use Rattle.off_opening.proofs.OwnerLemmas.{several_are, sole_in}
use Rattle.off_opening.proofs.OrderLemmas.{Among, rises, among_at, row_of, entry_of, place_of, not_both}
use Rattle.off_opening.proofs.MarkLemmas.{no_entry, entry_at, as_many, mark_at}

-- ---- pools and counts

pooled : (k : Key) (r : Row) → tied_pool k (tie_of r) ≡ raw_pool_of (k, r)
pooled (key.Pool n) (row.Site site) = refl
pooled (key.Pool n) (row.Subscriber subscriber) = refl
pooled (key.Pool n) (row.AddOn settings) = refl
pooled (key.Pool n) (row.Modem modem) = refl
pooled (key.Pool n) (row.Class class) = refl
pooled (key.Pool n) (row.Pool pool) = refl
pooled (key.Pool n) (row.Lease lease) = refl
pooled (key.Pool n) (row.Held address) = refl
pooled (key.Pool n) (row.Batch batch) = refl
pooled (key.Pool n) (row.PoolHub hub) = refl
pooled (key.Pool n) (row.Device lease) = refl
pooled _ r = refl

all_pooled : (es : List (Key × Row)) → filter_map marked_pool (map mark_of es) ≡ filter_map raw_pool_of es
all_pooled [] = refl
all_pooled (e ∷ es) =
    ap (λ (v : Option (ℕ × Pool)). cons_option v (filter_map marked_pool (map mark_of es))) (pooled e.0 e.1)
    ∙ ap (λ (v : List (ℕ × Pool)). cons_option (raw_pool_of e) v) (all_pooled es)

pub pools_are : (t : Tables) (marks : List Mark) (pools : List (ℕ × Pool)) → marks ≡ marks_of t → pools ≡ filter_map marked_pool marks → pools ≡ raw_pools t
pools_are t marks pools are from = from ∙ ap (λ (v : List Mark). filter_map marked_pool v) are ∙ all_pooled (map_of.entries t)

device_pooled : (k : Key) (r : Row) → tied_device_pool k (tie_of r) ≡ raw_device_pool_of (k, r)
device_pooled (key.DevicePool n) (row.Site site) = refl
device_pooled (key.DevicePool n) (row.Subscriber subscriber) = refl
device_pooled (key.DevicePool n) (row.AddOn settings) = refl
device_pooled (key.DevicePool n) (row.Modem modem) = refl
device_pooled (key.DevicePool n) (row.Class class) = refl
device_pooled (key.DevicePool n) (row.Pool pool) = refl
device_pooled (key.DevicePool n) (row.Lease lease) = refl
device_pooled (key.DevicePool n) (row.Held address) = refl
device_pooled (key.DevicePool n) (row.Batch batch) = refl
device_pooled (key.DevicePool n) (row.PoolHub hub) = refl
device_pooled (key.DevicePool n) (row.Device lease) = refl
device_pooled _ r = refl

all_device_pooled : (es : List (Key × Row)) → filter_map marked_device_pool (map mark_of es) ≡ filter_map raw_device_pool_of es
all_device_pooled [] = refl
all_device_pooled (e ∷ es) =
    ap (λ (v : Option (ℕ × Pool)). cons_option v (filter_map marked_device_pool (map mark_of es))) (device_pooled e.0 e.1)
    ∙ ap (λ (v : List (ℕ × Pool)). cons_option (raw_device_pool_of e) v) (all_device_pooled es)

pub device_pools_are : (t : Tables) (marks : List Mark) (pools : List (ℕ × Pool)) → marks ≡ marks_of t → pools ≡ filter_map marked_device_pool marks → pools ≡ raw_device_pools t
device_pools_are t marks pools are from = from ∙ ap (λ (v : List Mark). filter_map marked_device_pool v) are ∙ all_device_pooled (map_of.entries t)

pub compared_are : (marks : List Mark) (compared : Compared) → compared.pools.items ≡ filter_map marked_pool marks → compared.device_pools.items ≡ filter_map marked_device_pool marks → HaveSeveral marks compared.several
    → (t : Tables) → marks ≡ marks_of t → IsCompared compared t
compared_are marks compared pools device_pools several t are = record {
  pools = pools_are t marks compared.pools.items are pools;
  device_pools = device_pools_are t marks compared.device_pools.items are device_pools;
  several = several_are t marks compared.several are several;
}

count_marked : (p : Mark → Bool) (es : List (Key × Row)) → count_by p (map mark_of es) ≡ count_by (λ e. p (mark_of e)) es
count_marked p [] = refl
count_marked p (e ∷ es) =
    sum_by-cons (λ m. cond (p m) 1 0) (mark_of e) (map mark_of es)
    ∙ ap (λ n. cond (p (mark_of e)) 1 0 + n) (count_marked p es)
    ∙ sym (sum_by-cons (λ x. cond (p (mark_of x)) 1 0) e es)

marked : (kind : Kind) (t : Tables) (marks : List Mark) (n : ℕ) → marks ≡ marks_of t → n ≡ count_by (is_marked kind) marks → n ≡ count_of kind t
marked kind t marks n are is = is ∙ ap (λ (v : List Mark). count_by (is_marked kind) v) are ∙ count_marked (is_marked kind) (map_of.entries t)

pub counts_are : (marks : List Mark) (counts : Counts) → counts.batches < 2 ^ 64
    → counts.subscribers ≡ count_by (is_marked Subscribers) marks → counts.addons ≡ count_by (is_marked AddOns) marks → counts.modems ≡ count_by (is_marked Modems) marks
    → counts.classes ≡ count_by (is_marked Classes) marks → counts.pools ≡ count_by (is_marked Pools) marks → counts.batches ≡ count_by (is_marked Batches) marks
    → counts.hubs ≡ count_by (is_marked Hubs) marks → counts.device_pools ≡ count_by (is_marked DevicePools) marks
    → (t : Tables) → marks ≡ marks_of t → counts ≡ counts_of t
counts_are marks counts small a b c d e f h k t are =
    let fa = marked Subscribers t marks counts.subscribers are a in
    let fb = marked AddOns t marks counts.addons are b in
    let fc = marked Modems t marks counts.modems are c in
    let fd = marked Classes t marks counts.classes are d in
    let fe = marked Pools t marks counts.pools are e in
    let ff = marked Batches t marks counts.batches are f in
    let fh = marked Hubs t marks counts.hubs are h in
    let fk = marked DevicePools t marks counts.device_pools are k in
    let capped : counts.batches ≡ min greatest_u64 (count_of Batches t) = omega (arith, small, ff) in
    λ i. record { subscribers = fa i; addons = fb i; modems = fc i; classes = fd i; pools = fe i; batches = capped i; hubs = fh i; device_pools = fk i }

-- hubs are named where their marks are
any_marked : (es : List (Key × Row)) → list_any (λ (m : Mark). is_of_hubs m.key) (map mark_of es) ≡ list_any (λ (e : Key × Row). is_of_hubs e.0) es
any_marked [] = refl
any_marked (e ∷ es) = ap (λ b. is_of_hubs e.0 || b) (any_marked es)

pub names_marked : (marks : List Mark) (b : Bool) → b ≡ list_any (λ (m : Mark). is_of_hubs m.key) marks → (t : Tables) → marks ≡ marks_of t → b ≡ names_hubs t
names_marked marks b is t are = is ∙ ap (λ (v : List Mark). list_any (λ (m : Mark). is_of_hubs m.key) v) are ∙ any_marked (map_of.entries t)

-- ---- a row by its mark

all_pass : (ds : List (Ip4 × DeviceLease)) → list_all (λ (d : Ip4 × DeviceLease). true) ds ≡ true
all_pass [] = refl
all_pass (d ∷ ds) = all_pass ds

-- a device has no other lease where it hasn't several
sole_by : (t : Tables) (a : Ip4) (lease : DeviceLease) (owner : Option (Mac × Mac)) → device_owner lease.hold ≡ owner → Among (key.Device a, row.Device lease) (map_of.entries t) → is_sole t owner ≡ list_all (is_owned_apart a owner) (devices t)
sole_by t a lease None is among = sym (all_pass (devices t))
sole_by t a lease (Some owner) is among = sym (sole_in a owner lease is (map_of.entries t) (map_of.entries_sorted t) among)

sole : (t : Tables) (a : Ip4) (lease : DeviceLease) → Among (key.Device a, row.Device lease) (map_of.entries t) → is_sole t (device_owner lease.hold) ≡ list_all (is_owned_apart a (device_owner lease.hold)) (devices t)
sole t a lease among = sole_by t a lease (device_owner lease.hold) refl among

stands : (t : Tables) (k : Key) (r : Row) → Among (k, r) (map_of.entries t) → tie_stands t k (tie_of r) ≡ stands_right t k r
stands t (key.Modem mac) (row.Modem modem) among = refl
stands t (key.Modem mac) (row.Site site) among = refl
stands t (key.Modem mac) (row.Subscriber subscriber) among = refl
stands t (key.Modem mac) (row.AddOn settings) among = refl
stands t (key.Modem mac) (row.Class class) among = refl
stands t (key.Modem mac) (row.Pool pool) among = refl
stands t (key.Modem mac) (row.Lease lease) among = refl
stands t (key.Modem mac) (row.Held address) among = refl
stands t (key.Modem mac) (row.Batch batch) among = refl
stands t (key.Modem mac) (row.PoolHub hub) among = refl
stands t (key.Modem mac) (row.Device lease) among = refl
stands t (key.Pool n) (row.Modem modem) among = refl
stands t (key.Pool n) (row.Site site) among = refl
stands t (key.Pool n) (row.Subscriber subscriber) among = refl
stands t (key.Pool n) (row.AddOn settings) among = refl
stands t (key.Pool n) (row.Class class) among = refl
stands t (key.Pool n) (row.Pool pool) among = refl
stands t (key.Pool n) (row.Lease lease) among = refl
stands t (key.Pool n) (row.Held address) among = refl
stands t (key.Pool n) (row.Batch batch) among = refl
stands t (key.Pool n) (row.PoolHub hub) among = refl
stands t (key.Pool n) (row.Device lease) among = refl
stands t (key.Lease a) (row.Modem modem) among = refl
stands t (key.Lease a) (row.Site site) among = refl
stands t (key.Lease a) (row.Subscriber subscriber) among = refl
stands t (key.Lease a) (row.AddOn settings) among = refl
stands t (key.Lease a) (row.Class class) among = refl
stands t (key.Lease a) (row.Pool pool) among = refl
stands t (key.Lease a) (row.Lease lease) among = refl
stands t (key.Lease a) (row.Held address) among = refl
stands t (key.Lease a) (row.Batch batch) among = refl
stands t (key.Lease a) (row.PoolHub hub) among = refl
stands t (key.Lease a) (row.Device lease) among = refl
stands t (key.Held mac) (row.Modem modem) among = refl
stands t (key.Held mac) (row.Site site) among = refl
stands t (key.Held mac) (row.Subscriber subscriber) among = refl
stands t (key.Held mac) (row.AddOn settings) among = refl
stands t (key.Held mac) (row.Class class) among = refl
stands t (key.Held mac) (row.Pool pool) among = refl
stands t (key.Held mac) (row.Lease lease) among = refl
stands t (key.Held mac) (row.Held address) among = refl
stands t (key.Held mac) (row.Batch batch) among = refl
stands t (key.Held mac) (row.PoolHub hub) among = refl
stands t (key.Held mac) (row.Device lease) among = refl
stands t key.Site r among = refl
stands t (key.Subscriber n) r among = refl
stands t (key.AddOn n i) r among = refl
stands t (key.Class n) r among = refl
stands t (key.Batch n) r among = refl
stands t (key.Hub n) r among = refl
stands t (key.PoolHub n) (row.Modem modem) among = refl
stands t (key.PoolHub n) (row.Site site) among = refl
stands t (key.PoolHub n) (row.Subscriber subscriber) among = refl
stands t (key.PoolHub n) (row.AddOn settings) among = refl
stands t (key.PoolHub n) (row.Class class) among = refl
stands t (key.PoolHub n) (row.Pool pool) among = refl
stands t (key.PoolHub n) (row.Lease lease) among = refl
stands t (key.PoolHub n) (row.Held address) among = refl
stands t (key.PoolHub n) (row.Batch batch) among = refl
stands t (key.PoolHub n) (row.PoolHub hub) among = refl
stands t (key.PoolHub n) (row.Device lease) among = refl
stands t (key.DevicePool n) (row.Site site) among = refl
stands t (key.DevicePool n) (row.Subscriber subscriber) among = refl
stands t (key.DevicePool n) (row.AddOn settings) among = refl
stands t (key.DevicePool n) (row.Modem modem) among = refl
stands t (key.DevicePool n) (row.Class class) among = refl
stands t (key.DevicePool n) (row.Pool pool) among = refl
stands t (key.DevicePool n) (row.Lease lease) among = refl
stands t (key.DevicePool n) (row.Held address) among = refl
stands t (key.DevicePool n) (row.Batch batch) among = refl
stands t (key.DevicePool n) (row.PoolHub hub) among = refl
stands t (key.DevicePool n) (row.Device lease) among = refl
stands t (key.Device a) (row.Device lease) among = ap (λ b. (device_pools_around t a == 1) && b) (sole t a lease among)
stands t (key.Device a) (row.Site site) among = refl
stands t (key.Device a) (row.Subscriber subscriber) among = refl
stands t (key.Device a) (row.AddOn settings) among = refl
stands t (key.Device a) (row.Modem modem) among = refl
stands t (key.Device a) (row.Class class) among = refl
stands t (key.Device a) (row.Pool pool) among = refl
stands t (key.Device a) (row.Lease lease) among = refl
stands t (key.Device a) (row.Held address) among = refl
stands t (key.Device a) (row.Batch batch) among = refl
stands t (key.Device a) (row.PoolHub hub) among = refl

kept_by : (t : Tables) (e : Key × Row) → Among e (map_of.entries t) → is_kept t (mark_of e) ≡ keeps t e.0 e.1
kept_by t e among = ap (λ b. is_possible e.0 e.1 && b) (stands t e.0 e.1 among)

-- ---- from place to place

-- the rows keep their lines up to a place
pub record KeptTo (t : Tables) (n : ℕ) : Type 0 where
  pub kept : (i : ℕ) → i < n → i < length (map_of.entries t) → keeps t (entry_at t i).0 (entry_at t i).1 ≡ true

abbrev pub Kept : List Mark → Compared → ℕ → Type 0
Kept marks compared n = (t : Tables) → marks ≡ marks_of t → IsCompared compared t → KeptTo t n

pub none_kept : (marks : List Mark) (compared : Compared) → Kept marks compared 0
none_kept marks compared t are pooled = record { kept = λ i below within. absurd (omega (arith, below)) }

-- the test of the mark at a place is that of its entry
tested : (t : Tables) (marks : List Mark) (n : ℕ) (d mark : Mark) → marks ≡ marks_of t → n < length marks → mark ≡ slice_index_or marks n d
    → is_kept t mark ≡ keeps t (entry_at t n).0 (entry_at t n).1
tested t marks n d mark are within here =
    let is : mark ≡ mark_of (entry_at t n) = here ∙ ap (λ (v : List Mark). slice_index_or v n d) are ∙ mark_at t n d (subst (λ (v : List Mark). n < length v) are within) in
    let inside : n < length (map_of.entries t) = omega (arith, within, ap (λ (v : List Mark). length v) are ∙ as_many t) in
    ap (λ (m : Mark). is_kept t m) is ∙ kept_by t (entry_at t n) (among_at key_cmp key_total (map_of.entries t) n no_entry inside)

pub one_more_kept : (marks : List Mark) (compared : Compared) (n : ℕ) (d mark : Mark) (right : _) → Kept marks compared n → n < length marks → mark ≡ slice_index_or marks n d
    → ((t : Tables) → marks ≡ marks_of t → IsCompared compared t → right ≡ is_kept t mark) → right ≡ true → Kept marks compared (n + 1)
one_more_kept marks compared n d mark right so_far within here test is t are pooled = record {
  kept = λ i below inside.
      elim (cases_lt i n) [
        | inl less ↦ (so_far t are pooled).kept i less inside
        | inr not ↦
            let same : n ≡ i = omega (arith, below, not) in
            let good : keeps t (entry_at t n).0 (entry_at t n).1 ≡ true = sym (tested t marks n d mark are within here) ∙ sym (test t are pooled) ∙ is in
            subst (λ (k : ℕ). keeps t (entry_at t k).0 (entry_at t k).1 ≡ true) same good
      ];
}

-- the row of a key stands at a place
found_at : (t : Tables) (k : Key) (held : Row) → row_at t k ≡ Some held → (i : ℕ) × (i < length (map_of.entries t)) × (entry_at t i ≡ (k, held))
found_at t k held there =
    place_of key_cmp key_total (k, held) (map_of.entries t) no_entry (entry_of key_cmp key_exact k held (map_of.entries t) (sym (map_of.get-entries t k) ∙ there))

-- what stands no earlier isn't below
not_above : (t : Tables) (n i : ℕ) → n ≤ i → i < length (map_of.entries t) → key_cmp (entry_at t i).0 (entry_at t n).0 ≡ Less → ⊥
not_above t n i not within lower =
    let es = map_of.entries t in
    elim (cases_lt n i) [
      | inl less ↦ not_both key_cmp key_total (entry_at t n).0 (entry_at t i).0 (rises key_cmp key_total es n i no_entry (map_of.entries_sorted t) less within) lower
      | inr same ↦
          let one : i ≡ n = omega (arith, not, same) in
          let tied : key_cmp (entry_at t n).0 (entry_at t n).0 ≡ Less = subst (λ (k : ℕ). key_cmp (entry_at t k).0 (entry_at t n).0 ≡ Less) one lower in
          let equal : key_cmp (entry_at t n).0 (entry_at t n).0 ≡ Equal = tied_itself key_total (entry_at t n).0 in
          cc
    ]

pub all_kept : (marks : List Mark) (compared : Compared) (n : ℕ) → Kept marks compared n → length marks ≡ n → (t : Tables) → marks ≡ marks_of t → IsCompared compared t → Judged t None
all_kept marks compared n so_far end t are pooled k held there =
    let p = found_at t k held there in
    let many : length marks ≡ length (map_of.entries t) = ap (λ (v : List Mark). length v) are ∙ as_many t in
    subst (λ (e : Key × Row). keeps t e.0 e.1 ≡ true) p.2 ((so_far t are pooled).kept p.0 (omega (arith, end, many, p.1)) p.1)

pub bad_found : (marks : List Mark) (compared : Compared) (n : ℕ) (d mark : Mark) (right : _) → Kept marks compared n → n < length marks → mark ≡ slice_index_or marks n d
    → ((t : Tables) → marks ≡ marks_of t → IsCompared compared t → right ≡ is_kept t mark) → right ≡ false
    → (t : Tables) → marks ≡ marks_of t → IsCompared compared t → Judged t (Some mark.key)
bad_found marks compared n d mark right so_far within here test is t are pooled =
    let es = map_of.entries t in
    let many : length marks ≡ length es = ap (λ (v : List Mark). length v) are ∙ as_many t in
    let inside : n < length es = omega (arith, many, within) in
    let own : mark ≡ mark_of (entry_at t n) = here ∙ ap (λ (v : List Mark). slice_index_or v n d) are ∙ mark_at t n d (subst (λ (v : List Mark). n < length v) are within) in
    let wrong : keeps t (entry_at t n).0 (entry_at t n).1 ≡ false = sym (tested t marks n d mark are within here) ∙ sym (test t are pooled) ∙ is in
    let row : row_at t (entry_at t n).0 ≡ Some (entry_at t n).1 =
    map_of.get-entries t (entry_at t n).0 ∙ row_of key_cmp key_total (entry_at t n) es (map_of.entries_sorted t) (among_at key_cmp key_total es n no_entry inside) in
    subst (λ (m : Mark). Judged t (Some m.key)) (sym own) (record {
      held = (entry_at t n).1;
      there = row;
      breaks = wrong;
      least = λ other lower held there.
          let p = found_at t other held there in
          elim (cases_lt p.0 n) [
            | inl less ↦ subst (λ (e : Key × Row). keeps t e.0 e.1 ≡ true) p.2 ((so_far t are pooled).kept p.0 less p.1)
            | inr not ↦ absurd (not_above t n p.0 not p.1 (subst (λ (e : Key × Row). key_cmp e.0 (entry_at t n).0 ≡ Less) (sym p.2) lower))
          ];
    })

-- ---- over a keeper

-- the mark that stands in for one past the end
abbrev pub no_mark : Mark
no_mark = record { key = key.Site; fits = false; tie = tie.Free }

-- what the marks say of the tables from which they were read
pub looked : {A : Type 0} (P : A → Tables → Type 0) (marks lent : List Mark) (q : Result A KeepErr) (a b : KeeperSeen) → Reads (λ t. marks ≡ marks_of t) a b → lent ≡ marks
    → IfOk q (λ x. (t : Tables) → lent ≡ marks_of t → P x t) → IfErr q (λ err. err ≡ keep.Memory) → Looks q a b P
looked P marks lent (Ok x) a b reads is ok none = reads_as reads (λ t are. ok t (is ∙ are))
looked P marks lent (Err err) a b reads same none is = subst (λ (e : KeepErr). NotDone e a b) (sym is) (reads_forgotten reads)

-- the hub of an address, by the number of its first pool
mapped_by : (o : Option (ℕ × Pool)) (n : ℕ) (f : ℕ → ℕ) → Some n ≡ option_map (λ (x : ℕ × Pool). x.0) o → option_map (λ (x : ℕ × Pool). f x.0) o ≡ Some (f n)
mapped_by None n f e = cc
mapped_by (Some x) n f e = let same : x.0 ≡ n = cc in ap (λ k. Some (f k)) same

pub hub_by : (pools : List (ℕ × Pool)) (t : Tables) (address : Ip4) (number hub : ℕ) (b : Bool) → Some number ≡ option_map (λ (x : ℕ × Pool). x.0) (find (λ (x : ℕ × Pool). has_address x.1 address) pools)
    → pools ≡ raw_pools t → hub ≡ stored_hub t number → b ≡ is_hub_there t hub → b ≡ passes (is_hub_there t) (stored_hub_of t address)
hub_by pools t address number hub b found pooled is there =
    there ∙ ap (is_hub_there t) is
    ∙ ap (passes (is_hub_there t)) (sym (ap (λ (ps : List (ℕ × Pool)). option_map (λ (x : ℕ × Pool). stored_hub t x.0) (find (λ (x : ℕ × Pool). has_address x.1 address) ps)) (sym pooled)
    ∙ mapped_by (find (λ (x : ℕ × Pool). has_address x.1 address) pools) number (stored_hub t) found))
