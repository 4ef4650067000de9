-- Transfers as a map of what is held, at a peer's place.
use Rattle.std.proofs.Common.{◌≡◌, ℕ, zero, suc, ◌<◌, ◌≤◌, Bool, true, false, cond, not, T, [], ◌∷◌, ◌++◌, length, take, drop, Option, Some, None, is_some, nat_le, IsTrue, slice_index_or, slice_set, refl, sym, ap, ◌∙◌, subst, arith}
use Rattle.std.specs.Ordering.{is_eq, is_gt, eq_by_cmp}
use Rattle.std.proofs.lemmas.List.Sums.{prefix_len-le-length}
use Rattle.std.specs.Cmp.{alike_right, eq_by_cmp_equiv}
use Rattle.std.proofs.lemmas.Bool.{leb-false}
use Rattle.std.specs.FinMap as map
use Rattle.std.specs.FinMap.Entries.{put, where_key, is_sorted-put, is_sorted-where_key, find-where_key}
use Rattle.off_base.specs.declared.addresses.Peer.{Peer}
use Rattle.off_defs.specs.State.{Transfer, peer_cmp}
use Rattle.off_transfer_rules.specs.Transfers.{Transfers, has_no_room}
use Rattle.off_transfer_rules.proofs.PeerLemmas.{peer_total, same_peer, same_transfers, removed}
use Rattle.off_tftp.specs.Kept.{Entries, AreKept, place_of, is_in_front, HasRoomFor, changed, changed_by}
use Rattle.off_defs.proofs.PlaceLemmas.{value_at, put_at, less_at, put_there, found_there, removed_there}

pub true_T : (b : Bool) → IsTrue b → T b
true_T true p = tt
true_T false p = cc

pub T_true : (b : Bool) → T b → IsTrue b
T_true true p = refl
T_true false p = absurd p

abbrev kept : Entries → Transfers
kept es = map.from_sorted es

pub none_kept : kept [] ≡ map.empty
none_kept = map.empty_of_len (kept []) (map.len-entries (kept []) ∙ ap length (map.entries-from_sorted peer_cmp [] tt))

pub entries_kept : (es : Entries) → AreKept es → map.entries (kept es) ≡ es
entries_kept es sorted = map.entries-from_sorted peer_cmp es (true_T (map.is_sorted peer_cmp es) sorted)

pub len_kept : (es : Entries) → AreKept es → map.len (kept es) ≡ length es
len_kept es sorted = map.len-entries (kept es) ∙ ap length (entries_kept es sorted)

pub length_is : (xs : Transfers) (es : Entries) (n : ℕ) → AreKept es → kept es ≡ xs → n ≡ length es → n ≡ map.len xs
length_is xs es n sorted is count = count ∙ sym (len_kept es sorted) ∙ ap map.len is

pub room_kept : (xs : Transfers) (es : Entries) (n : ℕ) → AreKept es → kept es ≡ xs → n ≡ length es → nat_le 256 n ≡ has_no_room xs
room_kept xs es n sorted is count = ap (nat_le 256) (count ∙ sym (len_kept es sorted) ∙ ap map.len is)

-- ---- a place

-- it's the same among the entries as they are held
pub own_place : (peer : Peer) (xs : Transfers) (es : Entries) (n : ℕ) → AreKept es → kept es ≡ xs → n ≡ place_of peer (map.entries xs) → n ≡ place_of peer es
own_place peer xs es n sorted is place = place ∙ ap (place_of peer) (sym (ap map.entries is) ∙ entries_kept es sorted)

pub place_within : (peer : Peer) (es : Entries) (n len : ℕ) → n ≡ place_of peer es → len ≡ length es → n ≤ len
place_within peer es n len place count = omega (arith, place, count, prefix_len-le-length (λ (entry : Peer × Transfer). is_gt (peer_cmp peer entry.0)) es)

pub held_place : (peer : Peer) (xs : Transfers) (es : Entries) (n : ℕ) → AreKept es → kept es ≡ xs → n ≡ place_of peer es → n ≡ place_of peer (map.entries xs)
held_place peer xs es n sorted is place = place ∙ ap (place_of peer) (sym (sym (ap map.entries is) ∙ entries_kept es sorted))

in_front_within : (peer : Peer) (es : Entries) (n : ℕ) → is_in_front peer (drop n es) ≡ true → n < length es
in_front_within peer [] zero at = cc
in_front_within peer [] (suc n) at = cc
in_front_within peer (e ∷ es) zero at = omega arith
in_front_within peer (e ∷ es) (suc n) at = omega (arith, in_front_within peer es n at)

pub opened : (es : Entries) (n : ℕ) (e : Peer × Transfer) → n < length es → e ≡ slice_index_or es n e → drop n es ≡ e ∷ drop (suc n) es
opened [] n e within is = absurd (omega (arith, within))
opened (x ∷ es) zero e within is = ap (λ (y : Peer × Transfer). y ∷ es) (sym is)
opened (x ∷ es) (suc n) e within is = opened es n e (omega (arith, within)) is

pub set_opened : (es : Entries) (n : ℕ) (y : Peer × Transfer) → n < length es → slice_set es n y ≡ take n es ++ y ∷ drop (suc n) es
set_opened [] n y within = absurd (omega (arith, within))
set_opened (x ∷ es) zero y within = refl
set_opened (x ∷ es) (suc n) y within = ap (λ (t : Entries). x ∷ t) (set_opened es n y (omega (arith, within)))

-- what stands in front is the peer's own, or isn't
own_value : (peer : Peer) (e : Peer × Transfer) (es : Entries) → is_in_front peer (e ∷ es) ≡ true → value_at peer_cmp peer (e ∷ es) ≡ Some e.1
own_value peer e es at = ap (λ b. cond b (Some e.1) None) at

no_value : (peer : Peer) (es : Entries) → is_in_front peer es ≡ false → value_at peer_cmp peer es ≡ None
no_value peer [] at = refl
no_value peer (e ∷ es) at = ap (λ b. cond b (Some e.1) None) at

own_put : (peer : Peer) (e : Peer × Transfer) (es : Entries) (v : Transfer) → is_in_front peer (e ∷ es) ≡ true → put_at peer_cmp peer v (e ∷ es) ≡ (e.0, v) ∷ es
own_put peer e es v at = ap (λ b. cond b ((e.0, v) ∷ es) ((peer, v) ∷ e ∷ es)) at

new_put : (peer : Peer) (es : Entries) (v : Transfer) → is_in_front peer es ≡ false → put_at peer_cmp peer v es ≡ (peer, v) ∷ es
new_put peer [] v at = refl
new_put peer (e ∷ es) v at = ap (λ b. cond b ((e.0, v) ∷ es) ((peer, v) ∷ e ∷ es)) at

own_less : (peer : Peer) (e : Peer × Transfer) (es : Entries) → is_in_front peer (e ∷ es) ≡ true → less_at peer_cmp peer (e ∷ es) ≡ es
own_less peer e es at = ap (λ b. cond b es (e ∷ es)) at

pub get_kept : (peer : Peer) (xs : Transfers) (es : Entries) (n : ℕ) → AreKept es → kept es ≡ xs → n ≡ place_of peer es → map.get xs peer ≡ value_at peer_cmp peer (drop n es)
get_kept peer xs es n sorted is place =
    ap (λ (m : Transfers). map.get m peer) (sym is) ∙ map.get-from_sorted peer_cmp es peer (true_T (map.is_sorted peer_cmp es) sorted)
    ∙ found_there peer_cmp peer peer_total es (true_T (map.is_sorted peer_cmp es) sorted) ∙ ap (λ m. value_at peer_cmp peer (drop m es)) (sym place)

-- the entry at the place, where it is the peer's own
pub got : (peer : Peer) (xs : Transfers) (es : Entries) (n : ℕ) (e : Peer × Transfer) (at : Bool) → AreKept es → kept es ≡ xs → n ≡ place_of peer es
    → at ≡ is_in_front peer (drop n es) → at ≡ true → e ≡ slice_index_or es n e → map.get xs peer ≡ Some e.1
got peer xs es n e at sorted is place front own item =
    let here = sym front ∙ own in
    let open_ = opened es n e (in_front_within peer es n here) item in
    get_kept peer xs es n sorted is place ∙ ap (value_at peer_cmp peer) open_ ∙ own_value peer e (drop (suc n) es) (ap (is_in_front peer) (sym open_) ∙ here)

pub got_none : (peer : Peer) (xs : Transfers) (es : Entries) (n : ℕ) (at : Bool) → AreKept es → kept es ≡ xs → n ≡ place_of peer es
    → at ≡ is_in_front peer (drop n es) → at ≡ false → map.get xs peer ≡ None
got_none peer xs es n at sorted is place front none =
    get_kept peer xs es n sorted is place ∙ no_value peer (drop n es) (sym front ∙ none)

-- ---- what an insertion makes

put_in : (peer : Peer) (es : Entries) (n : ℕ) (v : Transfer) → n ≡ place_of peer es → put peer_cmp peer v es ≡ take n es ++ put_at peer_cmp peer v (drop n es)
put_in peer es n v place = put_there peer_cmp peer v es ∙ ap (λ m. take m es ++ put_at peer_cmp peer v (drop m es)) (sym place)

pub set_is_put : (peer : Peer) (es : Entries) (n : ℕ) (e : Peer × Transfer) (v : Transfer) (at : Bool) → n ≡ place_of peer es → at ≡ is_in_front peer (drop n es) → at ≡ true
    → e ≡ slice_index_or es n e → slice_set es n (e.0, v) ≡ put peer_cmp peer v es
set_is_put peer es n e v at place front own item =
    let here = sym front ∙ own in
    let within = in_front_within peer es n here in
    let open_ = opened es n e within item in
    set_opened es n (e.0, v) within
    ∙ sym (put_in peer es n v place ∙ ap (λ (d : Entries). take n es ++ put_at peer_cmp peer v d) open_
    ∙ ap (λ (d : Entries). take n es ++ d) (own_put peer e (drop (suc n) es) v (ap (is_in_front peer) (sym open_) ∙ here)))

pub insert_is_put : (peer : Peer) (es : Entries) (n : ℕ) (v : Transfer) (at : Bool) → n ≡ place_of peer es → at ≡ is_in_front peer (drop n es) → at ≡ false
    → take n es ++ (peer, v) ∷ drop n es ≡ put peer_cmp peer v es
insert_is_put peer es n v at place front none =
    sym (put_in peer es n v place ∙ ap (λ (d : Entries). take n es ++ d) (new_put peer (drop n es) v (sym front ∙ none)))

pub sorted_put : (peer : Peer) (v : Transfer) (es fs : Entries) → AreKept es → fs ≡ put peer_cmp peer v es → AreKept fs
sorted_put peer v es fs sorted is =
    subst AreKept (sym is) (T_true (map.is_sorted peer_cmp (put peer_cmp peer v es)) (is_sorted-put peer_cmp peer_total peer v es (true_T (map.is_sorted peer_cmp es) sorted)))

pub kept_put : (peer : Peer) (v : Transfer) (xs : Transfers) (es fs : Entries) → AreKept es → kept es ≡ xs → fs ≡ put peer_cmp peer v es → kept fs ≡ map.insert xs peer v
kept_put peer v xs es fs sorted is made =
    map.same_entries_map (kept fs) (map.insert xs peer v)
    (entries_kept fs (sorted_put peer v es fs sorted made) ∙ made ∙ ap (put peer_cmp peer v) (sym (entries_kept es sorted) ∙ ap map.entries is)
    ∙ sym (map.entries-insert peer_total xs peer v))

-- a peer's own transfer, changed where it stands
pub kept_changed : (peer : Peer) (xs : Transfers) (es fs : Entries) (n : ℕ) (e : Peer × Transfer) (at : Bool) (change : Transfer → Transfer) → AreKept es → kept es ≡ xs → n ≡ place_of peer es
    → at ≡ is_in_front peer (drop n es) → at ≡ true → e ≡ slice_index_or es n e → fs ≡ slice_set es n (e.0, change e.1) → kept fs ≡ changed xs peer change
kept_changed peer xs es fs n e at change sorted is place front own item made =
    kept_put peer (change e.1) xs es fs sorted is (made ∙ set_is_put peer es n e (change e.1) at place front own item)
    ∙ ap (λ (o : Option Transfer). changed_by o xs peer change) (sym (got peer xs es n e at sorted is place front own item))

pub unchanged : (peer : Peer) (xs : Transfers) (es : Entries) (n : ℕ) (at : Bool) (change : Transfer → Transfer) → AreKept es → kept es ≡ xs → n ≡ place_of peer es
    → at ≡ is_in_front peer (drop n es) → at ≡ false → xs ≡ changed xs peer change
unchanged peer xs es n at change sorted is place front none =
    ap (λ (o : Option Transfer). changed_by o xs peer change) (sym (got_none peer xs es n at sorted is place front none))

-- ---- and a removal

abbrev others : Peer → Entries → Entries
others peer es = where_key peer_cmp (λ x. not (eq_by_cmp peer_cmp peer x)) es

-- all but the first
abbrev behind_first : Entries → Entries
behind_first es = drop 1 es

own_behind : (peer : Peer) (es : Entries) → is_in_front peer es ≡ true → less_at peer_cmp peer es ≡ behind_first es
own_behind peer [] at = refl
own_behind peer (e ∷ es) at = own_less peer e es at

drop_one_more : (es : Entries) (n : ℕ) → behind_first (drop n es) ≡ drop (suc n) es
drop_one_more [] zero = refl
drop_one_more [] (suc n) = refl
drop_one_more (e ∷ es) zero = refl
drop_one_more (e ∷ es) (suc n) = drop_one_more es n

pub remove_is : (peer : Peer) (es : Entries) (n : ℕ) (at : Bool) → AreKept es → n ≡ place_of peer es → at ≡ is_in_front peer (drop n es) → at ≡ true
    → take n es ++ drop (suc n) es ≡ others peer es
remove_is peer es n at sorted place front own =
    sym (removed_there peer_cmp peer peer_total es (true_T (map.is_sorted peer_cmp es) sorted) ∙ ap (λ m. take m es ++ less_at peer_cmp peer (drop m es)) (sym place)
    ∙ ap (λ (d : Entries). take n es ++ d) (own_behind peer (drop n es) (sym front ∙ own) ∙ drop_one_more es n))

pub sorted_others : (peer : Peer) (es fs : Entries) → AreKept es → fs ≡ others peer es → AreKept fs
sorted_others peer es fs sorted is =
    subst AreKept (sym is) (T_true (map.is_sorted peer_cmp (others peer es)) (is_sorted-where_key peer_cmp (λ x. not (eq_by_cmp peer_cmp peer x)) es (true_T (map.is_sorted peer_cmp es) sorted)))

turned : (b : Bool) (x : Option Transfer) → cond (not b) x None ≡ cond b None x
turned true x = refl
turned false x = refl

get_others : (peer q : Peer) (es : Entries) → map.find peer_cmp q (others peer es) ≡ cond (eq_by_cmp peer_cmp q peer) None (map.find peer_cmp q es)
get_others peer q es =
    find-where_key peer_cmp (λ x. not (eq_by_cmp peer_cmp peer x)) q (λ x t. ap (λ r. not (is_eq r)) (sym (alike_right peer_total q x peer t))) es
    ∙ turned (eq_by_cmp peer_cmp peer q) (map.find peer_cmp q es)
    ∙ ap (λ b. cond b None (map.find peer_cmp q es)) ((eq_by_cmp_equiv peer_total).symm peer q)

pub kept_removed : (peer : Peer) (xs : Transfers) (es fs : Entries) → AreKept es → kept es ≡ xs → fs ≡ others peer es → kept fs ≡ map.remove xs peer
kept_removed peer xs es fs sorted is made =
    same_transfers (kept fs) (map.remove xs peer) (λ q.
    map.get-from_sorted peer_cmp fs q (true_T (map.is_sorted peer_cmp fs) (sorted_others peer es fs sorted made))
    ∙ ap (map.find peer_cmp q) made ∙ get_others peer q es
    ∙ ap (λ (v : Option Transfer). cond (eq_by_cmp peer_cmp q peer) None v) (sym (map.get-from_sorted peer_cmp es q (true_T (map.is_sorted peer_cmp es) sorted)) ∙ ap (λ (m : Transfers). map.get m q) is)
    ∙ sym (removed xs peer q))

-- nothing is removed where nothing stands
nothing_at : (peer : Peer) (xs : Transfers) (q : Peer) (same : Bool) → eq_by_cmp peer_cmp q peer ≡ same → map.get xs peer ≡ None → map.get xs q ≡ cond same None (map.get xs q)
nothing_at peer xs q true t none = ap (map.get xs) (same_peer q peer t) ∙ none
nothing_at peer xs q false t none = refl

pub kept_all : (peer : Peer) (xs : Transfers) → map.get xs peer ≡ None → xs ≡ map.remove xs peer
kept_all peer xs none = same_transfers xs (map.remove xs peer) (λ q. nothing_at peer xs q (eq_by_cmp peer_cmp q peer) refl none ∙ sym (removed xs peer q))

-- ---- room

none_is : (o : Option Transfer) → o ≡ None → IsTrue (is_some o) → ⊥
none_is None is p = cc
none_is (Some x) is p = cc

room_if : (n : ℕ) (full : Bool) → nat_le 256 n ≡ full → (full ≡ true → ⊥) → n < 256
room_if n true is apart = absurd (apart refl)
room_if n false is apart = leb-false 256 n is

pub room_by : (peer : Peer) (xs : Transfers) (es : Entries) (n : ℕ) → AreKept es → kept es ≡ xs → n ≡ length es → map.get xs peer ≡ None → HasRoomFor xs peer → n < 256
room_by peer xs es n sorted is count none has =
    let same = room_kept xs es n sorted is count in
    room_if n (nat_le 256 n) refl (λ full. none_is (map.get xs peer) none (has (sym same ∙ full)))
