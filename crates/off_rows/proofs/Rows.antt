-- Rows as lists of fields.
use Rattle.std.proofs.Common.{◌≡◌, ◌≢◌, ℕ, ◌<◌, ◌^◌, Bool, true, false, List, [], ◌∷◌, ◌++◌, length, refl, sym, ap, subst, ◌∙◌, arith, append_assoc, append-nil, FitsSigned, Result, Ok, Err, MatchResult, ℤ, pos, negsuc, inl, inr}
use Rattle.std.specs.Int.{to_be_bytes, from_be_bytes, cast_unsigned, cast_signed, w16, w32, w64}
use Rattle.std.proofs.lemmas.Nat.{from_be_bytes-to_be_bytes_8}
use Rattle.std.proofs.lemmas.Int.{to_z-of_z}
use Rattle.off_base.specs.Tree.{Tree, spelling, AllFit}
use Rattle.off_base.specs.declared.addresses.Ip4.{Ip4}
use Rattle.off_base.specs.declared.macs.Mac.{Mac}
use Rattle.off_tlv.specs.Grammar.{in_file, AllStand}
use Rattle.off_tlv.proofs.GrammarLemmas.{same_front, stops_nil, shaped_of}
use Rattle.off_base.proofs.ByteLemmas.{same_parts, same_word}
use Rattle.off_defs.specs.declared.keys.Key.{Key}
use Rattle.off_defs.specs.declared.keys.Key.TheVariants as key
use Rattle.off_defs.specs.declared.tables.ImportKind.{ImportKind}
use Rattle.off_defs.specs.declared.tables.ImportKind.TheVariants.{Subscribers, Modems}
use Rattle.off_defs.specs.declared.tables.Hold.{Hold}
use Rattle.off_defs.specs.declared.tables.Hold.TheVariants.{Offered, Bound, Declined}
use Rattle.off_defs.specs.declared.tables.DeviceHold.{DeviceHold}
use Rattle.off_defs.specs.declared.tables.DeviceHold.TheVariants as device
use Rattle.off_defs.specs.declared.tables.Row.{Row}
use Rattle.off_defs.specs.declared.tables.Row.TheVariants.{Site, Subscriber, AddOn, Modem, Class, Pool, Lease, Held, Batch, PoolHub, Device}
use Rattle.off_rows.specs.RowBytes.{counted, settings_bytes, flag_bytes, hold_bytes, device_hold_bytes, import_kind_bytes, row_bytes, IsOfKind, RowRanged, SettingsStand, CanSpell, OwnerIsMac, OwnersAreMacs, IsText, IsRowOf, IsShortSpelling}
use Rattle.off_rows.specs.BadRow.{bytes_of, one_of, text, settings, IsField, IsBadAt, fields_of, hold_fields, device_hold_fields}
use Rattle.off_rows.specs.Reading.{WhyNoRow, GivesRow, BadIn, WhyNoAddOn, WhyNoClass, from_start}
use Rattle.off_rows.specs.Laws.{RowsReadBack, OneBadPlace}
use Rattle.off_rows.specs.declared.faults.RowErr.{RowErr}
use Rattle.off_rows.specs.declared.faults.RowErr.TheVariants.{BadRow, Memory}
use Rattle.off_rows.proofs.RowFields.{AllFields, joined, same_fields, no_values, one_place}

-- the fields of a hold, and of a row
abbrev hold_values : Hold → List (List ℕ)
hold_values (Offered owner) = (1 ∷ []) ∷ owner.0 ∷ []
hold_values (Bound owner) = (2 ∷ []) ∷ owner.0 ∷ []
hold_values Declined = (3 ∷ []) ∷ []

abbrev device_hold_values : DeviceHold → List (List ℕ)
device_hold_values (device.Offered modem owner) = (1 ∷ []) ∷ modem.0 ∷ owner.0 ∷ []
device_hold_values (device.Bound modem owner) = (2 ∷ []) ∷ modem.0 ∷ owner.0 ∷ []
device_hold_values device.Declined = (3 ∷ []) ∷ []

abbrev values_of : Row → List (List ℕ)
values_of (Site s) = to_be_bytes w32 s.server.0 ∷ counted s.secret ∷ to_be_bytes w32 (cast_unsigned w32 s.offset) ∷ to_be_bytes w32 s.lease ∷ to_be_bytes w32 s.log.0 ∷ []
values_of (Subscriber s) = flag_bytes s.active ∷ (s.cpes ∷ []) ∷ counted s.name ∷ []
values_of (AddOn s) = settings_bytes s ∷ []
values_of (Modem m) = to_be_bytes w32 m.subscriber ∷ to_be_bytes w32 m.class ∷ counted m.serial ∷ []
values_of (Class c) = counted c.name ∷ settings_bytes c.settings ∷ []
values_of (Pool p) = to_be_bytes w32 p.first.0 ∷ to_be_bytes w32 p.last.0 ∷ (p.prefix ∷ []) ∷ to_be_bytes w32 p.router.0 ∷ to_be_bytes w32 p.relay.0 ∷ []
values_of (Lease l) = hold_values l.hold ++ to_be_bytes w64 l.expiry.0 ∷ []
values_of (Held a) = to_be_bytes w32 a.0 ∷ []
values_of (Batch b) = import_kind_bytes b.kind ∷ b.digest ∷ to_be_bytes w32 b.rows ∷ []
values_of (PoolHub h) = to_be_bytes w32 h ∷ []
values_of (Device l) = device_hold_values l.hold ++ to_be_bytes w64 l.expiry.0 ∷ []

flag_is : (b : Bool) → IsField (one_of (0 ∷ 1 ∷ [])) (flag_bytes b)
flag_is false = (0, (0, omega arith, refl), refl)
flag_is true = (1, (1, omega arith, refl), refl)

kind_is : (k : ImportKind) → IsField (one_of (1 ∷ 2 ∷ [])) (import_kind_bytes k)
kind_is Subscribers = (1, (0, omega arith, refl), refl)
kind_is Modems = (2, (1, omega arith, refl), refl)

hold_are : (h : Hold) (expiry : ℕ) → OwnerIsMac h → AllFields (hold_fields (hold_bytes h ++ to_be_bytes w64 expiry) ++ bytes_of 8 ∷ []) (hold_values h ++ to_be_bytes w64 expiry ∷ [])
hold_are (Offered owner) expiry m = ((1, (0, omega arith, refl), refl), (m, (refl, tt)))
hold_are (Bound owner) expiry m = ((2, (1, omega arith, refl), refl), (m, (refl, tt)))
hold_are Declined expiry m = ((3, (2, omega arith, refl), refl), (refl, tt))

device_hold_are : (h : DeviceHold) (expiry : ℕ) → OwnersAreMacs h → AllFields (device_hold_fields (device_hold_bytes h ++ to_be_bytes w64 expiry) ++ bytes_of 8 ∷ []) (device_hold_values h ++ to_be_bytes w64 expiry ∷ [])
device_hold_are (device.Offered modem owner) expiry m = ((1, (0, omega arith, refl), refl), (m.0, (m.1, (refl, tt))))
device_hold_are (device.Bound modem owner) expiry m = ((2, (1, omega arith, refl), refl), (m.0, (m.1, (refl, tt))))
device_hold_are device.Declined expiry m = ((3, (2, omega arith, refl), refl), (refl, tt))

text_is : (t : List ℕ) → IsText t → IsField text (counted t)
text_is t p = (t, p, refl)

settings_are : (s : List Tree) → AllStand in_file s → IsShortSpelling s → IsField settings (settings_bytes s)
settings_are s p q = (s, p, q, refl)

-- a row's values are of the fields of its kind
values_are : (k : Key) (row : Row) → IsOfKind k row → RowRanged row → SettingsStand row → AllFields (fields_of k (row_bytes row)) (values_of row)
values_are key.Site (Site s) e r t = (refl, ((s.secret, r.1, refl), (refl, (refl, (refl, tt)))))
values_are (key.Subscriber n) (Subscriber s) e r t = (flag_is s.active, (refl, (text_is s.name r.1, tt)))
values_are (key.AddOn n i) (AddOn s) e r t = (settings_are s t.0 t.1, tt)
values_are (key.Modem m) (Modem s) e r t = (refl, (refl, (text_is s.serial r.2, tt)))
values_are (key.Class n) (Class c) e r t = (text_is c.name r, (settings_are c.settings t.0 t.1, tt))
values_are (key.Pool n) (Pool p) e r t = (refl, (refl, (refl, (refl, (refl, tt)))))
values_are (key.Lease a) (Lease l) e r t = hold_are l.hold l.expiry.0 r.0
values_are (key.Held m) (Held a) e r t = (refl, tt)
values_are (key.Batch n) (Batch b) e r t = (kind_is b.kind, (r.0, (refl, tt)))
values_are (key.Hub n) (Site s) e r t = (refl, ((s.secret, r.1, refl), (refl, (refl, (refl, tt)))))
values_are (key.PoolHub n) (PoolHub h) e r t = (refl, tt)
values_are (key.DevicePool n) (Pool p) e r t = (refl, (refl, (refl, (refl, (refl, tt)))))
values_are (key.Device a) (Device l) e r t = device_hold_are l.hold l.expiry.0 r.0
values_are _ _ e r t = absurd e

-- and its bytes are these values joined
hold_joined : (h : Hold) (x : List ℕ) → joined (hold_values h ++ x ∷ []) ≡ hold_bytes h ++ x
hold_joined (Offered owner) x = simp append-nil
hold_joined (Bound owner) x = simp append-nil
hold_joined Declined x = simp append-nil

device_hold_joined : (h : DeviceHold) (x : List ℕ) → joined (device_hold_values h ++ x ∷ []) ≡ device_hold_bytes h ++ x
device_hold_joined (device.Offered modem owner) x = simp (append_assoc, append-nil)
device_hold_joined (device.Bound modem owner) x = simp (append_assoc, append-nil)
device_hold_joined device.Declined x = simp append-nil

values_joined : (row : Row) → joined (values_of row) ≡ row_bytes row
values_joined (Site s) = simp (append_assoc, append-nil)
values_joined (Subscriber s) = simp (append_assoc, append-nil)
values_joined (AddOn s) = simp append-nil
values_joined (Modem m) = simp (append_assoc, append-nil)
values_joined (Class c) = simp (append_assoc, append-nil)
values_joined (Pool p) = simp (append_assoc, append-nil)
values_joined (Lease l) = hold_joined l.hold (to_be_bytes w64 l.expiry.0)
values_joined (Held a) = refl
values_joined (Batch b) = simp (append_assoc, append-nil)
values_joined (PoolHub h) = simp append-nil
values_joined (Device l) = device_hold_joined l.hold (to_be_bytes w64 l.expiry.0)

-- ---- rows with the same values

long_same : (n m : ℕ) → n < 2 ^ 64 → m < 2 ^ 64 → to_be_bytes w64 n ≡ to_be_bytes w64 m → n ≡ m
long_same n m p q e = sym (from_be_bytes-to_be_bytes_8 n p) ∙ (ap (from_be_bytes w64) e ∙ from_be_bytes-to_be_bytes_8 m q)

ip_same : (a b : Ip4) → a.0 < 2 ^ 32 → b.0 < 2 ^ 32 → to_be_bytes w32 a.0 ≡ to_be_bytes w32 b.0 → a ≡ b
ip_same a b p q e = ap (λ (n : ℕ). record { 0 = n }) (same_word a.0 b.0 p q e)

counted_same : (v w : List ℕ) → counted v ≡ counted w → v ≡ w
counted_same v w e = cc

flag_same : (a b : Bool) → flag_bytes a ≡ flag_bytes b → a ≡ b
flag_same false false e = refl
flag_same true true e = refl
flag_same false true e = cc
flag_same true false e = cc

kind_same : (a b : ImportKind) → import_kind_bytes a ≡ import_kind_bytes b → a ≡ b
kind_same Subscribers Subscribers e = refl
kind_same Modems Modems e = refl
kind_same Subscribers Modems e = cc
kind_same Modems Subscribers e = cc

mac_same : (a b : Mac) → a.0 ≡ b.0 → a ≡ b
mac_same a b e = ap (λ (x : List ℕ). record { 0 = x }) e

hold_same : (h g : Hold) (x y : List ℕ) → hold_values h ++ x ∷ [] ≡ hold_values g ++ y ∷ [] → (h ≡ g) × (x ≡ y)
hold_same (Offered a) (Offered b) x y e = let m : a.0 ≡ b.0 = cc in (ap Offered (mac_same a b m), cc)
hold_same (Bound a) (Bound b) x y e = let m : a.0 ≡ b.0 = cc in (ap Bound (mac_same a b m), cc)
hold_same Declined Declined x y e = (refl, cc)
hold_same (Offered a) (Bound b) x y e = cc
hold_same (Offered a) Declined x y e = cc
hold_same (Bound a) (Offered b) x y e = cc
hold_same (Bound a) Declined x y e = cc
hold_same Declined (Offered b) x y e = cc
hold_same Declined (Bound b) x y e = cc

device_hold_same : (h g : DeviceHold) (x y : List ℕ) → device_hold_values h ++ x ∷ [] ≡ device_hold_values g ++ y ∷ [] → (h ≡ g) × (x ≡ y)
device_hold_same (device.Offered a c) (device.Offered b d) x y e =
    let m : a.0 ≡ b.0 = cc in
    let o : c.0 ≡ d.0 = cc in
    let one = mac_same a b m in
    let two = mac_same c d o in
    (λ i. device.Offered (one i) (two i), cc)
device_hold_same (device.Bound a c) (device.Bound b d) x y e =
    let m : a.0 ≡ b.0 = cc in
    let o : c.0 ≡ d.0 = cc in
    let one = mac_same a b m in
    let two = mac_same c d o in
    (λ i. device.Bound (one i) (two i), cc)
device_hold_same device.Declined device.Declined x y e = (refl, cc)
device_hold_same (device.Offered a c) (device.Bound b d) x y e = cc
device_hold_same (device.Offered a c) device.Declined x y e = cc
device_hold_same (device.Bound a c) (device.Offered b d) x y e = cc
device_hold_same (device.Bound a c) device.Declined x y e = cc
device_hold_same device.Declined (device.Offered b d) x y e = cc
device_hold_same device.Declined (device.Bound b d) x y e = cc

settings_same : (s t : List Tree) → AllStand in_file s → AllStand in_file t → settings_bytes s ≡ settings_bytes t → s ≡ t
settings_same s t p q e =
    let both = same_parts (to_be_bytes w16 (length (spelling s))) (to_be_bytes w16 (length (spelling t))) (spelling s) (spelling t) refl e in
    let front = append-nil (spelling s) ∙ (both.1 ∙ sym (append-nil (spelling t))) in
    (same_front in_file s t [] [] (shaped_of in_file s p) (shaped_of in_file t q) front (stops_nil in_file) (stops_nil in_file)).0

below_z : (z : ℤ) → FitsSigned w32 z → cast_unsigned w32 z < 2 ^ 32
below_z (pos n) p = let small = p.sfits in omega arith
below_z (negsuc n) p = omega arith

offset_same : (x y : ℤ) → FitsSigned w32 x → FitsSigned w32 y → to_be_bytes w32 (cast_unsigned w32 x) ≡ to_be_bytes w32 (cast_unsigned w32 y) → x ≡ y
offset_same x y p q e =
    let one = same_word (cast_unsigned w32 x) (cast_unsigned w32 y) (below_z x p) (below_z y q) e in
    sym (to_z-of_z w32 x p) ∙ (ap (cast_signed w32) one ∙ to_z-of_z w32 y q)

-- two rows of one kind
abbrev row_kind : Row → ℕ
row_kind (Site x) = 1
row_kind (Subscriber x) = 2
row_kind (AddOn x) = 3
row_kind (Modem x) = 4
row_kind (Class x) = 5
row_kind (Pool x) = 6
row_kind (Lease x) = 7
row_kind (Held x) = 8
row_kind (Batch x) = 9
row_kind (PoolHub x) = 10
row_kind (Device x) = 11

one_kind : (k : Key) (a b : Row) → IsOfKind k a → IsOfKind k b → row_kind a ≡ row_kind b
one_kind key.Site (Site a) (Site b) p q = refl
one_kind (key.Subscriber n) (Subscriber a) (Subscriber b) p q = refl
one_kind (key.AddOn n i) (AddOn a) (AddOn b) p q = refl
one_kind (key.Modem m) (Modem a) (Modem b) p q = refl
one_kind (key.Class n) (Class a) (Class b) p q = refl
one_kind (key.Pool n) (Pool a) (Pool b) p q = refl
one_kind (key.Lease i) (Lease a) (Lease b) p q = refl
one_kind (key.Held m) (Held a) (Held b) p q = refl
one_kind (key.Batch n) (Batch a) (Batch b) p q = refl
one_kind (key.Hub n) (Site a) (Site b) p q = refl
one_kind (key.PoolHub n) (PoolHub a) (PoolHub b) p q = refl
one_kind (key.DevicePool n) (Pool a) (Pool b) p q = refl
one_kind (key.Device i) (Device a) (Device b) p q = refl
one_kind key.Site (Site a) _ p q = absurd q
one_kind (key.Subscriber n) (Subscriber a) _ p q = absurd q
one_kind (key.AddOn n i) (AddOn a) _ p q = absurd q
one_kind (key.Modem m) (Modem a) _ p q = absurd q
one_kind (key.Class n) (Class a) _ p q = absurd q
one_kind (key.Pool n) (Pool a) _ p q = absurd q
one_kind (key.Lease i) (Lease a) _ p q = absurd q
one_kind (key.Held m) (Held a) _ p q = absurd q
one_kind (key.Batch n) (Batch a) _ p q = absurd q
one_kind (key.Hub n) (Site a) _ p q = absurd q
one_kind (key.PoolHub n) (PoolHub a) _ p q = absurd q
one_kind (key.DevicePool n) (Pool a) _ p q = absurd q
one_kind (key.Device i) (Device a) _ p q = absurd q
one_kind _ _ _ p q = absurd p

pub rows_same : (a b : Row) → row_kind a ≡ row_kind b → RowRanged a → RowRanged b → SettingsStand a → SettingsStand b → values_of a ≡ values_of b → a ≡ b
rows_same (Site a) (Site b) k p q s t e =
    let server : to_be_bytes w32 a.server.0 ≡ to_be_bytes w32 b.server.0 = cc in
    let secret : counted a.secret ≡ counted b.secret = cc in
    let offset : to_be_bytes w32 (cast_unsigned w32 a.offset) ≡ to_be_bytes w32 (cast_unsigned w32 b.offset) = cc in
    let lease : to_be_bytes w32 a.lease ≡ to_be_bytes w32 b.lease = cc in
    let log : to_be_bytes w32 a.log.0 ≡ to_be_bytes w32 b.log.0 = cc in
    let one = ip_same a.server b.server p.0 q.0 server in
    let two = counted_same a.secret b.secret secret in
    let three = offset_same a.offset b.offset p.2 q.2 offset in
    let four = same_word a.lease b.lease p.3 q.3 lease in
    let five = ip_same a.log b.log p.4 q.4 log in
    λ i. Site (record { server = one i; secret = two i; offset = three i; lease = four i; log = five i })
rows_same (Subscriber a) (Subscriber b) k p q s t e =
    let active : flag_bytes a.active ≡ flag_bytes b.active = cc in
    let cpes : a.cpes ≡ b.cpes = cc in
    let name : counted a.name ≡ counted b.name = cc in
    let one = flag_same a.active b.active active in
    let three = counted_same a.name b.name name in
    λ i. Subscriber (record { active = one i; cpes = cpes i; name = three i })
rows_same (AddOn a) (AddOn b) k p q s t e =
    let whole : settings_bytes a ≡ settings_bytes b = cc in ap AddOn (settings_same a b s.0 t.0 whole)
rows_same (Modem a) (Modem b) k p q s t e =
    let subscriber : to_be_bytes w32 a.subscriber ≡ to_be_bytes w32 b.subscriber = cc in
    let class : to_be_bytes w32 a.class ≡ to_be_bytes w32 b.class = cc in
    let serial : counted a.serial ≡ counted b.serial = cc in
    let one = same_word a.subscriber b.subscriber p.0 q.0 subscriber in
    let two = same_word a.class b.class p.1 q.1 class in
    let three = counted_same a.serial b.serial serial in
    λ i. Modem (record { subscriber = one i; class = two i; serial = three i })
rows_same (Class a) (Class b) k p q s t e =
    let name : counted a.name ≡ counted b.name = cc in
    let whole : settings_bytes a.settings ≡ settings_bytes b.settings = cc in
    let one = counted_same a.name b.name name in
    let two = settings_same a.settings b.settings s.0 t.0 whole in
    λ i. Class (record { name = one i; settings = two i })
rows_same (Pool a) (Pool b) k p q s t e =
    let first : to_be_bytes w32 a.first.0 ≡ to_be_bytes w32 b.first.0 = cc in
    let last : to_be_bytes w32 a.last.0 ≡ to_be_bytes w32 b.last.0 = cc in
    let prefix : a.prefix ≡ b.prefix = cc in
    let router : to_be_bytes w32 a.router.0 ≡ to_be_bytes w32 b.router.0 = cc in
    let relay : to_be_bytes w32 a.relay.0 ≡ to_be_bytes w32 b.relay.0 = cc in
    let one = ip_same a.first b.first p.0 q.0 first in
    let two = ip_same a.last b.last p.1 q.1 last in
    let four = ip_same a.router b.router p.3 q.3 router in
    let five = ip_same a.relay b.relay p.4 q.4 relay in
    λ i. Pool (record { first = one i; last = two i; prefix = prefix i; router = four i; relay = five i })
rows_same (Lease a) (Lease b) k p q s t e =
    let both = hold_same a.hold b.hold (to_be_bytes w64 a.expiry.0) (to_be_bytes w64 b.expiry.0) e in
    let hold = both.0 in
    let expiry = long_same a.expiry.0 b.expiry.0 p.1 q.1 both.1 in
    λ i. Lease (record { hold = hold i; expiry = record { 0 = expiry i } })
rows_same (Held a) (Held b) k p q s t e =
    let whole : to_be_bytes w32 a.0 ≡ to_be_bytes w32 b.0 = cc in ap Held (ip_same a b p q whole)
rows_same (Batch a) (Batch b) k p q s t e =
    let kind : import_kind_bytes a.kind ≡ import_kind_bytes b.kind = cc in
    let digest : a.digest ≡ b.digest = cc in
    let rows : to_be_bytes w32 a.rows ≡ to_be_bytes w32 b.rows = cc in
    let one = kind_same a.kind b.kind kind in
    let three = same_word a.rows b.rows p.1 q.1 rows in
    λ i. Batch (record { kind = one i; digest = digest i; rows = three i })
rows_same (PoolHub a) (PoolHub b) k p q s t e =
    let whole : to_be_bytes w32 a ≡ to_be_bytes w32 b = cc in ap PoolHub (same_word a b p q whole)
rows_same (Device a) (Device b) k p q s t e =
    let both = device_hold_same a.hold b.hold (to_be_bytes w64 a.expiry.0) (to_be_bytes w64 b.expiry.0) e in
    let hold = both.0 in
    let expiry = long_same a.expiry.0 b.expiry.0 p.1 q.1 both.1 in
    λ i. Device (record { hold = hold i; expiry = record { 0 = expiry i } })
rows_same _ _ k p q s t e = absurd (omega arith)

-- rows of one key with the same bytes are one
pub one_row : (k : Key) (a b : Row) → IsRowOf k a → IsRowOf k b → row_bytes a ≡ row_bytes b → a ≡ b
one_row k a b p q e =
    let left = values_are k a p.kind p.ranged p.stand in
    let right = subst (λ (x : List ℕ). AllFields (fields_of k x) (values_of b)) (sym e) (values_are k b q.kind q.ranged q.stand) in
    let whole = values_joined a ∙ (e ∙ sym (values_joined b)) in
    rows_same a b (one_kind k a b p.kind q.kind) p.ranged q.ranged p.stand q.stand (same_fields (fields_of k (row_bytes a)) (values_of a) (values_of b) left right whole)

-- no row of the key's kind has bytes with a bad place
pub bad_no_row : (k : Key) (bytes : List ℕ) (place : ℕ) → IsBadAt k bytes place → (row : Row) → IsRowOf k row → row_bytes row ≢ bytes
bad_no_row k bytes place bad row is e =
    no_values bad (values_of row) (subst (λ (x : List ℕ). AllFields (fields_of k x) (values_of row)) e (values_are k row is.kind is.ranged is.stand)) (values_joined row ∙ e)

-- why a row isn't read
pub why_bad : (k : Key) (bytes : List ℕ) (err : RowErr) → BadIn (fields_of k bytes) (from_start bytes) err → WhyNoRow k bytes err
why_bad k bytes err b =
    subst (WhyNoRow k bytes) (sym b.is) (b.bad, bad_no_row k bytes b.place b.bad)

-- what is read is the one row
pub only_row : (k : Key) (bytes : List ℕ) (result : Result Row RowErr) → MatchResult result (λ row. IsRowOf k row × (row_bytes row ≡ bytes)) (WhyNoRow k bytes) → (row : Row) → IsRowOf k row → row_bytes row ≡ bytes → GivesRow row result
only_row k bytes (Ok given) found row is e = one_row k given row found.0 is (found.1 ∙ sym e)
only_row k bytes (Err (BadRow place)) found row is e = absurd (found.1 row is e)
only_row k bytes (Err Memory) found row is e = refl

pub why_no_add_on : (n i : ℕ) (bytes : List ℕ) (err : RowErr) → WhyNoAddOn bytes err → WhyNoRow (key.AddOn n i) bytes err
why_no_add_on n i bytes err (inl b) = why_bad (key.AddOn n i) bytes err b
why_no_add_on n i bytes err (inr m) =
    subst (WhyNoRow (key.AddOn n i) bytes) (sym m.0) (AddOn m.1.0, record { kind = tt; ranged = tt; stand = m.1.1 }, m.1.2)

pub why_no_class : (n : ℕ) (bytes : List ℕ) (err : RowErr) → WhyNoClass bytes err → WhyNoRow (key.Class n) bytes err
why_no_class n bytes err (inl b) = why_bad (key.Class n) bytes err b
why_no_class n bytes err (inr m) =
    subst (WhyNoRow (key.Class n) bytes) (sym m.0) (Class m.1.0, record { kind = tt; ranged = m.1.1; stand = m.1.2 }, m.1.3)

pub first_bad : (k : Key) (bytes : List ℕ) (result : Result Row RowErr) → MatchResult result (λ row. IsRowOf k row × (row_bytes row ≡ bytes)) (WhyNoRow k bytes) → (place : ℕ) → IsBadAt k bytes place → result ≡ Err (BadRow place)
first_bad k bytes (Ok row) found place bad = absurd (bad_no_row k bytes place bad row found.0 found.1)
first_bad k bytes (Err (BadRow other)) found place bad = let same = one_place found.0 bad in ap (λ (p : ℕ). Err (BadRow p)) same
first_bad k bytes (Err Memory) found place bad = absurd (bad_no_row k bytes place bad found.0 found.1 found.2)

-- what can be read again can be written
all_fit : (s : List Tree) → AllStand in_file s → AllFit s
all_fit [] p = tt
all_fit (t ∷ s) p = (p.0.fits, all_fit s p.1)

pub can_spell : (row : Row) → SettingsStand row → CanSpell row
can_spell (Site s) p = tt
can_spell (Subscriber s) p = tt
can_spell (AddOn s) p = (all_fit s p.0, p.1)
can_spell (Modem m) p = tt
can_spell (Class c) p = (all_fit c.settings p.0, p.1)
can_spell (Pool p) q = tt
can_spell (Lease l) p = tt
can_spell (Held a) p = tt
can_spell (Batch b) p = tt
can_spell (PoolHub h) p = tt
can_spell (Device l) p = tt

pub rows_read_back : RowsReadBack
rows_read_back k row result is found = only_row k (row_bytes row) result found row is refl

pub one_bad_place : OneBadPlace
one_bad_place k bytes p q a b = one_place a b
