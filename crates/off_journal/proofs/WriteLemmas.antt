-- The bytes of writes one behind another.
use Rattle.std.proofs.Common.{◌≡◌, ℕ, ◌+◌, ◌<◌, ◌≤◌, ◌^◌, ◌++◌, ◌∷◌, [], List, length, take, refl, sym, ap, subst, ◌∙◌, arith, Some, Err, append_assoc, append-nil, length-append, Bool, true, false}
use Rattle.std.specs.List.{slice_get}
use Rattle.std.specs.Int.{to_be_bytes, cast_unsigned, w16, w32, w64}
use Rattle.off_base.proofs.TreeLemmas.{taken}
use Rattle.off_base.specs.Tree.{spelling}
use Rattle.off_defs.specs.declared.tables.Row.{Row}
use Rattle.off_defs.specs.declared.tables.Row.TheVariants.{Site, Subscriber, AddOn, Modem, Class, Pool, Lease, Held, Batch, PoolHub, Device}
use Rattle.off_defs.specs.declared.tables.Site.{Site as SiteRow}
use Rattle.off_defs.specs.declared.tables.Subscriber.{Subscriber as SubscriberRow}
use Rattle.off_defs.specs.declared.tables.Batch.{Batch as BatchRow}
use Rattle.off_defs.specs.declared.tables.Hold.{Hold}
use Rattle.off_defs.specs.declared.tables.Hold.TheVariants.{Offered, Bound, Declined}
use Rattle.off_defs.specs.declared.tables.DeviceHold.{DeviceHold}
use Rattle.off_defs.specs.declared.tables.DeviceHold.TheVariants as device
use Rattle.off_defs.specs.declared.tables.ImportKind.{ImportKind}
use Rattle.off_defs.specs.declared.tables.ImportKind.TheVariants.{Subscribers, Modems}
use Rattle.off_defs.specs.declared.writes.Write.{Write}
use Rattle.off_rows.specs.RowBytes.{row_bytes, counted, flag_bytes, hold_bytes, device_hold_bytes, import_kind_bytes, RowRanged, SettingsStand, OwnerIsMac, OwnersAreMacs}
use Rattle.off_defs.specs.Counts.{one_more}
use Rattle.off_outside.specs.declared.keeper.KeepErr.{KeepErr}
use Rattle.off_outside.specs.declared.keeper.KeepErr.TheVariants.{Memory, Failed}
use Rattle.off_spelled.proofs.SpellLemmas.{spelled_at}
use Rattle.off_journal.specs.Payload.{write_bytes, payload_of}
use Rattle.off_journal.specs.Keeping.{WritePushed, PayloadSpelled}

-- payloads one behind another
pub payload_push : (xs : List Write) (x : Write) → payload_of (xs ++ x ∷ []) ≡ payload_of xs ++ write_bytes x
payload_push [] x = append-nil (write_bytes x)
payload_push (y ∷ xs) x = ap (λ (l : List ℕ). write_bytes y ++ l) (payload_push xs x) ∙ sym (append_assoc (write_bytes y) (payload_of xs) (write_bytes x))

pub payload_more : (xs : List Write) (i : ℕ) (x : Write) → slice_get xs i ≡ Some x → payload_of (take (i + 1) xs) ≡ payload_of (take i xs) ++ write_bytes x
payload_more xs i x at = ap payload_of (taken xs i x at) ∙ payload_push (take i xs) x

-- rows are short
counted_small : (bytes : List ℕ) → length (counted bytes) ≡ length bytes + 1
counted_small bytes = omega arith

hold_small : (h : Hold) → OwnerIsMac h → length (hold_bytes h) ≤ 7
hold_small (Offered owner) m = omega (arith, m)
hold_small (Bound owner) m = omega (arith, m)
hold_small Declined m = omega arith

device_hold_small : (h : DeviceHold) → OwnersAreMacs h → length (device_hold_bytes h) ≤ 16
device_hold_small (device.Offered modem owner) m = omega (arith, m.0, m.1, length-append modem.0 owner.0)
device_hold_small (device.Bound modem owner) m = omega (arith, m.0, m.1, length-append modem.0 owner.0)
device_hold_small device.Declined m = omega arith

flag_small : (b : Bool) → length (flag_bytes b) ≡ 1
flag_small true = refl
flag_small false = refl

kind_small : (k : ImportKind) → length (import_kind_bytes k) ≡ 1
kind_small Subscribers = refl
kind_small Modems = refl

site_small : (a secret b c d : List ℕ) → length a ≡ 4 → length b ≡ 4 → length c ≡ 4 → length d ≡ 4 → length secret ≤ 64
    → length (a ++ ((length secret ∷ secret) ++ (b ++ (c ++ d)))) < 2 ^ 32
site_small a secret b c d p q r s few =
    omega (arith, length-append a ((length secret ∷ secret) ++ (b ++ (c ++ d))), length-append (length secret ∷ secret) (b ++ (c ++ d)), length-append b (c ++ d), length-append c d)

site_joined : (s : SiteRow) → row_bytes (Site s)
    ≡ to_be_bytes w32 s.server.0 ++ ((length s.secret ∷ s.secret) ++ (to_be_bytes w32 (cast_unsigned w32 s.offset) ++ (to_be_bytes w32 s.lease ++ to_be_bytes w32 s.log.0)))
site_joined s = simp append_assoc

subscriber_joined : (s : SubscriberRow) → row_bytes (Subscriber s) ≡ flag_bytes s.active ++ (s.cpes ∷ (length s.name ∷ s.name))
subscriber_joined s = simp append_assoc

batch_joined : (b : BatchRow) → row_bytes (Batch b) ≡ import_kind_bytes b.kind ++ (b.digest ++ to_be_bytes w32 b.rows)
batch_joined b = simp append_assoc

class_small : (name two spelled : List ℕ) → length name ≤ 64 → length two ≡ 2 → length spelled ≤ 65535 → length ((length name ∷ name) ++ (two ++ spelled)) < 2 ^ 32
class_small name two spelled few p some = omega (arith, length-append (length name ∷ name) (two ++ spelled), length-append two spelled)

spelled_small : (two spelled : List ℕ) → length two ≡ 2 → length spelled ≤ 65535 → length (two ++ spelled) < 2 ^ 32
spelled_small two spelled p some = omega (arith, length-append two spelled)

subscriber_small : (flag name : List ℕ) (cpes : ℕ) → length flag ≡ 1 → length name ≤ 64 → length (flag ++ (cpes ∷ (length name ∷ name))) < 2 ^ 32
subscriber_small flag name cpes p few = omega (arith, length-append flag (cpes ∷ (length name ∷ name)))

two_small : (a b : List ℕ) → length a ≤ 16 → length b ≤ 64 → length (a ++ b) < 2 ^ 32
two_small a b p q = omega (arith, length-append a b)

three_small : (a b c : List ℕ) → length a ≤ 16 → length b ≤ 16 → length c ≤ 16 → length (a ++ (b ++ c)) < 2 ^ 32
three_small a b c p q r = omega (arith, length-append a (b ++ c), length-append b c)

hold_few : (h : Hold) → OwnerIsMac h → length (hold_bytes h) ≤ 16
hold_few h m = omega (arith, hold_small h m)

pub row_small : (row : Row) → RowRanged row → SettingsStand row → length (row_bytes row) < 2 ^ 32
row_small (Site s) r t =
    subst (λ (l : List ℕ). length l < 2 ^ 32) (sym (site_joined s))
    (site_small (to_be_bytes w32 s.server.0) s.secret (to_be_bytes w32 (cast_unsigned w32 s.offset)) (to_be_bytes w32 s.lease) (to_be_bytes w32 s.log.0) refl refl refl refl r.1)
row_small (Subscriber s) r t =
    subst (λ (l : List ℕ). length l < 2 ^ 32) (sym (subscriber_joined s)) (subscriber_small (flag_bytes s.active) s.name s.cpes (flag_small s.active) r.1.0)
row_small (AddOn s) r t = spelled_small (to_be_bytes w16 (length (spelling s))) (spelling s) refl t.1
row_small (Modem m) r t = omega (arith, r.2.0)
row_small (Class c) r t = class_small c.name (to_be_bytes w16 (length (spelling c.settings))) (spelling c.settings) r.0 refl t.1
row_small (Pool p) r t = omega arith
row_small (Lease l) r t = two_small (hold_bytes l.hold) (to_be_bytes w64 l.expiry.0) (hold_few l.hold r.0) (omega arith)
row_small (Held a) r t = omega arith
row_small (PoolHub h) r t = omega arith
row_small (Device l) r t = two_small (device_hold_bytes l.hold) (to_be_bytes w64 l.expiry.0) (device_hold_small l.hold r.0) (omega arith)
row_small (Batch b) r t =
    subst (λ (l : List ℕ). length l < 2 ^ 32) (sym (batch_joined b)) (three_small (import_kind_bytes b.kind) b.digest (to_be_bytes w32 b.rows) (omega (arith, kind_small b.kind)) (omega (arith, r.0)) (omega arith))

-- a write that isn't spelled is one of them
pub not_spelled : (xs : List Write) (i : ℕ) (x : Write) (err : KeepErr) (out more : List ℕ) (first before after : ℕ) → slice_get xs i ≡ Some x → before ≡ first
    → WritePushed (Err err) x out more before after → PayloadSpelled (Err err) xs first after
not_spelled xs i x Memory out more first before after at same p = p ∙ same
not_spelled xs i x Failed out more first before after at same p =
    (λ all. p.0 (spelled_at xs i x at all), (p.1.0 ∙ ap one_more same, omega (arith, p.1.1, same)))
