-- A payload is that of one list of writes.
use Rattle.std.proofs.Common.{◌≡◌, ◌≢◌, ℕ, ◌<◌, ◌^◌, List, [], ◌∷◌, ◌++◌, length, refl, sym, ap, subst, ◌∙◌, arith, append_assoc}
use Rattle.std.specs.Int.{to_be_bytes, from_be_bytes, w32}
use Rattle.std.proofs.lemmas.Nat.{from_be_bytes-to_be_bytes_4}
use Rattle.off_base.proofs.ByteLemmas.{same_parts, heads, tails}
use Rattle.off_defs.specs.declared.keys.Key.{Key}
use Rattle.off_defs.specs.declared.tables.Row.{Row}
use Rattle.off_defs.specs.declared.writes.Write.{Write}
use Rattle.off_defs.specs.declared.writes.Write.TheVariants.{Put, Drop}
use Rattle.off_rows.specs.KeyBytes.{key_bytes, IsRanged}
use Rattle.off_rows.specs.RowBytes.{counted, row_bytes, IsRowOf}
use Rattle.off_rows.proofs.KeyOrder.{one_key}
use Rattle.off_rows.proofs.Rows.{one_row}
use Rattle.off_spelled.specs.Storable.{IsSpelled, AllSpelled}
use Rattle.off_journal.specs.Payload.{put_row, write_bytes, payload_of}
use Rattle.off_journal.specs.Reading.{WhyNoPayload, WhyNoWrite, WhyNoPut, WhyNoRowOf}
use Rattle.off_journal.specs.declared.reading.PayloadErr.{PayloadErr}
use Rattle.off_journal.specs.declared.reading.PayloadErr.TheVariants as bad
use Rattle.off_spelled.proofs.SpellLemmas.{spelled_push}
use Rattle.off_journal.proofs.WriteLemmas.{row_small, payload_push}

pub counted_one : (p q x y : List ℕ) → counted p ++ x ≡ counted q ++ y → (p ≡ q) × (x ≡ y)
counted_one p q x y e = same_parts p q x y (heads (length p) (length q) (p ++ x) (q ++ y) e) (tails (length p) (length q) (p ++ x) (q ++ y) e)

pub long_one : (p q x y : List ℕ) → length p < 2 ^ 32 → length q < 2 ^ 32
    → (to_be_bytes w32 (length p) ++ p) ++ x ≡ (to_be_bytes w32 (length q) ++ q) ++ y → (p ≡ q) × (x ≡ y)
long_one p q x y few some e =
    let both = same_parts (to_be_bytes w32 (length p)) (to_be_bytes w32 (length q)) (p ++ x) (q ++ y) refl
    (sym (append_assoc (to_be_bytes w32 (length p)) p x) ∙ (e ∙ append_assoc (to_be_bytes w32 (length q)) q y)) in
    let long : length p ≡ length q = sym (from_be_bytes-to_be_bytes_4 (length p) few)
    ∙ (ap (λ (b : List ℕ). from_be_bytes w32 b) both.0 ∙ from_be_bytes-to_be_bytes_4 (length q) some) in
    same_parts p q x y long both.1

pub key_front : (k j : Key) (x y : List ℕ) → IsRanged k → IsRanged j → counted (key_bytes k) ++ x ≡ counted (key_bytes j) ++ y → (k ≡ j) × (x ≡ y)
key_front k j x y p q e =
    let both = counted_one (key_bytes k) (key_bytes j) x y e in
    (one_key k j p q both.0, both.1)

pub row_front : (k : Key) (r s : Row) (x y : List ℕ) → IsRowOf k r → IsRowOf k s → put_row r ++ x ≡ put_row s ++ y → (r ≡ s) × (x ≡ y)
row_front k r s x y p q e =
    let both = long_one (row_bytes r) (row_bytes s) x y (row_small r p.ranged p.stand) (row_small s q.ranged q.stand) e in
    (one_row k r s p q both.0, both.1)

pub write_one : (w v : Write) (x y : List ℕ) → IsSpelled w → IsSpelled v → write_bytes w ++ x ≡ write_bytes v ++ y → (w ≡ v) × (x ≡ y)
write_one (Put k r) (Put j s) x y p q e =
    let inner = tails 1 1 ((counted (key_bytes k) ++ put_row r) ++ x) ((counted (key_bytes j) ++ put_row s) ++ y) e in
    let both = key_front k j (put_row r ++ x) (put_row s ++ y) p.key q.key
    (sym (append_assoc (counted (key_bytes k)) (put_row r) x) ∙ (inner ∙ append_assoc (counted (key_bytes j)) (put_row s) y)) in
    let last = row_front k r s x y p.row (subst (λ (i : Key). IsRowOf i s) (sym both.0) q.row) both.1 in
    (λ i. Put (both.0 i) (last.0 i), last.1)
write_one (Put k r) (Drop j) x y p q e = absurd (omega (arith, heads 1 2 ((counted (key_bytes k) ++ put_row r) ++ x) (counted (key_bytes j) ++ y) e))
write_one (Drop k) (Put j s) x y p q e = absurd (omega (arith, heads 2 1 (counted (key_bytes k) ++ x) ((counted (key_bytes j) ++ put_row s) ++ y) e))
write_one (Drop k) (Drop j) x y p q e =
    let both = key_front k j x y p q (tails 2 2 (counted (key_bytes k) ++ x) (counted (key_bytes j) ++ y) e) in
    (λ i. Drop (both.0 i), both.1)

-- what a payload begins with, its writes begin with
pub payload_front : (ws vs : List Write) (rest : List ℕ) → AllSpelled ws → AllSpelled vs → payload_of vs ≡ payload_of ws ++ rest
    → (us : List Write) × (AllSpelled us × ((vs ≡ ws ++ us) × (payload_of us ≡ rest)))
payload_front [] vs rest p q e = (vs, (q, (refl, e)))
payload_front (Put k r ∷ ws) [] rest p q e = absurd (omega (arith, ap length e))
payload_front (Drop k ∷ ws) [] rest p q e = absurd (omega (arith, ap length e))
payload_front (w ∷ ws) (v ∷ vs) rest p q e =
    let both = write_one v w (payload_of vs) (payload_of ws ++ rest) q.0 p.0 (e ∙ append_assoc (write_bytes w) (payload_of ws) rest) in
    let more = payload_front ws vs rest p.1 q.1 both.1 in
    (more.0, (more.1.0, (λ i. both.0 i ∷ more.1.1.0 i, more.1.1.1)))

pub payload_one : (ws vs : List Write) → AllSpelled ws → AllSpelled vs → payload_of ws ≡ payload_of vs → ws ≡ vs
payload_one [] [] p q e = refl
payload_one [] (Put k r ∷ vs) p q e = absurd (omega (arith, ap length e))
payload_one [] (Drop k ∷ vs) p q e = absurd (omega (arith, ap length e))
payload_one (Put k r ∷ ws) [] p q e = absurd (omega (arith, ap length e))
payload_one (Drop k ∷ ws) [] p q e = absurd (omega (arith, ap length e))
payload_one (w ∷ ws) (v ∷ vs) p q e =
    let both = write_one w v (payload_of ws) (payload_of vs) p.0 q.0 e in
    let rest : ws ≡ vs = payload_one ws vs p.1 q.1 both.1 in
    λ i. both.0 i ∷ rest i

left_over : (rest : List ℕ) → (rest ≡ [] → ⊥) → ((w : Write) (more : List ℕ) → IsSpelled w → rest ≢ write_bytes w ++ more)
    → (us : List Write) → AllSpelled us → payload_of us ≡ rest → ⊥
left_over rest some none [] all same = some (sym same)
left_over rest some none (u ∷ us) all same = none u (payload_of us) all.0 (sym same)

-- no write at the front of what is left: no payload
pub no_payload : (ws : List Write) (bytes rest : List ℕ) → AllSpelled ws → bytes ≡ payload_of ws ++ rest → (rest ≡ [] → ⊥)
    → ((w : Write) (more : List ℕ) → IsSpelled w → rest ≢ write_bytes w ++ more) → (vs : List Write) → AllSpelled vs → payload_of vs ≢ bytes
no_payload ws bytes rest p so_far some none vs q e =
    let front = payload_front ws vs rest p q (e ∙ so_far) in
    left_over rest some none front.0 front.1.0 front.1.1.1

-- why a row isn't read, with its length before it
pub no_put : (err : PayloadErr) (key : Key) (bytes held rest : List ℕ) → length held < 2 ^ 32 → bytes ≡ (to_be_bytes w32 (length held) ++ held) ++ rest
    → WhyNoRowOf key held err → WhyNoPut key bytes err
no_put bad.Memory key bytes held rest short is none = tt
no_put bad.Bad key bytes held rest short is none = λ row more stored e.
    none row stored (long_one (row_bytes row) held more rest (row_small row stored.ranged stored.stand) short (sym e ∙ is)).0

never_put : (key : Key) (bytes rest : List ℕ) (w : Write) (more : List ℕ) → IsRanged key → bytes ≡ 1 ∷ (counted (key_bytes key) ++ rest) → WhyNoPut key rest bad.Bad
    → IsSpelled w → bytes ≡ write_bytes w ++ more → ⊥
never_put key bytes rest (Put k r) more ranged is none spelled e =
    let inner = tails 1 1 (counted (key_bytes key) ++ rest) ((counted (key_bytes k) ++ put_row r) ++ more) (sym is ∙ e) in
    let both = key_front key k rest (put_row r ++ more) ranged spelled.key (inner ∙ append_assoc (counted (key_bytes k)) (put_row r) more) in
    none r more (subst (λ (i : Key). IsRowOf i r) (sym both.0) spelled.row) both.1
never_put key bytes rest (Drop k) more ranged is none spelled e =
    absurd (omega (arith, heads 1 2 (counted (key_bytes key) ++ rest) (counted (key_bytes k) ++ more) (sym is ∙ e)))

-- and with its key
pub no_write : (err : PayloadErr) (key : Key) (bytes rest : List ℕ) → IsRanged key → bytes ≡ 1 ∷ (counted (key_bytes key) ++ rest) → WhyNoPut key rest err
    → WhyNoWrite bytes err
no_write bad.Memory key bytes rest ranged is none = tt
no_write bad.Bad key bytes rest ranged is none = λ w more spelled e. never_put key bytes rest w more ranged is none spelled e

pub why_none : (err : PayloadErr) (ws : List Write) (bytes rest : List ℕ) → AllSpelled ws → bytes ≡ payload_of ws ++ rest → (rest ≡ [] → ⊥) → WhyNoWrite rest err → WhyNoPayload bytes err
why_none bad.Memory ws bytes rest p so_far some none = tt
why_none bad.Bad ws bytes rest p so_far some none = no_payload ws bytes rest p so_far some none

-- one more write was read
pub read_more : (ws ns : List Write) (w : Write) (bytes rest after : List ℕ) → ns ≡ ws ++ w ∷ [] → AllSpelled ws → bytes ≡ payload_of ws ++ rest → IsSpelled w
    → rest ≡ write_bytes w ++ after → AllSpelled ns × (bytes ≡ payload_of ns ++ after)
read_more ws ns w bytes rest after is all so_far one front = (
  subst (λ (vs : List Write). AllSpelled vs) (sym is) (spelled_push ws w all one),
  so_far ∙ (ap (λ (l : List ℕ). payload_of ws ++ l) front ∙ (sym (append_assoc (payload_of ws) (write_bytes w) after)
      ∙ ap (λ (l : List ℕ). l ++ after) (sym (payload_push ws w) ∙ ap payload_of (sym is)))),
)
