-- One more item behind those that were sent.
use Rattle.std.proofs.Common.{◌≡◌, ℕ, ◌+◌, ◌≤◌, List, [], ◌∷◌, ◌++◌, length, take, drop, map, All, refl, ap, ◌∙◌, arith, length-drop}
use Rattle.std.proofs.Math.Seq.{drop-append_seam, take-length}
use Rattle.std.proofs.lemmas.List.{take-append-le, drop-append-le}
use Rattle.std.proofs.lemmas.List.Elements.{All-head, All-tail}
use Rattle.off_defs.specs.declared.results.Sent.{Sent}
use Rattle.off_defs.specs.declared.results.Sent.TheVariants as sent
use Rattle.off_outside.specs.declared.outbox.Item.{Item}
use Rattle.off_outside.specs.declared.outbox.Item.TheVariants.{Datagram, Answer, Close}
use Rattle.off_outside.specs.Outboxes.{item_in, IsWithin}
use Rattle.off_outside.specs.InMemory.{OutboxHeld}

-- the bytes that were just put behind the others
pub last_part : (octets bytes : List ℕ) → take (length bytes) (drop (length octets) (octets ++ bytes)) ≡ bytes
last_part octets bytes = ap (λ v. take (length bytes) v) (drop-append_seam octets bytes) ∙ take-length bytes

pub last_part_at : (octets bytes : List ℕ) (at : ℕ) → at ≡ length octets → take (length bytes) (drop at (octets ++ bytes)) ≡ bytes
last_part_at octets bytes at end = ap (λ v. take (length bytes) (drop v (octets ++ bytes))) end ∙ last_part octets bytes

part_stays : (octets bytes : List ℕ) (at len : ℕ) → at + len ≤ length octets → take len (drop at (octets ++ bytes)) ≡ take len (drop at octets)
part_stays octets bytes at len within =
    ap (λ v. take len v) (drop-append-le at octets bytes (omega arith))
    ∙ take-append-le len (drop at octets) bytes (omega (arith, length-drop at octets))

-- an item's bytes don't change when others are put behind them
item_stays : (octets bytes : List ℕ) (item : Item) → IsWithin octets item → item_in (octets ++ bytes) item ≡ item_in octets item
item_stays octets bytes (Datagram service to at len) within = ap (λ v. sent.Datagram service to v) (part_stays octets bytes at len within)
item_stays octets bytes (Answer conn at len) within = ap (λ v. sent.Answer conn v) (part_stays octets bytes at len within)
item_stays octets bytes (Close conn) within = refl

pub posted : (octets bytes : List ℕ) (items : List Item) (item : Item) → All (IsWithin octets) items
    → map (item_in (octets ++ bytes)) (items ++ item ∷ []) ≡ map (item_in octets) items ++ item_in (octets ++ bytes) item ∷ []
posted octets bytes [] item within = refl
posted octets bytes (first ∷ items) item within =
    let same = item_stays octets bytes first (All-head (IsWithin octets) first items within) in
    let others = posted octets bytes items item (All-tail (IsWithin octets) first items within) in
    ap (λ v. v ∷ map (item_in (octets ++ bytes)) (items ++ item ∷ [])) same ∙ ap (λ v. item_in octets first ∷ v) others

-- the box with one more item
pub posted_box : (octets more bytes : List ℕ) (items longer : List Item) (item : Item) (given : Sent) (moments kept : List ℕ) (a b : ℕ) → more ≡ octets ++ bytes → longer ≡ items ++ item ∷ [] → kept ≡ moments
    → All (IsWithin octets) items → item_in (octets ++ bytes) item ≡ given
    → ◌≡◌ {A = OutboxHeld} (record { sent = map (item_in more) longer; moments = kept; item_room = a; octet_room = b })
    (record { sent = map (item_in octets) items ++ given ∷ []; moments = moments; item_room = a; octet_room = b })
posted_box octets more bytes items longer item given moments kept a b is_more is_longer is_kept within is =
    rw (is_more, is_longer, is_kept) (ap (λ v. record { sent = v; moments = moments; item_room = a; octet_room = b }) (posted octets bytes items item within ∙ ap (λ v. map (item_in octets) items ++ v ∷ []) is))
