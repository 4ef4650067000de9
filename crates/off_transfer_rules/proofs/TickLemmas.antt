-- A Tick, entry by entry: what it leaves of a list of entries is a list of entries in order, and the
-- transfers of these are those of the Tick. The counts are those of what is sent and of what is gone.
use Rattle.std.proofs.Common.{◌≡◌, ℕ, suc, ◌+◌, Bool, true, false, cond, not, ◌&&◌, T, List, [], ◌∷◌, length, length-append, Some, None, option_and_then, count_by, refl, sym, ap, ap₂, ◌∙◌, arith}
use Rattle.std.specs.List.{flat_map}
use Rattle.std.proofs.lemmas.List.Sums.{sum_by-cons}
use Rattle.std.specs.FinMap as map
use Rattle.off_base.specs.declared.addresses.Peer.{Peer}
use Rattle.off_defs.specs.State.{Transfer, peer_cmp}
use Rattle.off_defs.specs.declared.results.Sent.{Sent}
use Rattle.off_transfer_rules.specs.Transfers.{Transfers, sent_again}
use Rattle.off_transfer_rules.specs.Ticks.{is_due, has_resend, is_resent, is_closed, tick_of, tick_items}
use Rattle.off_transfer_rules.proofs.PeerLemmas.{peer_total, same_transfers}
use Rattle.off_transfer_rules.proofs.KeptLemmas.{left_at, left_of, sorted_kept, found_kept}

-- what a Tick leaves of one entry, and of several
abbrev pub tick_entry : ℕ → Peer × Transfer → List (Peer × Transfer)
tick_entry now live = left_of (tick_of now) live

abbrev pub ticked_list : ℕ → List (Peer × Transfer) → List (Peer × Transfer)
ticked_list now lives = flat_map (tick_entry now) lives

abbrev pub ticked_map : ℕ → Transfers → Transfers
ticked_map now old = map.from_sorted (ticked_list now (map.entries old))

ticked_sorted : (now : ℕ) (old : Transfers) → T (map.is_sorted peer_cmp (ticked_list now (map.entries old)))
ticked_sorted now old = sorted_kept peer_cmp (tick_of now) (map.entries old) (map.entries_sorted old)

pub ticked_map_entries : (now : ℕ) (old : Transfers) → map.entries (ticked_map now old) ≡ ticked_list now (map.entries old)
ticked_map_entries now old = map.entries-from_sorted peer_cmp (ticked_list now (map.entries old)) (ticked_sorted now old)

-- transfers whose entries are what a Tick leaves are those that it leaves
pub ticked_entries : (now : ℕ) (old new : Transfers) → map.entries new ≡ ticked_list now (map.entries old)
    → (peer : Peer) → map.get new peer ≡ option_and_then (tick_of now) (map.get old peer)
ticked_entries now old new e peer =
    map.get-entries new peer ∙ ap (map.find peer_cmp peer) e
    ∙ found_kept peer_cmp (tick_of now) peer_total peer (map.entries old) (map.entries_sorted old)
    ∙ ap (option_and_then (tick_of now)) (sym (map.get-entries old peer))

-- and the other way round
pub entries_ticked : (now : ℕ) (old new : Transfers) → ((peer : Peer) → map.get new peer ≡ option_and_then (tick_of now) (map.get old peer))
    → map.entries new ≡ ticked_list now (map.entries old)
entries_ticked now old new each =
    ap map.entries (same_transfers new (ticked_map now old) (λ peer. each peer ∙ sym (ticked_entries now old (ticked_map now old) (ticked_map_entries now old) peer)))
    ∙ ticked_map_entries now old

-- ---- counts

abbrev resent_count : ℕ → List (Peer × Transfer) → ℕ
resent_count now lives = count_by (λ (live : Peer × Transfer). is_resent now live.1) lives

abbrev closed_count : ℕ → List (Peer × Transfer) → ℕ
closed_count now lives = count_by (λ (live : Peer × Transfer). is_closed now live.1) lives

one_item : (s : Sent) (b : Bool) → length (cond b (s ∷ []) []) ≡ cond b 1 0
one_item s true = refl
one_item s false = refl

pub items_counted : (now : ℕ) (lives : List (Peer × Transfer)) → length (flat_map (tick_items now) lives) ≡ resent_count now lives
items_counted now [] = refl
items_counted now (live ∷ lives) =
    length-append (tick_items now live) (flat_map (tick_items now) lives)
    ∙ ap₂ (λ a b. a + b) (one_item _ (is_resent now live.1)) (items_counted now lives)
    ∙ sym (sum_by-cons (λ (l : Peer × Transfer). cond (is_resent now l.1) 1 0) live lives)

left_one : (peer : Peer) (x y : Transfer) (due more : Bool) → length (left_at peer (cond (due && more) (Some y) (cond (due && not more) None (Some x)))) + cond (due && not more) 1 0 ≡ 1
left_one peer x y true true = refl
left_one peer x y true false = refl
left_one peer x y false more = refl

four_sums : (a b c d all n : ℕ) → a + c ≡ 1 → b + d ≡ n → all ≡ c + d → (a + b) + all ≡ suc n
four_sums a b c d all n p q r = omega arith

pub closed_counted : (now : ℕ) (lives : List (Peer × Transfer)) → length (ticked_list now lives) + closed_count now lives ≡ length lives
closed_counted now [] = refl
closed_counted now (live ∷ lives) =
    ap (λ n. n + closed_count now (live ∷ lives)) (length-append (tick_entry now live) (ticked_list now lives))
    ∙ four_sums (length (tick_entry now live)) (length (ticked_list now lives)) (cond (is_closed now live.1) 1 0) (closed_count now lives) (closed_count now (live ∷ lives)) (length lives)
    (left_one live.0 live.1 (sent_again now live.1) (is_due now live.1) (has_resend live.1)) (closed_counted now lives)
    (sum_by-cons (λ (l : Peer × Transfer). cond (is_closed now l.1) 1 0) live lives)
