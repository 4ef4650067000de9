-- A Tick over transfers as they are held, from the last one on.
use Rattle.std.proofs.Common.{◌≡◌, ℕ, zero, suc, ◌+◌, ◌-◌, ◌<◌, ◌≤◌, Bool, true, false, cond, not, ◌&&◌, List, [], ◌∷◌, ◌++◌, length, take, drop, Option, Some, None, count_by, slice_index_or, slice_set, refl, sym, ap, ◌∙◌, subst, ◌==◌, option_and_then, arith}
use Rattle.std.specs.List.{flat_map}
use Rattle.std.specs.FinMap as map
use Rattle.std.proofs.lemmas.Bool.{eqb-true}
use Rattle.std.proofs.lemmas.List.Sums.{sum_by-cons}
use Rattle.off_base.specs.declared.addresses.Peer.{Peer}
use Rattle.off_defs.specs.State.{Transfer, Said, peer_cmp, says_nothing}
use Rattle.off_defs.specs.declared.results.Sent.{Sent}
use Rattle.off_transfer_rules.specs.Transfers.{Transfers, sent_again}
use Rattle.off_transfer_rules.specs.Ticks.{is_due, has_resend, is_resent, is_closed, tick_of, tick_items}
use Rattle.off_transfer_rules.proofs.KeptLemmas.{left_of, sorted_kept, left_at as their_left}
use Rattle.off_transfer_rules.proofs.TickLemmas.{tick_entry, items_counted, closed_counted, ticked_entries}
use Rattle.off_tftp.specs.Kept.{Entries, AreKept, left_at, tick_left, ticked_list}
use Rattle.off_transfer_rules.specs.Ticks.{TickStep}
use Rattle.off_tftp.specs.Ticking.{says_items, nothing_done, Ticks}
use Rattle.off_tftp.proofs.EntryLemmas.{true_T, T_true, entries_kept, opened, set_opened}

-- ---- one entry

same_at : (es : Entries) (n : ℕ) (a b : Peer × Transfer) → n < length es → a ≡ slice_index_or es n a → b ≡ slice_index_or es n b → a ≡ b
same_at [] n a b within p q = absurd (omega (arith, within))
same_at (x ∷ es) zero a b within p q = p ∙ sym q
same_at (x ∷ es) (suc n) a b within p q = same_at es n a b (omega (arith, within)) p q

sent_entry : (now : ℕ) (e : Peer × Transfer) → is_due now e.1 ≡ true → has_resend e.1 ≡ true → tick_left now e ≡ (e.0, sent_again now e.1) ∷ []
sent_entry now e due more =
    ap (λ b. left_at e.0 (cond (b && has_resend e.1) (Some (sent_again now e.1)) (cond (b && not (has_resend e.1)) None (Some e.1)))) due
    ∙ ap (λ b. left_at e.0 (cond b (Some (sent_again now e.1)) (cond (not b) None (Some e.1)))) more

pub resent_at : (now : ℕ) (es : Entries) (n : ℕ) (a b m entry : Peer × Transfer) (due more : Bool) (v : Transfer) → n < length es
    → a ≡ slice_index_or es n a → b ≡ slice_index_or es n b → m ≡ slice_index_or es n m → entry ≡ slice_index_or es n entry
    → due ≡ is_due now a.1 → due ≡ true → more ≡ has_resend b.1 → more ≡ true → v ≡ sent_again now m.1
    → slice_set es n (m.0, v) ≡ take n es ++ (tick_left now entry ++ drop (suc n) es)
resent_at now es n a b m entry due more v within ia ib im ie d dt r rt made =
    let ea = same_at es n a entry within ia ie in
    let eb = same_at es n b entry within ib ie in
    let em = same_at es n m entry within im ie in
    let is = sent_entry now entry (ap (λ (x : Peer × Transfer). is_due now x.1) (sym ea) ∙ sym d ∙ dt) (ap (λ (x : Peer × Transfer). has_resend x.1) (sym eb) ∙ sym r ∙ rt) in
    set_opened es n (m.0, v) within
    ∙ ap (λ (x : Transfer). take n es ++ (m.0, x) ∷ drop (suc n) es) made
    ∙ ap (λ (x : Peer × Transfer). take n es ++ (x.0, sent_again now x.1) ∷ drop (suc n) es) em
    ∙ ap (λ (l : Entries). take n es ++ (l ++ drop (suc n) es)) (sym is)

-- ---- one more from behind

nth : (es : Entries) (n : ℕ) → n < length es → (e : Peer × Transfer) × (e ≡ slice_index_or es n e)
nth [] n within = absurd (omega (arith, within))
nth (x ∷ es) zero within = (x, refl)
nth (x ∷ es) (suc n) within = nth es n (omega (arith, within))

seam : (old rest : Entries) (n : ℕ) (e : Peer × Transfer) → n < length old → e ≡ slice_index_or old n e
    → (e ≡ slice_index_or (take (suc n) old ++ rest) n e) × (take n (take (suc n) old ++ rest) ≡ take n old) × (drop (suc n) (take (suc n) old ++ rest) ≡ rest)
seam [] rest n e within is = absurd (omega (arith, within))
seam (x ∷ old) rest zero e within is = (is, refl, refl)
seam (x ∷ old) rest (suc n) e within is =
    let one = seam old rest n e (omega (arith, within)) is in
    (one.0, ap (λ (l : Entries). x ∷ l) one.1, one.2)

abbrev TicksOne : ℕ → Entries → Entries → ℕ → Type 0
TicksOne now items new n = (e : Peer × Transfer) → e ≡ slice_index_or items n e → new ≡ take n items ++ (tick_left now e ++ drop (suc n) items)

back_by : (now : ℕ) (old new : Entries) (n : ℕ) → n < length old → TicksOne now (take (suc n) old ++ ticked_list now (drop (suc n) old)) new n
    → new ≡ take n old ++ ticked_list now (drop n old)
back_by now old new n within step =
    let it = nth old n within in
    let cut = seam old (ticked_list now (drop (suc n) old)) n it.0 within it.1 in
    step it.0 cut.0
    ∙ ap (λ (l : Entries). l ++ (tick_left now it.0 ++ drop (suc n) (take (suc n) old ++ ticked_list now (drop (suc n) old)))) cut.1
    ∙ ap (λ (l : Entries). take n old ++ (tick_left now it.0 ++ l)) cut.2
    ∙ ap (λ (l : Entries). take n old ++ ticked_list now l) (sym (opened old n it.0 within it.1))

pub back_once : (now : ℕ) (old items new : Entries) (left : ℕ) → 0 < left → left ≤ length old → items ≡ take left old ++ ticked_list now (drop left old) → TicksOne now items new (left - 1)
    → new ≡ take (left - 1) old ++ ticked_list now (drop (left - 1) old)
back_once now old items new left some within is step =
    let more : left ≡ suc (left - 1) = omega arith in
    back_by now old new (left - 1) (omega arith)
    (subst (λ (l : Entries). TicksOne now l new (left - 1)) (is ∙ ap (λ n. take n old ++ ticked_list now (drop n old)) more) step)

-- ---- the whole

both_left : (peer : Peer) (x : Option Transfer) → left_at peer x ≡ their_left peer x
both_left peer None = refl
both_left peer (Some x) = refl

ticked_same : (now : ℕ) (es : Entries) → ticked_list now es ≡ flat_map (tick_entry now) es
ticked_same now [] = refl
ticked_same now (e ∷ es) =
    ap (λ (l : Entries). l ++ ticked_list now es) (both_left e.0 (tick_of now e.1)) ∙ ap (λ (l : Entries). tick_entry now e ++ l) (ticked_same now es)

pub sorted_ticked : (now : ℕ) (es fs : Entries) → AreKept es → fs ≡ ticked_list now es → AreKept fs
sorted_ticked now es fs sorted is =
    subst AreKept (sym (is ∙ ticked_same now es)) (T_true (map.is_sorted peer_cmp (flat_map (left_of (tick_of now)) es)) (sorted_kept peer_cmp (tick_of now) es (true_T (map.is_sorted peer_cmp es) sorted)))

abbrev resent : ℕ → Entries → ℕ
resent now es = count_by (λ (live : Peer × Transfer). is_resent now live.1) es

one_at_most : (b : Bool) → cond b 1 0 ≤ 1
one_at_most true = omega arith
one_at_most false = omega arith

resent_few : (now : ℕ) (es : Entries) → resent now es ≤ length es
resent_few now [] = omega arith
resent_few now (e ∷ es) =
    omega (arith, resent_few now es, one_at_most (is_resent now e.1), sum_by-cons (λ (l : Peer × Transfer). cond (is_resent now l.1) 1 0) e es)

again_is : (now : ℕ) (es : Entries) (packets : Said) (n : ℕ) → packets ≡ says_items (flat_map (tick_items now) es) → n ≡ length packets.items → n ≡ resent now es
again_is now es packets n is count = count ∙ ap (λ (s : Said). length s.items) is ∙ items_counted now es

pub again_few : (now : ℕ) (es : Entries) (packets : Said) (n : ℕ) → packets ≡ says_items (flat_map (tick_items now) es) → n ≡ length packets.items → length es ≤ 256 → n ≤ 256
again_few now es packets n is count few =
    let all = again_is now es packets n is count in
    omega (arith, all, few, resent_few now es)

closed_is : (before after gone : ℕ) → after + gone ≡ before → before - after ≡ gone
closed_is before after gone is = omega arith

pub ticks_are : (now : ℕ) (xs : Transfers) (es fs : Entries) (packets : Said) (again before after : ℕ) → AreKept es → map.from_sorted es ≡ xs → fs ≡ ticked_list now es
    → packets ≡ says_items (flat_map (tick_items now) es) → again ≡ length packets.items → before ≡ length es → after ≡ length fs
    → Ticks now xs (map.from_sorted fs) (record { packets = packets; ticked = record { again = again; closed = before - after } })
ticks_are now xs es fs packets again before after sorted is made said count eold enew =
    let entries : map.entries xs ≡ es = ap map.entries (sym is) ∙ entries_kept es sorted in
    let theirs : fs ≡ flat_map (tick_entry now) es = made ∙ ticked_same now es in
    record {
      step = record {
        each = ticked_entries now xs (map.from_sorted fs)
            (entries_kept fs (sorted_ticked now es fs sorted made) ∙ theirs ∙ ap (λ (l : Entries). flat_map (tick_entry now) l) (sym entries));
        sends = ap (λ (s : Said). s.items) said ∙ ap (λ (l : Entries). flat_map (tick_items now) l) (sym entries);
        again = again_is now es packets again said count ∙ ap (resent now) (sym entries);
        closed = closed_is before after (count_by (λ (live : Peer × Transfer). is_closed now live.1) es)
            (ap (λ n. n + count_by (λ (live : Peer × Transfer). is_closed now live.1) es) (enew ∙ ap length theirs) ∙ closed_counted now es ∙ sym eold)
            ∙ ap (λ (l : Entries). count_by (λ (live : Peer × Transfer). is_closed now live.1) l) (sym entries);
      };
      says = said ∙ ap (λ (l : List Sent). says_items l) (sym (ap (λ (s : Said). s.items) said));
    }

-- ---- where no transfer is live

no_entries : (es : Entries) → length es ≡ 0 → es ≡ []
no_entries [] none = refl
no_entries (e ∷ es) none = absurd (omega (arith, none))

none_live : map.entries (map.empty {X = Transfer} {R = peer_cmp}) ≡ []
none_live = no_entries (map.entries map.empty) (sym (map.len-entries map.empty) ∙ map.len-empty peer_cmp Transfer)

idle_step : (now : ℕ) → TickStep now map.empty map.empty [] nothing_done.ticked
idle_step now = record {
  each = λ peer. map.get-empty peer_cmp peer ∙ sym (ap (option_and_then (tick_of now)) (map.get-empty peer_cmp peer));
  sends = sym (ap (flat_map (tick_items now)) none_live);
  again = sym (ap (count_by (λ (live : Peer × Transfer). is_resent now live.1)) none_live);
  closed = sym (ap (count_by (λ (live : Peer × Transfer). is_closed now live.1)) none_live);
}

pub idle_ticks : (now : ℕ) (xs : Transfers) (packets : Said) (idle : Bool) → packets ≡ says_nothing → idle ≡ (map.len xs == 0) → idle ≡ true
    → Ticks now xs xs (record nothing_done { packets = packets })
idle_ticks now xs packets idle nothing is holds =
    let none : xs ≡ map.empty = map.empty_of_len xs (eqb-true (map.len xs) 0 (sym is ∙ holds)) in
    subst (λ (s : Said). Ticks now xs xs (record nothing_done { packets = s })) (sym nothing)
    (record { step = subst (λ (x : Transfers). TickStep now x x [] nothing_done.ticked) (sym none) (idle_step now); says = refl })

pub not_idle : (xs : Transfers) (idle : Bool) → idle ≡ (map.len xs == 0) → idle ≡ false → xs ≡ map.empty → ⊥
not_idle xs idle is fails none =
    let zero_len : map.len xs ≡ 0 = ap map.len none ∙ map.len-empty peer_cmp Transfer in
    let both : false ≡ true = sym fails ∙ is ∙ ap (λ n. n == 0) zero_len in
    cc
