-- What a Tick does to a peer's transfer: its last packet goes again, or it is closed.
use Rattle.std.proofs.Common.{◌≡◌, ℕ, Bool, true, false, cond, T, List, [], ◌∷◌, ◌++◌, Option, Some, None, MatchOption, refl, sym, ap, subst, ◌∙◌}
use Rattle.std.proofs.lemmas.List.Elements.{filter_map-append}
use Rattle.std.specs.List.{AllByRecursion, flat_map, cons_option}
use Rattle.std.specs.FinMap as map
use Rattle.std.specs.FinMap.Entries.{find, below_all, is_sorted}
use Rattle.std.specs.Ordering.{eq_by_cmp}
use Rattle.off_base.specs.declared.addresses.Peer.{Peer}
use Rattle.off_defs.proofs.EntryLemmas.{none_below, first, second}
use Rattle.off_defs.specs.declared.results.Sent.{Sent}
use Rattle.off_defs.specs.State.{Transfer, peer_cmp}
use Rattle.off_transfer_rules.specs.Transfers.{Transfers, last_packet, sent_again, packet_to}
use Rattle.off_transfer_rules.specs.Ticks.{is_resent, tick_items, TickStep}
use Rattle.off_transfer_rules.specs.declared.ticks.Ticked.{Ticked}
use Rattle.off_transfer_rules.proofs.PeerLemmas.{same_peer}
use Rattle.off_transfer_laws.specs.Laws.{Ticks, waits, goes_again, closes}
use Rattle.off_transfer_laws.proofs.SoundLemmas.{sent_again_sound}
use Rattle.off_transfer_laws.proofs.TickLaws.{tick_changes}
use Rattle.off_transfer_runs.specs.Turns.{Remains, packets_to, packet_for}
use Rattle.off_transfer_runs.specs.Served.{IsAgain}
use Rattle.off_transfer_runs.proofs.Turned.{IsAt, Stands, gone, stands, last_again, After}

-- ---- an entry that stands below others is the only one of its peer

abbrev Lives : Type 0
Lives = List (Peer × Transfer)

-- ---- what goes to a peer

module _ (peer : Peer) (now : ℕ) where
  -- what is sent for an entry of the peer, and for one of another
  own_items : (x : Transfer) (resent same : Bool) (from : Peer) → eq_by_cmp peer_cmp peer from ≡ same
      → packets_to peer (cond resent (packet_to from (last_packet x) ∷ []) []) ≡ cond resent (cond same (last_packet x ∷ []) []) []
  own_items x true true from e = ap (λ b. cons_option (cond b (Some (last_packet x)) None) []) e
  own_items x true false from e = ap (λ b. cons_option (cond b (Some (last_packet x)) None) []) e
  own_items x false same from e = refl

  other_items : (x : Transfer) (resent : Bool) (from : Peer) → eq_by_cmp peer_cmp peer from ≡ false
      → packets_to peer (cond resent (packet_to from (last_packet x) ∷ []) []) ≡ []
  other_items x true from e = own_items x true false from e
  other_items x false from e = refl

  sent_for : Lives → List Sent
  sent_for lives = flat_map (tick_items now) lives

  parted : (live : Peer × Transfer) (lives : Lives)
      → packets_to peer (flat_map (tick_items now) (live ∷ lives)) ≡ packets_to peer (tick_items now live) ++ packets_to peer (flat_map (tick_items now) lives)
  parted live lives = filter_map-append (packet_for peer) (tick_items now live) (flat_map (tick_items now) lives)

  none_at : (live : Peer × Transfer) (lives : Lives) (same : Bool) → eq_by_cmp peer_cmp peer live.0 ≡ same → cond same (Some live.1) (find peer_cmp peer lives) ≡ None
      → (find peer_cmp peer lives ≡ None → packets_to peer (flat_map (tick_items now) lives) ≡ []) → packets_to peer (flat_map (tick_items now) (live ∷ lives)) ≡ []
  none_at live lives true e none rest = cc
  none_at live lives false e none rest =
      parted live lives ∙ ap (λ l. l ++ packets_to peer (flat_map (tick_items now) lives)) (other_items live.1 (is_resent now live.1) live.0 e) ∙ rest none

  -- nothing, where it has no transfer
  nothing_for : (lives : Lives) → find peer_cmp peer lives ≡ None → packets_to peer (flat_map (tick_items now) lives) ≡ []
  nothing_for [] none = refl
  nothing_for (live ∷ lives) none = none_at live lives (eq_by_cmp peer_cmp peer live.0) refl none (nothing_for lives)

  -- the last packet of its transfer, or nothing
  abbrev SendsLast : Transfer → List (List ℕ) → Type 0
  SendsLast x packets = (resent : Bool) × (packets ≡ cond resent (last_packet x ∷ []) [])

  with_nothing : (resent : Bool) (packet : List ℕ) → cond resent (packet ∷ []) [] ++ [] ≡ cond resent (packet ∷ []) []
  with_nothing true packet = refl
  with_nothing false packet = refl

  lone_at : (x : Transfer) (live : Peer × Transfer) (lives : Lives) (same : Bool) → eq_by_cmp peer_cmp peer live.0 ≡ same
      → cond same (Some live.1) (find peer_cmp peer lives) ≡ Some x → T (below_all peer_cmp live.0 lives)
      → (find peer_cmp peer lives ≡ Some x → SendsLast x (packets_to peer (flat_map (tick_items now) lives)))
      → SendsLast x (packets_to peer (flat_map (tick_items now) (live ∷ lives)))
  lone_at x live lives true e is below rest =
      let here : live.1 ≡ x = cc in
      let tie : peer ≡ live.0 = same_peer peer live.0 e in
      let none = none_below peer_cmp peer lives (subst (λ p. T (below_all peer_cmp p lives)) (sym tie) below) in
      subst (λ y. SendsLast y (packets_to peer (flat_map (tick_items now) (live ∷ lives)))) here (
        is_resent now live.1,
        parted live lives
            ∙ ap (λ l. packets_to peer (tick_items now live) ++ l) (nothing_for lives none)
            ∙ ap (λ l. l ++ []) (own_items live.1 (is_resent now live.1) true live.0 e)
            ∙ with_nothing (is_resent now live.1) (last_packet live.1),
      )
  lone_at x live lives false e is below rest =
      let r = rest is in (
        r.0,
        parted live lives ∙ ap (λ l. l ++ packets_to peer (flat_map (tick_items now) lives)) (other_items live.1 (is_resent now live.1) live.0 e) ∙ r.1,
      )

  last_for : (lives : Lives) (x : Transfer) → T (is_sorted peer_cmp lives) → find peer_cmp peer lives ≡ Some x
      → SendsLast x (packets_to peer (flat_map (tick_items now) lives))
  last_for [] x sorted is = cc
  last_for (live ∷ lives) x sorted is =
      lone_at x live lives (eq_by_cmp peer_cmp peer live.0) refl is (first _ _ sorted)
      (last_for lives x (second _ _ sorted))

  -- ---- what becomes of its transfer

  module _ (file : List ℕ) (size k : ℕ) where
    waits_or_ends : (x : Transfer) (after : Option Transfer) → IsAt file size k x → Ticks now x after → Stands file size k after
    waits_or_ends x after at (waits due is) = stands x is at
    waits_or_ends x after at (goes_again due few is) =
        stands (sent_again now x) is (record { files = at.files; sizes = at.sizes; sents = at.sents; sound = sent_again_sound now x few at.sound })
    waits_or_ends x after at (closes due many is) = gone is

    no_more : (live after : Option Transfer) → live ≡ None → MatchOption live (after ≡ None) (λ x. Ticks now x after) → after ≡ None
    no_more None after e m = m
    no_more (Some x) after e m = cc

    ticks_of : (live after : Option Transfer) (x : Transfer) → live ≡ Some x → MatchOption live (after ≡ None) (λ y. Ticks now y after) → Ticks now x after
    ticks_of None after x e m = cc
    ticks_of (Some y) after x e m = let same : y ≡ x = cc in subst (λ z. Ticks now z after) same m

    sends_last : (x : Transfer) (packets : List (List ℕ)) → IsAt file size k x → SendsLast x packets → AllByRecursion (IsAgain file size k) packets
    sends_last x packets at (true, is) = subst (AllByRecursion (IsAgain file size k)) (sym is) (last_again file size k x at, tt)
    sends_last x packets at (false, is) = subst (AllByRecursion (IsAgain file size k)) (sym is) tt

    pub tick_turned : (old new : Transfers) (items : List Sent) (ticked : Ticked) → TickStep now old new items ticked → Stands file size k (map.get old peer)
        → After Remains file size k (packets_to peer items) (map.get new peer)
    tick_turned old new items ticked step (gone none) = (
      subst (AllByRecursion (IsAgain file size k))
          (sym (ap (packets_to peer) step.sends ∙ nothing_for (map.entries old) (sym (map.get-entries old peer) ∙ none))) tt,
      gone (no_more (map.get old peer) (map.get new peer) none (tick_changes now old new items ticked step peer)),
    )
    tick_turned old new items ticked step (stands x is at) = (
      subst (AllByRecursion (IsAgain file size k)) (sym (ap (packets_to peer) step.sends))
          (sends_last x (packets_to peer (flat_map (tick_items now) (map.entries old))) at
          (last_for (map.entries old) x (map.entries_sorted old) (sym (map.get-entries old peer) ∙ is))),
      waits_or_ends x (map.get new peer) at (ticks_of (map.get old peer) (map.get new peer) x is (tick_changes now old new items ticked step peer)),
    )
