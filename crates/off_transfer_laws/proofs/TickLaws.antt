-- The laws of Ticks.
use Rattle.std.proofs.Common.{◌≡◌, ℕ, ◌+◌, Bool, true, false, cond, not, ◌&&◌, length, Option, Some, None, option_and_then, MatchOption, count_by, refl, sym, ap, ◌∙◌}
use Rattle.std.proofs.lemmas.Bool.{ltb-true, ltb-false}
use Rattle.std.specs.List.{flat_map}
use Rattle.std.specs.FinMap as map
use Rattle.off_base.specs.declared.addresses.Peer.{Peer}
use Rattle.off_defs.specs.State.{Transfer}
use Rattle.off_transfer_rules.specs.Transfers.{sent_again}
use Rattle.off_transfer_rules.specs.Ticks.{is_due, has_resend, is_resent, is_closed, tick_of, tick_items}
use Rattle.off_transfer_rules.proofs.PeerLemmas.{same_transfers}
use Rattle.off_transfer_rules.proofs.TickLemmas.{ticked_list, ticked_map, ticked_map_entries, ticked_entries, entries_ticked, items_counted, closed_counted}
use Rattle.off_transfer_laws.specs.Laws.{TickIsOne, TickIsThere, TickSends, TickCloses, Ticks, waits, goes_again, closes, TickChanges}

pub tick_is_one : TickIsOne
tick_is_one now xs one other items sent ticked said a b = record {
  transfers = same_transfers one other (λ peer. a.each peer ∙ sym (b.each peer));
  items_sent = a.sends ∙ sym b.sends;
  counts = λ i. record { again = (a.again ∙ sym b.again) i; closed = (a.closed ∙ sym b.closed) i };
}

pub tick_is_there : TickIsThere
tick_is_there now xs = record {
  after = ticked_map now xs;
  items = flat_map (tick_items now) (map.entries xs);
  ticked = record {
    again = count_by (λ (live : Peer × Transfer). is_resent now live.1) (map.entries xs);
    closed = count_by (λ (live : Peer × Transfer). is_closed now live.1) (map.entries xs);
  };
  step = record { each = ticked_entries now xs (ticked_map now xs) (ticked_map_entries now xs); sends = refl; again = refl; closed = refl };
}

pub tick_sends : TickSends
tick_sends now old new items ticked s = ap length s.sends ∙ items_counted now (map.entries old) ∙ sym s.again

pub tick_closes : TickCloses
tick_closes now old new items ticked s =
    ap (λ n. n + ticked.closed) (map.len-entries new ∙ ap length (entries_ticked now old new s.each))
    ∙ ap (λ n. length (ticked_list now (map.entries old)) + n) s.closed
    ∙ closed_counted now (map.entries old)
    ∙ sym (map.len-entries old)

fate : (now : ℕ) (x : Transfer) (after : Option Transfer) (due more : Bool) → is_due now x ≡ due → has_resend x ≡ more
    → after ≡ cond (due && more) (Some (sent_again now x)) (cond (due && not more) None (Some x)) → Ticks now x after
fate now x after true true p q e = goes_again p (ltb-true x.resends 5 q) e
fate now x after true false p q e = closes p (ltb-false x.resends 5 q) e
fate now x after false more p q e = waits p e

changed : (now : ℕ) (old after : Option Transfer) → after ≡ option_and_then (tick_of now) old → MatchOption old (after ≡ None) (λ (x : Transfer). Ticks now x after)
changed now None after e = e
changed now (Some x) after e = fate now x after (is_due now x) (has_resend x) refl refl e

pub tick_changes : TickChanges
tick_changes now old new items ticked s peer = changed now (map.get old peer) (map.get new peer) (s.each peer)
