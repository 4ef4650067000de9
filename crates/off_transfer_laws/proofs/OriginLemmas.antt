-- From where each transfer comes, and when the next block goes.
use Rattle.std.proofs.Common.{◌≡◌, ℕ, Bool, true, false, cond, List, Some, None, Ok, refl, sym, ap, subst, ◌∙◌}
use Rattle.std.proofs.lemmas.Bool.{eq-eqb}
use Rattle.std.specs.Ordering.{eq_by_cmp}
use Rattle.std.specs.FinMap as map
use Rattle.off_base.specs.declared.addresses.Peer.{Peer}
use Rattle.off_defs.specs.State.{Tables, Transfer, peer_cmp}
use Rattle.off_account_rules.specs.Rows.{lease_in}
use Rattle.off_packets.specs.Packets.{Acknowledges, packet_of}
use Rattle.off_transfer_rules.specs.Requests.{datagram_at, file_owner}
use Rattle.off_transfer_rules.specs.View.{View, view, agrees}
use Rattle.off_transfer_rules.specs.Transfers.{Transfers, has_no_room, is_at_last, new_transfer, gone_on, asked_again}
use Rattle.off_transfer_rules.specs.Steps.{Way, Denies, Repeats, Accepts, Ignores, Finishes, BreaksOff, GoesOn, Leaves, way_of_last, way_of, way, Given, GivesBy, TftpStep}
use Rattle.off_transfer_rules.proofs.PeerLemmas.{same_peer, inserted, removed}
use Rattle.off_transfer_laws.specs.Origins.{SameServed, Origin, stood, began, EachHasAnOrigin, NextBlockGoes}
use Rattle.off_transfer_laws.proofs.ViewLemmas.{held_of, live_in, owner_held, file_of_built, agrees_from}
use Rattle.off_transfer_laws.proofs.WayLemmas.{Standing, standing_way}
use Rattle.off_transfer_laws.proofs.StepLaws.{accepting_agrees}

itself : (x : Transfer) → SameServed x x
itself x = record { names = refl; modems = refl; owners = refl; files = refl; sizes = refl; requests = refl }

goes : (now : ℕ) (x : Transfer) → SameServed x (gone_on now x)
goes now x = record { names = refl; modems = refl; owners = refl; files = refl; sizes = refl; requests = refl }

asks : (now : ℕ) (x : Transfer) → SameServed x (asked_again now x)
asks now x = record { names = refl; modems = refl; owners = refl; files = refl; sizes = refl; requests = refl }

module _ (t : Tables) (now : ℕ) (xs : Transfers) (from : Peer) (bytes : List ℕ) where
  origin_with : (x y : Transfer) (peer : Peer) (b : Bool) → eq_by_cmp peer_cmp peer from ≡ b → (peer ≡ from → Origin t xs (datagram_at now from bytes) peer x)
      → cond b (Some x) (map.get xs peer) ≡ Some y → Origin t xs (datagram_at now from bytes) peer y
  origin_with x y peer true same here e = let is : x ≡ y = cc in subst (Origin t xs (datagram_at now from bytes) peer) is (here (same_peer peer from same))
  origin_with x y peer false same here e = stood y e (itself y)

  origin_without : (y : Transfer) (peer : Peer) (b : Bool) → cond b None (map.get xs peer) ≡ Some y → Origin t xs (datagram_at now from bytes) peer y
  origin_without y peer true e = cc
  origin_without y peer false e = stood y e (itself y)

  origin_inserted : (x : Transfer) → ((peer : Peer) → peer ≡ from → Origin t xs (datagram_at now from bytes) peer x)
      → (peer : Peer) (y : Transfer) → map.get (map.insert xs from x) peer ≡ Some y → Origin t xs (datagram_at now from bytes) peer y
  origin_inserted x here peer y e = origin_with x y peer (eq_by_cmp peer_cmp peer from) refl (here peer) (sym (inserted xs from x peer) ∙ e)

  origin_removed : (peer : Peer) (y : Transfer) → map.get (map.remove xs from) peer ≡ Some y → Origin t xs (datagram_at now from bytes) peer y
  origin_removed peer y e = origin_without y peer (eq_by_cmp peer_cmp peer from) (sym (removed xs from peer) ∙ e)

  there : (x : Transfer) → map.get xs from ≡ Some x → (peer : Peer) → peer ≡ from → map.get xs peer ≡ Some x
  there x e peer same = ap (λ (p : Peer). map.get xs p) same ∙ e

  origin_by : (w : Way) (given : Given) → Standing (view t from.ip) now from.ip (has_no_room xs) (map.get xs from) w → GivesBy (view t from.ip) xs (datagram_at now from bytes) w given
      → (peer : Peer) (y : Transfer) → map.get given.transfers peer ≡ Some y → Origin t xs (datagram_at now from bytes) peer y
  origin_by (Denies denial) given s e peer y is = stood y (ap (λ (g : Given). map.get g.transfers peer) (sym e) ∙ is) (itself y)
  origin_by (Repeats x) given s e peer y is =
      origin_inserted (asked_again now x) (λ p same. stood x (there x s p same) (asks now x)) peer y (ap (λ (g : Given). map.get g.transfers peer) (sym e) ∙ is)
  origin_by (Accepts request owner) given s e peer y is =
      let own = owner_held now (lease_in t from.ip) owner.modem (live_in t now from.ip owner.modem (held_of (view t from.ip) now owner.modem s.0.held)) in
      origin_inserted (new_transfer (datagram_at now from bytes) request owner e.0)
      (λ p same. began same (record {
        agreed = accepting_agrees t now from.ip owner.modem owner.subscriber request.name s.0;
        own_file = file_of_built t now from.ip owner.modem e.0 own e.1.0;
        request = refl;
        unacknowledged = refl;
        sent_now = refl;
        resends = refl;
      })) peer y (ap (λ (g : Given). map.get g.transfers peer) (sym e.1.1) ∙ is)
  origin_by Ignores given s e peer y is = stood y (ap (λ (g : Given). map.get g.transfers peer) (sym e) ∙ is) (itself y)
  origin_by Finishes given s e peer y is = origin_removed peer y (ap (λ (g : Given). map.get g.transfers peer) (sym e) ∙ is)
  origin_by BreaksOff given s e peer y is = origin_removed peer y (ap (λ (g : Given). map.get g.transfers peer) (sym e) ∙ is)
  origin_by (GoesOn x) given s e peer y is =
      origin_inserted (gone_on now x) (λ p same. stood x (there x s.0 p same) (goes now x)) peer y (ap (λ (g : Given). map.get g.transfers peer) (sym e) ∙ is)
  origin_by Leaves given s e peer y is = origin_removed peer y (ap (λ (g : Given). map.get g.transfers peer) (sym e) ∙ is)

pub each_has_an_origin : EachHasAnOrigin
unfolding TftpStep
each_has_an_origin t xs d given step =
    origin_by t d.at xs d.from d.bytes (way (view t d.from.ip) xs d) given (standing_way (view t d.from.ip) d.at xs d.from d.bytes) step

-- ---- the next block

acknowledged_way : (v : View) (now : ℕ) (from : Peer) (xs : Transfers) (bytes : List ℕ) (x : Transfer) → map.get xs from ≡ Some x → packet_of bytes ≡ Ok (Acknowledges x.sent)
    → is_at_last x ≡ false → agrees v now from.ip x.name (file_owner x.modem x.subscriber) ≡ true → way v xs (datagram_at now from bytes) ≡ GoesOn x
unfolding way
acknowledged_way v now from xs bytes x live read last agreed =
    (λ i. way_of v (datagram_at now from bytes) (has_no_room xs) (live i) (read i))
    ∙ ap (λ b. cond b (way_of_last v now from.ip x) Ignores) (eq-eqb x.sent x.sent refl)
    ∙ ap (λ b. cond b Finishes (cond (agrees v now from.ip x.name (file_owner x.modem x.subscriber)) (GoesOn x) BreaksOff)) last
    ∙ ap (λ b. cond b (GoesOn x) BreaksOff) agreed

pub next_block_goes : NextBlockGoes
unfolding TftpStep
next_block_goes t xs d given x live read last agreed step =
    subst (λ (w : Way). GivesBy (view t d.from.ip) xs d w given)
    (acknowledged_way (view t d.from.ip) d.at d.from xs d.bytes x live read last (agrees_from t d.at d.from.ip x.name x.modem x.subscriber agreed)) step
