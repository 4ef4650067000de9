-- Each transfer is sound: so it begins, goes on, and is sent again.
use Rattle.std.proofs.Common.{if◌then◌else◌, ◌≡◌, ℕ, zero, suc, ◌+◌, ◌-◌, ◌*◌, ◌≤◌, ◌<◌, min, Bool, true, false, cond, List, length, take, drop, length-take, length-drop, suc-mul, mul-le-mul_left, Option, Some, None, MatchOption, unwrap_or, refl, sym, ap, subst, ◌∙◌, arith, lit≤}
use Rattle.std.proofs.lemmas.Bool.{ltb-false}
use Rattle.std.specs.Ordering.{eq_by_cmp}
use Rattle.std.specs.FinMap as map
use Rattle.off_base.specs.declared.addresses.Ip4.{Ip4}
use Rattle.off_base.specs.declared.addresses.Peer.{Peer}
use Rattle.off_base.specs.declared.macs.Mac.{Mac}
use Rattle.off_defs.specs.State.{Tables, Transfer, peer_cmp}
use Rattle.off_account_rules.specs.Rows.{lease_in}
use Rattle.off_file_rules.specs.File.{most_file_bytes}
use Rattle.off_file_laws.proofs.LawLemmas.{files_are_short}
use Rattle.off_packets.specs.Packets.{has_option}
use Rattle.off_packets.specs.declared.packets.Options.{Options}
use Rattle.off_transfer_rules.specs.Requests.{datagram_at, request_for, file_owner}
use Rattle.off_transfer_rules.specs.View.{view, IsBuiltBy}
use Rattle.off_transfer_rules.specs.Transfers.{Transfers, has_no_room, size_for, new_transfer, is_last_number, is_at_last, gone_on, asked_again, sent_again}
use Rattle.off_transfer_rules.specs.Steps.{Way, Denies, Repeats, Accepts, Ignores, Finishes, BreaksOff, GoesOn, Leaves, way, Given, GivesBy, TftpStep}
use Rattle.off_transfer_rules.proofs.PeerLemmas.{inserted, removed}
use Rattle.off_transfer_laws.specs.Laws.{Ticks, waits, goes_again, closes}
use Rattle.off_transfer_laws.specs.Sound.{BeginsWithin, IsSound, AllSound, StepKeepsSound, TickKeepsSound, NumbersFit}
use Rattle.off_transfer_laws.proofs.TextLemmas.{Fits, IsWithin}
use Rattle.off_transfer_laws.proofs.ViewLemmas.{held_of, live_in, owner_held, file_of_built}
use Rattle.off_transfer_laws.proofs.WayLemmas.{Accepting, Standing, standing_way}
use Rattle.off_transfer_laws.proofs.TickLaws.{tick_changes}

-- ---- one transfer

size_by : (size : Option ℕ) → IsWithin 8 65464 size → 8 ≤ min (unwrap_or size 512) 1428
size_by None fits = lit≤ tt
size_by (Some size) fits = omega (arith, fits.0)

size_most : (asked : Options) → size_for asked ≤ 1428
size_most asked = omega arith

first_by : (file : List ℕ) (size : ℕ) (any : Bool) → BeginsWithin file size (if any then 0 else 1)
first_by file size true = tt
first_by file size false = omega arith

least_by : (any : Bool) → (if any then 0 else 1) ≤ 1
least_by true = lit≤ tt
least_by false = lit≤ tt

pub begun_sound : (now : ℕ) (from : Peer) (request : List ℕ) (mac : Mac) (owner : ℕ) (name : List ℕ) (asked : Options) (file : List ℕ) → length file ≤ most_file_bytes → Fits asked
    → IsSound (new_transfer (datagram_at now from request) (request_for name asked) (file_owner mac owner) file)
begun_sound now from request mac owner name asked file short fits = record {
  short = short;
  least_size = size_by asked.blksize fits.size;
  most_size = size_most asked;
  within = first_by file (size_for asked) (has_option asked);
  few_resends = lit≤ tt;
  first_only = λ none. least_by (has_option asked);
}

pub asked_again_sound : (now : ℕ) (x : Transfer) → IsSound x → IsSound (asked_again now x)
asked_again_sound now x s = record { short = s.short; least_size = s.least_size; most_size = s.most_size; within = s.within; few_resends = s.few_resends; first_only = s.first_only }

pub sent_again_sound : (now : ℕ) (x : Transfer) → x.resends < 5 → IsSound x → IsSound (sent_again now x)
sent_again_sound now x few s = record {
  short = s.short;
  least_size = s.least_size;
  most_size = s.most_size;
  within = s.within;
  few_resends = omega (arith, few);
  first_only = s.first_only;
}

next_begins : (size start all here : ℕ) → start ≤ all → here ≡ min size (all - start) → size ≤ here → start + size ≤ all
next_begins size start all here within is long = omega (arith, within, is, long)

-- a block that isn't the last one is whole, so the next one begins within the file
next_within : (file : List ℕ) (size sent : ℕ) → BeginsWithin file size sent → is_last_number file size sent ≡ false → sent * size ≤ length file
next_within file size zero within last = omega arith
next_within file size (suc before) within last =
    let here : length (take size (drop (before * size) file)) ≡ min size (length file - before * size) =
    length-take size (drop (before * size) file) ∙ ap (min size) (length-drop (before * size) file) in
    subst (λ n. n ≤ length file) (sym (suc-mul before size))
    (next_begins size (before * size) (length file) (length (take size (drop (before * size) file))) within here (ltb-false (length (take size (drop (before * size) file))) size last))

pub gone_on_sound : (now : ℕ) (x : Transfer) → is_at_last x ≡ false → IsSound x → IsSound (gone_on now x)
gone_on_sound now x last s = record {
  short = s.short;
  least_size = s.least_size;
  most_size = s.most_size;
  within = next_within x.file x.size x.sent s.within last;
  few_resends = lit≤ tt;
  first_only = λ none. cc;
}

-- ---- all of them

sound_with : (xs : Transfers) (x y : Transfer) (peer : Peer) (b : Bool) → AllSound xs → IsSound x → cond b (Some x) (map.get xs peer) ≡ Some y → IsSound y
sound_with xs x y peer true all sound e = let same : x ≡ y = cc in subst IsSound same sound
sound_with xs x y peer false all sound e = all peer y e

sound_inserted : (xs : Transfers) (from : Peer) (x : Transfer) → AllSound xs → IsSound x → AllSound (map.insert xs from x)
sound_inserted xs from x all sound peer y e = sound_with xs x y peer (eq_by_cmp peer_cmp peer from) all sound (sym (inserted xs from x peer) ∙ e)

sound_without : (xs : Transfers) (y : Transfer) (peer : Peer) (b : Bool) → AllSound xs → cond b None (map.get xs peer) ≡ Some y → IsSound y
sound_without xs y peer true all e = cc
sound_without xs y peer false all e = all peer y e

sound_removed : (xs : Transfers) (from : Peer) → AllSound xs → AllSound (map.remove xs from)
sound_removed xs from all peer y e = sound_without xs y peer (eq_by_cmp peer_cmp peer from) all (sym (removed xs from peer) ∙ e)

pub accepted_short : (t : Tables) (now : ℕ) (ip : Ip4) (mac : Mac) (owner : ℕ) (name file : List ℕ) → Accepting (view t ip) now ip mac owner name → IsBuiltBy (view t ip) now ip file → length file ≤ most_file_bytes
accepted_short t now ip mac owner name file a built =
    files_are_short t mac now ip file (file_of_built t now ip mac file (owner_held now (lease_in t ip) mac (live_in t now ip mac (held_of (view t ip) now mac a.held))) built)

sound_by : (t : Tables) (now : ℕ) (xs : Transfers) (from : Peer) (bytes : List ℕ) (w : Way) (given : Given) → Standing (view t from.ip) now from.ip (has_no_room xs) (map.get xs from) w
    → GivesBy (view t from.ip) xs (datagram_at now from bytes) w given → AllSound xs → AllSound given.transfers
sound_by t now xs from bytes (Denies denial) given s e all = subst (λ (g : Given). AllSound g.transfers) (sym e) all
sound_by t now xs from bytes (Repeats x) given s e all =
    subst (λ (g : Given). AllSound g.transfers) (sym e) (sound_inserted xs from (asked_again now x) all (asked_again_sound now x (all from x s)))
sound_by t now xs from bytes (Accepts request owner) given s e all =
    subst (λ (g : Given). AllSound g.transfers) (sym e.1.1)
    (sound_inserted xs from (new_transfer (datagram_at now from bytes) request owner e.0) all
    (begun_sound now from bytes owner.modem owner.subscriber request.name request.options e.0 (accepted_short t now from.ip owner.modem owner.subscriber request.name e.0 s.0 e.1.0) s.2))
sound_by t now xs from bytes Ignores given s e all = subst (λ (g : Given). AllSound g.transfers) (sym e) all
sound_by t now xs from bytes Finishes given s e all = subst (λ (g : Given). AllSound g.transfers) (sym e) (sound_removed xs from all)
sound_by t now xs from bytes BreaksOff given s e all = subst (λ (g : Given). AllSound g.transfers) (sym e) (sound_removed xs from all)
sound_by t now xs from bytes (GoesOn x) given s e all =
    subst (λ (g : Given). AllSound g.transfers) (sym e) (sound_inserted xs from (gone_on now x) all (gone_on_sound now x s.2 (all from x s.0)))
sound_by t now xs from bytes Leaves given s e all = subst (λ (g : Given). AllSound g.transfers) (sym e) (sound_removed xs from all)

pub step_keeps_sound : StepKeepsSound
unfolding TftpStep
step_keeps_sound t xs d given step all =
    sound_by t d.at xs d.from d.bytes (way (view t d.from.ip) xs d) given (standing_way (view t d.from.ip) d.at xs d.from d.bytes) step all

sound_fate : (now : ℕ) (x y : Transfer) (after : Option Transfer) → IsSound x → after ≡ Some y → Ticks now x after → IsSound y
sound_fate now x y after s e (waits due is) = let same : x ≡ y = cc in subst IsSound same s
sound_fate now x y after s e (goes_again due few is) = let same : sent_again now x ≡ y = cc in subst IsSound same (sent_again_sound now x few s)
sound_fate now x y after s e (closes due many is) = cc

sound_after : (now : ℕ) (old after : Option Transfer) (y : Transfer) → ((x : Transfer) → old ≡ Some x → IsSound x) → after ≡ Some y
    → MatchOption old (after ≡ None) (λ (x : Transfer). Ticks now x after) → IsSound y
sound_after now None after y all e none = cc
sound_after now (Some x) after y all e ticks = sound_fate now x y after (all x refl) e ticks

pub tick_keeps_sound : TickKeepsSound
tick_keeps_sound now old new items ticked s all peer y e =
    sound_after now (map.get old peer) (map.get new peer) y (λ x is. all peer x is) e (tick_changes now old new items ticked s peer)

-- ---- numbers

number_by : (before size all : ℕ) → 8 ≤ size → before * size ≤ all → all ≤ 6200 → suc before ≤ 776
number_by before size all least within short =
    let eight : before * 8 ≤ before * size = mul-le-mul_left before least in omega (arith, eight, within, short)

number_fits : (file : List ℕ) (size sent : ℕ) → length file ≤ most_file_bytes → 8 ≤ size → BeginsWithin file size sent → sent ≤ 776
number_fits file size zero short least within = lit≤ tt
number_fits file size (suc before) short least within = number_by before size (length file) least within short

pub numbers_fit : NumbersFit
numbers_fit x s = number_fits x.file x.size x.sent s.short s.least_size s.within
