-- Parts of options, by the spans that are found of them.
use Rattle.std.proofs.Common.{◌≡◌, ℕ, ◌+◌, ◌<◌, ◌≤◌, Bool, true, false, ◌&&◌, List, length, take, drop, Option, Some, None, option_map, Result, Ok, Err, is_err, refl, ap, arith, length-drop}
use Rattle.std.specs.Str.{bytes_eq}
use Rattle.std.proofs.lemmas.List.{length-take-le}
use Rattle.std.proofs.lemmas.Slice.Eq.{bytes_eq-Decides}
use Rattle.off_base.specs.Parts.{Part}
use Rattle.off_docsis.specs.Cable.{Shows, ShowsDevice, ShowsRelay, device_of, relay_of, first_of}
use Rattle.off_docsis.specs.declared.agent.RelayParts.{RelayParts}
use Rattle.off_docsis.specs.declared.spans.PartCut.{PartCut}
use Rattle.off_docsis.specs.declared.spans.Span.{Span}
use Rattle.off_docsis.specs.declared.vendor.DeviceParts.{DeviceParts}
use Rattle.off_account_rules.specs.Rows.{passes}
use Rattle.off_asking.specs.Asking.{value_in, six_bytes}

pub vendor_cut : (read : Result (List Part) ℕ) → is_err (device_of read) ≡ is_err read
unfolding device_of
vendor_cut (Ok parts) = refl
vendor_cut (Err place) = refl

pub relay_cut : (read : Result (List Part) ℕ) → is_err (relay_of read) ≡ is_err read
unfolding relay_of
relay_cut (Ok parts) = refl
relay_cut (Err place) = refl

-- a part that is there lies in its option
shown_within : (value : List ℕ) (span : Span) (part : Option Part) → Shows value span part → span.there ≡ true → span.at + span.len ≤ length value
shown_within value span (Some part) shows there = shows.1
shown_within value span None shows there = cc

pub serial_within : (value : List ℕ) (found : DeviceParts) (read : Result (List Part) ℕ) → ShowsDevice value found read → found.serial.there ≡ true
    → found.serial.at + found.serial.len ≤ length value
serial_within value found (Ok parts) shows there = shown_within value found.serial (first_of 4 parts) shows.1 there
serial_within value found (Err place) shows there = absurd shows

pub remote_within : (value : List ℕ) (found : RelayParts) (read : Result (List Part) ℕ) → ShowsRelay value found read → found.remote.there ≡ true
    → found.remote.at + found.remote.len ≤ length value
remote_within value found (Ok parts) shows there = shown_within value found.remote (first_of 2 parts) shows.1 there
remote_within value found (Err place) shows there = absurd shows

-- what the bytes of the span pass
abbrev pub spans : (List ℕ → Bool) → List ℕ → Span → Bool
spans test value span = span.there && test (take span.len (drop span.at value))

shown_passes : (test : List ℕ → Bool) (value : List ℕ) (span : Span) (part : Option Part) → Shows value span part
    → spans test value span ≡ passes test (option_map (λ (p : Part). p.value) part)
shown_passes test value span (Some part) shows = rw (shows.0, shows.2) refl
shown_passes test value span None shows = rw shows refl

pub serial_passes : (test : List ℕ → Bool) (value : List ℕ) (found : DeviceParts) (read : Result (List Part) ℕ) → ShowsDevice value found read
    → spans test value found.serial ≡ passes test (value_in 4 read)
serial_passes test value found (Ok parts) shows = shown_passes test value found.serial (first_of 4 parts) shows.1
serial_passes test value found (Err place) shows = absurd shows

pub remote_passes : (test : List ℕ → Bool) (value : List ℕ) (found : RelayParts) (read : Result (List Part) ℕ) → ShowsRelay value found read
    → spans test value found.remote ≡ passes test (value_in 2 read)
remote_passes test value found (Ok parts) shows = shown_passes test value found.remote (first_of 2 parts) shows.1
remote_passes test value found (Err place) shows = absurd shows

-- where a part is cut none is read
pub device_none : (test : List ℕ → Bool) (code : ℕ) (read : Result (List Part) ℕ) (cut : PartCut) → Err cut ≡ device_of read → false ≡ passes test (value_in code read)
unfolding device_of
device_none test code (Ok parts) cut is = cc
device_none test code (Err place) cut is = refl

pub relay_none : (test : List ℕ → Bool) (code : ℕ) (read : Result (List Part) ℕ) (cut : PartCut) → Err cut ≡ relay_of read → false ≡ passes test (value_in code read)
unfolding relay_of
relay_none test code (Ok parts) cut is = cc
relay_none test code (Err place) cut is = refl

pub none_relayed : (read : Result (List Part) ℕ) (cut : PartCut) → Err cut ≡ relay_of read → None ≡ six_bytes (value_in 2 read)
unfolding relay_of
none_relayed (Ok parts) cut is = cc
none_relayed (Err place) cut is = refl

-- a span that is longer than a text isn't that text
longer_differs : (xs ys : List ℕ) → length ys < length xs → (b : Bool) → bytes_eq xs ys ≡ b → b ≡ false
longer_differs xs ys less true same = absurd (let e : xs ≡ ys = (bytes_eq-Decides xs ys).0 same in omega (arith, ap length e))
longer_differs xs ys less false same = refl

pub span_longer : (value text : List ℕ) (span : Span) → span.at + span.len ≤ length value → length text < span.len
    → bytes_eq (take span.len (drop span.at value)) text ≡ false
span_longer value text span within less =
    let behind = length-drop span.at value in
    let e : length (take span.len (drop span.at value)) ≡ span.len = length-take-le span.len (drop span.at value) (omega (arith, behind)) in
    longer_differs (take span.len (drop span.at value)) text (omega (arith, e)) _ refl
