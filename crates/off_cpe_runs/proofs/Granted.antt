-- A line that tells of an address for a device is that of a device's message, and of no other event.
use Rattle.std.proofs.Common.{◌≡◌, ◌⊎◌, inl, inr, ℕ, Bool, true, false, ◌==◌, ◌&&◌, List, [], ◌∷◌, Option, Some, None, codes, nat_eq, true≢false, refl, sym, ap, ◌∙◌}
use Rattle.std.specs.Prelude.{slice_index, bytes_eq}
use Rattle.std.specs.List.{find}
use Rattle.off_base.specs.declared.addresses.Peer.{Peer}
use Rattle.off_defs.specs.declared.events.Service.TheVariants.{Dhcp, Time, Tftp}
use Rattle.off_defs.specs.declared.events.What.{What}
use Rattle.off_defs.specs.declared.events.What.TheVariants.{Datagram, Piece, Closed, Tick, End}
use Rattle.off_defs.specs.declared.results.Outcome.{Outcome}
use Rattle.off_defs.specs.declared.results.Outcome.TheVariants.{Did, Memory, Keeper}
use Rattle.off_defs.specs.State.{State, Effect}
use Rattle.off_http.specs.Request.{Meaning, Waits, Refused, Asked}
use Rattle.off_lease_rules.specs.declared.words.DhcpWord.{DhcpWord}
use Rattle.off_lease_rules.specs.Steps.{dhcp_step}
use Rattle.off_query_rules.specs.Asked.{query_of}
use Rattle.off_query_rules.specs.Answers.{query_step}
use Rattle.off_query_rules.specs.declared.words.QueryWord.{QueryWord}
use Rattle.off_query_rules.specs.declared.words.QueryWord.TheVariants as query
use Rattle.off_cpe_rules.specs.declared.results.DeviceStep.{DeviceStep}
use Rattle.off_cpe_rules.specs.declared.words.DeviceWord.{DeviceWord}
use Rattle.off_cpe_rules.specs.declared.words.DeviceWord.TheVariants as word
use Rattle.off_transfer_rules.specs.declared.ticks.Ticked.{Ticked}
use Rattle.off_book.specs.Dhcp.{MessageDid, DatagramDid, device_of, device_effect, device_line, dhcp_line, query_line}
use Rattle.off_book.specs.Http.{by_meaning, is_full, TakesPiece}
use Rattle.off_book.specs.Step.{Does}
use Rattle.off_laws.proofs.Lines.{other_byte, line_is, tick_text}
use Rattle.off_laws.proofs.Acknowledged.{devices_say_none}
use Rattle.off_cpe_runs.specs.Holding.{Grants}

-- ---- the words of such a line

words : List DeviceWord
words =
    word.Offer
    ∷ word.Ack
    ∷ word.Declined
    ∷ word.Released
    ∷ word.NotServed
    ∷ word.Form
    ∷ word.NoPool
    ∷ word.Suspended
    ∷ word.Offline
    ∷ word.OtherServer
    ∷ word.Limit
    ∷ word.PoolFull
    ∷ word.NoRecord
    ∷ word.NotYours
    ∷ []

word_with : List ℕ → Option DeviceWord
word_with line = find (λ said. bytes_eq (device_line said) line) words

found : (said : DeviceWord) → word_with (device_line said) ≡ Some said
unfolding word_with words
found word.Offer = refl
found word.Ack = refl
found word.Declined = refl
found word.Released = refl
found word.NotServed = refl
found word.Form = refl
found word.NoPool = refl
found word.Suspended = refl
found word.Offline = refl
found word.OtherServer = refl
found word.Limit = refl
found word.PoolFull = refl
found word.NoRecord = refl
found word.NotYours = refl

same_word : (one other : DeviceWord) → device_line one ≡ device_line other → one ≡ other
same_word one other same =
    let both : ◌≡◌ {A = Option DeviceWord} (Some one) (Some other) = sym (found one) ∙ ap word_with same ∙ found other in
    cc

pub granting : (said : DeviceWord) → Grants (device_line said) → (said ≡ word.Offer) ⊎ (said ≡ word.Ack)
granting said (inl e) = inl (same_word said word.Offer e)
granting said (inr e) = inr (same_word said word.Ack e)

-- ---- no other line is one

-- it's of the DHCP service, and the word begins as those of devices do
looks_so : List ℕ → Bool
looks_so line = nat_eq (slice_index line 0) 100 && nat_eq (slice_index line 5) 99

granted_looks : (line : List ℕ) → Grants line → looks_so line ≡ true
unfolding looks_so
granted_looks line (inl e) = ap looks_so e
granted_looks line (inr e) = ap looks_so e

other_line : (line other : List ℕ) → line ≡ other → looks_so other ≡ false → Grants line → ⊥
other_line line other is unlike grants = true≢false (sym (granted_looks line grants) ∙ ap looks_so is ∙ unlike)

no_query_line : (w : QueryWord) → looks_so (query_line w) ≡ false
unfolding looks_so
no_query_line query.Relay = refl
no_query_line query.Form = refl
no_query_line query.Active = refl
no_query_line query.Unassigned = refl
no_query_line query.Unknown = refl

-- nor has a modem's message such a line: one of a kind that isn't served has another
no_lease_line : (w : DhcpWord) → Grants (dhcp_line w) → ⊥
no_lease_line w (inl e) = devices_say_none word.Offer w (λ is. other_byte (codes "dhcp cpe-offer") (codes "dhcp not-served") refl (sym e ∙ ap dhcp_line is)) (sym e)
no_lease_line w (inr e) = devices_say_none word.Ack w (λ is. other_byte (codes "dhcp cpe-ack") (codes "dhcp not-served") refl (sym e ∙ ap dhcp_line is)) (sym e)

pub same_grants : (one other : List ℕ) → one ≡ other → Grants one → Grants other
same_grants one other is (inl e) = inl (sym is ∙ e)
same_grants one other is (inr e) = inr (sym is ∙ e)

no_tick_line : (silent : Bool) (ticked : Ticked) → looks_so (tick_text silent ticked) ≡ false
unfolding looks_so
no_tick_line true ticked = refl
no_tick_line false ticked = refl

-- ---- so the event was a device's message

pub record WasGranted (s : State) (what : What) (outcome : Outcome) (effect : Effect) : Type 0 where
  pub from : Peer
  pub bytes : List ℕ
  pub step : DeviceStep
  pub came : what ≡ Datagram Dhcp from bytes
  pub of_device : device_of s.tables s.held.now bytes ≡ Some step
  pub does : effect ≡ device_effect s step

module _ (s : State) where
  message_granted : (from : Peer) (bytes : List ℕ) (effect : Effect) (step : Option DeviceStep) → device_of s.tables s.held.now bytes ≡ step → MessageDid s bytes effect step
      → Grants effect.said.line → WasGranted s (Datagram Dhcp from bytes) Did effect
  message_granted from bytes effect (Some step) is did grants = record { from = from; bytes = bytes; step = step; came = refl; of_device = is; does = did }
  message_granted from bytes effect None is did grants =
      absurd (no_lease_line (dhcp_step s.tables s.held.now bytes).word (same_grants effect.said.line _ (line_is effect _ did) grants))

  datagram_granted : (from : Peer) (bytes : List ℕ) (effect : Effect) (asked : Option (List ℕ)) → DatagramDid s bytes effect asked → Grants effect.said.line
      → WasGranted s (Datagram Dhcp from bytes) Did effect
  datagram_granted from bytes effect (Some q) did grants =
      absurd (other_line effect.said.line _ (line_is effect _ did) (no_query_line (query_step s.tables s.held.now q).word) grants)
  datagram_granted from bytes effect None did grants = message_granted from bytes effect (device_of s.tables s.held.now bytes) refl did grants

  meaning_other : (conn : ℕ) (bytes : List ℕ) (effect : Effect) (meaning : Meaning) → effect ≡ by_meaning s conn bytes meaning → Grants effect.said.line → ⊥
  unfolding looks_so
  meaning_other conn bytes effect Waits is grants = other_line effect.said.line _ (line_is effect _ is) refl grants
  meaning_other conn bytes effect (Refused f) is grants = other_line effect.said.line _ (line_is effect _ is) refl grants
  meaning_other conn bytes effect (Asked method target body) is grants = other_line effect.said.line _ (line_is effect _ is) refl grants

  piece_other : (conn : ℕ) (piece : List ℕ) (effect : Effect) (full : Bool) → TakesPiece full s conn piece effect → Grants effect.said.line → ⊥
  unfolding looks_so
  piece_other conn piece effect true takes grants = other_line effect.said.line _ (line_is effect _ takes) refl grants
  piece_other conn piece effect false takes grants = meaning_other conn _ effect takes.meaning takes.does grants

  pub does_granted : (what : What) (outcome : Outcome) (effect : Effect) → Does s what outcome effect → Grants effect.said.line → WasGranted s what outcome effect
  unfolding looks_so
  does_granted (Datagram Dhcp from bytes) Did effect p grants = datagram_granted from bytes effect (query_of bytes) p grants
  does_granted (Datagram Dhcp from bytes) Memory effect p grants = absurd (other_line effect.said.line _ (line_is effect _ p) refl grants)
  does_granted (Datagram Dhcp from bytes) Keeper effect p grants = absurd (other_line effect.said.line _ (line_is effect _ p) refl grants)
  does_granted (Datagram Time from bytes) Did effect p grants = absurd (other_line effect.said.line _ (line_is effect _ p) refl grants)
  does_granted (Datagram Time from bytes) Memory effect p grants = absurd (other_line effect.said.line _ (line_is effect _ p) refl grants)
  does_granted (Datagram Time from bytes) Keeper effect p grants = absurd p
  does_granted (Datagram Tftp from bytes) Did effect p grants = absurd (other_line effect.said.line _ (line_is effect _ p.does) refl grants)
  does_granted (Datagram Tftp from bytes) Memory effect p grants = absurd (other_line effect.said.line _ (line_is effect _ p) refl grants)
  does_granted (Datagram Tftp from bytes) Keeper effect p grants = absurd (other_line effect.said.line _ (line_is effect _ p) refl grants)
  does_granted (Piece conn piece) Did effect p grants = absurd (piece_other conn piece effect (is_full s.held.connections conn) p grants)
  does_granted (Piece conn piece) Memory effect p grants = absurd (other_line effect.said.line _ (line_is effect _ p) refl grants)
  does_granted (Piece conn piece) Keeper effect p grants = absurd (other_line effect.said.line _ (line_is effect _ p) refl grants)
  does_granted (Closed conn) Did effect p grants = absurd (other_line effect.said.line _ (line_is effect _ p) refl grants)
  does_granted (Closed conn) Memory effect p grants = absurd p
  does_granted (Closed conn) Keeper effect p grants = absurd p
  does_granted Tick Did effect p grants =
      absurd (other_line effect.said.line _ (line_is effect _ p.does) (no_tick_line (p.ticked.again == 0 && p.ticked.closed == 0) p.ticked) grants)
  does_granted Tick Memory effect p grants = absurd (other_line effect.said.line _ (line_is effect _ p) refl grants)
  does_granted Tick Keeper effect p grants = absurd p
  does_granted End Did effect p grants = absurd (other_line effect.said.line _ (line_is effect _ p) refl grants)
  does_granted End Memory effect p grants = absurd p
  does_granted End Keeper effect p grants = absurd p
