-- What goes to a peer from the port of requests: nothing but by a datagram of the peer, and by a Tick.
use Rattle.std.proofs.Common.{◌≡◌, ◌≢◌, ℕ, Bool, true, false, cond, if◌then◌else◌, List, [], ◌∷◌, Option, Some, None, option_map, option_and_then, Result, Ok, Err, refl, ap, ◌∙◌, inl, inr}
use Rattle.std.specs.List.{cons_option}
use Rattle.off_base.specs.declared.addresses.Ip4.{Ip4}
use Rattle.off_base.specs.declared.addresses.Peer.{Peer}
use Rattle.off_defs.specs.declared.events.Service.TheVariants.{Dhcp, Time, Tftp}
use Rattle.off_defs.specs.declared.results.Sent.{Sent}
use Rattle.off_defs.specs.declared.results.Sent.TheVariants as sent
use Rattle.off_defs.specs.declared.tables.Site.{Site}
use Rattle.off_defs.specs.declared.tables.Pool.{Pool}
use Rattle.off_defs.specs.declared.tables.Lease.{Lease}
use Rattle.off_defs.specs.State.{Tables}
use Rattle.off_dhcp.specs.declared.faults.DhcpFault.{DhcpFault}
use Rattle.off_dhcp.specs.Datagram.{Received, message_of}
use Rattle.off_asking.specs.Asking.{is_discover, is_request, is_decline}
use Rattle.off_lease_rules.specs.Free.{case_of, chosen_in}
use Rattle.off_asking.specs.Claims.{refused_by}
use Rattle.off_lease_rules.specs.Rules.{rules_for}
use Rattle.off_asking.specs.Sending.{nak_to}
use Rattle.off_lease_rules.specs.Steps.{offer_to, reply_to_refused, offers, acknowledges, declines, releases, accepts, unless_refused, lease_step_for, lease_step, step_of, dhcp_step}
use Rattle.off_lease_rules.specs.declared.cases.Case.{Case}
use Rattle.off_lease_rules.specs.declared.words.DhcpWord.{DhcpWord}
use Rattle.off_lease_rules.specs.declared.words.DhcpWord.TheVariants as word
use Rattle.off_account_rules.specs.Rows.{lease_in}
use Rattle.off_transfer_rules.specs.Transfers.{packet_to}
use Rattle.off_transfer_rules.proofs.PeerLemmas.{own_peer, other_peer}
use Rattle.off_transfer_laws.specs.Laws.{IsAnswerTo}
use Rattle.off_query_rules.specs.Answers.{query_step}
use Rattle.off_book.specs.Dhcp.{replies_of}
use Rattle.off_base.specs.declared.macs.Mac.{Mac}
use Rattle.off_cpe_rules.specs.Steps.{step_behind}
use Rattle.off_laws.proofs.Queries.{IsOfDhcp, reply_goes}
use Rattle.off_laws.proofs.Replies.{device_goes}
use Rattle.off_transfer_runs.specs.Turns.{packets_to}

-- ---- one packet

pub one_packet : (peer : Peer) (packet : List ℕ) → packets_to peer (packet_to peer packet ∷ []) ≡ packet ∷ []
one_packet peer packet = ap (λ b. cons_option (cond b (Some packet) None) []) (own_peer peer)

no_packet : (peer from : Peer) (packet : List ℕ) → peer ≢ from → packets_to peer (packet_to from packet ∷ []) ≡ []
no_packet peer from packet apart = ap (λ b. cons_option (cond b (Some packet) None) []) (other_peer peer from apart)

pub not_to_others : (peer from : Peer) (items : List Sent) → peer ≢ from → IsAnswerTo from items → packets_to peer items ≡ []
not_to_others peer from items apart (inl none) = ap (packets_to peer) none
not_to_others peer from items apart (inr one) = ap (packets_to peer) one.1 ∙ no_packet peer from one.0 apart

-- ---- replies of the other port

module _ (peer : Peer) where
  offer_none : (kind : ℕ) (m : Received) (chosen : Option Ip4) (pool : Option Pool) (site : Option Site)
      → packets_to peer (replies_of (option_and_then (λ (s : Site). option_and_then (λ (p : Pool). option_map (offer_to kind m s p) chosen) pool) site)) ≡ []
  offer_none kind m chosen pool None = refl
  offer_none kind m chosen None (Some site) = refl
  offer_none kind m None (Some pool) (Some site) = refl
  offer_none kind m (Some address) (Some pool) (Some site) = refl

  nak_none : (m : Received) (site : Option Site) → packets_to peer (replies_of (option_map (nak_to m) site)) ≡ []
  nak_none m None = refl
  nak_none m (Some site) = refl

  refused_none : (m : Received) (c : Case) (w : DhcpWord) → packets_to peer (replies_of (reply_to_refused m c w)) ≡ []
  refused_none m c word.NotYourAddress = nak_none m c.site
  refused_none m c w = refl

  accepted_none : (now : ℕ) (m : Received) (c : Case) (chosen : Option Ip4) (lease : Option Lease) (discover request decline : Bool)
      → packets_to peer (replies_of (if discover then offers now m c chosen lease else if request then acknowledges now m c chosen
      else if decline then declines now m chosen else releases m chosen).reply) ≡ []
  accepted_none now m c chosen lease true request decline = offer_none 2 m chosen c.pool c.site
  accepted_none now m c chosen lease false true decline = offer_none 5 m chosen c.pool c.site
  accepted_none now m c chosen lease false false true = refl
  accepted_none now m c chosen lease false false false = refl

  settled_none : (now : ℕ) (m : Received) (c : Case) (chosen : Option Ip4) (lease : Option Lease) (refused : Option DhcpWord)
      → packets_to peer (replies_of (unless_refused m c (accepts now m c chosen lease) refused).reply) ≡ []
  settled_none now m c chosen lease None = accepted_none now m c chosen lease (is_discover m) (is_request m) (is_decline m)
  settled_none now m c chosen lease (Some w) = refused_none m c w

  lease_none : (t : Tables) (now : ℕ) (m : Received) → packets_to peer (replies_of (lease_step t now m).reply) ≡ []
  unfolding lease_step lease_step_for
  lease_none t now m =
      settled_none now m (case_of t m) (chosen_in t now m (case_of t m)) (option_and_then (lease_in t) (chosen_in t now m (case_of t m)))
      (refused_by (rules_for m (case_of t m) (chosen_in t now m (case_of t m))))

  read_none : (t : Tables) (now : ℕ) (read : Result Received DhcpFault) → packets_to peer (replies_of (step_of t now read).reply) ≡ []
  read_none t now (Ok m) = lease_none t now m
  read_none t now (Err fault) = refl

  -- an answer to a query neither, nor to a device's message
  reply_none : (reply : Option Sent) → IsOfDhcp reply → packets_to peer (replies_of reply) ≡ []
  reply_none None goes = refl
  reply_none (Some (sent.Datagram Dhcp to bytes)) goes = refl
  reply_none (Some (sent.Datagram Time to bytes)) goes = absurd goes
  reply_none (Some (sent.Datagram Tftp to bytes)) goes = absurd goes
  reply_none (Some (sent.Answer conn bytes)) goes = absurd goes
  reply_none (Some (sent.Close conn)) goes = absurd goes

  pub no_answer : (t : Tables) (now : ℕ) (q : List ℕ) → packets_to peer (replies_of (query_step t now q).reply) ≡ []
  no_answer t now q = reply_none (query_step t now q).reply (reply_goes t now q)

  pub no_device_reply : (t : Tables) (now : ℕ) (m : Received) (modem : Mac) → packets_to peer (replies_of (step_behind t now m modem).reply) ≡ []
  no_device_reply t now m modem = reply_none (step_behind t now m modem).reply (device_goes t now m modem)

  pub no_reply : (t : Tables) (now : ℕ) (bytes : List ℕ) → packets_to peer (replies_of (dhcp_step t now bytes).reply) ≡ []
  unfolding dhcp_step
  no_reply t now bytes = read_none t now (message_of bytes)
