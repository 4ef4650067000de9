-- What is sent for a query goes from the DHCP port.
use Rattle.std.proofs.Common.{ℕ, List, Option, Some, None, option_map, option_and_then}
use Rattle.off_base.specs.declared.addresses.Ip4.{Ip4}
use Rattle.off_base.specs.declared.macs.Mac.{Mac}
use Rattle.off_defs.specs.declared.events.Service.TheVariants.{Dhcp, Time, Tftp}
use Rattle.off_defs.specs.declared.results.Sent.{Sent}
use Rattle.off_defs.specs.declared.results.Sent.TheVariants.{Datagram, Answer, Close}
use Rattle.off_defs.specs.declared.tables.Lease.{Lease}
use Rattle.off_defs.specs.declared.tables.Site.{Site}
use Rattle.off_defs.specs.State.{Tables}
use Rattle.off_query_rules.specs.declared.cases.QueryCase.{QueryCase}
use Rattle.off_query_rules.specs.declared.words.QueryWord.{QueryWord}
use Rattle.off_query_rules.specs.declared.words.QueryWord.TheVariants as query
use Rattle.off_query_rules.specs.Asked.{question_of}
use Rattle.off_query_rules.specs.Answers.{bound_mac, query_words, first_word, query_case, to_relay, active_bytes, seconds_left, active_for, reply_by_word, query_step_for, query_step}

-- it's a datagram of the DHCP port, where it's there
abbrev pub IsOfDhcp : Option Sent → Type 0
IsOfDhcp None = Unit {0}
IsOfDhcp (Some (Datagram Dhcp to bytes)) = Unit {0}
IsOfDhcp (Some (Datagram Time to bytes)) = ⊥
IsOfDhcp (Some (Datagram Tftp to bytes)) = ⊥
IsOfDhcp (Some (Answer conn bytes)) = ⊥
IsOfDhcp (Some (Close conn)) = ⊥

module _ (now : ℕ) (q : List ℕ) where
  owner_goes : (server address : Ip4) (left : ℕ) (owner : Option Mac) → IsOfDhcp (option_map (λ mac. to_relay q (active_bytes left q server address mac)) owner)
  owner_goes server address left None = tt
  owner_goes server address left (Some mac) = tt

  active_goes : (site : Site) (address : Option Ip4) (lease : Option Lease)
      → IsOfDhcp (option_and_then (λ (a : Ip4). option_and_then (active_for now q site a) lease) address)
  active_goes site None lease = tt
  active_goes site (Some address) None = tt
  active_goes site (Some address) (Some lease) = owner_goes site.server address (seconds_left now lease) (bound_mac lease.hold)

  word_goes : (c : QueryCase) (site : Site) (said : QueryWord) → IsOfDhcp (reply_by_word now q c site said)
  word_goes c site query.Relay = tt
  word_goes c site query.Form = tt
  word_goes c site query.Active = active_goes site c.address c.lease
  word_goes c site query.Unassigned = tt
  word_goes c site query.Unknown = tt

  site_goes : (c : QueryCase) (said : QueryWord) (site : Option Site) → IsOfDhcp (option_and_then (λ (s : Site). reply_by_word now q c s said) site)
  site_goes c said None = tt
  site_goes c said (Some site) = word_goes c site said

pub reply_goes : (t : Tables) (now : ℕ) (q : List ℕ) → IsOfDhcp (query_step t now q).reply
unfolding query_step_for query_step
reply_goes t now q = site_goes now q (query_case t q) (first_word (query_words now (question_of q) (query_case t q))) (query_case t q).site
