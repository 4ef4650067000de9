-- Each modem of a drill meets what the law of booting asks of a modem and of the office for it: so
-- all that can be met together, and the law isn't empty.
use Rattle.std.specs.Prelude.{◌≡◌, ℕ, suc, ◌<◌, ◌≤◌, List, []}
use Rattle.off_defs.specs.State.{State}
use Rattle.off_defs.specs.declared.results.Outcome.TheVariants.{Did}
use Rattle.off_dhcp.specs.Datagram.{Received}
use Rattle.off_asking.specs.Asking.{client}
use Rattle.off_packets.specs.Packets.{only_size}
use Rattle.off_book.specs.Step.{Step}
use Rattle.off_book.specs.Run.{Turn, Run, effect_of, events_of}
use Rattle.off_drill_rules.specs.Rows.{most_modems, mac, address, is_active, drill_tables}
use Rattle.off_drill_rules.specs.Messages.{by_modem, name, block_size, read_request}
use Rattle.off_drill_rules.specs.Events.{asks_for_offer, asks_for_lease, asks_for_file, blocks_of, numbers_from, acknowledgements}
use Rattle.off_drill_rules.specs.Law.{drill_state, AllDid}
use Rattle.off_transfer_runs.specs.Answering.{AnswersUpTo}
use Rattle.off_boot_laws.specs.Boot.{KeepsName}
use Rattle.off_boot_laws.specs.Stages.{Discovers, Requests, AsksForFile}
use Rattle.off_boot_laws.specs.Waiting.{LeaseLasts, WaitsThrough}

-- behind k modems the next one discovers, requests and asks for its file
pub record AsksAll (n k : ℕ) (discovers requests reads : Turn) (s1 s2 s3 : State) : Type 0 where
  pub discover : discovers.event ≡ asks_for_offer (suc k)
  pub request : requests.event ≡ asks_for_lease (suc k)
  pub read : reads.event ≡ asks_for_file (suc k)
  pub offered : Step (drill_state n k) discovers.event Did (effect_of discovers s1)
  pub acknowledged : Step s1 requests.event Did (effect_of requests s2)
  pub given : Step s2 reads.event Did (effect_of reads s3)

pub record MeetsAll (n k : ℕ) (discovers requests reads : Turn) (s1 s2 : State) : Type 0 where
  pub m : Received
  pub other : Received
  pub sender : client m ≡ mac (suc k)
  pub same : client other ≡ client m
  pub discover : Discovers (drill_state n k) m discovers
  pub waits : WaitsThrough (mac (suc k)) (address (suc k)) s1 []
  pub request : Requests s1 other requests (address (suc k))
  pub waits_again : WaitsThrough (mac (suc k)) (address (suc k)) s2 []
  pub read :
      AsksForFile s2 (mac (suc k)) (by_modem (suc k)) (name (suc k))
      (only_size block_size) reads
  pub lasts : LeaseLasts (address (suc k)) s2 reads

abbrev pub EachMeetsAll : Type 0
EachMeetsAll =
    (n k : ℕ) (discovers requests reads : Turn) (s1 s2 s3 : State) → n ≤ most_modems → k < n
    → AsksAll n k discovers requests reads s1 s2 s3
    → MeetsAll n k discovers requests reads s1 s2

-- and from then on it acknowledges all of its file, of three blocks or two
abbrev pub EachAcknowledgesAll : Type 0
EachAcknowledgesAll =
    (n k : ℕ) (s last : State) (soon : List Turn) → n ≤ most_modems → k < n
    → s.tables ≡ drill_tables n (suc k) → Run s soon last
    → events_of soon
    ≡ acknowledgements (suc k) (numbers_from 0 (suc (blocks_of (is_active (suc k)))))
    → AllDid soon
    → AnswersUpTo (read_request (suc k)) 0 (suc (blocks_of (is_active (suc k)))) (by_modem (suc k))
    (λ tables now. KeepsName tables (mac (suc k)) (suc k) (address (suc k)) (name (suc k)))
    s.tables s.held.now 0 5 soon
