-- A modem that asks boots, whatever other turns come between its own.
use Rattle.std.specs.Prelude.{◌≡◌, ℕ, suc, true, List, ◌∷◌, ◌++◌, Some}
use Rattle.off_base.specs.declared.addresses.Ip4.{Ip4}
use Rattle.off_base.specs.declared.addresses.Peer.{Peer}
use Rattle.off_base.specs.declared.macs.Mac.{Mac}
use Rattle.off_defs.specs.declared.tables.Site.{Site}
use Rattle.off_defs.specs.declared.tables.Modem.{Modem}
use Rattle.off_defs.specs.State.{Tables, State}
use Rattle.off_defs.specs.Tables.{write_all}
use Rattle.off_dhcp.specs.Datagram.{Received}
use Rattle.off_account_rules.specs.Rows.{site_of, modem_in}
use Rattle.off_account_rules.specs.Good.{Good}
use Rattle.off_file_rules.specs.Name.{name_of}
use Rattle.off_asking.specs.Asking.{client}
use Rattle.off_packets.specs.declared.packets.Options.{Options}
use Rattle.off_transfer_rules.specs.Transfers.{size_for, first_number, is_last_number}
use Rattle.off_book.specs.Run.{Turn, Run}
use Rattle.off_laws.specs.Leases.{moment_of}
use Rattle.off_transfer_runs.specs.Turns.{block_given}
use Rattle.off_transfer_runs.specs.Got.{got, is_done}
use Rattle.off_transfer_runs.specs.Answering.{AnswersUpTo}
use Rattle.off_boot_laws.specs.Went.{GoesWell}
use Rattle.off_boot_laws.specs.Stages.{Discovers, IsOffered, Requests, IsAcknowledged, AsksForFile, IsGivenFile}
use Rattle.off_boot_laws.specs.Waiting.{LeaseLasts, IsBoundTo, WaitsThrough}

-- ---- the file: the modem is still the subscriber's, and the name is still its file's

pub record KeepsName (tables : Tables) (mac : Mac) (owner : ℕ) (ip : Ip4) (name : List ℕ)
    : Type 0 where
  pub modem : Modem
  pub site : Site
  pub modem_is : modem_in tables mac ≡ Some modem
  pub owned : modem.subscriber ≡ owner
  pub site_is : site_of tables ip ≡ Some site
  pub named : name ≡ name_of site.secret mac ip

-- From its read request on it acknowledges one packet behind another up to packet k, each before
-- six Ticks have passed, while it has that name.
abbrev pub AcknowledgesAll : ℕ → State → Mac → Peer → List ℕ → List ℕ → Options → ℕ → Turn
    → List Turn → Type 0
AcknowledgesAll k s mac peer request name asked owner turn soon =
    AnswersUpTo request (first_number asked) (suc k) peer
    (λ tables now. KeepsName tables mac owner peer.ip name)
    (write_all s.tables turn.commit) (moment_of s turn) (first_number asked) 5 soon

-- all is done, and what it has got is the file
pub record HasGot (peer : Peer) (file : List ℕ) (turn : Turn) (later : List Turn) : Type 0 where
  pub done : is_done peer later ≡ true
  pub whole : got peer (block_given peer turn) later ≡ file

-- Where it does so up to the last packet of its file, waiting meanwhile, it has got it.
abbrev pub GetsFile : State → State → Mac → Peer → List ℕ → Options → Turn → List Turn
    → List Turn → Type 0
GetsFile s after mac peer name asked turn soon rest =
    (given : IsGivenFile s mac peer name asked turn (soon ++ rest))
    × ((k : ℕ) → is_last_number given.served.file (size_for asked) k ≡ true
    → WaitsThrough mac peer.ip after soon
    → AcknowledgesAll k s mac peer given.accepts.bytes name asked given.served.subscriber turn soon
    → HasGot peer given.served.file turn (soon ++ rest))

abbrev pub WhoAsksGetsItsFile : Type 0
WhoAsksGetsItsFile =
    (s last : State) (turn : Turn) (soon rest : List Turn) (mac : Mac) (peer : Peer) (name : List ℕ)
    (asked : Options) → Good s.tables → (run : Run s (turn ∷ (soon ++ rest)) last) → GoesWell turn
    → AsksForFile s mac peer name asked turn
    → IsBoundTo mac peer.ip s.tables → LeaseLasts peer.ip s turn
    → GetsFile s run.0 mac peer name asked turn soon rest

-- ---- all of it

-- a run, with its turns in which the modem discovers, requests and asks for its file, and the
-- states in front of these
pub record Course (s : State) (turns : List Turn) : Type 0 where
  pub before : List Turn
  pub discovers : Turn
  pub one : List Turn
  pub requests : Turn
  pub two : List Turn
  pub reads : Turn
  pub soon : List Turn
  pub rest : List Turn
  pub parts : turns
      ≡ before ++ discovers ∷ (one ++ requests ∷ (two ++ reads ∷ (soon ++ rest)))
  pub s0 : State
  pub s1 : State
  pub s2 : State
  pub last : State
  pub up_to : Run s before s0
  pub first : Run s0 (discovers ∷ one) s1
  pub second : Run s1 (requests ∷ two) s2
  pub third : Run s2 (reads ∷ (soon ++ rest)) last

-- The modem discovers, and is offered an address. It waits, requests that address, and gets it. It
-- waits, asks for its file from that address while its lease lasts, and is given it; and when it
-- has acknowledged all of it, it has got its file. Each of these three turns is to go well.
abbrev pub BootsBy : (Turn → Type 0) → State → List Turn → Type 0
BootsBy Well s turns =
    (c : Course s turns) (m n : Received) (peer : Peer) (name : List ℕ) (asked : Options)
    → client n ≡ client m
    → Well c.discovers → Discovers c.s0 m c.discovers
    → (offer : IsOffered c.s0 m c.discovers c.first.0)
    × (WaitsThrough (client m) offer.address c.first.0 c.one
    → Well c.requests → Requests c.s1 n c.requests offer.address
    → IsAcknowledged c.s1 n c.requests offer.address c.second.0
    × (WaitsThrough (client m) offer.address c.second.0 c.two
    → Well c.reads → AsksForFile c.s2 (client m) peer name asked c.reads
    → peer.ip ≡ offer.address → LeaseLasts peer.ip c.s2 c.reads
    → GetsFile c.s2 c.third.0 (client m) peer name asked c.reads c.soon c.rest))

abbrev pub WhoAsksBoots : Type 0
WhoAsksBoots = (s : State) (turns : List Turn) → Good s.tables → BootsBy GoesWell s turns
