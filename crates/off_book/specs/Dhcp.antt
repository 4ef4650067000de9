-- A datagram to the DHCP port: what a client's message does to the leases, a modem's or a device's
-- behind one (RFC 2131), or what a relay's query is answered (RFC 4388); the reply, and the word of
-- its line.
use Rattle.std.specs.Prelude.{◌≡◌, List, [], ◌∷◌, ◌++◌, ℕ, Option, Some, None, Result, Ok, Err, codes}
use Rattle.off_defs.specs.declared.results.Sent.{Sent}
use Rattle.off_defs.specs.State.{Tables, State, Said, Effect, state_of}
use Rattle.off_defs.specs.Tables.{write_all}
use Rattle.off_dhcp.specs.declared.faults.DhcpFault.{DhcpFault}
use Rattle.off_dhcp.specs.Datagram.{Received, message_of}
use Rattle.off_cpe_rules.specs.declared.results.DeviceStep.{DeviceStep}
use Rattle.off_cpe_rules.specs.declared.words.DeviceWord.{DeviceWord}
use Rattle.off_cpe_rules.specs.Words.{device_text}
use Rattle.off_cpe_rules.specs.Steps.{device_step}
use Rattle.off_lease_rules.specs.declared.results.LeaseStep.{LeaseStep}
use Rattle.off_lease_rules.specs.declared.words.DhcpWord.{DhcpWord}
use Rattle.off_lease_rules.specs.Words.{word_text}
use Rattle.off_lease_rules.specs.Steps.{dhcp_step}
use Rattle.off_query_rules.specs.declared.results.QueryStep.{QueryStep}
use Rattle.off_query_rules.specs.declared.words.QueryWord.{QueryWord}
use Rattle.off_query_rules.specs.Words.{query_text}
use Rattle.off_query_rules.specs.Asked.{query_of}
use Rattle.off_query_rules.specs.Answers.{query_step}

-- the reply, where there is one
abbrev pub replies_of : Option Sent → List Sent
replies_of None = []
replies_of (Some reply) = reply ∷ []

abbrev pub dhcp_line : DhcpWord → List ℕ
dhcp_line word = codes "dhcp " ++ word_text word

abbrev pub dhcp_said : LeaseStep → Said
dhcp_said step = record { items = replies_of step.reply; line = dhcp_line step.word }

abbrev pub dhcp_effect : State → LeaseStep → Effect
dhcp_effect s step =
    record {
      said = dhcp_said step;
      commit = step.writes;
      after = state_of (write_all s.tables step.writes) s.held;
    }

-- a client's message does what it asks
abbrev pub LeaseDid : State → List ℕ → Effect → Type 0
LeaseDid s bytes effect = effect ≡ dhcp_effect s (dhcp_step s.tables s.held.now bytes)

-- ---- a message of a device behind a modem on record

-- what isn't a message is no device's
abbrev pub device_read : Tables → ℕ → Result Received DhcpFault → Option DeviceStep
device_read tables now (Ok m) = device_step tables now m
device_read tables now (Err fault) = None

unfoldable pub device_of : Tables → ℕ → List ℕ → Option DeviceStep
device_of tables now bytes = device_read tables now (message_of bytes)

abbrev pub device_line : DeviceWord → List ℕ
device_line word = codes "dhcp " ++ device_text word

abbrev pub device_said : DeviceStep → Said
device_said step = record { items = replies_of step.reply; line = device_line step.word }

abbrev pub device_effect : State → DeviceStep → Effect
device_effect s step =
    record {
      said = device_said step;
      commit = step.writes;
      after = state_of (write_all s.tables step.writes) s.held;
    }

-- a device's message does what it asks, and each other one is taken as a modem's
abbrev pub MessageDid : State → List ℕ → Effect → Option DeviceStep → Type 0
MessageDid s bytes effect (Some step) = effect ≡ device_effect s step
MessageDid s bytes effect None = LeaseDid s bytes effect

-- ---- a relay's query is answered, and all is as before
abbrev pub query_line : QueryWord → List ℕ
query_line word = codes "dhcp " ++ query_text word

abbrev pub query_said : QueryStep → Said
query_said step = record { items = replies_of step.reply; line = query_line step.word }

abbrev pub query_effect : State → QueryStep → Effect
query_effect s step = record { said = query_said step; commit = []; after = s }

-- A datagram whose bytes are a query's is a query, and each other one is taken as a message.
abbrev pub DatagramDid : State → List ℕ → Effect → Option (List ℕ) → Type 0
DatagramDid s bytes effect (Some query) =
    effect ≡ query_effect s (query_step s.tables s.held.now query)
DatagramDid s bytes effect None =
    MessageDid s bytes effect (device_of s.tables s.held.now bytes)

abbrev pub DhcpDid : State → List ℕ → Effect → Type 0
DhcpDid s bytes effect = DatagramDid s bytes effect (query_of bytes)
