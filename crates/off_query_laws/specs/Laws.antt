-- What an answer to a query depends on.
use Rattle.std.specs.Prelude.{◌≡◌, ℕ, ◌==◌, false, List, Some, None, Ok, IsTrue}
use Rattle.off_base.specs.declared.addresses.Ip4.{Ip4}
use Rattle.off_defs.specs.State.{Tables}
use Rattle.off_account_rules.specs.Rows.{hub_in, lease_in}
use Rattle.off_account_rules.specs.Good.{Good}
use Rattle.off_dhcp.specs.Datagram.{Received, message_of}
use Rattle.off_query_rules.specs.Asked.{giaddr_of, query_of}
use Rattle.off_query_rules.specs.Hubs.{wanted_hub, lies_in_hub}
use Rattle.off_query_rules.specs.Answers.{query_step}
use Rattle.off_query_rules.specs.declared.wanted.Wanted.TheVariants.{Relay}

-- what two tables have in common for a relay: its hub, or that no pool has it; and of that hub the
-- row, the addresses, and the leases of these
pub record AlikeFor (relay : Ip4) (t u : Tables) : Type 0 where
  pub hub : wanted_hub t (Relay relay) ≡ wanted_hub u (Relay relay)
  pub row : (h : ℕ) → wanted_hub t (Relay relay) ≡ Some h → hub_in t h ≡ hub_in u h
  pub addresses : (h : ℕ) → wanted_hub t (Relay relay) ≡ Some h → (a : Ip4) →
      lies_in_hub t h a ≡ lies_in_hub u h a
  pub leases : (h : ℕ) → wanted_hub t (Relay relay) ≡ Some h → (a : Ip4) →
      IsTrue (lies_in_hub t h a)
      → lease_in t a ≡ lease_in u a

abbrev pub SeenAlike : Type 0
SeenAlike =
    (t u : Tables) (now : ℕ) (q : List ℕ) → Good t → Good u → AlikeFor (giaddr_of q) t u →
    query_step t now q ≡ query_step u now q

-- a message of another kind is no query: what it does stays what it was
abbrev pub MessagesAreNoQueries : Type 0
MessagesAreNoQueries =
    (bytes : List ℕ) (m : Received) → message_of bytes ≡ Ok m → (m.kind == 10) ≡ false →
    query_of bytes ≡ None
