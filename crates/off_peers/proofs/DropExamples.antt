-- Worked examples: a modem's RELEASE that comes from its own address and from elsewhere, and the
-- ports of one address.
use Rattle.std.proofs.Common.{◌≡◌, ℕ, List, [], ◌∷◌, ◌++◌, take, replicate, true, false, refl}
use Rattle.off_base.specs.declared.addresses.Peer.{Peer}
use Rattle.off_peers.specs.Forgeries.{is_forged}
use Rattle.off_peers.specs.Ports.{is_heard}
use Rattle.off_peers.specs.declared.hearing.Opened.{Opened}

-- ciaddr is 10.64.0.10, and there is no relay
abbrev release : List ℕ
release = replicate 12 0 ++ ((10 ∷ 64 ∷ 0 ∷ 10 ∷ []) ++ replicate 224 0)

its_own : is_forged release 0x0a40000a ≡ false
its_own = refl

of_a_neighbour : is_forged release 0x0a40000b ≡ true
of_a_neighbour = refl

cut_short : is_forged (take 239 release) 0x0a40000b ≡ false
cut_short = refl

-- giaddr is 10.64.0.1
abbrev relayed : List ℕ
relayed =
    replicate 12 0 ++ ((10 ∷ 64 ∷ 0 ∷ 10 ∷ []) ++ (replicate 8 0 ++ ((10 ∷ 64 ∷ 0 ∷ 1 ∷ []) ++ replicate 212 0)))

by_a_relay : is_forged relayed 0x0a400001 ≡ false
by_a_relay = refl

abbrev at_port : ℕ → Peer
at_port port = record { ip = record { 0 = 7 }; port = port }

abbrev four : List Opened
four =
    record { address = 7; port = 1; at = 100 } ∷ record { address = 7; port = 2; at = 100 }
    ∷ record { address = 7; port = 3; at = 130 } ∷ record { address = 7; port = 4; at = 159 } ∷ []

a_fifth_waits : is_heard (at_port 5) 159 four ≡ false
a_fifth_waits = refl

an_open_one_goes_on : is_heard (at_port 1) 159 four ≡ true
an_open_one_goes_on = refl

after_a_minute : is_heard (at_port 5) 160 four ≡ true
after_a_minute = refl

a_clock_set_back : is_heard (at_port 5) 99 four ≡ true
a_clock_set_back = refl
