-- Codes of what the office holds, by which a proof tells two such values apart. Nothing here says
-- what the office does.
use Rattle.std.specs.Prelude.{ℕ, Bool, List, refl}
use Rattle.std.specs.Ordering.{nat_cmp}
use Rattle.std.specs.FinMap as map
use Rattle.std.specs.Coded.{Coded, code_by, coded×, coded_ℕ, coded_bool, coded_list}
use Rattle.off_base.specs.declared.addresses.Peer.{Peer}
use Rattle.off_defs.specs.State.{Transfer, Held, peer_cmp}

abbrev pub peer_code : Coded Peer
peer_code =
    code_by (ℕ × ℕ) (coded× coded_ℕ coded_ℕ) (λ p. (p.ip.0, p.port))
    (λ q. record { ip = record { 0 = q.0 }; port = q.1 }) (λ _. refl)

abbrev Bytes : Type 0
Bytes = List ℕ

abbrev bytes_code : Coded Bytes
bytes_code = coded_list coded_ℕ

abbrev pub transfer_code : Coded Transfer
transfer_code =
    code_by (((Bytes × Bytes) × (ℕ × Bytes)) × (((ℕ × Bytes) × (ℕ × Bool)) × (ℕ × ℕ)))
    (coded× (coded× (coded× bytes_code bytes_code) (coded× coded_ℕ bytes_code))
    (coded× (coded× (coded× coded_ℕ bytes_code) (coded× coded_ℕ coded_bool))
    (coded× coded_ℕ coded_ℕ)))
    (λ t. (
      ((t.name, t.modem.0), (t.subscriber, t.file)),
      (((t.size, t.request), (t.sent, t.is_acknowledged)), (t.last_send, t.resends)),
    ))
    (λ p. record {
      name = p.0.0.0;
      modem = record { 0 = p.0.0.1 };
      subscriber = p.0.1.0;
      file = p.0.1.1;
      size = p.1.0.0.0;
      request = p.1.0.0.1;
      sent = p.1.0.1.0;
      is_acknowledged = p.1.0.1.1;
      last_send = p.1.1.0;
      resends = p.1.1.1;
    })
    (λ _. refl)

abbrev pub held_code : Coded Held
held_code =
    code_by (ℕ × (map.FinMap peer_cmp Transfer × map.FinMap nat_cmp Bytes))
    (coded× coded_ℕ (coded× (map.code peer_code transfer_code) (map.code coded_ℕ bytes_code)))
    (λ h. (h.now, (h.transfers, h.connections)))
    (λ p. record { now = p.0; transfers = p.1.0; connections = p.1.1 })
    (λ _. refl)
