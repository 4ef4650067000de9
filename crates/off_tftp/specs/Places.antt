-- Where a peer's transfer stands among those that are live, in ascending order of peers, or is to
-- be put.
use Rattle.std.specs.Prelude.{◌≡◌}
use Rattle.std.specs.FinMap as map
use Rattle.off_base.specs.declared.addresses.Peer.{Peer}
use Rattle.off_transfer_rules.specs.Transfers.{Transfers}
use Rattle.off_tftp.specs.Kept.{place_of}
use Rattle.off_tftp.specs.declared.transfers.Place.{Place}

abbrev pub IsPlaceOf : Transfers → Peer → Place → Type 0
IsPlaceOf transfers peer place = place.index ≡ place_of peer (map.entries transfers)
