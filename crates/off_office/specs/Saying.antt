-- What is said of a datagram to the time port, by outcome.
use Rattle.std.specs.Prelude.{◌≡◌, ℕ, [], ◌∷◌, codes}
use Rattle.off_base.specs.declared.addresses.Peer.{Peer}
use Rattle.off_defs.specs.declared.results.Outcome.{Outcome}
use Rattle.off_defs.specs.declared.results.Outcome.TheVariants.{Did, Memory, Keeper}
use Rattle.off_defs.specs.State.{Said}
use Rattle.off_book.specs.Time.{time_answer}

abbrev pub SaysTime : ℕ → Peer → Outcome → Said → Type 0
SaysTime now from Did said =
    said ≡ record { items = time_answer now from ∷ []; line = codes "time sent" }
SaysTime now from Memory said = said ≡ record { items = []; line = codes "time memory" }
SaysTime now from Keeper said = ⊥
