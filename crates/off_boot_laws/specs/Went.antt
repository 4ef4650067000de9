-- A turn that goes well: the office acted on its event, and all that it said was sent.
use Rattle.std.specs.Prelude.{◌≡◌, List, length, All}
use Rattle.off_defs.specs.declared.results.Outcome.TheVariants.{Did}
use Rattle.off_book.specs.Run.{Turn, sent_in, lost_by}

pub record GoesWell (turn : Turn) : Type 0 where
  pub did : turn.outcome ≡ Did
  pub sent : sent_in turn ≡ turn.said.items

-- nothing is asked of how a turn goes
abbrev pub Anyhow : Turn → Type 0
Anyhow turn = Unit {0}

-- where each event was acted on and no item was lost, each turn goes well
abbrev pub AllGoWell : Type 0
AllGoWell =
    (turns : List Turn) → All (λ turn. turn.outcome ≡ Did) turns
    → All (λ turn. length turn.said.items ≡ length turn.went) turns → lost_by turns ≡ 0
    → All GoesWell turns
