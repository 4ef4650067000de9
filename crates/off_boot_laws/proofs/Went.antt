-- Where nothing is lost and each event was acted on, each turn goes well.
use Rattle.std.proofs.Common.{◌≡◌, ◌+◌, Bool, true, false, cond, not, List, [], ◌∷◌, ◌++◌, length, All, refl, sym, ap, arith}
use Rattle.std.proofs.lemmas.List.Elements.{All-nil, All-cons, All-head, All-tail, All-same, All-rest}
use Rattle.std.proofs.lemmas.List.Sums.{sum_by-cons}
use Rattle.std.specs.Prelude.{count_by}
use Rattle.off_defs.specs.declared.results.Outcome.TheVariants.{Did}
use Rattle.off_defs.specs.declared.results.Sent.{Sent}
use Rattle.off_book.specs.Run.{Turn, marked}
use Rattle.off_boot_laws.specs.Went.{GoesWell, AllGoWell}

all_marked : (items : List Sent) (marks : List Bool) → length items ≡ length marks → count_by not marks ≡ 0 → marked items marks ≡ items
all_marked [] marks same none = refl
all_marked (item ∷ items) [] same none = cc
all_marked (item ∷ items) (true ∷ marks) same none = ap (λ rest. item ∷ rest) (all_marked items marks (omega (arith, same))
    (let more : count_by not (true ∷ marks) ≡ 0 + count_by not marks = sum_by-cons (λ (b : Bool). cond (not b) 1 0) true marks in omega (arith, more, none)))
all_marked (item ∷ items) (false ∷ marks) same none = (let more : count_by not (false ∷ marks) ≡ 1 + count_by not marks = sum_by-cons (λ (b : Bool). cond (not b) 1 0) false marks in absurd (omega (arith, more, none)))

pub all_go_well : AllGoWell
all_go_well [] did marks none = All-nil GoesWell
all_go_well (turn ∷ turns) did marks none =
    All-cons GoesWell turn turns (record {
      did = All-head (λ (t : Turn). t.outcome ≡ Did) turn turns did;
      sent = all_marked turn.said.items turn.went (All-head (λ (t : Turn). length t.said.items ≡ length t.went) turn turns marks) (omega (arith, none));
    })
    (all_go_well turns (All-tail (λ (t : Turn). t.outcome ≡ Did) turn turns did) (All-tail (λ (t : Turn). length t.said.items ≡ length t.went) turn turns marks)
    (omega (arith, none)))

-- each turn of a list of which all go well
pub well_at : (turns before later : List Turn) (turn : Turn) → All GoesWell turns → turns ≡ before ++ turn ∷ later → GoesWell turn
well_at turns [] later turn all parts = All-head GoesWell turn later (All-same GoesWell (turn ∷ later) turns (sym parts) all)
well_at turns (first ∷ before) later turn all parts =
    well_at (before ++ turn ∷ later) before later turn (All-rest GoesWell first (before ++ turn ∷ later) turns parts all) refl
