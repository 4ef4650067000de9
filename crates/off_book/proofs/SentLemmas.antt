-- The moments at which turns were sent: with one turn more, and when more is safe.
use Rattle.std.proofs.Common.{◌≡◌, ℕ, ◌+◌, ◌<◌, ◌≤◌, List, [], ◌∷◌, ◌++◌, length, subst, arith}
use Rattle.off_defs.specs.declared.results.Outcome.TheVariants.{Did}
use Rattle.off_book.specs.Run.{Turn}
use Rattle.off_book.specs.Crashes.{SafeWhenSent}

pub sent_more : (safe more : ℕ → ℕ) (before : ℕ) (turns : List Turn) (moments : List ℕ) → ((m : ℕ) → safe m ≤ more m) → SafeWhenSent safe before turns moments
    → SafeWhenSent more before turns moments
sent_more safe more before [] [] wider sent = tt
sent_more safe more before [] (m ∷ moments) wider sent = absurd sent
sent_more safe more before (turn ∷ turns) [] wider sent = absurd sent
sent_more safe more before (turn ∷ turns) (m ∷ moments) wider sent =
    (λ did. omega (arith, sent.0 did, wider m), sent_more safe more (before + 1) turns moments wider sent.1)

pub sent_push : (safe : ℕ → ℕ) (before : ℕ) (turns : List Turn) (moments : List ℕ) (turn : Turn) (m : ℕ) → (turn.outcome ≡ Did → before + length turns < safe m)
    → SafeWhenSent safe before turns moments → SafeWhenSent safe before (turns ++ turn ∷ []) (moments ++ m ∷ [])
sent_push safe before [] [] turn m is sent = (λ did. omega (arith, is did), tt)
sent_push safe before [] (n ∷ moments) turn m is sent = absurd sent
sent_push safe before (first ∷ turns) [] turn m is sent = absurd sent
sent_push safe before (first ∷ turns) (n ∷ moments) turn m is sent =
    (sent.0, sent_push safe (before + 1) turns moments turn m (λ did. omega (arith, is did)) sent.1)
