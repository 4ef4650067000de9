-- What is left of bytes behind a front that was sent.
use Rattle.std.proofs.Common.{◌≡◌, ◌≢◌, ℕ, ◌+◌, ◌-◌, ◌<◌, ◌≤◌, List, [], drop, length, sym, ◌∙◌, ap, subst, refl, arith}
use Rattle.std.proofs.lemmas.List.{drop-drop, drop_all, length-drop}
use Rattle.off_peers.specs.UnsentHeld.{UnsentHeld, SentFront, SentAll}

some_left : (bytes : List ℕ) (at : ℕ) → at < length bytes → drop at bytes ≢ []
some_left bytes at within none =
    let short : length bytes - at ≡ 0 = sym (length-drop at bytes) ∙ ap (λ (l : List ℕ). length l) none in
    omega arith

pub sent_front : (bytes : List ℕ) (sent count room : ℕ) (old : UnsentHeld) → record { left = drop sent bytes; room = room } ≡ old
    → sent + count < length bytes → SentFront old (record { left = drop (sent + count) bytes; room = room })
sent_front bytes sent count room old seen within =
    subst (λ before. SentFront before (record { left = drop (sent + count) bytes; room = room })) seen
    (record { front = (count, sym (drop-drop count sent bytes)); more = some_left bytes (sent + count) within; room = refl })

pub sent_all : (bytes : List ℕ) (sent room : ℕ) (old : UnsentHeld) → room ≡ old.room
    → length bytes ≤ sent → SentAll old (record { left = drop sent bytes; room = room })
sent_all bytes sent room old same gone = record { left = drop_all sent bytes gone; room = same }
