-- The first comma, and the words of `serve`.
use Rattle.std.proofs.Common.{◌≡◌, ◌==◌, ℕ, ◌<◌, ◌≤◌, Bool, true, false, cond, List, [], ◌∷◌, get_or, length, map, Option, None, String, Global, string_bytes, refl, sym, ap, ◌∙◌, arith}
use Rattle.std.specs.List.{position_or_len}
use Rattle.std.proofs.lemmas.Bool.Decides.{nat_tests}
use Rattle.std.proofs.lemmas.List.{get_or-map}
use Rattle.std.proofs.lemmas.List.Sums.{position_or_len_is}
use Rattle.off_base.specs.Number.{number_read}
use Rattle.off_book.specs.Words.{serve_of, serve_by, ports_of, most_turns}
use Rattle.off_words.specs.Reading.{flags_stand}

abbrev pub is_comma : ℕ → Bool
is_comma byte = byte == 44

pub not_comma : (byte : ℕ) → (byte ≡ 44 → ⊥) → is_comma byte ≡ false
not_comma byte other = grind (arith, nat_tests)

pub comma_found : (text : List ℕ) (i : ℕ) → i < length text → ((k : ℕ) → k < i → is_comma (get_or text k 0) ≡ false) → get_or text i 0 ≡ 44
    → i ≡ position_or_len is_comma text
comma_found text i within none here =
    let is : is_comma (get_or text i 0) ≡ true = grind (arith, nat_tests) in
    sym (position_or_len_is is_comma text i 0 (omega arith) none (λ _. is))

pub comma_missing : (text : List ℕ) (i : ℕ) → length text ≤ i → ((k : ℕ) → k < i → is_comma (get_or text k 0) ≡ false)
    → length text ≡ position_or_len is_comma text
comma_missing text i behind none =
    sym (position_or_len_is is_comma text (length text) 0 (omega arith) (λ k below. none k (omega arith)) (λ never. absurd (omega arith)))

-- the word at place i, as the book reads it
abbrev pub word_at : List (String Global) → ℕ → List ℕ
word_at words i = get_or (map string_bytes words) i []

pub word_is : (words : List (String Global)) (i : ℕ) (word : String Global) → i < length words → word ≡ get_or words i word → word_at words i ≡ string_bytes word
word_is words i word within is = get_or-map string_bytes words i word [] within ∙ sym (ap string_bytes is)

-- the words of `serve` have seven places
pub serve_of_short : (words : List (List ℕ)) → (length words ≡ 7 → ⊥) → serve_of words ≡ None
unfolding serve_of
serve_of_short [] other = refl
serve_of_short (a ∷ []) other = refl
serve_of_short (a ∷ b ∷ []) other = refl
serve_of_short (a ∷ b ∷ c ∷ []) other = refl
serve_of_short (a ∷ b ∷ c ∷ d ∷ []) other = refl
serve_of_short (a ∷ b ∷ c ∷ d ∷ e ∷ []) other = refl
serve_of_short (a ∷ b ∷ c ∷ d ∷ e ∷ f ∷ []) other = refl
serve_of_short (a ∷ b ∷ c ∷ d ∷ e ∷ f ∷ g ∷ []) other = absurd (other refl)
serve_of_short (a ∷ b ∷ c ∷ d ∷ e ∷ f ∷ g ∷ h ∷ rest) other = refl

pub serve_of_seven : (words : List (List ℕ)) → length words ≡ 7
    → serve_of words ≡ cond (flags_stand words) (serve_by (get_or words 2 []) (ports_of (get_or words 4 [])) (number_read most_turns (get_or words 6 []))) None
unfolding serve_of
serve_of_seven [] seven = absurd (omega arith)
serve_of_seven (a ∷ []) seven = absurd (omega arith)
serve_of_seven (a ∷ b ∷ []) seven = absurd (omega arith)
serve_of_seven (a ∷ b ∷ c ∷ []) seven = absurd (omega arith)
serve_of_seven (a ∷ b ∷ c ∷ d ∷ []) seven = absurd (omega arith)
serve_of_seven (a ∷ b ∷ c ∷ d ∷ e ∷ []) seven = absurd (omega arith)
serve_of_seven (a ∷ b ∷ c ∷ d ∷ e ∷ f ∷ []) seven = absurd (omega arith)
serve_of_seven (a ∷ b ∷ c ∷ d ∷ e ∷ f ∷ g ∷ []) seven = refl
serve_of_seven (a ∷ b ∷ c ∷ d ∷ e ∷ f ∷ g ∷ h ∷ rest) seven = absurd (omega arith)

-- what each part of the words comes to, from their texts
pub record Read (words : List (List ℕ)) (store : List ℕ) (ports : Option (List ℕ)) (turns : Option ℕ) : Type 0 where
  pub seven : length words ≡ 7
  pub flags : flags_stand words ≡ true
  pub store_is : get_or words 2 [] ≡ store
  pub ports_is : ports ≡ ports_of (get_or words 4 [])
  pub turns_is : turns ≡ number_read most_turns (get_or words 6 [])

pub serve_of_read : {words : List (List ℕ)} {store : List ℕ} {ports : Option (List ℕ)} {turns : Option ℕ} → Read words store ports turns → serve_of words ≡ serve_by store ports turns
serve_of_read {words} {store} {ports} {turns} read =
    serve_of_seven words read.seven
    ∙ (ap (λ b. cond b (serve_by (get_or words 2 []) (ports_of (get_or words 4 [])) (number_read most_turns (get_or words 6 []))) None) read.flags
    ∙ (ap (λ s. serve_by s (ports_of (get_or words 4 [])) (number_read most_turns (get_or words 6 []))) read.store_is
    ∙ (ap (λ p. serve_by store p (number_read most_turns (get_or words 6 []))) (sym read.ports_is)
    ∙ ap (λ t. serve_by store ports t) (sym read.turns_is))))
