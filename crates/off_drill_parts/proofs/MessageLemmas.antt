-- A message is its parts, pushed one behind another.
use Rattle.std.proofs.Common.{◌≡◌, ℕ, List, [], ◌∷◌, ◌++◌, ap, ◌∙◌, append_assoc}
use Rattle.off_drill_rules.specs.Rows.{address}
use Rattle.off_drill_rules.specs.Messages.{fixed_part, modem_options, discover, request}
use Rattle.off_dhcp.specs.Reply.{four}

pub discover_is : (i : ℕ) (fixed kind whole modem : List ℕ) → fixed ≡ fixed_part i → kind ≡ fixed ++ 53 ∷ 1 ∷ 1 ∷ [] → whole ≡ kind ++ modem → modem ≡ modem_options i
    → whole ≡ discover i
unfolding discover
discover_is i fixed kind whole modem is one two said =
    two ∙ (λ j. kind ++ said j) ∙ ap (λ (v : List ℕ). v ++ modem_options i) (one ∙ ap (λ (v : List ℕ). v ++ 53 ∷ 1 ∷ 1 ∷ []) is)

pub request_is : (i : ℕ) (fixed kind option asked server whole modem wanted : List ℕ) → fixed ≡ fixed_part i → kind ≡ fixed ++ 53 ∷ 1 ∷ 3 ∷ [] → option ≡ kind ++ 50 ∷ 4 ∷ []
    → asked ≡ option ++ wanted → wanted ≡ four (address i).0 → server ≡ asked ++ 54 ∷ 4 ∷ 10 ∷ 0 ∷ 0 ∷ 2 ∷ [] → whole ≡ server ++ modem → modem ≡ modem_options i
    → whole ≡ request i
unfolding request
request_is i fixed kind option asked server whole modem wanted is one two filled named three last said =
    let options : asked ≡ fixed_part i ++ 53 ∷ 1 ∷ 3 ∷ [] ++ 50 ∷ 4 ∷ four (address i).0 =
    filled
    ∙ (λ j. two j ++ named j)
    ∙ append_assoc kind (50 ∷ 4 ∷ []) (four (address i).0)
    ∙ ap (λ (v : List ℕ). v ++ 50 ∷ 4 ∷ four (address i).0) (one ∙ ap (λ (v : List ℕ). v ++ 53 ∷ 1 ∷ 3 ∷ []) is) in
    last ∙ (λ j. server ++ said j) ∙ ap (λ (v : List ℕ). v ++ modem_options i) (three ∙ ap (λ (v : List ℕ). v ++ 54 ∷ 4 ∷ 10 ∷ 0 ∷ 0 ∷ 2 ∷ []) options)
