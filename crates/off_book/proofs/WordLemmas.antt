-- Ports between commas, text by text.
use Rattle.std.proofs.Common.{◌≡◌, ◌==◌, ℕ, ◌+◌, ◌-◌, ◌<◌, ◌≤◌, false, List, [], ◌∷◌, length, count_by, map, take, drop, Option, Some, None, refl, sym, ap, ◌∙◌, arith}
use Rattle.std.specs.List.{position_or_len}
use Rattle.std.proofs.lemmas.List.{take_all, length-drop}
use Rattle.std.proofs.lemmas.List.Elements.{All-from_get_or}
use Rattle.std.proofs.lemmas.List.Splits.{slice_split_first, slice_split_none, length-slice_split}
use Rattle.std.proofs.lemmas.List.Sums.{fails_before_first}
use Rattle.off_book.specs.Words.{port_of, between_commas, four_ports, ports_of}

-- a text is cut at its first comma, or is one text
pub cut_here : (text : List ℕ) (at : ℕ) → at ≡ position_or_len (λ c. c == 44) text → at < length text
    → between_commas text ≡ take at text ∷ between_commas (take (length text - (at + 1)) (drop (at + 1) text))
cut_here text at first within =
    let rest : take (length text - (at + 1)) (drop (at + 1) text) ≡ drop (at + 1) text =
    take_all (length text - (at + 1)) (drop (at + 1) text) (omega (arith, length-drop (at + 1) text)) in
    slice_split_first (λ c. c == 44) text 0 (omega (arith, first, within)) ∙ sym (ap (λ (n : ℕ). take n text ∷ between_commas (drop (n + 1) text)) first)
    ∙ sym (ap (λ (x : List ℕ). take at text ∷ between_commas x) rest)

pub cut_nowhere : (text : List ℕ) (at : ℕ) → at ≡ position_or_len (λ c. c == 44) text → length text ≤ at → between_commas text ≡ text ∷ []
cut_nowhere text at first behind = slice_split_none (λ c. c == 44) text
    (All-from_get_or (λ c. (c == 44) ≡ false) text 0 (λ k within. fails_before_first (λ c. c == 44) text k 0 (omega (arith, first, behind, within))))

-- fewer ports than four, or more
one_port : (a : Option ℕ) → four_ports (a ∷ []) ≡ None
one_port None = refl
one_port (Some n) = refl

two_ports : (a b : Option ℕ) → four_ports (a ∷ b ∷ []) ≡ None
two_ports None b = refl
two_ports (Some n) None = refl
two_ports (Some n) (Some m) = refl

three_ports : (a b c : Option ℕ) → four_ports (a ∷ b ∷ c ∷ []) ≡ None
three_ports None b c = refl
three_ports (Some n) None c = refl
three_ports (Some n) (Some m) None = refl
three_ports (Some n) (Some m) (Some k) = refl

five_ports : (a b c d e : Option ℕ) (more : List (Option ℕ)) → four_ports (a ∷ b ∷ c ∷ d ∷ e ∷ more) ≡ None
five_ports None b c d e more = refl
five_ports (Some n) None c d e more = refl
five_ports (Some n) (Some m) None d e more = refl
five_ports (Some n) (Some m) (Some k) None e more = refl
five_ports (Some n) (Some m) (Some k) (Some l) e more = refl

-- so a text with fewer commas than three has no four ports, nor one with more
ports_by : (text : List ℕ) (parts : List (List ℕ)) → between_commas text ≡ parts → ports_of text ≡ four_ports (map port_of parts)
ports_by text parts cut = ap (λ (x : List (List ℕ)). four_ports (map port_of x)) cut

pub no_comma : (text : List ℕ) → between_commas text ≡ text ∷ [] → None ≡ ports_of text
no_comma text end = sym (ports_by text (text ∷ []) end ∙ one_port (port_of text))

pub one_comma : (text a rest : List ℕ) → between_commas text ≡ a ∷ between_commas rest → between_commas rest ≡ rest ∷ [] → None ≡ ports_of text
one_comma text a rest cut end =
    sym (ports_by text (a ∷ rest ∷ []) (cut ∙ ap (λ (x : List (List ℕ)). a ∷ x) end) ∙ two_ports (port_of a) (port_of rest))

two_cuts : (text a rest b more : List ℕ) → between_commas text ≡ a ∷ between_commas rest → between_commas rest ≡ b ∷ between_commas more → between_commas text ≡ a ∷ b ∷ between_commas more
two_cuts text a rest b more cut next = cut ∙ ap (λ (x : List (List ℕ)). a ∷ x) next

pub two_commas : (text a rest b more : List ℕ) → between_commas text ≡ a ∷ between_commas rest → between_commas rest ≡ b ∷ between_commas more → between_commas more ≡ more ∷ [] → None ≡ ports_of text
two_commas text a rest b more cut next end =
    sym (ports_by text (a ∷ b ∷ more ∷ []) (two_cuts text a rest b more cut next ∙ ap (λ (x : List (List ℕ)). a ∷ b ∷ x) end) ∙ three_ports (port_of a) (port_of b) (port_of more))

three_cuts : (text a rest b more c last : List ℕ) → between_commas text ≡ a ∷ between_commas rest → between_commas rest ≡ b ∷ between_commas more → between_commas more ≡ c ∷ between_commas last
    → between_commas text ≡ a ∷ b ∷ c ∷ between_commas last
three_cuts text a rest b more c last cut next third = two_cuts text a rest b more cut next ∙ ap (λ (x : List (List ℕ)). a ∷ b ∷ x) third

pub three_commas : (text a rest b more c last : List ℕ) (ports : Option (List ℕ)) → between_commas text ≡ a ∷ between_commas rest → between_commas rest ≡ b ∷ between_commas more → between_commas more ≡ c ∷ between_commas last
    → between_commas last ≡ last ∷ [] → ports ≡ four_ports (map port_of (a ∷ b ∷ c ∷ last ∷ [])) → ports ≡ ports_of text
three_commas text a rest b more c last ports cut next third end is =
    is ∙ sym (ports_by text (a ∷ b ∷ c ∷ last ∷ []) (three_cuts text a rest b more c last cut next third ∙ ap (λ (x : List (List ℕ)). a ∷ b ∷ c ∷ x) end))

some_text : (text : List ℕ) (parts : List (List ℕ)) → between_commas text ≡ parts → length parts ≡ count_by (λ c. c == 44) text + 1
some_text text parts is = sym (ap length is) ∙ length-slice_split (λ c. c == 44) text

five_texts : (a b c d : List ℕ) (beyond : List ℕ) (parts : List (List ℕ)) → length parts ≡ count_by (λ c. c == 44) beyond + 1 → four_ports (map port_of (a ∷ b ∷ c ∷ d ∷ parts)) ≡ None
five_texts a b c d beyond [] long = absurd (omega (arith, long))
five_texts a b c d beyond (e ∷ parts) long = five_ports (port_of a) (port_of b) (port_of c) (port_of d) (port_of e) (map port_of parts)

pub four_commas : (text a rest b more c last d beyond : List ℕ) → between_commas text ≡ a ∷ between_commas rest → between_commas rest ≡ b ∷ between_commas more → between_commas more ≡ c ∷ between_commas last
    → between_commas last ≡ d ∷ between_commas beyond → None ≡ ports_of text
four_commas text a rest b more c last d beyond cut next third fourth =
    sym (ports_by text (a ∷ b ∷ c ∷ d ∷ between_commas beyond) (three_cuts text a rest b more c last cut next third ∙ ap (λ (x : List (List ℕ)). a ∷ b ∷ c ∷ x) fourth)
    ∙ five_texts a b c d beyond (between_commas beyond) (some_text beyond (between_commas beyond) refl))

pub ruleset ports_between_commas = (cut_here, cut_nowhere, no_comma, one_comma, two_commas, three_commas, four_commas)
