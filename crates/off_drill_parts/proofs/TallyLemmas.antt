-- Counters that are raised, one after another.
use Rattle.std.proofs.Common.{◌≡◌, ℕ, ◌+◌, ◌<◌, List, [], ◌∷◌, ◌++◌, map, length, take, slice_get, Some, sum, refl, sym, ap, ◌∙◌, arith, length-append}
use Rattle.std.proofs.lemmas.List.{take_more}
use Rattle.std.proofs.lemmas.List.Elements.{filter-append}
use Rattle.std.proofs.lemmas.List.Sums.{sum-map, sum_by-append}
use Rattle.std.proofs.lemmas.Option.{get_or_from_slice_get}
use Rattle.off_defs.specs.declared.results.Sent.{Sent}
use Rattle.off_drill_rules.specs.declared.tally.Tally.{Tally}
use Rattle.off_drill_rules.specs.Numbers.{plus, none_yet, is_data, block_octets, data_in, octets_in}
use Rattle.off_drill_laws.proofs.StageLemmas.{same_tally}
use Rattle.off_drill_parts.specs.Tallying.{raised_by, data_tally}

pub raised_none : (c : Tally) → raised_by c none_yet ≡ c
raised_none c = same_tally (raised_by c none_yet) c (omega arith) (omega arith) (omega arith) (omega arith) (omega arith)

pub raised_then : (c x y : Tally) → raised_by (raised_by c x) y ≡ raised_by c (plus x y)
raised_then c x y = same_tally (raised_by (raised_by c x) y) (raised_by c (plus x y)) (omega arith) (omega arith) (omega arith) (omega arith) (omega arith)

pub data_more : (xs : List Sent) (y : Sent) → data_tally (xs ++ y ∷ []) ≡ plus (data_tally xs) (data_tally (y ∷ []))
data_more xs y =
    let kept : data_in (xs ++ y ∷ []) ≡ data_in xs ++ data_in (y ∷ []) = filter-append is_data xs (y ∷ []) in
    let long : length (data_in (xs ++ y ∷ [])) ≡ length (data_in xs) + length (data_in (y ∷ [])) = ap length kept ∙ length-append (data_in xs) (data_in (y ∷ [])) in
    let all : octets_in (xs ++ y ∷ []) ≡ octets_in xs + octets_in (y ∷ []) =
    ap (λ (v : List Sent). sum (map block_octets v)) kept
    ∙ sum-map block_octets (data_in xs ++ data_in (y ∷ []))
    ∙ sum_by-append block_octets (data_in xs) (data_in (y ∷ []))
    ∙ (λ j. sym (sum-map block_octets (data_in xs)) j + sym (sum-map block_octets (data_in (y ∷ []))) j) in
    same_tally (data_tally (xs ++ y ∷ [])) (plus (data_tally xs) (data_tally (y ∷ []))) refl refl refl long all

-- the items up to i are counted, and item i is counted too
pub counted_more : (c d e : Tally) (items : List Sent) (i : ℕ) (y : Sent) → i < length items → slice_get items i ≡ Some y
    → d ≡ raised_by c (data_tally (take i items)) → e ≡ raised_by d (data_tally (y ∷ [])) → e ≡ raised_by c (data_tally (take (i + 1) items))
counted_more c d e items i y within there was is =
    let xs = take i items in
    let same : take (i + 1) items ≡ xs ++ y ∷ [] = take_more items i y within ∙ ap (λ v. xs ++ v ∷ []) (get_or_from_slice_get items i y y there) in
    is ∙ ap (λ (v : Tally). raised_by v (data_tally (y ∷ []))) was ∙ raised_then c (data_tally xs) (data_tally (y ∷ [])) ∙ ap (raised_by c) (sym (data_more xs y)) ∙ ap (λ (v : List Sent). raised_by c (data_tally v)) (sym same)

pub counted_none : (c : Tally) → c ≡ raised_by c (data_tally [])
counted_none c = same_tally c (raised_by c (data_tally [])) (omega arith) (omega arith) (omega arith) (omega arith) (omega arith)

-- what one line and the items behind it count for
pub counted_all : (c d e line items : Tally) → d ≡ raised_by c line → e ≡ raised_by d items → e ≡ raised_by c (plus line items)
counted_all c d e line items was is = is ∙ ap (λ (v : Tally). raised_by v items) was ∙ raised_then c line items
