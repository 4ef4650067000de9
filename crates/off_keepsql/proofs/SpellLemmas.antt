-- Writes as writes of cells.
use Rattle.std.proofs.Common.{◌≡◌, ℕ, ◌+◌, ◌++◌, ◌∷◌, [], List, take, sym, ap, ◌∙◌, arith, Some, Err, map as each}
use Rattle.std.specs.List.{slice_get}
use Rattle.std.proofs.lemmas.List.{map-append}
use Rattle.off_base.proofs.TreeLemmas.{taken}
use Rattle.off_defs.specs.Counts.{one_more}
use Rattle.off_outside.specs.declared.keeper.KeepErr.{KeepErr}
use Rattle.off_outside.specs.declared.keeper.KeepErr.TheVariants.{Memory, Failed}
use Rattle.off_cells.specs.declared.writes.CellWrite.{CellWrite}
use Rattle.off_keepsql.specs.OwnCount.{WriteSpelled, WritesSpelled}
use Rattle.off_defs.specs.declared.writes.Write.{Write}
use Rattle.off_keepsql.specs.Stored.{cell_write}
use Rattle.off_spelled.proofs.SpellLemmas.{spelled_at}

-- a write that isn't spelled is one of them
pub not_spelled : (xs : List Write) (i : ℕ) (x : Write) (err : KeepErr) (first before after : ℕ) → slice_get xs i ≡ Some x → before ≡ first
    → WriteSpelled (Err err) x before after → WritesSpelled (Err err) xs first after
not_spelled xs i x Memory first before after at same p = p ∙ same
not_spelled xs i x Failed first before after at same p =
    (λ all. p.0 (spelled_at xs i x at all), (p.1.0 ∙ ap one_more same, omega (arith, p.1.1, same)))

-- the cells so far and one more
pub cells_more : (xs : List Write) (i : ℕ) (x : Write) (cells : List CellWrite) (more : CellWrite) → slice_get xs i ≡ Some x → cells ≡ each cell_write (take i xs) → more ≡ cell_write x
    → cells ++ more ∷ [] ≡ each cell_write (take (i + 1) xs)
cells_more xs i x cells more at so_far one =
    ap (λ (v : List CellWrite). v ++ more ∷ []) so_far
    ∙ (ap (λ (w : CellWrite). each cell_write (take i xs) ++ w ∷ []) one
    ∙ (sym (map-append cell_write (take i xs) (x ∷ [])) ∙ ap (λ (v : List Write). each cell_write v) (sym (taken xs i x at))))
