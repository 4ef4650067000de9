use Rattle.std.proofs.Common.{◌≡◌, ◌-◌, ◌≤◌, [], max, vec_len}
use Rattle.std.specs.List.{All}
use Rattle.off_keepmem.proofs.table.fill.Given as goal

abbrev pub invariant-fill : goal.invariant-fill
invariant-fill l = record {
  empty : All (λ shelf. shelf ≡ []) l.stock.items;
  kept : vec_len l.fn.stock ≤ vec_len l.stock;
  most : vec_len l.stock ≤ max (vec_len l.fn.stock) l.wanted;
}

abbrev pub decreases-fill : goal.decreases-fill
decreases-fill l = l.wanted - vec_len l.stock
