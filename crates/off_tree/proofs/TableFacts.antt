-- Facts of the tables, evaluated.
use Rattle.std.proofs.Common.{◌≡◌, ℕ, Bool, true, List, [], ◌∷◌, map, refl}
use Rattle.std.specs.Prelude.{◌&&◌, nat_lt}
use Rattle.std.specs.List.{list_all}
use Rattle.off_tree.specs.declared.tables.Level.{Level}
use Rattle.off_tree.specs.declared.tables.Level.TheVariants.{Top, Classifier, UpstreamFlow, DownstreamFlow, Ip, Extension}
use Rattle.off_tree.specs.declared.tables.Kind.TheVariants.{Class, AddOn}
use Rattle.off_tree.specs.Table.{table_of}

-- each number is below all behind it
abbrev ascends : List ℕ → Bool
ascends [] = true
ascends (n ∷ ns) = list_all (λ m. nat_lt n m) ns && ascends ns

tables_ascend : (level : Level) → ascends (map (λ rule. rule.code) (table_of level)) ≡ true
unfolding table_of
tables_ascend (Top Class) = refl
tables_ascend (Top AddOn) = refl
tables_ascend (Classifier Class) = refl
tables_ascend (Classifier AddOn) = refl
tables_ascend UpstreamFlow = refl
tables_ascend DownstreamFlow = refl
tables_ascend Ip = refl
tables_ascend Extension = refl
