-- Worked examples, evaluated: an import whose batch stands, again with its kind and digest, with
-- another digest and with another kind; and how often writes put a batch.
use Rattle.std.proofs.Common.{◌≡◌, List, [], ◌∷◌, Ok, Err, Some, None, refl}
use Rattle.off_defs.specs.declared.keys.Key.TheVariants as key
use Rattle.off_defs.specs.declared.tables.Batch.{Batch}
use Rattle.off_defs.specs.declared.tables.ImportKind.TheVariants as import
use Rattle.off_defs.specs.declared.tables.Row.TheVariants as row
use Rattle.off_orders.specs.declared.orders.Reply.TheVariants.{Rows}
use Rattle.off_defs.specs.declared.writes.Write.{Write}
use Rattle.off_defs.specs.declared.writes.Write.TheVariants.{Put, Drop}
use Rattle.off_orders.specs.declared.rules.Rule.TheVariants as rule
use Rattle.off_orders.specs.Clerk.{accepted, refusal, repeated}
use Rattle.off_import_runs.specs.Puts.{puts_in, PutOnce}

abbrev batch : Batch
batch = record { kind = import.Subscribers; digest = 9 ∷ 9 ∷ []; rows = 2 }

again : repeated import.Subscribers 7 (9 ∷ 9 ∷ []) batch ≡ Ok (accepted [] (Rows 2))
again = refl

other_file : repeated import.Subscribers 7 (9 ∷ 8 ∷ []) batch ≡ Err (refusal 0 (rule.BatchDiffers 7))
other_file = refl

other_kind : repeated import.Modems 7 (9 ∷ 9 ∷ []) batch ≡ Err (refusal 0 (rule.BatchDiffers 7))
other_kind = refl

abbrev writes : List Write
writes = Put (key.Batch 7) (row.Batch batch) ∷ Put (key.Batch 8) (row.Batch batch) ∷ Drop (key.Batch 7) ∷ Put (key.Batch 7) (row.Batch batch) ∷ []

put_twice : puts_in 7 writes ≡ 2
put_twice = refl

put_once : puts_in 8 writes ≡ 1
put_once = refl

unput : puts_in 9 writes ≡ 0
unput = refl

-- what was put once stands, and what stood wasn't put
comes : PutOnce None (Some batch) 1
comes = refl

stays : PutOnce (Some batch) (Some batch) 0
stays = (refl, refl)

not_twice : PutOnce None (Some batch) 2 → ⊥
not_twice twice = cc

not_dropped : PutOnce (Some batch) None 0 → ⊥
not_dropped gone = let no = gone.0 in cc
