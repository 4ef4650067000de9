use Rattle.std.proofs.Common.{sym, arith}
use Rattle.off_import.proofs.FieldLemmas.{none_at, four_at}
use Rattle.off_import.proofs.rows.four_fields.Goals as goal

pub returns-in_default : goal.returns-in_default
returns-in_default c = λ four. let few = none_at _ 0 (sym c.in_default.ensures.value) in omega (arith, few)

pub returns-in_default-get : goal.returns-in_default-get
returns-in_default-get c = λ four. let few = none_at _ 1 (sym c.in_default-get.ensures.value) in omega (arith, few)

pub returns-in_default-get-2 : goal.returns-in_default-get-2
returns-in_default-get-2 c = λ four. let few = none_at _ 2 (sym c.in_default-get-2.ensures.value) in omega (arith, few)

pub returns-in_default-get-3 : goal.returns-in_default-get-3
returns-in_default-get-3 c = λ four. let few = none_at _ 3 (sym c.in_default-get-3.ensures.value) in omega (arith, few)

pub returns : goal.returns
returns c =
    four_at _ _ _ _ _ (omega (arith, c.len.ensures)) (sym c.in-Some.ensures.value) (sym c.in-Some-get.ensures.value) (sym c.in-Some-get-2.ensures.value)
    (sym c.in-Some-get-3.ensures.value)
