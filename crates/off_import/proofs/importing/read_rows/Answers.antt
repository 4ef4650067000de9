use Rattle.std.proofs.Common.{◌≡◌, ◌∙◌, ◌+◌, ◌∷◌, [], true, List, length, ap, subst, sym, arith, length-append}
use Rattle.std.specs.List.{list_all}
use Rattle.off_orders.specs.declared.orders.ImportRow.{ImportRow}
use Rattle.off_orders.specs.Sound.{is_row_of}
use Rattle.off_import_rules.specs.Reading.{rows_of_records}
use Rattle.off_import.specs.Records.{records_left}
use Rattle.off_import.proofs.RecordLemmas.{on_found}
use Rattle.off_import.proofs.RowLemmas.{rows_after, goes_on, sound_more}
use Rattle.off_import.proofs.importing.read_rows.Goals as goal

pub loop-number-preserved : goal.loop-number-preserved
loop-number-preserved c =
    let step = on_found c.in_ok-found.found _ _ _ c.if-not-found.false c.in_ok-found.ensures.next in
    let kind = c.args.kind in
    let number = c.loop-number.number in
    let so_far = c.loop-number.invariant in
    let more = goes_on kind number _ _ _ c.loop-number.rows c.in_ok-row.row step.1 (omega arith) (sym c.in_ok-row.ensures.exact) in
    let pushed = c.in-Ok.ensures.ok in
    let after = records_left c.next_record.new.reader in
    record {
      reading = step.0;
      so_far = so_far.so_far ∙ more ∙ ap (λ (rows : List ImportRow). rows_after rows (rows_of_records kind (number + 1) after)) (sym pushed);
      count = omega (arith, so_far.count, ap length pushed, length-append c.loop-number.rows (c.in_ok-row.row ∷ []));
      sound = subst (λ (rows : List ImportRow). list_all (is_row_of kind) rows ≡ true) (sym pushed) (sound_more kind _ _ so_far.sound c.in_ok-row.ensures.sound);
    }
