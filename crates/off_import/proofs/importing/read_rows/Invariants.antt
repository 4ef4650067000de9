use Rattle.std.proofs.Common.{◌≡◌, ◌+◌, true, length}
use Rattle.std.specs.List.{list_all}
use Rattle.off_orders.specs.Sound.{is_row_of}
use Rattle.off_import.specs.Records.{StandsBetween, records_left}
use Rattle.off_import_rules.specs.Reading.{rows_of_records}
use Rattle.off_import.proofs.RowLemmas.{rows_after}
use Rattle.off_import.proofs.importing.read_rows.Given as goal

abbrev pub invariant-loop-number : goal.invariant-loop-number
invariant-loop-number l = record {
  reading : StandsBetween l.reader;
  so_far : rows_of_records l.kind 1 (records_left l.fn.reader) ≡ rows_after l.rows (rows_of_records l.kind l.number (records_left l.reader));
  count : length l.rows + 1 ≡ l.number;
  sound : list_all (is_row_of l.kind) l.rows ≡ true;
}
