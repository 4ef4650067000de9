-- Rows that no turn writes stay.
use Rattle.std.proofs.Common.{◌≡◌, ◌≢◌, cond, Option, Some, None, option_and_then, List, [], ◌∷◌, refl, sym, ap, ◌∙◌}
use Rattle.std.proofs.lemmas.Bool.{false_from_ne_true}
use Rattle.std.specs.List.{AllByRecursion}
use Rattle.std.specs.Ordering.{eq_by_cmp}
use Rattle.off_defs.specs.declared.keys.Key.{Key}
use Rattle.off_defs.specs.declared.keys.Key.TheVariants as key
use Rattle.off_defs.specs.declared.tables.Row.{Row}
use Rattle.off_defs.specs.declared.writes.Write.{Write}
use Rattle.off_defs.specs.declared.writes.Write.TheVariants.{Put, Drop}
use Rattle.off_defs.specs.Keys.{key_cmp}
use Rattle.off_defs.specs.State.{Tables, State}
use Rattle.off_defs.specs.Tables.{row_at, key_written}
use Rattle.off_defs.proofs.TableLemmas.{same_key}
use Rattle.off_account_rules.specs.Rows.{possible, as_site, as_modem, as_pool, as_pool_hub, number_or_0}
use Rattle.off_table_laws.proofs.Rows.{Rows, row_written, rows_after, all_written}
use Rattle.off_book.specs.Run.{Turn, Run, effect_of}
use Rattle.off_laws.proofs.StepLaws.{tables_by_commit}
use Rattle.off_boot_laws.specs.Between.{LeavesRow, LeavesModem, RowsStay}

one_stays : (rows : Rows) (write : Write) (q : Key) → key_written write ≢ q → row_written rows write q ≡ rows q
one_stays rows (Put k held) q apart =
    ap (λ b. cond b (Some held) (rows q)) (false_from_ne_true (eq_by_cmp key_cmp q k) (λ e. apart (sym (same_key q k e))))
one_stays rows (Drop k) q apart = ap (λ b. cond b None (rows q)) (false_from_ne_true (eq_by_cmp key_cmp q k) (λ e. apart (sym (same_key q k e))))

all_stay : (rows : Rows) (writes : List Write) (q : Key) → AllByRecursion (λ (write : Write). key_written write ≢ q) writes → rows_after rows writes q ≡ rows q
all_stay rows [] q all = refl
all_stay rows (write ∷ writes) q all = all_stay (row_written rows write) writes q all.1 ∙ one_stays rows write q all.0

-- what each turn leaves is there at the end
row_stays : (P : Turn → Type 0) (q : Key) → ((turn : Turn) → P turn → LeavesRow q turn) → (s last : State) (turns : List Turn) → Run s turns last
    → AllByRecursion P turns → row_at last.tables q ≡ row_at s.tables q
row_stays P q leaves s last [] run all = ap (λ (u : State). row_at u.tables q) run
row_stays P q leaves s last (turn ∷ turns) run all =
    row_stays P q leaves run.0 last turns run.1.1 all.1
    ∙ ap (λ (t : Tables). row_at t q) (tables_by_commit s turn.event turn.outcome (effect_of turn run.0) run.1.0)
    ∙ ap (λ (rows : Rows). rows q) (all_written s.tables turn.commit) ∙ all_stay (row_at s.tables) turn.commit q (leaves turn all.0)

pub rows_stay : RowsStay
rows_stay s last turns mac number hub run all = record {
  site = ap (λ (o : Option Row). option_and_then as_site (possible (key.Hub hub) o))
      (row_stays (LeavesModem mac number hub) (key.Hub hub) (λ turn l. l.site) s last turns run all);
  pool_hub = ap (λ (o : Option Row). number_or_0 (option_and_then as_pool_hub (possible (key.PoolHub number) o)))
      (row_stays (LeavesModem mac number hub) (key.PoolHub number) (λ turn l. l.pool_hub) s last turns run all);
  modem = ap (λ (o : Option Row). option_and_then as_modem (possible (key.Modem mac) o))
      (row_stays (LeavesModem mac number hub) (key.Modem mac) (λ turn l. l.modem) s last turns run all);
  pool = ap (λ (o : Option Row). option_and_then as_pool (possible (key.Pool number) o))
      (row_stays (LeavesModem mac number hub) (key.Pool number) (λ turn l. l.pool) s last turns run all);
}
