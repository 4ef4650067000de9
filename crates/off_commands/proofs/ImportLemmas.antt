-- From the rows of an import to what becomes of it.
use Rattle.std.proofs.Common.{◌≡◌, ℕ, ◌+◌, ◌<◌, min, Bool, true, false, cond, ◌&&◌, ◌||◌, nat_le, bytes_eq, Option, Some, None, is_some, option_and_then, Result, Ok, Err, IfOk, IsTrue, MatchResult, List, [], ◌∷◌, ◌++◌, length, refl, sym, ap, subst, ◌∙◌, arith}
use Rattle.std.specs.List.{list_all}
use Rattle.std.specs.Ordering.{nat_cmp, eq_by_cmp}
use Rattle.std.specs.Cmp.Lexicographic.{slice_cmp}
use Rattle.std.proofs.lemmas.Map.Text.{is_eq-slice_cmp}
use Rattle.std.proofs.lemmas.Bool.{and_parts}
use Rattle.off_base.specs.Choices.{when}
use Rattle.off_base.specs.Number.{greatest_u64}
use Rattle.off_defs.specs.declared.keys.Key.TheVariants as key
use Rattle.off_defs.specs.declared.tables.Row.{Row}
use Rattle.off_defs.specs.declared.tables.Row.TheVariants as row
use Rattle.off_defs.specs.declared.tables.Batch.{Batch}
use Rattle.off_defs.specs.declared.tables.ImportKind.{ImportKind}
use Rattle.off_orders.specs.declared.orders.ImportRow.{ImportRow}
use Rattle.off_orders.specs.declared.orders.Command.{Command}
use Rattle.off_orders.specs.declared.orders.Command.TheVariants.{Import}
use Rattle.off_defs.specs.declared.kinds.Kind.{Kind}
use Rattle.off_defs.specs.declared.kinds.Kind.TheVariants.{Subscribers, AddOns, Modems, Classes, Pools, Batches, Hubs, DevicePools}
use Rattle.off_defs.specs.declared.writes.Write.{Write}
use Rattle.off_defs.specs.declared.writes.Write.TheVariants.{Put}
use Rattle.off_orders.specs.declared.orders.Reply.{Reply}
use Rattle.off_orders.specs.declared.orders.Reply.TheVariants.{Rows}
use Rattle.off_orders.specs.declared.rules.Rule.{Rule}
use Rattle.off_orders.specs.declared.rules.Rule.TheVariants as rule
use Rattle.off_defs.specs.State.{Tables}
use Rattle.off_defs.specs.Tables.{row_at, with_row, write_all}
use Rattle.off_account_rules.specs.declared.counts.Counts.{Counts}
use Rattle.off_account_rules.specs.Rows.{possible, as_batch, batch_in, seen_at, is_of_kind, count_of, counts_of}
use Rattle.off_orders.specs.Clerk.{decided, limit, limit_of, refusal, accepted, by_rule, rows_written, batch_row, is_kind, imported_as, import_decided}
use Rattle.off_order_laws.proofs.StepLaws.{writes_append}
use Rattle.off_accounts.specs.declared.results.Planned.{Planned}
use Rattle.off_accounts.specs.declared.results.AccountErr.{AccountErr}
use Rattle.off_accounts.specs.Deciding.{IsDecided, NotDecided}
use Rattle.off_accounts.specs.Changes.{count_in, counts_put}
use Rattle.off_accounts.specs.Tests.{limit_rule}
use Rattle.off_accounts.specs.Walking.{WalksWithin}
use Rattle.off_accounts.proofs.CountsLemmas.{count_with, same_counts}
use Rattle.off_accounts.proofs.LimitLemmas.{limit_is, below_most}
use Rattle.off_orders.specs.Sound.{is_sound, is_row_of}
use Rattle.off_users.specs.Users.{UsersHeld, StandsFor}
use Rattle.off_outside.specs.declared.keeper.KeepErr.{KeepErr}
use Rattle.off_outside.specs.declared.keeper.KeepErr.TheVariants as keeper
use Rattle.off_outside.specs.declared.keeper.KeepErr.TheVariants.{Memory}
use Rattle.off_outside.specs.KeeperSeen.{KeeperSeen}
use Rattle.off_outside.specs.KeeperCalls.{Reads, NotDone, Looks}
use Rattle.off_outside.proofs.KeeperLemmas.{reads_then, reads_as, reads_forgotten}
use Rattle.off_commands.specs.declared.progress.Progress.{Progress}
use Rattle.off_commands.specs.declared.putting.Refused.{Refused}
use Rattle.off_commands.specs.Imports.{is_sound_row, is_same, import_answer, Stands, AreRowsPut, IsRepeated, Finished, IsFinished, IsImported}
use Rattle.off_commands.proofs.RowsLemmas.{rows_sound}

-- a batch that isn't there has no row
absent_batch : (n : ℕ) (o : Option Row) → option_and_then as_batch (possible (key.Batch n) o) ≡ None → is_some (possible (key.Batch n) o) ≡ false
absent_batch n None e = refl
absent_batch n (Some (row.Batch batch)) e = cc
absent_batch n (Some _) e = refl

-- the counts behind the row of a batch
module _ (n : ℕ) (batch : Batch) (u : Tables) where
  others_stay : (kind : Kind) → is_of_kind kind (key.Batch n) ≡ false → count_of kind (with_row u (key.Batch n) (row.Batch batch)) ≡ count_of kind u
  others_stay kind other =
      let e = subst (λ b. count_of kind (with_row u (key.Batch n) (row.Batch batch)) + cond b (cond (is_some (seen_at u (key.Batch n))) 1 0) 0 ≡ count_of kind u + cond b 1 0) other
      (count_with kind (key.Batch n) (row.Batch batch) u refl) in
      omega (arith, e)

  one_more_batch : is_some (seen_at u (key.Batch n)) ≡ false → count_of Batches (with_row u (key.Batch n) (row.Batch batch)) ≡ count_of Batches u + 1
  one_more_batch absent =
      let e = subst (λ b. count_of Batches (with_row u (key.Batch n) (row.Batch batch)) + cond b 1 0 ≡ count_of Batches u + 1) absent
      (count_with Batches (key.Batch n) (row.Batch batch) u refl) in
      omega (arith, e)

  counted_one : (batches : ℕ) → batches ≡ min greatest_u64 (count_of Batches u) → batches < 100000 → is_some (seen_at u (key.Batch n)) ≡ false
      → batches + 1 ≡ min greatest_u64 (count_of Batches (with_row u (key.Batch n) (row.Batch batch)))
  counted_one batches is low absent = let more = one_more_batch absent in omega (arith, is, low, more)

  each_count : (other : Kind) (c : Counts) → c ≡ counts_of u → c.batches < 100000 → is_some (seen_at u (key.Batch n)) ≡ false
      → count_in other (counts_put Batches false c) ≡ count_in other (counts_of (with_row u (key.Batch n) (row.Batch batch)))
  each_count Subscribers c agree low absent = ap (λ (d : Counts). d.subscribers) agree ∙ sym (others_stay Subscribers refl)
  each_count AddOns c agree low absent = ap (λ (d : Counts). d.addons) agree ∙ sym (others_stay AddOns refl)
  each_count Modems c agree low absent = ap (λ (d : Counts). d.modems) agree ∙ sym (others_stay Modems refl)
  each_count Classes c agree low absent = ap (λ (d : Counts). d.classes) agree ∙ sym (others_stay Classes refl)
  each_count Pools c agree low absent = ap (λ (d : Counts). d.pools) agree ∙ sym (others_stay Pools refl)
  each_count Hubs c agree low absent = ap (λ (d : Counts). d.hubs) agree ∙ sym (others_stay Hubs refl)
  each_count DevicePools c agree low absent = ap (λ (d : Counts). d.device_pools) agree ∙ sym (others_stay DevicePools refl)
  each_count Batches c agree low absent = counted_one c.batches (ap (λ (d : Counts). d.batches) agree) low absent

  batch_counts : (c : Counts) → c ≡ counts_of u → c.batches < 100000 → is_some (seen_at u (key.Batch n)) ≡ false
      → counts_put Batches false c ≡ counts_of (with_row u (key.Batch n) (row.Batch batch))
  batch_counts c agree low absent = same_counts (counts_put Batches false c) (counts_of (with_row u (key.Batch n) (row.Batch batch))) (λ other. each_count other c agree low absent)

module _ (counts : Counts) (number : ℕ) (batch : Batch) (rows : List ImportRow) (t : Tables) where
  -- a batch that is there
  pub is_repeated : (old : Batch) (verdict : Result Planned Refused) → Some old ≡ batch_in t number → IsRepeated counts number batch old verdict → IsImported counts number batch rows t verdict
  is_repeated old (Ok planned) there r = λ agree now. record {
    accepted = ap (import_decided t now batch.kind number batch.digest rows) (sym there) ∙ r.0;
    counted = r.2 ∙ agree ∙ ap (λ (w : List Write). counts_of (write_all t w)) (sym r.1);
  }
  is_repeated old (Err refused) there r = λ agree now. ap (import_decided t now batch.kind number batch.digest rows) (sym there) ∙ r

  -- a batch that isn't
  new_batch : (now : ℕ) → None ≡ batch_in t number
      → import_decided t now batch.kind number batch.digest rows (batch_in t number) ≡ imported_as t batch.kind number batch.digest rows (rows_written t now 1 rows)
  new_batch now absent = ap (import_decided t now batch.kind number batch.digest rows) (sym absent)

  pub is_refused : (refused : Refused) → None ≡ batch_in t number → (counts ≡ counts_of t → AreRowsPut t rows (Err refused)) → IsImported counts number batch rows t (Err refused)
  is_refused refused absent broken = λ agree now. new_batch now absent ∙ ap (imported_as t batch.kind number batch.digest rows) (broken agree now)

  not_there : None ≡ batch_in t number → is_some (seen_at t (key.Batch number)) ≡ false
  not_there absent = absent_batch number (row_at t (key.Batch number)) (sym absent)

  -- the limit of batches is that of the tables before the rows
  batch_limit : (p : Progress) → None ≡ batch_in t number → Stands counts p → counts ≡ counts_of t → limit t (key.Batch number) Batches ≡ limit_rule p.counts Batches false
  batch_limit p absent stands agree =
      sym (limit_is (key.Batch number) Batches counts t false (sym (not_there absent)) agree)
      ∙ ap (λ (m : ℕ). when (nat_le (limit_of Batches) m) (rule.Limit Batches (limit_of Batches))) (sym stands.batches)

  imported : (now : ℕ) (p : Progress) → None ≡ batch_in t number → Stands counts p → counts ≡ counts_of t → AreRowsPut t rows (Ok p) → (limited : Option Rule) → limit_rule p.counts Batches false ≡ limited
      → import_decided t now batch.kind number batch.digest rows (batch_in t number)
      ≡ by_rule 0 (accepted (p.writes ++ Put (key.Batch number) (batch_row batch.kind batch.digest rows) ∷ []) (Rows (length rows))) limited
  imported now p absent stands agree put limited is =
      new_batch now absent
      ∙ ap (imported_as t batch.kind number batch.digest rows) (put.0 now)
      ∙ ap (by_rule 0 (accepted (p.writes ++ Put (key.Batch number) (batch_row batch.kind batch.digest rows) ∷ []) (Rows (length rows)))) (batch_limit p absent stands agree ∙ is)

  -- the row of the batch says how many rows there are
  same_row : batch.rows ≡ length rows → batch_row batch.kind batch.digest rows ≡ row.Batch batch
  same_row counted = ap (λ (m : ℕ). row.Batch (record { kind = batch.kind; digest = batch.digest; rows = m })) (sym counted)

  behind_counts : (p : Progress) (planned : Planned) → None ≡ batch_in t number → Stands counts p → p.counts ≡ counts_of (write_all t p.writes) → Finished number batch p planned
      → planned.counts ≡ counts_of (write_all t planned.writes)
  behind_counts p planned absent stands counted done =
      let u = write_all t p.writes in
      let gone : is_some (seen_at u (key.Batch number)) ≡ false =
      stands.shows t (key.Batch number) ∙ ap (λ b. b || is_some (seen_at t (key.Batch number))) (stands.no_batch number) ∙ not_there absent in
      let low : p.counts.batches < 100000 = below_most 100000 p.counts.batches (rule.Limit Batches 100000) done.within in
      done.counts
      ∙ batch_counts number batch u p.counts counted low gone
      ∙ ap counts_of (sym (writes_append t p.writes (Put (key.Batch number) (row.Batch batch) ∷ [])))
      ∙ ap (λ (w : List Write). counts_of (write_all t w)) (sym done.writes)

  pub is_imported : (p : Progress) (verdict : Result Planned Refused) → batch.rows ≡ length rows → None ≡ batch_in t number → Stands counts p → (counts ≡ counts_of t → AreRowsPut t rows (Ok p))
      → IsFinished number batch p verdict → IsImported counts number batch rows t verdict
  is_imported p (Ok planned) counted absent stands put done = λ agree now. record {
    accepted =
        imported now p absent stands agree (put agree) None done.within
        ∙ ap (λ (r : Row). Ok (accepted (p.writes ++ Put (key.Batch number) r ∷ []) (Rows (length rows)))) (same_row counted)
        ∙ ap (λ (w : List Write). Ok (accepted w (Rows (length rows)))) (sym done.writes)
        ∙ ap (λ (m : ℕ). Ok (accepted planned.writes (Rows m))) (sym counted)
        ∙ ap (λ (r : Reply). Ok (accepted planned.writes r)) (sym done.reply);
    counted = behind_counts p planned absent stands (put agree).1 done;
  }
  is_imported p (Err refused) counted absent stands put done = λ agree now.
      imported now p absent stands agree (put agree) (Some refused.rule) done.1
      ∙ ap (λ (m : ℕ). Err (refusal m refused.rule)) (sym done.0)

-- the same, as it is read from the keeper
module _ {a b c : KeeperSeen} (counts : Counts) (number : ℕ) (batch : Batch) (rows : List ImportRow) where
  pub imported_read : (found : Option Batch) (p : Progress) (put : Result Progress Refused) (verdict : Result Planned Refused) → batch.rows ≡ length rows → found ≡ None → put ≡ Ok p → Stands counts p
      → Reads (λ t. found ≡ batch_in t number) a b → Reads (λ t. counts ≡ counts_of t → AreRowsPut t rows put) b c → IsFinished number batch p verdict
      → Reads (λ t. IsImported counts number batch rows t verdict) a c
  imported_read found p put verdict counted none is stands read all done =
      reads_then read all (λ t says went. is_imported counts number batch rows t p verdict counted (sym none ∙ says) stands (λ agree. subst (AreRowsPut t rows) is (went agree)) done)

  pub finished_read : (found : Option Batch) (p : Progress) (put : Result Progress Refused) (result : Result (Result Planned Refused) KeepErr) → batch.rows ≡ length rows → found ≡ None → put ≡ Ok p
      → IfOk put (λ q. Stands counts q) → Reads (λ t. found ≡ batch_in t number) a b → Reads (λ t. counts ≡ counts_of t → AreRowsPut t rows put) b c
      → MatchResult result (λ verdict. IsFinished number batch p verdict) (λ err. err ≡ Memory) → Looks result a c (λ verdict t. IsImported counts number batch rows t verdict)
  finished_read found p put (Ok verdict) counted none is stands read all done =
      imported_read found p put verdict counted none is (subst (λ (r : Result Progress Refused). IfOk r (λ q. Stands counts q)) is stands) read all done
  finished_read found p put (Err err) counted none is stands read all done =
      subst (λ (e : KeepErr). NotDone e a c) (sym done) (reads_forgotten (reads_then read all (λ t one other. other)))

-- what a clerk is answered
pub import_answers : (counts : Counts) (users : UsersHeld) (now : ℕ) (c : Command) (number : ℕ) (batch : Batch) (rows : List ImportRow) (a b : KeeperSeen) (verdict : Result (Result Planned Refused) KeepErr) (result : Result Planned AccountErr)
    → c ≡ Import batch.kind number batch.digest rows → result ≡ import_answer verdict → Looks verdict a b (λ one t. IsImported counts number batch rows t one)
    → MatchResult result (λ planned. Reads (λ t. counts ≡ counts_of t → StandsFor users t → IsDecided counts now c planned t) a b) (λ err. NotDecided counts users now c err a b)
import_answers counts users now c number batch rows a b (Ok (Ok planned)) result means is read =
    rw is (reads_as read (λ t says agree used. subst (λ (v : Command). IsDecided counts now v planned t) (sym means) (says agree now)))
import_answers counts users now c number batch rows a b (Ok (Err refused)) result means is read =
    rw is (reads_as read (λ t says agree used. subst (λ (v : Command). decided t now v ≡ Err (refusal refused.row refused.rule)) (sym means) (says agree now)))
import_answers counts users now c number batch rows a b (Err keeper.Memory) result means is read = rw is read
import_answers counts users now c number batch rows a b (Err keeper.Failed) result means is read = rw is read

-- an import walks over no pools and leases
pub import_walks : (c : Command) (kind : ImportKind) (batch : ℕ) (digest : List ℕ) (rows : List ImportRow) (a b : KeeperSeen) → c ≡ Import kind batch digest rows → WalksWithin c a b
import_walks c kind batch digest rows a b is = subst (λ (d : Command). WalksWithin d a b) (sym is) (λ t told. tt)

-- the rows of a sound import are sound
pub sound_rows : (c : Command) (kind : ImportKind) (number : ℕ) (digest : List ℕ) (rows : List ImportRow) → c ≡ Import kind number digest rows → IsTrue (is_sound c) → list_all is_sound_row rows ≡ true
sound_rows c kind number digest rows means sound = rows_sound kind rows (and_parts (nat_le (length rows) 2000) (list_all (is_row_of kind) rows) (sym (ap is_sound means) ∙ sound)).1

-- whether a batch is the one that was done
pub is_same_one : (batch old : Batch) (kinds bodies : Bool) → kinds ≡ is_kind batch.kind old.kind → kinds ≡ true → bodies ≡ bytes_eq batch.digest old.digest → bodies ≡ is_same batch old
is_same_one batch old kinds bodies says is same =
    same ∙ sym (is_eq-slice_cmp batch.digest old.digest) ∙ sym (ap (λ b. b && eq_by_cmp (slice_cmp nat_cmp) batch.digest old.digest) (sym says ∙ is))
