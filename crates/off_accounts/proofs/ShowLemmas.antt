-- What a clerk is shown, by the key: a pool with its hub, or any other row.
use Rattle.std.proofs.Common.{◌≡◌, ℕ, false, Option, Some, None, Ok, Err, IfSome, List, [], option_map, refl, sym, ap, subst, ◌∙◌}
use Rattle.std.specs.Prelude.{IsTrue, option_and_then}
use Rattle.off_defs.specs.declared.keys.Key.{Key}
use Rattle.off_defs.specs.declared.keys.Key.TheVariants as key
use Rattle.off_defs.specs.declared.tables.Row.{Row}
use Rattle.off_defs.specs.declared.tables.Row.TheVariants as row
use Rattle.off_defs.specs.declared.tables.Pool.{Pool}
use Rattle.off_orders.specs.declared.shown.ShownRow.{ShownRow}
use Rattle.off_orders.specs.declared.rules.Rule.TheVariants as rule
use Rattle.off_defs.specs.declared.writes.Write.{Write}
use Rattle.off_orders.specs.declared.orders.Reply.{Reply}
use Rattle.off_orders.specs.declared.orders.Reply.TheVariants.{Shown, ShownPool}
use Rattle.off_orders.specs.declared.orders.Command.TheVariants.{Show}
use Rattle.off_orders.specs.Shown.{shown_row}
use Rattle.off_defs.specs.State.{Tables}
use Rattle.off_defs.specs.Tables.{write_all}
use Rattle.off_account_rules.specs.declared.counts.Counts.{Counts}
use Rattle.off_account_rules.specs.Rows.{seen_at, as_pool, pool_in, pool_hub_in, is_possible, counts_of}
use Rattle.off_orders.specs.Clerk.{shown, shown_as, accepted}
use Rattle.off_users.specs.Users.{UsersHeld}
use Rattle.off_accounts.specs.Deciding.{IsRuling, ShowsRow, ShowsAt}
use Rattle.off_accounts.specs.declared.whose.Whose.TheVariants.{Modems as OfModems}
use Rattle.off_accounts.specs.Searches.{pool_number}
use Rattle.off_accounts.specs.Walking.{is_of_pool}

-- ---- which of both it is

pub is_pool : (k : Key) (n : ℕ) → Some n ≡ pool_number OfModems k → key.Pool n ≡ k
is_pool (key.Pool m) n is = cc
is_pool _ n is = cc

pub is_other : (k : Key) → None ≡ pool_number OfModems k → is_of_pool k ≡ false
is_other (key.Pool m) is = cc
is_other _ is = refl

-- ---- what is decided

module _ (n : ℕ) (hub : ℕ) where
  abbrev with_hub : Option Pool → Option Reply
  with_hub held = option_map (λ (pool : Pool). ShownPool n pool hub) held

  held_pool : (held : Option Row) → option_and_then (λ (r : Row). with_hub (as_pool r)) held ≡ with_hub (option_and_then as_pool held)
  held_pool None = refl
  held_pool (Some r) = refl

abbrev own_row : Key → Option ShownRow → Option Reply
own_row k seen = option_map (λ (r : ShownRow). Shown k r) seen

row_of_other : (t : Tables) (k : Key) (r : Row) → is_of_pool k ≡ false → shown_as t k r ≡ own_row k (shown_row r)
row_of_other t (key.Pool m) r other = cc
row_of_other t _ r other = refl

held_other : (t : Tables) (k : Key) (held : Option Row) → is_of_pool k ≡ false → option_and_then (shown_as t k) held ≡ own_row k (option_and_then shown_row held)
held_other t k None other = refl
held_other t k (Some r) other = row_of_other t k r other

module _ (counts : Counts) (users : UsersHeld) (now : ℕ) (t : Tables) where
  -- nothing is written, and the reply is the one that is decided
  replied : (k : Key) (writes : List Write) (reply : Reply) → writes ≡ [] → option_and_then (shown_as t k) (seen_at t k) ≡ Some reply
      → IsRuling counts users now (Show k) t (Ok (record { writes = writes; reply = reply; counts = counts }))
  replied k writes reply none is agree used = record {
    accepted = ap shown is ∙ ap (λ (w : List Write). Ok (accepted w reply)) (sym none);
    counted = agree ∙ ap (λ (w : List Write). counts_of (write_all t w)) (sym none);
  }

  hidden : (k : Key) → option_and_then (shown_as t k) (seen_at t k) ≡ None → IsRuling counts users now (Show k) t (Err rule.NoRow)
  hidden k is agree used = ap shown is

  pub pool_shown : (n : ℕ) (pool : Pool) (hub : ℕ) (writes : List Write) → writes ≡ [] → Some pool ≡ pool_in t n → hub ≡ pool_hub_in t n
      → IsRuling counts users now (Show (key.Pool n)) t (Ok (record { writes = writes; reply = ShownPool n pool hub; counts = counts }))
  pool_shown n pool hub writes none is named =
      replied (key.Pool n) writes (ShownPool n pool hub) none
      (held_pool n (pool_hub_in t n) (seen_at t (key.Pool n)) ∙ ap (with_hub n (pool_hub_in t n)) (sym is) ∙ ap (λ (h : ℕ). Some (ShownPool n pool h)) (sym named))

  pub pool_hidden : (n : ℕ) → None ≡ pool_in t n → IsRuling counts users now (Show (key.Pool n)) t (Err rule.NoRow)
  pool_hidden n is = hidden (key.Pool n) (held_pool n (pool_hub_in t n) (seen_at t (key.Pool n)) ∙ ap (with_hub n (pool_hub_in t n)) (sym is))

  pub other_shown : (k : Key) (held : Row) (seen : ShownRow) (writes : List Write) → is_of_pool k ≡ false → writes ≡ [] → Some held ≡ seen_at t k → Some seen ≡ shown_row held
      → IsRuling counts users now (Show k) t (Ok (record { writes = writes; reply = Shown k seen; counts = counts }))
  other_shown k held seen writes other none is may =
      replied k writes (Shown k seen) none (ap (option_and_then (shown_as t k)) (sym is) ∙ row_of_other t k held other ∙ ap (own_row k) (sym may))

  pub other_own : (k : Key) (held : Row) → is_of_pool k ≡ false → Some held ≡ seen_at t k → None ≡ shown_row held → IsRuling counts users now (Show k) t (Err rule.NoRow)
  other_own k held other is may = hidden k (ap (option_and_then (shown_as t k)) (sym is) ∙ row_of_other t k held other ∙ ap (own_row k) (sym may))

  pub other_hidden : (k : Key) → None ≡ seen_at t k → IsRuling counts users now (Show k) t (Err rule.NoRow)
  other_hidden k is = hidden k (ap (option_and_then (shown_as t k)) (sym is))

-- ---- what is answered

pub pool_fits : (n : ℕ) (held : Option Row) (pool : Pool) → Some pool ≡ option_and_then as_pool held → IfSome held (λ r. IsTrue (is_possible (key.Pool n) r)) → IsTrue (is_possible (key.Pool n) (row.Pool pool))
pool_fits n None pool is fits = cc
pool_fits n (Some (row.Pool other)) pool is fits = let same : other ≡ pool = cc in subst (λ (p : Pool). IsTrue (is_possible (key.Pool n) (row.Pool p))) same fits
pool_fits n (Some _) pool is fits = cc

pub row_shows : (k : Key) (reply : Reply) → is_of_pool k ≡ false → ShowsRow k reply → ShowsAt k reply
row_shows (key.Pool n) reply other shows = cc
row_shows _ reply other shows = shows
