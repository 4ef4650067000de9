-- What writes make of what modems name, one after another.
use Rattle.std.proofs.Common.{◌≡◌, ℕ, zero, suc, ◌+◌, Bool, true, false, cond, List, [], ◌∷◌, take, drop, Option, Some, None, option_map, refl, sym, ap, ◌∙◌, arith, add-one}
use Rattle.std.specs.List.{slice_get}
use Rattle.std.specs.Ordering.{eq_by_cmp}
use Rattle.off_base.specs.declared.macs.Mac.{Mac}
use Rattle.off_defs.specs.declared.keys.Key.TheVariants as key
use Rattle.off_defs.specs.declared.tables.Row.{Row}
use Rattle.off_defs.specs.declared.tables.Row.TheVariants as row
use Rattle.off_defs.specs.declared.writes.Write.{Write}
use Rattle.off_defs.specs.declared.writes.Write.TheVariants.{Put, Drop}
use Rattle.off_defs.specs.Keys.{key_cmp}
use Rattle.off_defs.specs.State.{Tables}
use Rattle.off_defs.specs.Tables.{row_at, written}
use Rattle.off_defs.proofs.TableLemmas.{row_with, row_without}
use Rattle.off_account_rules.specs.Rows.{modem_in}
use Rattle.off_users.specs.declared.named.Named.{Named}
use Rattle.off_base.specs.Macs.{is_same_mac}
use Rattle.off_users.specs.Users.{UsersHeld, StandsFor, named_by, named_of}
use Rattle.off_users.specs.Writes.{named_in_row, named_write, puts_modem, modem_puts}
use Rattle.off_users.proofs.SeenLemmas.{mac_laws, same_test, named_at}

-- what a modem names behind a write
abbrev pub named_after : Option (Mac × Option Named) → Mac → Option Named → Option Named
named_after None q was = was
named_after (Some w) q was = cond (is_same_mac w.0 q) w.1 was

put_names : (q : Mac) (held : Row) → named_at q (Some held) ≡ named_in_row held
put_names q (row.Modem modem) = refl
put_names q held = refl

at_key : (q m : Mac) (b : Bool) (o : Option Row) (named : Option Named) (was : Option Row) → named_at q o ≡ named → named_at q (cond b o was) ≡ cond b named (named_at q was)
at_key q m true o named was is = is
at_key q m false o named was is = refl

turned : (q m : Mac) → eq_by_cmp key_cmp (key.Modem q) (key.Modem m) ≡ is_same_mac m q
turned q m = same_test q m ∙ mac_laws.symm q m

pub named_written : (t : Tables) (w : Write) (q : Mac) → option_map named_of (modem_in (written t w) q) ≡ named_after (named_write w) q (option_map named_of (modem_in t q))
named_written t (Put (key.Modem m) held) q =
    ap (named_at q) (row_with t (key.Modem m) held (key.Modem q))
    ∙ at_key q m (eq_by_cmp key_cmp (key.Modem q) (key.Modem m)) (Some held) (named_in_row held) (row_at t (key.Modem q)) (put_names q held)
    ∙ ap (λ b. cond b (named_in_row held) (named_at q (row_at t (key.Modem q)))) (turned q m)
named_written t (Drop (key.Modem m)) q =
    ap (named_at q) (row_without t (key.Modem m) (key.Modem q))
    ∙ at_key q m (eq_by_cmp key_cmp (key.Modem q) (key.Modem m)) None None (row_at t (key.Modem q)) refl
    ∙ ap (λ b. cond b None (named_at q (row_at t (key.Modem q)))) (turned q m)
named_written t (Put key.Site held) q = ap (named_at q) (row_with t key.Site held (key.Modem q))
named_written t (Drop key.Site) q = ap (named_at q) (row_without t key.Site (key.Modem q))
named_written t (Put (key.Subscriber a) held) q = ap (named_at q) (row_with t (key.Subscriber a) held (key.Modem q))
named_written t (Drop (key.Subscriber a)) q = ap (named_at q) (row_without t (key.Subscriber a) (key.Modem q))
named_written t (Put (key.AddOn a i) held) q = ap (named_at q) (row_with t (key.AddOn a i) held (key.Modem q))
named_written t (Drop (key.AddOn a i)) q = ap (named_at q) (row_without t (key.AddOn a i) (key.Modem q))
named_written t (Put (key.Class a) held) q = ap (named_at q) (row_with t (key.Class a) held (key.Modem q))
named_written t (Drop (key.Class a)) q = ap (named_at q) (row_without t (key.Class a) (key.Modem q))
named_written t (Put (key.Pool a) held) q = ap (named_at q) (row_with t (key.Pool a) held (key.Modem q))
named_written t (Drop (key.Pool a)) q = ap (named_at q) (row_without t (key.Pool a) (key.Modem q))
named_written t (Put (key.Lease a) held) q = ap (named_at q) (row_with t (key.Lease a) held (key.Modem q))
named_written t (Drop (key.Lease a)) q = ap (named_at q) (row_without t (key.Lease a) (key.Modem q))
named_written t (Put (key.Held a) held) q = ap (named_at q) (row_with t (key.Held a) held (key.Modem q))
named_written t (Drop (key.Held a)) q = ap (named_at q) (row_without t (key.Held a) (key.Modem q))
named_written t (Put (key.Batch a) held) q = ap (named_at q) (row_with t (key.Batch a) held (key.Modem q))
named_written t (Drop (key.Batch a)) q = ap (named_at q) (row_without t (key.Batch a) (key.Modem q))
named_written t (Put (key.Hub a) held) q = ap (named_at q) (row_with t (key.Hub a) held (key.Modem q))
named_written t (Drop (key.Hub a)) q = ap (named_at q) (row_without t (key.Hub a) (key.Modem q))
named_written t (Put (key.PoolHub a) held) q = ap (named_at q) (row_with t (key.PoolHub a) held (key.Modem q))
named_written t (Drop (key.PoolHub a)) q = ap (named_at q) (row_without t (key.PoolHub a) (key.Modem q))
named_written t (Put (key.DevicePool a) held) q = ap (named_at q) (row_with t (key.DevicePool a) held (key.Modem q))
named_written t (Drop (key.DevicePool a)) q = ap (named_at q) (row_without t (key.DevicePool a) (key.Modem q))
named_written t (Put (key.Device a) held) q = ap (named_at q) (row_with t (key.Device a) held (key.Modem q))
named_written t (Drop (key.Device a)) q = ap (named_at q) (row_without t (key.Device a) (key.Modem q))

-- a write was taken: what is kept stands for the tables behind it
pub stands_written : (w : Write) (old new : UsersHeld) → ((q : Mac) → named_by q new ≡ named_after (named_write w) q (named_by q old))
    → (t : Tables) → StandsFor old t → StandsFor new (written t w)
stands_written w old new taken t stands q = taken q ∙ ap (named_after (named_write w) q) (stands q) ∙ sym (named_written t w q)

pub puts_left : (ws : List Write) (i : ℕ) (w : Write) → slice_get ws i ≡ Some w → modem_puts (drop i ws) ≡ puts_modem w + modem_puts (drop (i + 1) ws)
puts_left ws i w is = go ws i is ∙ ap (λ n. puts_modem w + modem_puts (drop n ws)) (sym (add-one i))
  where
    go : (xs : List Write) (k : ℕ) → slice_get xs k ≡ Some w → modem_puts (drop k xs) ≡ puts_modem w + modem_puts (drop (suc k) xs)
    go [] k e = cc
    go (x ∷ xs) zero e = let same : x ≡ w = cc in ap (λ (y : Write). puts_modem y + modem_puts xs) same
    go (x ∷ xs) (suc k) e = go xs k e

pub puts_more : (ws : List Write) (i : ℕ) (w : Write) → slice_get ws i ≡ Some w → modem_puts (take (i + 1) ws) ≡ modem_puts (take i ws) + puts_modem w
puts_more ws i w is = ap (λ n. modem_puts (take n ws)) (add-one i) ∙ go ws i is
  where
    go : (xs : List Write) (k : ℕ) → slice_get xs k ≡ Some w → modem_puts (take (suc k) xs) ≡ modem_puts (take k xs) + puts_modem w
    go [] k e = cc
    go (x ∷ xs) zero e = let same : x ≡ w = cc in let put = ap puts_modem same in omega (arith, put)
    go (x ∷ xs) (suc k) e = let rest = go xs k e in omega (arith, rest)
