-- From rules that are passed to what is written, and to the counts behind it.
use Rattle.std.proofs.Common.{◌≡◌, ℕ, ◌≤◌, ◌==◌, Bool, true, false, cond, None, is_none, not, ◌&&◌, option_map, Option, Some, List, ◌∷◌, length, refl, ap, ◌∙◌, arith}
use Rattle.std.specs.Prelude.{nat_le}
use Rattle.std.specs.Int.{is_in_range}
use Rattle.std.proofs.lemmas.Bool.{le-leb, eqb-false}
use Rattle.off_base.specs.Choices.{when}
use Rattle.off_base.specs.Tree.{Tree}
use Rattle.off_tree.specs.declared.tables.Kind.TheVariants as tree
use Rattle.off_tree.specs.Fault.{first_fault}
use Rattle.off_tree.specs.declared.paths.TreeFault.{TreeFault}
use Rattle.off_defs.specs.declared.keys.Key.TheVariants as key
use Rattle.off_defs.specs.declared.tables.Row.TheVariants as row
use Rattle.off_defs.specs.declared.tables.Class.{Class}
use Rattle.off_defs.specs.declared.tables.Pool.{Pool}
use Rattle.off_defs.specs.declared.tables.Site.{Site}
use Rattle.off_orders.specs.declared.rules.Rule.{Rule}
use Rattle.off_orders.specs.declared.rules.Rule.TheVariants as rule
use Rattle.off_defs.specs.declared.writes.Write.{Write}
use Rattle.off_defs.specs.declared.writes.Write.TheVariants.{Put, Drop}
use Rattle.off_defs.specs.State.{Tables}
use Rattle.off_defs.specs.Tables.{with_row, without, write_all}
use Rattle.off_orders.specs.Sound.{is_add_on_number, is_sound_pool}
use Rattle.off_account_rules.specs.Rows.{class_is_good, add_on_is_good, is_possible, is_offset, is_lease_time, has_pool_size, counts_of}
use Rattle.off_orders.specs.Clerk.{pool_hub_write}
use Rattle.off_order_laws.proofs.ClerkSteps.{not_when}
use Rattle.off_table_laws.proofs.CountLemmas.{counts_with_other, counts_without_other}

-- the row of a pool's hub isn't counted
pub hub_counts : (n hub : ℕ) (more : List Write) (t : Tables) → ((u : Tables) → counts_of (write_all u more) ≡ counts_of u) → counts_of (write_all t (pool_hub_write n hub ∷ more)) ≡ counts_of t
hub_counts n hub more t rest =
    elim (hub == 0) as (λ b. counts_of (write_all t (cond b (Drop (key.PoolHub n)) (Put (key.PoolHub n) (row.PoolHub hub)) ∷ more)) ≡ counts_of t) [
      | true ↦ rest (without t (key.PoolHub n)) ∙ counts_without_other (key.PoolHub n) t (λ kind. refl)
      | false ↦ rest (with_row t (key.PoolHub n) (row.PoolHub hub)) ∙ counts_with_other (key.PoolHub n) (row.PoolHub hub) t (λ kind. refl)
    ]

pub no_fault : (fault : Option TreeFault) → option_map rule.Tree fault ≡ None → fault ≡ None
no_fault None e = refl
no_fault (Some f) e = cc

-- settings whose rule isn't broken stand in a possible row
pub good_add_on : (n number : ℕ) (settings : List Tree) → is_add_on_number number ≡ true → option_map rule.Tree (first_fault tree.AddOn settings) ≡ None → is_possible (key.AddOn n number) (row.AddOn settings) ≡ true
unfolding add_on_is_good
good_add_on n number settings low good = ap (λ b. b && is_none (first_fault tree.AddOn settings)) low ∙ ap is_none (no_fault (first_fault tree.AddOn settings) good)

pub good_class : (n : ℕ) (class : Class) → option_map rule.Tree (first_fault tree.Class class.settings) ≡ None → is_possible (key.Class n) (row.Class class) ≡ true
unfolding class_is_good
good_class n class good = ap is_none (no_fault (first_fault tree.Class class.settings) good)

when_none : (b : Bool) (broken : Rule) → when (not b) broken ≡ None → b ≡ true
when_none true broken e = refl
when_none false broken e = cc

in_range : (n : ℕ) → n ≤ 64 → (n == 0) ≡ false → is_in_range 1 64 n ≡ true
in_range n fits some = ap (λ b. b && nat_le n 64) (le-leb 1 n (let not_none = eqb-false n 0 some in omega (arith, not_none))) ∙ le-leb n 64 fits

pub good_hub : (n : ℕ) (site : Site) → length site.secret ≤ 64 → when (site.server.0 == 0) (rule.Site 1) ≡ None → when (length site.secret == 0) (rule.Site 2) ≡ None
    → when (not (is_lease_time site.lease)) (rule.Site 3) ≡ None → when (not (is_offset site.offset)) (rule.Site 4) ≡ None → is_possible (key.Hub n) (row.Site site) ≡ true
good_hub n site fits server secret lease offset =
    ap (λ b. not b && (is_in_range 1 64 (length site.secret) && (is_offset site.offset && is_lease_time site.lease))) (not_when (site.server.0 == 0) (rule.Site 1) server)
    ∙ ap (λ b. b && (is_offset site.offset && is_lease_time site.lease)) (in_range (length site.secret) fits (not_when (length site.secret == 0) (rule.Site 2) secret))
    ∙ ap (λ b. b && is_lease_time site.lease) (when_none (is_offset site.offset) (rule.Site 4) offset)
    ∙ when_none (is_lease_time site.lease) (rule.Site 3) lease

pub good_pool : (n : ℕ) (pool : Pool) → is_sound_pool pool ≡ true → when (not (has_pool_size pool)) rule.PoolSize ≡ None → is_possible (key.Pool n) (row.Pool pool) ≡ true
good_pool n pool sound sized = ap (λ b. b && is_sound_pool pool) (when_none (has_pool_size pool) rule.PoolSize sized) ∙ sound

pub good_device_pool : (n : ℕ) (pool : Pool) → is_sound_pool pool ≡ true → when (not (has_pool_size pool)) rule.PoolSize ≡ None → is_possible (key.DevicePool n) (row.Pool pool) ≡ true
good_device_pool n pool sound sized = good_pool n pool sound sized
