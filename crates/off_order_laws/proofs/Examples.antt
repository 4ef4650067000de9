-- Why the law of steps speaks of a secret's length: the rules of a command don't, so with a longer secret, which no program can hold, the
-- tables would not be good.
use Rattle.std.proofs.Common.{◌≡◌, ℕ, true, ◌&&◌, leb, replicate, pos, [], ◌∷◌, Option, Some, None, is_none, refl, sym, ap, subst, ◌∙◌}
use Rattle.std.proofs.lemmas.List.{nil_from_length}
use Rattle.std.specs.List.{count_by}
use Rattle.std.specs.FinMap as map
use Rattle.off_base.specs.Choices.{when, first_there}
use Rattle.off_defs.specs.declared.keys.Key.{Key}
use Rattle.off_defs.specs.declared.keys.Key.TheVariants as key
use Rattle.off_defs.specs.declared.tables.Row.{Row}
use Rattle.off_defs.specs.declared.tables.Row.TheVariants as row
use Rattle.off_defs.specs.declared.tables.Site.{Site}
use Rattle.off_orders.specs.declared.orders.Command.{Command}
use Rattle.off_orders.specs.declared.orders.Command.TheVariants.{PutHub}
use Rattle.off_defs.specs.declared.kinds.Kind.TheVariants.{Hubs}
use Rattle.off_orders.specs.declared.orders.Reply.TheVariants.{Done}
use Rattle.off_orders.specs.declared.rules.Rule.{Rule}
use Rattle.off_orders.specs.declared.rules.Rule.TheVariants as rule
use Rattle.off_defs.specs.Keys.{key_cmp}
use Rattle.off_defs.specs.State.{Tables}
use Rattle.off_defs.specs.Tables.{row_at}
use Rattle.off_defs.proofs.TableLemmas.{row_with_here}
use Rattle.off_orders.specs.Sound.{is_sound}
use Rattle.off_account_rules.specs.Rows.{possible, is_counted, count_of}
use Rattle.off_account_rules.specs.Good.{Good}
use Rattle.off_orders.specs.Clerk.{limit, accepted, by_rule, rules_of, writes_of, stepped_by, clerk_step}

no_tables : Tables
no_tables = map.empty

long_secret : Site
long_secret = record { server = record { 0 = 1 }; secret = replicate 65 7; offset = pos 0; lease = 3600; log = record { 0 = 0 } }

none_there : (q : Key) → row_at no_tables q ≡ None
unfolding no_tables
none_there q = map.get-empty key_cmp q

not_both : (o : Option Row) (held : Row) → o ≡ None → o ≡ Some held → ⊥
not_both o held none some = cc

none_good : Good no_tables
none_good = record {
  opens = λ q held e. absurd (not_both (row_at no_tables q) held (none_there q) e);
  no_site = none_there key.Site;
}

no_entries : map.entries no_tables ≡ []
unfolding no_tables
no_entries = nil_from_length (map.entries map.empty) (sym (map.len-entries map.empty) ∙ map.len-empty key_cmp Row)

within_limit : limit no_tables (key.Hub 0) Hubs ≡ None
within_limit =
    ap (λ o. when (is_none (possible (key.Hub 0) o) && leb 64 (count_of Hubs no_tables)) (rule.Limit Hubs 64)) (none_there (key.Hub 0))
    ∙ ap (λ es. when (leb 64 (count_by (is_counted Hubs) es)) (rule.Limit Hubs 64)) no_entries

no_rule : first_there (rules_of no_tables 0 (PutHub 0 long_secret)) ≡ None
unfolding long_secret
no_rule = ap (λ (broken : Option Rule). first_there (broken ∷ [])) within_limit

pub not_for_all_lists : ((tables : Tables) (now : ℕ) (command : Command) → is_sound command ≡ true → Good tables → Good (clerk_step tables now command).tables) → ⊥
unfolding clerk_step long_secret
not_for_all_lists law =
    let left = law no_tables 0 (PutHub 0 long_secret) refl none_good in
    let kept = subst (λ broken. Good (stepped_by no_tables (by_rule 0 (accepted (writes_of no_tables (PutHub 0 long_secret)) Done) broken)).tables) no_rule left in
    let keeps = kept.opens (key.Hub 0) (row.Site long_secret) (row_with_here no_tables (key.Hub 0) (row.Site long_secret)) in
    cc
