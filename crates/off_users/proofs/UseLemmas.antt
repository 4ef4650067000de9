-- The counts that are kept are those of the tables' modems.
use Rattle.std.proofs.Common.{◌≡◌, ℕ, ◌+◌, ◌-◌, ◌≤◌, ◌==◌, Bool, cond, List, length, Option, Some, count_by, sym, ◌∙◌, arith}
use Rattle.std.specs.List.{IsDistinct}
use Rattle.std.specs.Map.{lookup, keys_of, values_of}
use Rattle.std.proofs.lemmas.List.Sums.{count_by-le-length}
use Rattle.std.proofs.lemmas.Map.Entries.{length-values_of}
use Rattle.std.specs.FinMap as map
use Rattle.off_base.specs.declared.macs.Mac.{Mac}
use Rattle.off_defs.specs.State.{Tables}
use Rattle.off_defs.specs.declared.tables.Modem.{Modem}
use Rattle.off_account_rules.specs.Rows.{modems}
use Rattle.off_users.specs.declared.named.Named.{Named}
use Rattle.off_base.specs.Macs.{is_same_mac}
use Rattle.off_users.specs.Users.{UsersHeld, StandsFor, AreCounted, named_by, named_of, named_in, tally, weighs, names_subscriber, names_class}
use Rattle.off_users.proofs.CountLemmas.{same_counts}
use Rattle.off_users.proofs.SeenLemmas.{mac_laws, distinct_named, named_seen, counted_named}

pub uses : (p : Named → Bool) (es : List (Mac × Named)) (held : UsersHeld) (t : Tables) → IsDistinct is_same_mac (keys_of es) → ((q : Mac) → lookup (is_same_mac q) es ≡ named_by q held) → StandsFor held t
    → count_by p (values_of es) ≡ count_by (λ (entry : Mac × Modem). p (named_of entry.1)) (modems t)
uses p es held t distinct is stands =
    same_counts mac_laws p es (named_in (map.entries t)) distinct (distinct_named t) (λ q. is q ∙ stands q ∙ sym (named_seen t q)) ∙ counted_named p t

-- counts stay those of what modems name where each stays
pub counted_still : (es fs : List (Mac × Named)) (ss cs ts ds : List (ℕ × ℕ)) → AreCounted es ss cs → ((p : Named → Bool) → count_by p (values_of fs) ≡ count_by p (values_of es))
    → ((n : ℕ) → tally ts n ≡ tally ss n) → ((n : ℕ) → tally ds n ≡ tally cs n) → AreCounted fs ts ds
counted_still es fs ss cs ts ds counted same subscribers classes = record {
  of_subscribers = λ n. subscribers n ∙ counted.of_subscribers n ∙ sym (same (names_subscriber n));
  of_classes = λ n. classes n ∙ counted.of_classes n ∙ sym (same (names_class n));
}

-- one more is named, and one that was named before isn't any more
pub counted_put : (es fs : List (Mac × Named)) (ss cs ts ds us vs : List (ℕ × ℕ)) (named : Named) (before : Option Named) → AreCounted es ss cs
    → ((p : Named → Bool) → count_by p (values_of fs) + weighs p before ≡ count_by p (values_of es) + weighs p (Some named))
    → ((n : ℕ) → tally ts n ≡ tally ss n + cond (named.subscriber == n) 1 0) → ((n : ℕ) → tally ds n ≡ tally cs n + cond (named.class == n) 1 0)
    → ((n : ℕ) → tally us n ≡ tally ts n - weighs (names_subscriber n) before) → ((n : ℕ) → tally vs n ≡ tally ds n - weighs (names_class n) before) → AreCounted fs us vs
counted_put es fs ss cs ts ds us vs named before counted named_more more more_classes less less_classes = record {
  of_subscribers = λ n. omega (arith, counted.of_subscribers n, named_more (names_subscriber n), more n, less n);
  of_classes = λ n. omega (arith, counted.of_classes n, named_more (names_class n), more_classes n, less_classes n);
}

pub counted_gone : (es fs : List (Mac × Named)) (ss cs us vs : List (ℕ × ℕ)) (before : Option Named) → AreCounted es ss cs
    → ((p : Named → Bool) → count_by p (values_of fs) + weighs p before ≡ count_by p (values_of es))
    → ((n : ℕ) → tally us n ≡ tally ss n - weighs (names_subscriber n) before) → ((n : ℕ) → tally vs n ≡ tally cs n - weighs (names_class n) before) → AreCounted fs us vs
counted_gone es fs ss cs us vs before counted gone less less_classes = record {
  of_subscribers = λ n. omega (arith, counted.of_subscribers n, gone (names_subscriber n), less n);
  of_classes = λ n. omega (arith, counted.of_classes n, gone (names_class n), less_classes n);
}

-- a number is counted no more often than there are modems
pub few_counted : (p : Named → Bool) (es : List (Mac × Named)) → count_by p (values_of es) ≤ length es
few_counted p es = omega (arith, count_by-le-length p (values_of es), length-values_of es)
