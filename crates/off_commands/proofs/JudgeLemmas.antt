-- From the rules of a row, as they were tested, to what becomes of it.
use Rattle.std.proofs.Common.{◌≡◌, ℕ, Bool, true, Option, Some, None, is_some, Result, Ok, Err, [], ◌∷◌, refl, sym, ap, subst, ◌∙◌}
use Rattle.off_base.specs.Choices.{first_there}
use Rattle.off_base.specs.declared.macs.Mac.{Mac}
use Rattle.off_defs.specs.declared.keys.Key.{Key}
use Rattle.off_defs.specs.declared.keys.Key.TheVariants as key
use Rattle.off_defs.specs.declared.tables.Row.{Row}
use Rattle.off_defs.specs.declared.tables.Row.TheVariants as row
use Rattle.off_defs.specs.declared.tables.Subscriber.{Subscriber}
use Rattle.off_defs.specs.declared.tables.Modem.{Modem}
use Rattle.off_orders.specs.declared.orders.ImportRow.TheVariants as imported
use Rattle.off_defs.specs.declared.kinds.Kind.{Kind}
use Rattle.off_defs.specs.declared.kinds.Kind.TheVariants.{Subscribers, Modems}
use Rattle.off_orders.specs.declared.rules.Rule.{Rule}
use Rattle.off_defs.specs.State.{Tables}
use Rattle.off_defs.specs.Tables.{with_row, write_all}
use Rattle.off_account_rules.specs.declared.counts.Counts.{Counts}
use Rattle.off_account_rules.specs.Rows.{seen_at, is_possible, is_of_kind, counts_of, subscriber_fits}
use Rattle.off_orders.specs.Clerk.{limit, no_subscriber, no_class, row_breaks}
use Rattle.off_accounts.specs.Changes.{counts_put}
use Rattle.off_accounts.proofs.CountsLemmas.{kept, counts_with}
use Rattle.off_accounts.proofs.LimitLemmas.{limit_is}
use Rattle.off_accounts.proofs.PresentLemmas.{subscriber_is, class_is}
use Rattle.off_orders.specs.declared.orders.ImportRow.{ImportRow}
use Rattle.off_outside.specs.KeeperSeen.{KeeperSeen}
use Rattle.off_outside.specs.KeeperCalls.{Reads}
use Rattle.off_outside.proofs.KeeperLemmas.{reads_then, reads_as}
use Rattle.off_commands.specs.declared.progress.Progress.{Progress}
use Rattle.off_commands.specs.Imports.{is_sound_row, IsCounted, IsJudged}

-- what a count says over tables of which the counts are those
abbrev Says : Tables → Kind → Key → Row → Result Counts Rule → Type 0
Says u kind k held (Ok after) = (limit u k kind ≡ None) × (after ≡ counts_of (with_row u k held))
Says u kind k held (Err broken) = limit u k kind ≡ Some broken

counted : (u : Tables) (counts : Counts) (kind : Kind) (k : Key) (held : Row) (there : Bool) (verdict : Result Counts Rule) → ((n : ℕ) → kept kind n ≡ n) → is_of_kind kind k ≡ true → is_possible k held ≡ true
    → there ≡ is_some (seen_at u k) → counts ≡ counts_of u → IsCounted counts kind there verdict → Says u kind k held verdict
counted u counts kind k held there (Ok after) whole is fits says agree c = (
  sym (limit_is k kind counts u there says agree) ∙ c.0,
  c.1
      ∙ ap (λ (b : Bool). counts_put kind b counts) says
      ∙ ap (counts_put kind (is_some (seen_at u k))) agree
      ∙ sym (counts_with kind k held u whole is fits),
)
counted u counts kind k held there (Err broken) whole is fits says agree c = sym (limit_is k kind counts u there says agree) ∙ c

subscriber_says : (u : Tables) (n : ℕ) (subscriber : Subscriber) (verdict : Result Counts Rule) → Says u Subscribers (key.Subscriber n) (row.Subscriber subscriber) verdict
    → IsJudged u (imported.Subscriber n subscriber) verdict
subscriber_says u n subscriber (Ok after) says = (λ now. ap (λ (r : Option Rule). first_there (r ∷ [])) says.0, says.1)
subscriber_says u n subscriber (Err broken) says = λ now. ap (λ (r : Option Rule). first_there (r ∷ [])) says

pub subscriber_judged : (u : Tables) (counts : Counts) (n : ℕ) (subscriber : Subscriber) (there : Bool) (verdict : Result Counts Rule) → subscriber_fits subscriber ≡ true
    → there ≡ is_some (seen_at u (key.Subscriber n)) → counts ≡ counts_of u → IsCounted counts Subscribers there verdict → IsJudged u (imported.Subscriber n subscriber) verdict
subscriber_judged u counts n subscriber there verdict sound says agree c =
    subscriber_says u n subscriber verdict (counted u counts Subscribers (key.Subscriber n) (row.Subscriber subscriber) there verdict (λ m. refl) refl sound says agree c)

module _ (u : Tables) (mac : Mac) (modem : Modem) where
  -- the rules of a modem, as what each says
  modem_rules : (now : ℕ) (one two three : Option Rule) → one ≡ no_subscriber u modem.subscriber → two ≡ no_class u modem.class → limit u (key.Modem mac) Modems ≡ three
      → row_breaks u now (imported.Modem mac modem) ≡ first_there (one ∷ two ∷ three ∷ [])
  modem_rules now one two three a b c =
      ap (λ (r : Option Rule). first_there (r ∷ no_class u modem.class ∷ limit u (key.Modem mac) Modems ∷ [])) (sym a)
      ∙ ap (λ (r : Option Rule). first_there (one ∷ r ∷ limit u (key.Modem mac) Modems ∷ [])) (sym b)
      ∙ ap (λ (r : Option Rule). first_there (one ∷ two ∷ r ∷ [])) c

  has_one : true ≡ is_some (seen_at u (key.Subscriber modem.subscriber)) → None ≡ no_subscriber u modem.subscriber
  has_one says = subscriber_is modem.subscriber u true None says refl

  has_class : true ≡ is_some (seen_at u (key.Class modem.class)) → None ≡ no_class u modem.class
  has_class says = class_is modem.class u true None says refl

  modem_says : (verdict : Result Counts Rule) → true ≡ is_some (seen_at u (key.Subscriber modem.subscriber)) → true ≡ is_some (seen_at u (key.Class modem.class))
      → Says u Modems (key.Modem mac) (row.Modem modem) verdict → IsJudged u (imported.Modem mac modem) verdict
  modem_says (Ok after) one two says = (λ now. modem_rules now None None None (has_one one) (has_class two) says.0, says.1)
  modem_says (Err broken) one two says = λ now. modem_rules now None None (Some broken) (has_one one) (has_class two) says

  pub modem_judged : (counts : Counts) (there : Bool) (verdict : Result Counts Rule) → true ≡ is_some (seen_at u (key.Subscriber modem.subscriber)) → true ≡ is_some (seen_at u (key.Class modem.class))
      → there ≡ is_some (seen_at u (key.Modem mac)) → counts ≡ counts_of u → IsCounted counts Modems there verdict → IsJudged u (imported.Modem mac modem) verdict
  modem_judged counts there verdict one two says agree c =
      modem_says verdict one two (counted u counts Modems (key.Modem mac) (row.Modem modem) there verdict (λ m. refl) refl refl says agree c)

-- what was read of a key's row behind the rows so far
abbrev pub ReadsThere : Progress → Key → Bool → Tables → Type 0
ReadsThere p k there t = there ≡ is_some (seen_at (write_all t p.writes) k)

abbrev pub ReadsJudged : Progress → ImportRow → Result Counts Rule → Tables → Type 0
ReadsJudged p put verdict t = p.counts ≡ counts_of (write_all t p.writes) → IsJudged (write_all t p.writes) put verdict

pub subscriber_read : {a b : KeeperSeen} (p : Progress) (put : ImportRow) (n : ℕ) (subscriber : Subscriber) (there : Bool) (verdict : Result Counts Rule) → put ≡ imported.Subscriber n subscriber
    → is_sound_row put ≡ true → Reads (ReadsThere p (key.Subscriber n) there) a b → IsCounted p.counts Subscribers there verdict → Reads (ReadsJudged p put verdict) a b
subscriber_read p put n subscriber there verdict is sound read c =
    reads_as read (λ t says agree.
    subst (λ (v : ImportRow). IsJudged (write_all t p.writes) v verdict) (sym is)
    (subscriber_judged (write_all t p.writes) p.counts n subscriber there verdict (sym (ap is_sound_row is) ∙ sound) says agree c))

module _ (p : Progress) (mac : Mac) (modem : Modem) where
  pub modem_read : {a b c d : KeeperSeen} (one two there : Bool) (verdict : Result Counts Rule) → one ≡ true → two ≡ true → Reads (ReadsThere p (key.Subscriber modem.subscriber) one) a b
      → Reads (ReadsThere p (key.Class modem.class) two) b c → Reads (ReadsThere p (key.Modem mac) there) c d → IsCounted p.counts Modems there verdict
      → Reads (ReadsJudged p (imported.Modem mac modem) verdict) a d
  modem_read one two there verdict is is_too read other own c =
      reads_then
      (reads_then {R = λ t. ReadsThere p (key.Subscriber modem.subscriber) one t × ReadsThere p (key.Class modem.class) two t} read other (λ t says more. (says, more)))
      own
      (λ t both says agree. modem_judged (write_all t p.writes) mac modem p.counts there verdict (sym is ∙ both.0) (sym is_too ∙ both.1) says agree c)
