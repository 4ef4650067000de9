-- What modems name, by the marks of all rows.
use Rattle.std.proofs.Common.{◌≡◌, ℕ, zero, suc, ◌+◌, ◌-◌, ◌<◌, cond, List, [], ◌∷◌, drop, length, map, get_or, Option, Some, None, refl, sym, ap, ◌∙◌, arith}
use Rattle.std.specs.List.{filter_map, cons_option}
use Rattle.std.specs.Map.{lookup}
use Rattle.std.specs.FinMap as map_of
use Rattle.off_base.specs.declared.macs.Mac.{Mac}
use Rattle.off_defs.specs.declared.keys.Key.{Key}
use Rattle.off_defs.specs.declared.keys.Key.TheVariants as key
use Rattle.off_defs.specs.declared.tables.Row.{Row}
use Rattle.off_defs.specs.declared.tables.Row.TheVariants as row
use Rattle.off_defs.specs.State.{Tables}
use Rattle.off_users.specs.declared.named.Named.{Named}
use Rattle.off_base.specs.Macs.{is_same_mac}
use Rattle.off_users.specs.Users.{UsersHeld, StandsFor, named_by, named_entry, named_in}
use Rattle.off_users.proofs.SeenLemmas.{mac_laws, named_seen}
use Rattle.off_opening.specs.declared.marks.Mark.{Mark}
use Rattle.off_opening.specs.Marks.{tie_of, mark_of, marks_of, named_tied, named_mark, named_first}

-- what is noted of the marks from a place on
abbrev pub named_from : Mac → List Mark → Option Named
named_from q marks = lookup (is_same_mac q) (filter_map named_mark marks)

abbrev pub Noted : List Mark → ℕ → UsersHeld → Type 0
Noted marks passed users = (q : Mac) → named_by q users ≡ named_from q (drop (length marks - passed) marks)

tied : (k : Key) (r : Row) → named_tied k (tie_of r) ≡ named_entry (k, r)
tied (key.Modem m) (row.Site site) = refl
tied (key.Modem m) (row.Subscriber subscriber) = refl
tied (key.Modem m) (row.AddOn settings) = refl
tied (key.Modem m) (row.Modem modem) = refl
tied (key.Modem m) (row.Class class) = refl
tied (key.Modem m) (row.Pool pool) = refl
tied (key.Modem m) (row.Lease lease) = refl
tied (key.Modem m) (row.Held address) = refl
tied (key.Modem m) (row.Batch batch) = refl
tied (key.Modem m) (row.PoolHub hub) = refl
tied (key.Modem m) (row.Device lease) = refl
tied _ r = refl

all_tied : (es : List (Key × Row)) → filter_map named_mark (map mark_of es) ≡ named_in es
all_tied [] = refl
all_tied (e ∷ es) =
    ap (λ (v : Option (Mac × Named)). cons_option v (filter_map named_mark (map mark_of es))) (tied e.0 e.1)
    ∙ ap (λ (v : List (Mac × Named)). cons_option (named_entry e) v) (all_tied es)

all_dropped : (marks : List Mark) → drop (length marks) marks ≡ []
all_dropped [] = refl
all_dropped (m ∷ marks) = all_dropped marks

pub none_noted : (marks : List Mark) (users : UsersHeld) → users.modems ≡ [] → Noted marks 0 users
none_noted marks users none q =
    ap (λ (l : List (Mac × Named)). lookup (is_same_mac q) l) none
    ∙ sym (ap (λ n. named_from q (drop n marks)) (all (length marks)) ∙ ap (named_from q) (all_dropped marks))
  where
    all : (n : ℕ) → n - 0 ≡ n
    all n = omega arith

first_named : (q : Mac) (mark : Mark) (o : Option (Mac × Named)) (marks : List Mark) → lookup (is_same_mac q) (cons_option o (filter_map named_mark marks)) ≡ named_first o q (named_from q marks)
first_named q mark None marks = refl
first_named q mark (Some e) marks = ap (λ b. cond b (Some e.1) (named_from q marks)) (mac_laws.symm q e.0)

dropped : (marks : List Mark) (i : ℕ) (d : Mark) → i < length marks → drop i marks ≡ get_or marks i d ∷ drop (suc i) marks
dropped [] i d h = absurd (omega (arith, h))
dropped (m ∷ marks) zero d h = refl
dropped (m ∷ marks) (suc i) d h = dropped marks i d (omega (arith, h))

pub one_noted : (marks : List Mark) (passed : ℕ) (default mark : Mark) (old new : UsersHeld) → passed < length marks → mark ≡ get_or marks (length marks - 1 - passed) default → Noted marks passed old
    → ((q : Mac) → named_by q new ≡ named_first (named_mark mark) q (named_by q old)) → Noted marks (passed + 1) new
one_noted marks passed default mark old new few is so_far one q =
    let place = length marks - 1 - passed in
    let here : length marks - (passed + 1) ≡ place = omega arith in
    let next : length marks - passed ≡ suc place = omega (arith, few) in
    let left : drop place marks ≡ mark ∷ drop (suc place) marks =
    dropped marks place default (omega (arith, few)) ∙ ap (λ (m : Mark). m ∷ drop (suc place) marks) (sym is) in
    one q
    ∙ ap (named_first (named_mark mark) q) (so_far q ∙ ap (λ n. named_from q (drop n marks)) next)
    ∙ sym (ap (λ n. named_from q (drop n marks)) here ∙ ap (named_from q) left ∙ first_named q mark (named_mark mark) (drop (suc place) marks))

pub all_noted : (marks : List Mark) (users : UsersHeld) (t : Tables) → Noted marks (length marks) users → marks ≡ marks_of t → StandsFor users t
all_noted marks users t noted are q =
    noted q
    ∙ ap (λ n. named_from q (drop n marks)) (none (length marks))
    ∙ ap (named_from q) are
    ∙ ap (λ (l : List (Mac × Named)). lookup (is_same_mac q) l) (all_tied (map_of.entries t))
    ∙ named_seen t q
  where
    none : (n : ℕ) → n - n ≡ 0
    none n = omega arith
