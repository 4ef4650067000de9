-- What is decided by a part of the rules or of the rows is what is decided by all.
use Rattle.std.proofs.Common.{◌≡◌, ℕ, Bool, true, false, cond, ◌||◌, [], ◌∷◌, Option, Some, None, is_some, not, option_and_then, refl, sym, ap, ◌∙◌, subst, arith}
use Rattle.std.proofs.lemmas.Bool.{or_parts}
use Rattle.off_base.specs.declared.addresses.Ip4.{Ip4}
use Rattle.off_defs.specs.declared.tables.Lease.{Lease}
use Rattle.off_defs.specs.State.{Tables}
use Rattle.off_dhcp.specs.Datagram.{Received}
use Rattle.off_account_rules.specs.Rows.{lease_in, held_in}
use Rattle.off_outside.specs.KeeperSeen.{KeeperSeen}
use Rattle.off_outside.specs.KeeperCalls.{Spent}
use Rattle.off_outside.proofs.KeeperLemmas.{spent_none, spent_then, spent_within}
use Rattle.off_asking.specs.Asking.{client, asks, is_discover, is_request, is_decline}
use Rattle.off_lease_rules.specs.Free.{case_of, chosen_in, pool_for, site_for}
use Rattle.off_asking.specs.Claims.{refused_by, is_served, has_no_form}
use Rattle.off_asking.proofs.ClaimLemmas.{refused_none, refused_some, refused_passes}
use Rattle.off_lease_rules.specs.Rules.{early, late, rules_for, has_cut_part, relays_another, is_no_modem}
use Rattle.off_lease_rules.specs.Steps.{lease_step_by, lease_step_for, lease_step_in, lease_step, accepts, offers, acknowledges, declines, releases, refuses, unless_refused, reply_to_refused}
use Rattle.off_lease_rules.specs.declared.cases.Case.{Case}
use Rattle.off_lease_rules.specs.declared.results.LeaseStep.{LeaseStep}
use Rattle.off_lease_rules.specs.declared.words.DhcpWord.{DhcpWord}
use Rattle.off_lease_rules.specs.declared.words.DhcpWord.TheVariants as word
use Rattle.off_lease.specs.Calls.{message_calls, row_calls}
use Rattle.off_lease.specs.Stages.{own_rules, row_rules, knowing, seen_case}

-- the table of the code is that of the rules, where its conditions are
pub own_five : (m : Received) (a b c d e : Bool) → a ≡ not (is_served m) → b ≡ has_no_form m → c ≡ has_cut_part m → d ≡ relays_another m → e ≡ is_no_modem m
    → refused_by ((word.NotServed, a) ∷ (word.RequestForm, b) ∷ (word.PartCut, c) ∷ (word.RelayMismatch, d) ∷ (word.NotAModem, e) ∷ []) ≡ refused_by (own_rules m)
own_five m a b c d e p q r s t = rw (p, q, r, s, t) refl

-- who is refused by what it says itself gets no reply
abbrev silent : DhcpWord → Bool
silent word.NotYourAddress = false
silent w = true

silent_reply : (m : Received) (c : Case) (w : DhcpWord) → silent w ≡ true → reply_to_refused m c w ≡ None
silent_reply m c word.NotYourAddress is = cc
silent_reply m c w is = refl

own_refuses : (m : Received) (c : Case) (w : DhcpWord) → refused_by (own_rules m) ≡ Some w → lease_step_by w [] None ≡ refuses m c w
own_refuses m c w broken = ap (λ reply. record { writes = []; reply = reply; word = w }) (sym (silent_reply m c w (refused_passes silent (own_rules m) w refl broken)))

-- who is refused gets a reply by the site alone
reply_same : (m : Received) (c : Case) (w : DhcpWord) → reply_to_refused m (knowing c.site) w ≡ reply_to_refused m c w
reply_same m c word.NotYourAddress = refl
reply_same m c w = refl

pub refuses_same : (m : Received) (c : Case) (w : DhcpWord) → refuses m (knowing c.site) w ≡ refuses m c w
refuses_same m c w = ap (λ reply. record { writes = []; reply = reply; word = w }) (reply_same m c w)

-- ---- early rules

pub early_passed : (m : Received) (c : Case) → refused_by (own_rules m) ≡ None → refused_by (row_rules m c) ≡ None → refused_by (early m c) ≡ None
early_passed m c own rows = refused_none (own_rules m) (row_rules m c) own ∙ rows

early_broken : (m : Received) (c : Case) (w : DhcpWord) → refused_by (own_rules m) ≡ None → refused_by (row_rules m c) ≡ Some w → refused_by (early m c) ≡ Some w
early_broken m c w own rows = refused_none (own_rules m) (row_rules m c) own ∙ rows

settled_early : (now : ℕ) (m : Received) (c : Case) (chosen : Option Ip4) (lease : Option Lease) (w : DhcpWord) → refused_by (early m c) ≡ Some w
    → lease_step_for now m c chosen lease ≡ refuses m c w
unfolding lease_step_for
settled_early now m c chosen lease w broken =
    ap (unless_refused m c (accepts now m c chosen lease)) (refused_some (early m c) (late m c chosen) w broken)

settled_late : (now : ℕ) (m : Received) (c : Case) (chosen : Option Ip4) (lease : Option Lease) → refused_by (early m c) ≡ None
    → lease_step_for now m c chosen lease ≡ unless_refused m c (accepts now m c chosen lease) (refused_by (late m c chosen))
unfolding lease_step_for
settled_late now m c chosen lease passed =
    ap (unless_refused m c (accepts now m c chosen lease)) (refused_none (early m c) (late m c chosen) passed)

pub late_refuses : (now : ℕ) (m : Received) (c : Case) (chosen : Option Ip4) (lease : Option Lease) (w : DhcpWord) → refused_by (early m c) ≡ None
    → refused_by (late m c chosen) ≡ Some w → refuses m (knowing c.site) w ≡ lease_step_for now m c chosen lease
late_refuses now m c chosen lease w passed broken =
    refuses_same m c w ∙ sym (settled_late now m c chosen lease passed ∙ ap (unless_refused m c (accepts now m c chosen lease)) broken)

pub late_accepts : (now : ℕ) (m : Received) (c : Case) (chosen : Option Ip4) (lease : Option Lease) → refused_by (early m c) ≡ None
    → refused_by (late m c chosen) ≡ None → accepts now m c chosen lease ≡ lease_step_for now m c chosen lease
late_accepts now m c chosen lease passed none =
    sym (settled_late now m c chosen lease passed ∙ ap (unless_refused m c (accepts now m c chosen lease)) none)

-- ---- rows that don't matter

-- the lease matters to a DISCOVER alone
accepts_same : (now : ℕ) (m : Received) (c : Case) (chosen : Option Ip4) (lease other : Option Lease) → (is_discover m ≡ true → lease ≡ other)
    → accepts now m c chosen lease ≡ accepts now m c chosen other
accepts_same now m c chosen lease other same =
    let rest = cond (is_request m) (acknowledges now m c chosen) (cond (is_decline m) (declines now m chosen) (releases m chosen)) in
    elim (is_discover m) as (λ b. (b ≡ true → lease ≡ other) → cond b (offers now m c chosen lease) rest ≡ cond b (offers now m c chosen other) rest) [
      | true ↦ λ s. ap (offers now m c chosen) (s refl)
      | false ↦ λ s. refl
    ] same

pub lease_matters : (now : ℕ) (m : Received) (c : Case) (chosen : Option Ip4) (lease other : Option Lease) → (is_discover m ≡ true → lease ≡ other)
    → lease_step_for now m c chosen lease ≡ lease_step_for now m c chosen other
unfolding lease_step_for
lease_matters now m c chosen lease other same = ap (λ s. unless_refused m c s (refused_by (rules_for m c chosen))) (accepts_same now m c chosen lease other same)

-- the rows that are read for a message are enough
abbrev bare : Case → Case
bare c = record { site = c.site; pool = None; modem = None; held = c.held }

abbrev seen_by : Tables → Received → Bool → Case
seen_by t m asking = cond asking (case_of t m) (record { site = site_for t m; pool = None; modem = None; held = held_in t (client m) })

bare_enough : (t : Tables) (now : ℕ) (m : Received) (c : Case) → asks m ≡ false → lease_step_in t now m (bare c) (chosen_in t now m (bare c)) ≡ lease_step_in t now m c (chosen_in t now m c)
unfolding lease_step_for
bare_enough t now m c none =
    let both = or_parts (is_discover m) (is_request m) none in
    let d : is_discover m ≡ false = both.0 in
    let r : is_request m ≡ false = both.1 in
    rw (d, r) refl

unseen : (t : Tables) (now : ℕ) (m : Received) → asks m ≡ false
    → lease_step_in t now m (seen_by t m false) (chosen_in t now m (seen_by t m false)) ≡ lease_step_in t now m (case_of t m) (chosen_in t now m (case_of t m))
unfolding case_of
unseen t now m none = bare_enough t now m (case_of t m) none

pub seen_enough : (t : Tables) (now : ℕ) (m : Received) → lease_step_in t now m (seen_case t m) (chosen_in t now m (seen_case t m)) ≡ lease_step t now m
unfolding lease_step
seen_enough t now m =
    elim (asks m) as (λ b. asks m ≡ b → lease_step_in t now m (seen_by t m b) (chosen_in t now m (seen_by t m b)) ≡ lease_step_in t now m (case_of t m) (chosen_in t now m (case_of t m))) [
      | true ↦ λ e. refl
      | false ↦ λ e. unseen t now m e
    ] refl

-- the case of a message that asks has its pool
pub asked_pool : (t : Tables) (m : Received) (c : Case) → c ≡ seen_case t m → is_discover m ≡ true → c.pool ≡ pool_for t m
unfolding case_of
asked_pool t m c seen d =
    ap (λ (v : Case). v.pool) seen ∙ ap (λ b. (cond (b || is_request m) (case_of t m) (record { site = site_for t m; pool = None; modem = None; held = held_in t (client m) })).pool) d

-- ---- what is answered at each stage is what a message does

abbrev in_full : Tables → ℕ → Received → Case → LeaseStep
in_full t now m c = lease_step_in t now m c (chosen_in t now m c)

pub own_step : (t : Tables) (now : ℕ) (m : Received) (w : DhcpWord) → Some w ≡ refused_by (own_rules m) → lease_step_by w [] None ≡ lease_step t now m
unfolding lease_step
own_step t now m w broken =
    own_refuses m (case_of t m) w (sym broken)
    ∙ sym (settled_early now m (case_of t m) _ _ w (refused_some (own_rules m) (row_rules m (case_of t m)) w (sym broken)))

pub rows_refuse : (t : Tables) (now : ℕ) (m : Received) (c : Case) (w : DhcpWord) → c ≡ seen_case t m → refused_by (own_rules m) ≡ None → Some w ≡ refused_by (row_rules m c)
    → refuses m (knowing c.site) w ≡ lease_step t now m
rows_refuse t now m c w seen passed broken =
    refuses_same m c w
    ∙ sym (settled_early now m c (chosen_in t now m c) (option_and_then (lease_in t) (chosen_in t now m c)) w (early_broken m c w passed (sym broken)))
    ∙ ap (in_full t now m) seen
    ∙ seen_enough t now m

pub rows_accept : (t : Tables) (now : ℕ) (m : Received) (c : Case) (step : LeaseStep) → c ≡ seen_case t m → step ≡ lease_step_in t now m c (chosen_in t now m c)
    → step ≡ lease_step t now m
rows_accept t now m c step seen is = is ∙ ap (in_full t now m) seen ∙ seen_enough t now m

pub case_answered : (t : Tables) (now : ℕ) (m : Received) (c : Case) (chosen : Option Ip4) (lease : Option Lease) → chosen ≡ chosen_in t now m c
    → (is_discover m ≡ true → lease ≡ option_and_then (lease_in t) chosen) → lease_step_for now m c chosen lease ≡ lease_step_in t now m c (chosen_in t now m c)
case_answered t now m c chosen lease chose leased =
    lease_matters now m c chosen lease (option_and_then (lease_in t) chosen) leased ∙ ap (lease_step_in t now m c) chose

-- ---- calls

pub none_are_enough : (m : Received) (w : DhcpWord) (a : KeeperSeen) → Some w ≡ refused_by (own_rules m) → Spent (message_calls m) a a
none_are_enough m w a broken = subst (λ (r : Option DhcpWord). Spent (cond (is_some r) 0 (row_calls m)) a a) broken (spent_none a)

pub rows_are_enough : (m : Received) {a b : KeeperSeen} → refused_by (own_rules m) ≡ None → Spent (row_calls m) a b → Spent (message_calls m) a b
rows_are_enough m {a} {b} passed spent = subst (λ (r : Option DhcpWord). Spent (cond (is_some r) 0 (row_calls m)) a b) (sym passed) spent

-- what is gathered for a message, and what is read for an offer
pub gathered_enough : (m : Received) {a b : KeeperSeen} → Spent (cond (asks m) 3 2) a b → Spent (row_calls m) a b
gathered_enough m {a} {b} spent =
    elim (is_discover m) as (λ x. is_discover m ≡ x → Spent (cond x 4 (cond (asks m) 3 2)) a b) [
      | true ↦ λ e. spent_within (subst (λ y. Spent (cond (y || is_request m) 3 2) a b) e spent) (omega arith)
      | false ↦ λ e. spent
    ] refl

pub both_enough : (m : Received) {a b c : KeeperSeen} → Spent (cond (asks m) 3 2) a b → Spent (cond (is_discover m) 1 0) b c → Spent (row_calls m) a c
both_enough m {a} {b} {c} first second =
    elim (is_discover m) as (λ x. is_discover m ≡ x → Spent (cond x 4 (cond (asks m) 3 2)) a c) [
      | true ↦ λ e. spent_then (subst (λ y. Spent (cond (y || is_request m) 3 2) a b) e first) (subst (λ y. Spent (cond y 1 0) b c) e second)
      | false ↦ λ e. spent_within (spent_then first (subst (λ y. Spent (cond y 1 0) b c) e second)) (omega arith)
    ] refl

-- once the early rules are passed, the late ones say what becomes of a message
pub ruleset late_ways = (late_refuses, late_accepts)
