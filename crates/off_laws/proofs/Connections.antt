-- Which connections an event leaves live.
use Rattle.std.proofs.Common.{◌≡◌, ℕ, ◌+◌, ◌-◌, ◌≤◌, Bool, true, false, cond, ◌&&◌, List, nat_le, Option, Some, None, IsTrue, refl, sym, ap, ◌∙◌, subst, arith, count_by}
use Rattle.std.proofs.lemmas.Bool.Decides.{nat_tests}
use Rattle.std.specs.Prelude.{is_none, is_some}
use Rattle.std.specs.List.{list_any}
use Rattle.std.specs.Ordering.{nat_cmp}
use Rattle.std.specs.Cmp.{nat_cmp_total, eq_by_cmp_equiv}
use Rattle.std.specs.FinMap as map
use Rattle.off_defs.specs.declared.events.What.{What}
use Rattle.off_defs.specs.declared.events.What.TheVariants.{Piece}
use Rattle.off_defs.specs.declared.events.Event.{Event}
use Rattle.off_defs.specs.declared.results.Outcome.{Outcome}
use Rattle.off_defs.specs.declared.results.Outcome.TheVariants.{Did, Memory, Keeper}
use Rattle.off_defs.specs.State.{State, Effect, at_moment}
use Rattle.off_http.specs.Request.{Meaning, Waits, Refused, Asked}
use Rattle.off_book.specs.Http.{most_connections, by_meaning, is_full, TakesPiece}
use Rattle.off_book.specs.Step.{Step, Does}
use Rattle.off_laws.specs.Laws.{is_answer, ends_connection, AnsweredOnce}
use Rattle.off_laws.proofs.Ways.{Way, stays, serves, forgets, hears, answers, messages, devices, way}

-- few connections stay few
abbrev Connections : Type 0
Connections = map.FinMap nat_cmp (List ℕ)

fewer : (there : Bool) (n : ℕ) → n ≤ 8 → cond there (n - 1) n ≤ 8
fewer true n few = omega (arith, few)
fewer false n few = few

removed_few : (m : Connections) (conn : ℕ) → map.len m ≤ 8 → map.len (map.remove m conn) ≤ 8
removed_few m conn few = subst (λ (n : ℕ). n ≤ 8) (sym (map.len-remove nat_cmp_total m conn)) (fewer (is_some (map.get m conn)) (map.len m) few)

one_more : (found : Option (List ℕ)) (n : ℕ) → (is_none found && nat_le 8 n) ≡ false → n ≤ 8 → cond (is_some found) n (n + 1) ≤ 8
one_more (Some bytes) n room few = few
one_more None n room few = grind (arith, nat_tests)

inserted_few : (m : Connections) (conn : ℕ) (bytes : List ℕ) → is_full m conn ≡ false → map.len m ≤ 8 → map.len (map.insert m conn bytes) ≤ 8
inserted_few m conn bytes room few = subst (λ (n : ℕ). n ≤ 8) (sym (map.len-insert nat_cmp_total m conn bytes)) (one_more (map.get m conn) (map.len m) room few)

abbrev pub AreFew : State → Type 0
AreFew s = map.len s.held.connections ≤ most_connections

way_few : (s : State) (what : What) (outcome : Outcome) (effect : Effect) → Way s what outcome effect → AreFew s → AreFew effect.after
way_few s what outcome effect (stays is none) few = subst (λ (u : State). AreFew u) (sym is) few
way_few s what outcome effect (serves transfers is none) few = subst (λ (u : State). AreFew u) (sym is) few
way_few s what outcome effect (forgets conn is none) few = subst (λ (u : State). AreFew u) (sym is) (removed_few s.held.connections conn few)
way_few s what outcome effect (hears conn bytes room is none) few = subst (λ (u : State). AreFew u) (sym is) (inserted_few s.held.connections conn bytes room few)
way_few s what outcome effect (messages from bytes came acted is) few = subst (λ (e : Effect). AreFew e.after) (sym is) few
way_few s what outcome effect (devices from bytes m modem came acted read behind is) few = subst (λ (u : State). AreFew u) (ap (λ (e : Effect). e.after) (sym is)) few
way_few s what outcome effect (answers conn piece method target body came acted is) few =
    subst (λ (e : Effect). AreFew e.after) (sym is) (removed_few s.held.connections conn few)

pub step_few : (s : State) (event : Event) (outcome : Outcome) (effect : Effect) → Step s event outcome effect → AreFew s → AreFew effect.after
unfolding Step
step_few s event outcome effect p few = way_few (at_moment s event.at.0) event.what outcome effect (way _ event.what outcome effect p) few

-- a connection is answered once
abbrev Once : ℕ → Effect → Type 0
Once conn effect =
    (count_by is_answer effect.said.items ≤ 1) × (IsTrue (list_any ends_connection effect.said.items) → map.get effect.after.held.connections conn ≡ None)

gone : (m : Connections) (conn : ℕ) → map.get (map.remove m conn) conn ≡ None
gone m conn = map.get-remove nat_cmp_total m conn conn ∙ ap (λ (b : Bool). cond b None (map.get m conn)) ((eq_by_cmp_equiv nat_cmp_total).refl conn)

absent : (found : Option (List ℕ)) (many : Bool) → (is_none found && many) ≡ true → found ≡ None
absent None many full = refl
absent (Some bytes) many full = cc

meaning_once : (s : State) (conn : ℕ) (bytes : List ℕ) (meaning : Meaning) → Once conn (by_meaning s conn bytes meaning)
meaning_once s conn bytes Waits = (omega arith, λ ends. cc)
meaning_once s conn bytes (Refused f) = (omega arith, λ ends. gone s.held.connections conn)
meaning_once s conn bytes (Asked method target body) = (omega arith, λ ends. gone s.held.connections conn)

piece_once : (full : Bool) (s : State) (conn : ℕ) (piece : List ℕ) (effect : Effect) → is_full s.held.connections conn ≡ full → TakesPiece full s conn piece effect → Once conn effect
piece_once true s conn piece effect full takes =
    subst (λ (e : Effect). Once conn e) (sym takes) (omega arith, λ ends. absent (map.get s.held.connections conn) _ full)
piece_once false s conn piece effect room takes = subst (λ (e : Effect). Once conn e) (sym takes.does) (meaning_once s conn _ takes.meaning)

does_once : (s : State) (conn : ℕ) (piece : List ℕ) (outcome : Outcome) (effect : Effect) → Does s (Piece conn piece) outcome effect → Once conn effect
does_once s conn piece Did effect p = piece_once _ s conn piece effect refl p
does_once s conn piece Memory effect p = subst (λ (e : Effect). Once conn e) (sym p) (omega arith, λ ends. gone s.held.connections conn)
does_once s conn piece Keeper effect p = subst (λ (e : Effect). Once conn e) (sym p) (omega arith, λ ends. gone s.held.connections conn)

pub answered_once : AnsweredOnce
unfolding Step
answered_once s event outcome effect conn piece p came =
    does_once (at_moment s event.at.0) conn piece outcome effect (subst (λ (what : What). Does (at_moment s event.at.0) what outcome effect) came p)
