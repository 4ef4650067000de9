-- Alone an address gets one thing, and where its events are alike it gets the same.
use Rattle.std.proofs.Common.{◌≡◌, ℕ, List, [], ◌∷◌, refl, sym, ap, subst, ◌∙◌}
use Rattle.off_base.specs.declared.addresses.Ip4.{Ip4}
use Rattle.off_base.specs.declared.addresses.Peer.{Peer}
use Rattle.off_defs.specs.State.{Tables, Said}
use Rattle.off_transfer_rules.specs.Requests.{datagram_at}
use Rattle.off_transfer_rules.specs.Transfers.{Transfers}
use Rattle.off_transfer_rules.specs.Steps.{Given}
use Rattle.off_transfer_laws.specs.SameRows.{SameRows}
use Rattle.off_transfer_laws.proofs.StepLaws.{step_is_one, step_is_there, views_decide}
use Rattle.off_transfer_laws.proofs.TickLaws.{tick_is_one, tick_is_there}
use Rattle.off_transfer_laws.proofs.RowLemmas.{same_view}
use Rattle.off_book.specs.Tftp.{tftp_said}
use Rattle.off_isolation.specs.Own.{Happening, Came, Passed, OwnEvent, own_events}
use Rattle.off_isolation.specs.Alone.{StepAlone, Alone, AreOwn}
use Rattle.off_isolation.specs.Laws.{AloneIsOne, AloneIsThere, SameView, ViewsGiveTheSame, RowsShowTheSame, AreAlike, AllAlike, HaveTheSame, BothGiveTheSame}
use Rattle.off_isolation.proofs.OwnLemmas.{own_map, own_of, own_of_same}
use Rattle.off_isolation.proofs.RunLemmas.{isolated_from}

pub views_give_the_same : ViewsGiveTheSame
views_give_the_same t u xs d given again same p q =
    step_is_one u xs d given again (views_decide t u xs d given same p) q

pub rows_show_the_same : RowsShowTheSame
rows_show_the_same = same_view

-- ---- one event

record SameStep (one other : Transfers) (said also : Said) : Type 0 where
  pub transfers : one ≡ other
  pub says : said ≡ also

same_step : (t u : Tables) (now : ℕ) (what : Happening) (xs one other : Transfers) (said also : Said)
    → ((from : Peer) (bytes : List ℕ) → what ≡ Came from bytes → SameView t u from.ip)
    → StepAlone t now what xs one said → StepAlone u now what xs other also → SameStep one other said also
same_step t u now (Came from bytes) xs one other said also seen p q =
    let given : p.given ≡ q.given = views_give_the_same t u xs (datagram_at now from bytes) p.given q.given (seen from bytes refl) p.step q.step in
    record {
      transfers = p.leaves ∙ ap (λ (g : Given). g.transfers) given ∙ sym q.leaves;
      says = p.says ∙ ap tftp_said given ∙ sym q.says;
    }
same_step t u now Passed xs one other said also seen p q =
    let same = tick_is_one now xs one other p.items q.items p.ticked q.ticked p.step q.step in
    record {
      transfers = same.transfers;
      says = p.says ∙ (λ i. record { items = same.items_sent i; line = [] }) ∙ sym q.says;
    }

event_same : (event other : OwnEvent) → AreAlike SameView event other → (xs one two : Transfers) (said also : Said)
    → StepAlone event.tables event.now event.what xs one said → StepAlone other.tables other.now other.what xs two also → SameStep one two said also
event_same event other alike xs one two said also p q =
    let q_now = subst (λ (n : ℕ). StepAlone other.tables n other.what xs two also) (sym alike.now) q in
    let q_what = subst (λ (w : Happening). StepAlone other.tables event.now w xs two also) (sym alike.what) q_now in
    same_step event.tables other.tables event.now event.what xs one two said also alike.tables p q_what

-- ---- all events

alone_alike : (events others : List OwnEvent) (xs : Transfers) (one other : List Said) → AllAlike SameView events others
    → Alone events xs one → Alone others xs other → one ≡ other
alone_alike [] [] xs [] [] alike p q = refl
alone_alike [] [] xs [] (also ∷ more) alike p q = absurd q
alone_alike [] [] xs (said ∷ more) other alike p q = absurd p
alone_alike [] (e ∷ es) xs one other alike p q = absurd alike
alone_alike (e ∷ es) [] xs one other alike p q = absurd alike
alone_alike (e ∷ es) (f ∷ fs) xs [] other alike p q = absurd p
alone_alike (e ∷ es) (f ∷ fs) xs (said ∷ more) [] alike p q = absurd q
alone_alike (e ∷ es) (f ∷ fs) xs (said ∷ more) (also ∷ rest) alike p q =
    let same = event_same e f alike.0 xs p.0 q.0 said also p.1 q.1 in
    let tail = alone_alike es fs p.0 more rest alike.1 p.2 (subst (λ (ys : Transfers). Alone fs ys rest) (sym same.transfers) q.2) in
    λ i. same.says i ∷ tail i

alike_itself : (events : List OwnEvent) → AllAlike SameView events events
alike_itself [] = tt
alike_itself (e ∷ es) = (record { what = refl; now = refl; tables = λ from bytes is. refl }, alike_itself es)

pub alone_is_one : AloneIsOne
alone_is_one events xs one other p q = alone_alike events events xs one other (alike_itself events) p q

-- ---- and it gets something

record SomeStep (t : Tables) (now : ℕ) (what : Happening) (xs : Transfers) : Type 0 where
  pub after : Transfers
  pub said : Said
  pub step : StepAlone t now what xs after said

some_step : (t : Tables) (now : ℕ) (what : Happening) (xs : Transfers) → SomeStep t now what xs
some_step t now (Came from bytes) xs =
    let some = step_is_there t xs (datagram_at now from bytes) in
    record { after = some.0.transfers; said = tftp_said some.0; step = record { given = some.0; step = some.1; leaves = refl; says = refl } }
some_step t now Passed xs =
    let some = tick_is_there now xs in
    record {
      after = some.after;
      said = record { items = some.items; line = [] };
      step = record { items = some.items; ticked = some.ticked; step = some.step; says = refl };
    }

pub alone_is_there : AloneIsThere
alone_is_there [] xs = ([], tt)
alone_is_there (e ∷ es) xs =
    let some = some_step e.tables e.now e.what xs in
    let rest = alone_is_there es some.after in
    (some.said ∷ rest.0, (some.after, some.step, rest.1))

-- ---- two runs

has_the_same : (ip : Ip4) (xs ys : Transfers) → HaveTheSame ip xs ys → AreOwn ip ys (own_map ip xs)
has_the_same ip xs ys same =
    own_of_same ip xs ys (own_map ip xs) (λ peer here e is. same peer (e ∙ is)) (own_of ip xs)

pub both_give_the_same : BothGiveTheSame SameView
both_give_the_same s u last end turns others ip run also same alike =
    alone_alike (own_events ip s turns) (own_events ip u others) (own_map ip s.held.transfers) _ _ alike
    (isolated_from s last turns ip (own_map ip s.held.transfers) run (own_of ip s.held.transfers))
    (isolated_from u end others ip (own_map ip s.held.transfers) also (has_the_same ip s.held.transfers u.held.transfers same))

rows_alike : (events others : List OwnEvent) → AllAlike SameRows events others → AllAlike SameView events others
rows_alike [] [] alike = tt
rows_alike [] (f ∷ fs) alike = absurd alike
rows_alike (e ∷ es) [] alike = absurd alike
rows_alike (e ∷ es) (f ∷ fs) alike = (
  record {
    what = alike.0.what;
    now = alike.0.now;
    tables = λ from bytes is. same_view e.tables f.tables from.ip (alike.0.tables from bytes is);
  },
  rows_alike es fs alike.1,
)

pub same_rows_give_the_same : BothGiveTheSame SameRows
same_rows_give_the_same s u last end turns others ip run also same alike =
    both_give_the_same s u last end turns others ip run also same (rows_alike (own_events ip s turns) (own_events ip u others) alike)
