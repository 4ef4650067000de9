use Rattle.std.proofs.Common.{sym, ap, ◌∙◌, subst, List, ℕ, ◌++◌}
use Rattle.off_http.specs.declared.answers.Fed.{Fed}
use Rattle.off_http.specs.Heard.{Answers}
use Rattle.off_office.proofs.PieceLemmas.{busy_hears, wait_hears, bad_hears, asked_hears, full_asks, unasked_asks, read_asks}
use Rattle.off_office.proofs.office.Office.hear.Goals as goal

pub returns-then-is_full_for-clause-told : goal.returns-then-is_full_for-clause-told
returns-then-is_full_for-clause-told g c =
    busy_hears c.args.conn _ _ c.args.self.now _ c.close_busy.result (sym c.is_full_for.ensures ∙ c.if-is_full_for.true) c.close_busy.ensures

pub returns-in-Wait-clause-told : goal.returns-in-Wait-clause-told
returns-in-Wait-clause-told g c =
    wait_hears c.args.conn c.args.piece.now c.feed.new.self.bytes c.feed.new.self.answer _ c.args.self.now c.resume-session.new.self _ _ c.wait_for.result
    (record {
      room = sym c.is_full_for.ensures ∙ c.if-is_full_for.false;
      joins = c.in_ok-feed.ensures.joins ∙ ap (λ (x : List ℕ). x ++ c.args.piece.now) c.resume-session.ensures.bytes;
      says = c.in_ok-feed.ensures.says;
    })
    (subst (λ (f : Fed). Answers f c.feed.new.self.answer) c.in-Wait.is c.in_ok-feed.ensures.answers) c.resume-session.ensures.left c.wait_for.ensures

pub returns-in-Bad-clause-told : goal.returns-in-Bad-clause-told
returns-in-Bad-clause-told g c =
    bad_hears c.args.conn c.args.piece.now c.feed.new.self.bytes c.feed.new.self.answer c.in-Bad.fault _ c.args.self.now c.resume-session.new.self _ c.answer_fault.result
    (record {
      room = sym c.is_full_for.ensures ∙ c.if-is_full_for.false;
      joins = c.in_ok-feed.ensures.joins ∙ ap (λ (x : List ℕ). x ++ c.args.piece.now) c.resume-session.ensures.bytes;
      says = c.in_ok-feed.ensures.says;
    })
    (subst (λ (f : Fed). Answers f c.feed.new.self.answer) c.in-Bad.is c.in_ok-feed.ensures.answers) c.resume-session.ensures.left c.answer_fault.ensures

pub returns-in-Whole-clause-told : goal.returns-in-Whole-clause-told
returns-in-Whole-clause-told g c =
    asked_hears c.args.conn c.args.piece.now c.feed.new.self.bytes c.feed.new.self.answer _ c.args.self.now c.resume-session.new.self _ _ _ c.answer_request.result
    (record {
      room = sym c.is_full_for.ensures ∙ c.if-is_full_for.false;
      joins = c.in_ok-feed.ensures.joins ∙ ap (λ (x : List ℕ). x ++ c.args.piece.now) c.resume-session.ensures.bytes;
      says = c.in_ok-feed.ensures.says;
    })
    (subst (λ (f : Fed). Answers f c.feed.new.self.answer) c.in-Whole.is c.in_ok-feed.ensures.answers) c.resume-session.ensures.left c.answer_request.ensures.told

pub returns-then-is_full_for-clause-asks : goal.returns-then-is_full_for-clause-asks
returns-then-is_full_for-clause-asks g c = full_asks _ _ c.args.self.now.held _ (sym c.is_full_for.ensures ∙ c.if-is_full_for.true)

pub returns-in-Wait-clause-asks : goal.returns-in-Wait-clause-asks
returns-in-Wait-clause-asks g c = unasked_asks _ _ c.args.self.now.held _ (sym c.is_full_for.ensures ∙ c.if-is_full_for.false)

pub returns-in-Bad-clause-asks : goal.returns-in-Bad-clause-asks
returns-in-Bad-clause-asks g c = unasked_asks _ _ c.args.self.now.held _ (sym c.is_full_for.ensures ∙ c.if-is_full_for.false)

pub returns-in-Whole-clause-asks : goal.returns-in-Whole-clause-asks
returns-in-Whole-clause-asks g c =
    read_asks c.args.conn c.args.piece.now c.feed.new.self.bytes c.feed.new.self.answer c.args.self.now _ _
    (record {
      room = sym c.is_full_for.ensures ∙ c.if-is_full_for.false;
      joins = c.in_ok-feed.ensures.joins ∙ ap (λ (x : List ℕ). x ++ c.args.piece.now) c.resume-session.ensures.bytes;
      says = c.in_ok-feed.ensures.says;
    })
    c.answer_request.ensures.spent
