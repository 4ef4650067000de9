use Rattle.std.proofs.Common.{sym, ap, ◌∙◌, List, ℕ, codes}
use Rattle.off_defs.specs.declared.events.What.TheVariants.{Datagram, Piece, Closed, Tick, End}
use Rattle.off_defs.specs.State.{Said}
use Rattle.off_office.proofs.StepLemmas.{acts_by, closed_handled, end_handled}
use Rattle.off_office.proofs.TransferLemmas.{tick_handled}
use Rattle.off_office.proofs.office.Office.step.Goals as goal

pub returns-in-Piece : goal.returns-in-Piece
returns-in-Piece g c =
    acts_by c.args.event.now (Piece c.in-Piece.conn c.as_slice.result.now) c.take_piece.result c.take_piece.new.out c.args.self.now c.reach.new.self c.take_piece.new.self _ _
    (c.in-Piece.is ∙ ap (λ (x : List ℕ). Piece c.in-Piece.conn x) (sym c.as_slice.ensures)) c.reach.ensures c.take_piece.ensures

pub returns-in-Datagram : goal.returns-in-Datagram
returns-in-Datagram g c =
    acts_by c.args.event.now (Datagram c.in-Datagram.service c.in-Datagram.from c.as_slice-in-Datagram.result.now) c.take_datagram.result c.take_datagram.new.out c.args.self.now
    c.reach.new.self c.take_datagram.new.self _ _
    (c.in-Datagram.is ∙ ap (λ (x : List ℕ). Datagram c.in-Datagram.service c.in-Datagram.from x) (sym c.as_slice-in-Datagram.ensures)) c.reach.ensures c.take_datagram.ensures

pub returns-in-Closed : goal.returns-in-Closed
returns-in-Closed g c =
    acts_by c.args.event.now (Closed c.in-Closed.conn) c.only_line.result c.only_line.new.out c.args.self.now c.reach.new.self c.forget.new.self _ _
    c.in-Closed.is c.reach.ensures
    (closed_handled c.in-Closed.conn c.only_line.result c.only_line.new.out c.reach.new.self c.forget.new.self _ c.forget.ensures c.only_line.ensures.did
    (c.only_line.ensures.said ∙ ap (λ (s : Said). record s { line = codes "http closed" }) c.clear.ensures))

pub returns-in-Tick : goal.returns-in-Tick
returns-in-Tick g c =
    acts_by c.args.event.now Tick c.take_tick.result c.take_tick.new.out c.args.self.now c.reach.new.self c.take_tick.new.self _ _ c.in-Tick.is c.reach.ensures
    (tick_handled _ _ _ _ _ c.take_tick.ensures)

pub returns-in-End : goal.returns-in-End
returns-in-End g c = acts_by c.args.event.now End _ c.clear.new.self c.args.self.now c.reach.new.self _ _ _ c.in-End.is c.reach.ensures (end_handled _ _ _ c.clear.ensures)
