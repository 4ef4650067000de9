use Rattle.std.proofs.Common.{Some, None}
use Rattle.off_http.proofs.PartLemmas.{blank_line_found}
use Rattle.off_http.proofs.heads.blank_line_at.Goals as goal

pub returns-in_default : goal.returns-in_default
returns-in_default c = blank_line_found c.args.room.now c.args.seen c.saturating_sub-from.result None c.requires.seen_in c.saturating_sub-from.ensures c.requires.unseen c.in_default.ensures

pub returns : goal.returns
returns c = blank_line_found c.args.room.now c.args.seen c.saturating_sub-from.result (Some c.in-Some.at) c.requires.seen_in c.saturating_sub-from.ensures c.requires.unseen c.in-Some.ensures
