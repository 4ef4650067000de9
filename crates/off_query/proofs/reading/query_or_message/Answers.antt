use Rattle.std.proofs.Common.{List, ℕ, sym, ap, ◌∙◌}
use Rattle.off_dhcp.specs.Datagram.{message_of}
use Rattle.off_query.proofs.ReadLemmas.{no_head, not_said, is_said, said_of_head, of_head}
use Rattle.off_query.proofs.reading.query_or_message.Goals as goal

pub returns-in_default : goal.returns-in_default
returns-in_default c = (no_head c.args.bytes.now (sym c.in_default.ensures), c.read-message.ensures.message)

pub returns-then-not-says_query : goal.returns-then-not-says_query
returns-then-not-says_query c = (
  not_said c.args.bytes.now c.in-Some.head (sym c.in-Some.ensures) (sym c.says_query.ensures ∙ c.if-not-says_query.true),
  c.of.ensures ∙ ap (λ (bytes : List ℕ). message_of bytes) (sym (of_head c.args.bytes.now c.in-Some.head (sym c.in-Some.ensures))),
)

pub invariant_of-result : goal.invariant_of-result
invariant_of-result c = said_of_head c.args.bytes.now c.in-Some.head (sym c.in-Some.ensures) (sym c.says_query.ensures ∙ c.if-not-says_query.false)

pub returns : goal.returns
returns c = is_said c.args.bytes.now c.in-Some.head (sym c.in-Some.ensures) (sym c.says_query.ensures ∙ c.if-not-says_query.false)
