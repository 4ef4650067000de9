use Rattle.std.proofs.Common.{ap, sym, ◌∙◌, ◌≡◌, ◌≤◌, length, true, arith}
use Rattle.std.specs.Prelude.{is_some}
use Rattle.std.proofs.lemmas.List.{append-nil}
use Rattle.off_base.specs.Parts.{bytes_of}
use Rattle.off_dhcp.specs.Datagram.{option_in}
use Rattle.off_dhcp.proofs.ReplyLemmas.{relay_missing, relay_there, relay_whole}
use Rattle.off_dhcp.proofs.relayed.push_relay.Goals as goal

pub returns-then-not-present : goal.returns-then-not-present
returns-then-not-present c =
    let none = relay_missing (option_in 82 c.args.m.now.options) (ap is_some (sym c.option-value.ensures) ∙ sym c.present.ensures ∙ c.if-not-present.true) in
    rw none (sym (append-nil c.args.out.now))

pub returns-then-bytes-le-MOST_OF_AN_OPTION : goal.returns-then-bytes-le-MOST_OF_AN_OPTION
returns-then-bytes-le-MOST_OF_AN_OPTION c =
    let there : is_some (option_in 82 c.args.m.now.options) ≡ true = ap is_some (sym c.option-value.ensures) ∙ sym c.present.ensures ∙ c.if-not-present.false in
    let few : length c.in-Some.bytes.now ≤ 255 = omega arith in
    let whole = relay_whole (option_in 82 c.args.m.now.options) c.in-Some.bytes.now there (c.in-Some.ensures ∙ ap bytes_of c.option-value.ensures) few in
    rw whole c.push_option.ensures

pub returns : goal.returns
returns c =
    let there : is_some (option_in 82 c.args.m.now.options) ≡ true = ap is_some (sym c.option-value.ensures) ∙ sym c.present.ensures ∙ c.if-not-present.false in
    let whole = relay_there (option_in 82 c.args.m.now.options) there in
    rw whole (rw c.option-value.ensures at c.push_pieces.ensures)
