use Rattle.std.proofs.Common.{sym, ◌∙◌, arith, length-drop}
use Rattle.off_dhcp.proofs.DatagramLemmas.{in_options, no_fault, has_its_head, read_whole}
use Rattle.off_dhcp.proofs.reading.Message.behind_the_fixed_part.Goals as goal

pub sound_options-requires : goal.sound_options-requires
sound_options-requires c = let size = length-drop 240 c.args.bytes.now in rw c.options_of.ensures (omega arith)

pub returns-in-Err : goal.returns-in-Err
returns-in-Err c =
    sym (in_options c.args.bytes.now c.in-Err.fault c.requires.none (rw c.options_of.ensures at c.in-Err.ensures.fault))

pub invariant_of-head : goal.invariant_of-head
invariant_of-head c = (
  has_its_head c.args.bytes.now (no_fault c.args.bytes.now c.requires.none (rw c.options_of.ensures at c.in-Ok.ensures.fault)),
  c.in-Ok.ensures.index ∙ c.options_of.ensures,
)

pub invariant_of-result : goal.invariant_of-result
invariant_of-result c = no_fault c.args.bytes.now c.requires.none (rw c.options_of.ensures at c.in-Ok.ensures.fault)

pub returns-in-Ok : goal.returns-in-Ok
returns-in-Ok c =
    sym (read_whole c.args.bytes.now (no_fault c.args.bytes.now c.requires.none (rw c.options_of.ensures at c.in-Ok.ensures.fault)))
