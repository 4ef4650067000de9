use Rattle.std.proofs.Common.{◌≤◌, ◌-◌, length, drop, arith, length-drop}
use Rattle.std.proofs.lemmas.List.{take_all}
use Rattle.off_dhcp.proofs.heads.options_of.Goals as goal

pub returns : goal.returns
returns c =
    let size = length-drop 240 c.args.bytes.now in
    let all : length (drop 240 c.args.bytes.now) ≤ length c.args.bytes.now - 240 = omega arith in
    take_all _ _ all
