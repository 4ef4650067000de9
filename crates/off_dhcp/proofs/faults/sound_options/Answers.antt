use Rattle.std.proofs.Common.{◌<◌, true, length, arith}
use Rattle.off_base.proofs.PartLemmas.{is_reading}
use Rattle.off_dhcp.proofs.DatagramLemmas.{place_within}
use Rattle.off_dhcp.proofs.faults.sound_options.Goals as goal

pub overflow_add-result : goal.overflow_add-result
overflow_add-result c =
    let within : c.in-Err.place < length c.args.options.now =
    place_within c.args.options.now c.in-Err.place (is_reading true c.args.options.now) c.in-Err.ensures.index in
    omega arith
