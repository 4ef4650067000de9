use Rattle.off_cpe_boot_laws.proofs.Waiting.{most_do_not_serve_devices}
use Rattle.off_cpe_boot_laws.proofs.most_turns_do_not_serve_a_device.Goals as goal

pub returns : goal.returns
returns c = most_do_not_serve_devices
