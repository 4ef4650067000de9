use Rattle.off_laws.proofs.LiveLeases.{imports_keep_leases}
use Rattle.off_laws.proofs.leases.an_import_keeps_all_leases.Goals as goal

pub returns : goal.returns
returns c = imports_keep_leases
