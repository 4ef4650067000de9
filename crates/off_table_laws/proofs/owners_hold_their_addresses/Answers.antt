use Rattle.off_table_laws.proofs.TableLaws.{owners_hold}
use Rattle.off_table_laws.proofs.owners_hold_their_addresses.Goals as goal

pub returns : goal.returns
returns c = owners_hold
