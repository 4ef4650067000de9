use Rattle.off_table_laws.proofs.TableLaws.{opening_have_no_bad_key}
use Rattle.off_table_laws.proofs.opening_tables_have_no_bad_key.Goals as goal

pub returns : goal.returns
returns c = opening_have_no_bad_key
