use Rattle.off_table_laws.proofs.TableLaws.{one_judgement}
use Rattle.off_table_laws.proofs.tables_have_one_judgement.Goals as goal

pub returns : goal.returns
returns c = one_judgement
