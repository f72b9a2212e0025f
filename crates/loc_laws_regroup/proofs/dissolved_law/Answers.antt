use Rattle.loc_laws_regroup.proofs.Dissolved.{accepted_reads, dissolved_reads}
use Rattle.loc_laws_regroup.proofs.dissolved_law.Goals as goal

pub returns-clause-table : goal.returns-clause-table
returns-clause-table c = dissolved_reads

pub returns-clause-accepted : goal.returns-clause-accepted
returns-clause-accepted c = accepted_reads
