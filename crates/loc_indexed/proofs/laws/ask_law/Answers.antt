use Rattle.loc_indexed.proofs.MarkedAnswers.{layer_course, true_course}
use Rattle.loc_indexed.proofs.{Behind.ask_makes_none, Behind.ask_refuses_behind, ReadBack.file_reads}
use Rattle.loc_indexed.proofs.laws.ask_law.Goals as goal

pub returns-clause-reads : goal.returns-clause-reads
returns-clause-reads c = file_reads

pub returns-clause-of_true : goal.returns-clause-of_true
returns-clause-of_true c = λ points bytes content file is_true. true_course content bytes file is_true points

pub returns-clause-of_layer : goal.returns-clause-of_layer
returns-clause-of_layer c = λ points v scale layer content of. layer_course v scale layer content of points

pub returns-clause-refuses_behind : goal.returns-clause-refuses_behind
returns-clause-refuses_behind c = ask_refuses_behind

pub returns-clause-makes_none : goal.returns-clause-makes_none
returns-clause-makes_none c = ask_makes_none
