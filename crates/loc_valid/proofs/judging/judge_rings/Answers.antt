use Rattle.loc_valid.proofs.judging.judge_rings.Goals as goal

pub returns-clause-breach : goal.returns-clause-breach
returns-clause-breach c = c.judge_table.ensures.breach

pub returns-clause-few_covers : goal.returns-clause-few_covers
returns-clause-few_covers c = c.judge_table.ensures.few_covers

pub returns-clause-refused : goal.returns-clause-refused
returns-clause-refused c = c.judge_table.ensures.refused
