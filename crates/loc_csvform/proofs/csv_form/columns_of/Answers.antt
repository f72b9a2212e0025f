use Rattle.loc_csvform.proofs.csv_form.columns_of.Goals as goal

pub returns-clause-id : goal.returns-clause-id
returns-clause-id c = c.column_of-2.ensures
