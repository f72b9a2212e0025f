use Rattle.loc_csvform.proofs.rows.add_feature.Goals as goal

pub returns-then-not-has_room-clause-ok : goal.returns-then-not-has_room-clause-ok
returns-then-not-has_room-clause-ok c = tt
