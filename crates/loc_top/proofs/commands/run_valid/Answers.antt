use Rattle.loc_top.proofs.commands.run_valid.Goals as goal

pub returns : goal.returns
returns g c = rw c.new.ensures at c.valid.ensures
