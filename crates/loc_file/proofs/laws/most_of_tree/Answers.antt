use Rattle.loc_file.proofs.TrueSteps.{true-most}
use Rattle.loc_file.proofs.laws.most_of_tree.Goals as goal

pub returns : goal.returns
returns c = true-most c.args.held.now.content c.args.table.now c.requires
