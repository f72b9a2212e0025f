use Rattle.std.proofs.Common.{subst}
use Rattle.loc_persist.specs.Meaning.{VersionsMeaning}
use Rattle.loc_status.specs.Meaning.{Removes}
use Rattle.loc_treeidx.specs.Meaning.{meaning_of}
use Rattle.loc_treeidx.proofs.Changes.{removes_edge}
use Rattle.loc_treeidx.proofs.tree_index.TreeIndexStatus.remove.Goals as goal

pub returns-clause-ok : goal.returns-clause-ok
returns-clause-ok c = subst (λ (m : VersionsMeaning). Removes c.args.edge (meaning_of m) (meaning_of c.remove_at.new.self)) c.self.view_is (removes_edge c.args.edge c.self.inside.versions c.remove_at.new.self c.node_of.new.path.items c.node_of.result.0 c.node_of.ensures.node c.in_ok-remove_at.ensures.removes)
