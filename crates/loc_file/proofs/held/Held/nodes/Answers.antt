use Rattle.std.proofs.Common.{arith}
use Rattle.loc_laws_index.proofs.{FileFacts.facts, AgreeTable.most-small}
use Rattle.loc_file.proofs.held.Held.nodes.Goals as goal

pub overflow_cast-result : goal.overflow_cast-result
overflow_cast-result c = let f = facts _ _ c.self.invariant.file in record { fits = omega (arith, f.few_nodes, f.few_edges, most-small c.self.inside.version, c.len.ensures, c.self.inside.nodes.ok.0) }
