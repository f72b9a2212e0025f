use Rattle.std.proofs.{Common.sym, Common.ap, lemmas.Bool.ne_eqb}
use Rattle.std.specs.Prelude.{if◌then◌else◌, not}
use Rattle.loc_file.proofs.edges.source_of.Goals as goal

pub returns-else-version-eq1 : goal.returns-else-version-eq1
returns-else-version-eq1 c = ap (λ b. if not b then c.args.edge.source else c.args.edge.ends) (sym (ne_eqb c.args.version 1 c.if-version-eq1.false))
