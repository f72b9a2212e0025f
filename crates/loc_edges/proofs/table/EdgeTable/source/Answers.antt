use Rattle.std.proofs.Common.{◌∙◌, ap, length, arith}
use Rattle.std.proofs.lemmas.List.{get_or_default}
use Rattle.loc_spec_plane.specs.Tables.{Table}
use Rattle.loc_edges.proofs.table.EdgeTable.source.Goals as goal

pub returns-in-Some-clause-value : goal.returns-in-Some-clause-value
returns-in-Some-clause-value c =
    let fit = rw (c.in-Some.is) at c.self.invariant.is_table.sources_fit in let many = ap (λ (t : Table). length t.ends) c.self.view_is in
    rw (← c.self.view_is, c.in-Some.is) (c.index.ensures ∙ get_or_default c.in-Some.sources.items c.args.n _ _ (omega (arith, fit, many, c.requires)))
