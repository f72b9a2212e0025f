use Rattle.std.proofs.Common.{◌∙◌, sym, ap, Some, None}
use Rattle.std.proofs.lemmas.List.{get_or-set_other}
use Rattle.loc_spec_plane.specs.Tables.{lo_of}
use Rattle.loc_sweep.proofs.notes.note_above.Goals as goal

pub returns-then-ends-corner-clause-elsewhere : goal.returns-then-ends-corner-clause-elsewhere
returns-then-ends-corner-clause-elsewhere c = λ e off. get_or-set_other c.args.of_edge.now.items c.in-Some.above e (Some c.args.edge) None (λ same. off (ap (lo_of c.args.table.now) same ∙ (sym c.ends.ensures.lower ∙ c.if-ends-corner.true)))
