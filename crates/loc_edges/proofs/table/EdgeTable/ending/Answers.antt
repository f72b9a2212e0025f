use Rattle.std.proofs.Common.{◌<◌, [], length, get_or, sym, ◌∙◌, ap, arith}
use Rattle.std.specs.Prelude.{filter, ◌==◌}
use Rattle.std.proofs.lemmas.List.FromFn.{length-map-range_with_len, get_or-map-range_with_len}
use Rattle.std.proofs.lemmas.Option.{get_or_from_slice_get}
use Rattle.loc_spec_plane.specs.Tables.{hi_of, edge_numbers}
use Rattle.loc_edges.specs.Ending.{ending_among}
use Rattle.loc_edges.proofs.table.EdgeTable.ending.Goals as goal

pub row-requires : goal.row-requires
row-requires c =
    let ends = c.self.inside.ends.items in
    omega (arith, c.requires, ap length c.self.invariant.ending_are, length-map-range_with_len (ending_among ends (length ends)) 0 (length c.self.inside.corners.items), ap (λ t. length t.corners) c.self.view_is)

pub returns : goal.returns
returns c =
    let ends = c.self.inside.ends.items in
    let corners = length c.self.inside.corners.items in
    let fits : c.args.corner < length c.self.inside.corners.items = omega (arith, c.requires, ap (λ t. length t.corners) c.self.view_is) in
    sym (get_or_from_slice_get c.self.inside.ending c.args.corner c.row.result.now [] c.row.ensures)
    ∙ (ap (λ rows. get_or rows c.args.corner []) c.self.invariant.ending_are
    ∙ (get_or-map-range_with_len (ending_among ends (length ends)) 0 corners c.args.corner c.args.corner [] fits (omega arith)
    ∙ ap (λ t. filter (λ e. hi_of t e == c.args.corner) (edge_numbers t)) c.self.view_is))
