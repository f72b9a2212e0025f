use Rattle.std.proofs.Common.{ℕ, ◌<◌, List, length, sym, subst, ap, arith}
use Rattle.std.specs.{Prelude.All, Prelude.codes, List.flat_map}
use Rattle.std.proofs.{lemmas.List.FromFn.length-map-range_with_len, lemmas.Result.err_from_is_err_and}
use Rattle.loc_page.specs.Puts.{PutsText}
use Rattle.loc_spec_plane.specs.HalfEdges.{half_edge_count}
use Rattle.loc_half.specs.HalfEdgeLists.{next_in}
use Rattle.loc_faces.specs.{Boundaries.inner_leaders, FaceLists.face_in, FaceTexts.cycle_line}
use Rattle.loc_faces.proofs.Lines.{inner_is, inner_within, outer_is, outer_within, outers_many}
use Rattle.loc_page.proofs.Pages.{both, stop}
use Rattle.loc_faces.proofs.texts.put_text.Goals as goal

pub outer-requires : goal.outer-requires
outer-requires g c = let many = outers_many c.args.table.now (next_in c.args.half.now) c.args.faces.now c.requires.faces in let below = c.requires.in_range in omega (arith, many, below)

pub put_lines-requires-clause-in_range : goal.put_lines-requires-clause-in_range
put_lines-requires-clause-in_range g c = subst (All (λ h. h < half_edge_count c.args.table.now)) (sym (outer_is c.args.table.now (next_in c.args.half.now) c.args.faces.now c.requires.faces c.args.number c.outer.result.now c.requires.in_range c.outer.ensures.none c.outer.ensures.one)) (outer_within c.args.table.now (next_in c.args.half.now) (face_in c.args.faces.now) c.args.number)

pub returns-in_err-put_lines : goal.returns-in_err-put_lines
returns-in_err-put_lines g c =
    both c.in_ok-put_number.was c.put_number.ensures
    (stop _ c.in_err-put_lines.was (err_from_is_err_and _ c.from_residual-in_err-put_lines.ensures.1).1 (subst (λ (ls : List ℕ). PutsText (flat_map (cycle_line c.args.scale c.args.table.now (next_in c.args.half.now) (codes "outer ")) ls) (g.O.Sink.meaning c.put_number.new.sink) (g.O.Sink.meaning c.put_lines.new.sink) c.put_number.new.page c.put_lines.new.page c.put_lines.result) (outer_is c.args.table.now (next_in c.args.half.now) c.args.faces.now c.requires.faces c.args.number c.outer.result.now c.requires.in_range c.outer.ensures.none c.outer.ensures.one) c.put_lines.ensures))

pub inner-requires : goal.inner-requires
inner-requires g c =
    omega (arith, ap length c.requires.faces.inner, length-map-range_with_len (inner_leaders c.args.table.now (next_in c.args.half.now) (face_in c.args.faces.now)) 0 c.args.faces.now.count, c.requires.in_range)

pub put_lines-requires-2-clause-in_range : goal.put_lines-requires-2-clause-in_range
put_lines-requires-2-clause-in_range g c = subst (All (λ h. h < half_edge_count c.args.table.now)) (sym (inner_is c.args.table.now (next_in c.args.half.now) c.args.faces.now c.requires.faces c.args.number c.inner.result.now c.requires.in_range c.inner.ensures)) (inner_within c.args.table.now (next_in c.args.half.now) (face_in c.args.faces.now) c.args.number)

pub returns-in_err-put_number : goal.returns-in_err-put_number
returns-in_err-put_number g c = stop _ c.in_err-put_number.was (err_from_is_err_and _ c.from_residual.ensures.1).1 c.put_number.ensures

pub returns : goal.returns
returns g c =
    both c.in_ok-put_number.was c.put_number.ensures
    (both c.in_ok-put_lines.was (subst (λ (ls : List ℕ). PutsText (flat_map (cycle_line c.args.scale c.args.table.now (next_in c.args.half.now) (codes "outer ")) ls) (g.O.Sink.meaning c.put_number.new.sink) (g.O.Sink.meaning c.put_lines.new.sink) c.put_number.new.page c.put_lines.new.page c.put_lines.result) (outer_is c.args.table.now (next_in c.args.half.now) c.args.faces.now c.requires.faces c.args.number c.outer.result.now c.requires.in_range c.outer.ensures.none c.outer.ensures.one) c.put_lines.ensures)
    (subst (λ (ls : List ℕ). PutsText (flat_map (cycle_line c.args.scale c.args.table.now (next_in c.args.half.now) (codes "inner ")) ls) (g.O.Sink.meaning c.put_lines.new.sink) (g.O.Sink.meaning c.put_lines-2.new.sink) c.put_lines.new.page c.put_lines-2.new.page c.put_lines-2.result) (inner_is c.args.table.now (next_in c.args.half.now) c.args.faces.now c.requires.faces c.args.number c.inner.result.now c.requires.in_range c.inner.ensures) c.put_lines-2.ensures))
