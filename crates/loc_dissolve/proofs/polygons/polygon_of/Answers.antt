use Rattle.std.proofs.Common.{◌≡◌, ◌<◌, ◌++◌, List, ℕ, length, map, sym, ◌∙◌, ap, ap₂, subst, arith}
use Rattle.std.specs.Prelude.{All}
use Rattle.std.proofs.{lemmas.List.map-append, lemmas.List.FromFn.length-map-range_with_len}
use Rattle.loc_spec_plane.specs.{Rings.Ring, HalfEdges.half_edge_count}
use Rattle.loc_half.specs.HalfEdgeLists.{next_in}
use Rattle.loc_faces.specs.{Boundaries.inner_leaders, Boundaries.outer_leaders, FaceLists.face_in}
use Rattle.loc_faces.proofs.Lines.{inner_is, inner_within, outer_is, outer_within, outers_many}
use Rattle.loc_spec_groups.specs.Groups.{ring_from}
use Rattle.loc_dissolve.proofs.polygons.polygon_of.Goals as goal

pub outer-requires : goal.outer-requires
outer-requires c = let many = outers_many c.args.table.now (next_in c.args.half.now) c.args.faces.now c.requires.faces in let below = c.requires.in_range in omega (arith, many, below)

pub put_rings-requires-clause-in_range : goal.put_rings-requires-clause-in_range
put_rings-requires-clause-in_range c = subst (All (λ h. h < half_edge_count c.args.table.now)) (sym (outer_is c.args.table.now (next_in c.args.half.now) c.args.faces.now c.requires.faces c.args.number c.outer.result.now c.requires.in_range c.outer.ensures.none c.outer.ensures.one)) (outer_within c.args.table.now (next_in c.args.half.now) (face_in c.args.faces.now) c.args.number)

pub inner-requires : goal.inner-requires
inner-requires c =
    omega (arith, ap length c.requires.faces.inner, length-map-range_with_len (inner_leaders c.args.table.now (next_in c.args.half.now) (face_in c.args.faces.now)) 0 c.args.faces.now.count, c.requires.in_range)

pub put_rings-requires-2-clause-in_range : goal.put_rings-requires-2-clause-in_range
put_rings-requires-2-clause-in_range c = subst (All (λ h. h < half_edge_count c.args.table.now)) (sym (inner_is c.args.table.now (next_in c.args.half.now) c.args.faces.now c.requires.faces c.args.number c.inner.result.now c.requires.in_range c.inner.ensures)) (inner_within c.args.table.now (next_in c.args.half.now) (face_in c.args.faces.now) c.args.number)

pub returns : goal.returns
returns c =
    let t = c.args.table.now in
    let next = next_in c.args.half.now in
    let face = face_in c.args.faces.now in
    let f = c.args.number in
    let ring = ring_from t next face in
    let outer : c.outer.result.now ≡ outer_leaders c.args.table.now (next_in c.args.half.now) (face_in c.args.faces.now) c.args.number = outer_is t next c.args.faces.now c.requires.faces f c.outer.result.now c.requires.in_range c.outer.ensures.none c.outer.ensures.one in
    let inner : c.inner.result.now ≡ inner_leaders c.args.table.now (next_in c.args.half.now) (face_in c.args.faces.now) c.args.number = inner_is t next c.args.faces.now c.requires.faces f c.inner.result.now c.requires.in_range c.inner.ensures in
    c.of.ensures ∙ (c.in_ok-put_rings-2.ensures face
    ∙ (ap₂ (λ (rs : List Ring) (ls : List ℕ). rs ++ map ring ls) (c.in_ok-put_rings.ensures face ∙ ap₂ (λ (rs : List Ring) (ls : List ℕ). rs ++ map ring ls) c.new-rings.ensures.items outer) inner
    ∙ sym (map-append ring (outer_leaders t next face f) (inner_leaders t next face f))))
