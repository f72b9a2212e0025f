use Rattle.std.proofs.Common.{◌≡◌, ℕ, ◌<◌, ◌++◌, ◌∷◌, [], List, length, get_or, map, take, sym, ◌∙◌, ap, arith}
use Rattle.std.proofs.lemmas.List.{get_or-map, length-map, map-append, take_all, take_more}
use Rattle.std.proofs.lemmas.List.FromFn.{get_or-map-range_with_len, length-map-range_with_len}
use Rattle.std.proofs.lemmas.Option.{get_or_from_slice_get}
use Rattle.loc_rings.specs.Values.{Feature}
use Rattle.loc_faces.specs.Subdivision.{face_at, next_at}
use Rattle.loc_spec_groups.specs.Groups.{Group, dissolved_group, kept_edges}
use Rattle.loc_dissolve.specs.Grouping.{ids_of, in_group}
use Rattle.loc_dissolve.proofs.Layered.{group_is}
use Rattle.loc_dissolve.proofs.dissolving.made_groups.Goals as goal

pub row-requires : goal.row-requires
row-requires c = omega (arith, ap length c.requires.kept, length-map-range_with_len (λ g. kept_edges c.args.table.now (in_group c.args.groups.now g)) 0 (length c.args.firsts.now), c.loop-n-test.true)

pub overflow_cast-n : goal.overflow_cast-n
overflow_cast-n c = omega (arith, c.requires.few, c.loop-n-test.true)

pub group_polygons-requires-clause-kept : goal.group_polygons-requires-clause-kept
group_polygons-requires-clause-kept c =
    let n = c.loop-n.n in
    let rows = λ (g : ℕ). kept_edges c.args.table.now (in_group c.args.groups.now g) in
    sym (get_or_from_slice_get c.args.kept.now c.loop-n.n c.row.result.now [] c.row.ensures) ∙ (ap (λ (l : List (List ℕ)). get_or l n []) c.requires.kept
    ∙ get_or-map-range_with_len rows 0 (length c.args.firsts.now) n n [] c.loop-n-test.true (omega arith))

pub loop-n-preserved : goal.loop-n-preserved
loop-n-preserved c =
    let t = c.args.table.now in
    let n = c.loop-n.n in
    let layer = c.args.layer.now in
    let firsts = c.args.firsts.now in
    let made = λ (f : ℕ). dissolved_group next_at face_at c.args.table.now (ids_of c.args.layer.now) (get_or (ids_of c.args.layer.now) f []) in
    let fits : get_or c.args.firsts.now c.loop-n.n 0 < length c.args.layer.now = omega (arith, c.requires.are.firsts_within n 0 c.loop-n-test.true, length-map c.args.layer.now (λ (f : Feature). f.id)) in
    let id_is : c.in_ok-id.id.items ≡ get_or (ids_of c.args.layer.now) (get_or c.args.firsts.now c.loop-n.n 0) [] =
    c.in_ok-id.ensures.items ∙ (c.id.ensures.value ∙ (ap (λ (f : Feature). f.id) (sym (get_or_from_slice_get c.args.layer.now (get_or c.args.firsts.now c.loop-n.n 0) c.feature.result.now c.feature.result.now c.feature.ensures))
    ∙ sym (get_or-map (λ (f : Feature). f.id) c.args.layer.now (get_or c.args.firsts.now c.loop-n.n 0) c.feature.result.now [] fits))) in
    c.in_ok-push.ensures.items ∙ (ap (λ (g : Group). c.loop-n.made.items ++ g ∷ []) (c.of.ensures ∙ group_is t (ids_of layer) firsts c.args.groups.now c.requires.are n c.loop-n-test.true c.in_ok-id.id.items id_is c.in_ok-polygons.polygons.items c.in_ok-polygons.ensures)
    ∙ (ap (λ (gs : List Group). gs ++ made (get_or firsts n 0) ∷ []) c.loop-n.invariant ∙ sym (ap (map made) (take_more firsts n 0 c.loop-n-test.true) ∙ map-append made (take n firsts) (get_or firsts n 0 ∷ []))))

pub returns : goal.returns
returns c = record {
  made = c.loop-n.invariant ∙ ap (λ fs. map (λ f. dissolved_group next_at face_at c.args.table.now (ids_of c.args.layer.now) (get_or (ids_of c.args.layer.now) f [])) fs) (take_all c.loop-n.n c.args.firsts.now c.loop-n-test.false);
}
