use Rattle.std.proofs.Common.{◌≡◌, ℕ, [], List, length, get_or, map, sym, ◌∙◌, ap, ap₂, subst, arith}
use Rattle.std.specs.Prelude.{All}
use Rattle.std.proofs.lemmas.List.{length-map}
use Rattle.loc_spec_plane.specs.{Lists.numbers, Tables.AllEnds}
use Rattle.loc_rings.specs.Values.{Feature}
use Rattle.loc_edges.specs.Layers.{layer_rings}
use Rattle.loc_faces.specs.Subdivision.{face_at, next_at}
use Rattle.loc_spec_groups.specs.Groups.{dissolved_group, kept_edges}
use Rattle.loc_dissolve.specs.Dissolving.{CoversAsMembers, HasKeptOnce}
use Rattle.loc_dissolve.specs.Grouping.{AreGroups, ids_of, in_group}
use Rattle.loc_dissolve.proofs.Layered.{all_covering, all_groups, all_once, few_features}
use Rattle.loc_dissolve.proofs.dissolving.dissolve.Goals as goal

pub overflow_cast-len : goal.overflow_cast-len
overflow_cast-len c = omega (arith, c.len.ensures, c.in_ok-firsts.firsts.ok, c.in_ok-firsts.ensures.few, length-map c.features.result.now (λ f. f.id), c.features.ensures.within.few_features)

pub kept_rows-requires-clause-features : goal.kept_rows-requires-clause-features
kept_rows-requires-clause-features c =
    let are = subst (λ (fs : List Feature). AreGroups (ids_of fs) c.in_ok-firsts.firsts.items c.in_ok-firsts.groups.items) c.features.ensures.value c.in_ok-firsts.ensures in
    omega (arith, ap length c.deref-2.ensures.value, few_features c.args.layer.now c.args.table.now c.requires.table c.noding_law.ensures.count c.in_ok-firsts.firsts.items c.in_ok-firsts.groups.items are)

pub made_groups-made-requires-clause-all_ends : goal.made_groups-made-requires-clause-all_ends
made_groups-made-requires-clause-all_ends c = subst AllEnds (sym c.requires.table) (c.noding_law.ensures.table (layer_rings c.args.layer.now)).1

pub made_groups-made-requires-clause-few : goal.made_groups-made-requires-clause-few
made_groups-made-requires-clause-few c = omega (arith, ap length c.deref-3.ensures.value, c.in_ok-firsts.ensures.few, length-map c.features.result.now (λ f. f.id), c.features.ensures.within.few_features)

pub made_groups-made-requires-clause-are : goal.made_groups-made-requires-clause-are
made_groups-made-requires-clause-are c = subst (λ (fs : List ℕ). AreGroups (ids_of c.args.layer.now) fs c.deref-4.result.now) (sym c.deref-3.ensures.value)
    (subst (λ (gs : List ℕ). AreGroups (ids_of c.args.layer.now) c.in_ok-firsts.firsts.items gs) (sym c.deref-4.ensures.value)
    (subst (λ (fs : List Feature). AreGroups (ids_of fs) c.in_ok-firsts.firsts.items c.in_ok-firsts.groups.items) c.features.ensures.value c.in_ok-firsts.ensures))

pub made_groups-made-requires-clause-features : goal.made_groups-made-requires-clause-features
made_groups-made-requires-clause-features c =
    let are = subst (λ (fs : List Feature). AreGroups (ids_of fs) c.in_ok-firsts.firsts.items c.in_ok-firsts.groups.items) c.features.ensures.value c.in_ok-firsts.ensures in
    omega (arith, ap length c.deref-4.ensures.value, few_features c.args.layer.now c.args.table.now c.requires.table c.noding_law.ensures.count c.in_ok-firsts.firsts.items c.in_ok-firsts.groups.items are)

pub made_groups-made-requires-clause-kept : goal.made_groups-made-requires-clause-kept
made_groups-made-requires-clause-kept c =
    let many : c.len.result ≡ length c.deref-3.result.now = omega (arith, c.len.ensures, c.in_ok-firsts.firsts.ok, ap length c.deref-3.ensures.value) in
    c.in_ok-kept.ensures ∙ ap₂ (λ (gs : List ℕ) (n : ℕ). map (λ g. kept_edges c.args.table.now (in_group gs g)) (numbers n)) (c.deref-2.ensures.value ∙ sym c.deref-4.ensures.value) many

pub returns-clause-groups : goal.returns-clause-groups
returns-clause-groups c =
    let t = c.args.table.now in
    let ids = ids_of c.args.layer.now in
    let are = subst (λ (fs : List Feature). AreGroups (ids_of fs) c.in_ok-firsts.firsts.items c.in_ok-firsts.groups.items) c.features.ensures.value c.in_ok-firsts.ensures in
    c.of.ensures ∙ (c.in_ok-made.ensures.made ∙ (ap (λ fs. map (λ f. dissolved_group next_at face_at t ids (get_or ids f [])) fs) c.deref-3.ensures.value
    ∙ all_groups t ids c.in_ok-firsts.firsts.items c.in_ok-firsts.groups.items are))

pub returns-clause-segments : goal.returns-clause-segments
returns-clause-segments c = subst (All (HasKeptOnce c.args.table.now (ids_of c.args.layer.now))) (sym (returns-clause-groups c))
    (all_once c.args.layer.now c.args.table.now c.requires.table c.law.ensures.in_order (subst AllEnds (sym c.requires.table) (c.noding_law.ensures.table (layer_rings c.args.layer.now)).1) c.requires.even c.requires.apart)

pub returns-clause-covering : goal.returns-clause-covering
returns-clause-covering c = subst (All (CoversAsMembers c.args.table.now c.args.layer.now)) (sym (returns-clause-groups c))
    (all_covering c.args.layer.now c.args.table.now c.requires.table c.law.ensures.in_order (subst AllEnds (sym c.requires.table) (c.noding_law.ensures.table (layer_rings c.args.layer.now)).1) c.requires.even c.requires.apart c.noding_law.ensures.count c.noding_law.ensures.marks)
