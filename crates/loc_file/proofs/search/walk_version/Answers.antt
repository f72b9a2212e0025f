use Rattle.std.proofs.Common.{◌≡◌, suc, ◌+◌, ◌-◌, ◌≤◌, length, refl, sym, ◌∙◌, ap, subst, arith}
use Rattle.loc_spec_index.specs.Nodes.{Left, Right, child}
use Rattle.loc_file.specs.{Searches.answer_of, Depths.depth_from}
use Rattle.loc_laws_search.proofs.Walking.{walk-on, walk-left, walk-right, same-walk}
use Rattle.loc_file.proofs.{Deep.depth-child, Deep.same-depth, Walked.child-within, Walked.edges-there}
use Rattle.loc_file.proofs.search.walk_version.Goals as goal
use Rattle.loc_file.proofs.search.walk_version.Goals.{in-Above, in-Below}

pub side-requires : goal.side-requires
side-requires g c = let e = edges-there c.args.held.now.content c.args.views.now c.requires.fits in record { in_range = omega (arith, e, c.row-row.ensures.within.item) }

pub returns-in-On-clause-found : goal.returns-in-On-clause-found
returns-in-On-clause-found g c =
    let l = c.loop-walked in
    sym (ap answer_of (l.invariant.found ∙ walk-on c.args.views.now c.args.held.now.content.nodes c.args.p c.args.version (42 - l.walked) l.at l.floor c.row-row.result c.if-at-eq0.false (omega arith) c.row-row.ensures.value c.in-On.ensures.value))

pub returns-in-On-clause-within : goal.returns-in-On-clause-within
returns-in-On-clause-within g c =
    let l = c.loop-walked in
    let d = depth-child c.args.held.now.content.nodes c.args.version (42 - l.walked) l.at Left c.row-row.result c.if-at-eq0.false (omega arith) c.row-row.ensures.value in
    omega (arith, l.invariant.few, c.side.ensures.counted, d)

pub loop-walked-preserved : goal.loop-walked-preserved
loop-walked-preserved g c =
    let t = c.args.views.now in
    let rows = c.args.held.now.content.nodes in
    let l = c.loop-walked in
    let i = l.invariant in
    elim c.match-side.branch [
      | in-Above w ↦ record {
        found = i.found ∙ (walk-right t rows c.args.p c.args.version (42 - l.walked) l.at l.floor c.row-row.result c.if-at-eq0.false (omega arith) c.row-row.ensures.value w.in-Above.ensures.value
            ∙ same-walk t rows c.args.p c.args.version (42 - l.walked - 1) (42 - (l.walked + 1)) _ _ _ _ (omega arith) (sym (w.at-is ∙ w.right_of-at.ensures)) (sym w.floor-is));
        within = subst (λ n. n ≤ length rows) (sym (w.at-is ∙ w.right_of-at.ensures)) (child-within (length c.args.held.now.content.edges) (length rows) c.row-row.result Right c.args.version c.row-row.ensures.within);
        counted = omega (arith, i.counted, c.side.ensures.counted);
        few =
            let d = depth-child rows c.args.version (42 - l.walked) l.at Right c.row-row.result c.if-at-eq0.false (omega arith) c.row-row.ensures.value in
            let e : depth_from rows c.args.version (42 - (l.walked + 1)) c.match-side.at ≡ depth_from rows c.args.version (42 - l.walked - 1) (child c.row-row.result Right c.args.version) = same-depth rows c.args.version _ _ _ _ (omega arith) (w.at-is ∙ w.right_of-at.ensures) in
            omega (arith, i.few, c.side.ensures.counted, d, e);
      }
      | in-Below w ↦ record {
        found = i.found ∙ (walk-left t rows c.args.p c.args.version (42 - l.walked) l.at l.floor c.row-row.result c.if-at-eq0.false (omega arith) c.row-row.ensures.value w.in-Below.ensures.value
            ∙ same-walk t rows c.args.p c.args.version (42 - l.walked - 1) (42 - (l.walked + 1)) _ _ _ _ (omega arith) (sym (w.at-is ∙ w.left_of-at.ensures)) (sym w.floor-is));
        within = subst (λ n. n ≤ length rows) (sym (w.at-is ∙ w.left_of-at.ensures)) (child-within (length c.args.held.now.content.edges) (length rows) c.row-row.result Left c.args.version c.row-row.ensures.within);
        counted = omega (arith, i.counted, c.side.ensures.counted);
        few =
            let d = depth-child rows c.args.version (42 - l.walked) l.at Left c.row-row.result c.if-at-eq0.false (omega arith) c.row-row.ensures.value in
            let e : depth_from rows c.args.version (42 - (l.walked + 1)) c.match-side.at ≡ depth_from rows c.args.version (42 - l.walked - 1) (child c.row-row.result Left c.args.version) = same-depth rows c.args.version _ _ _ _ (omega arith) (w.at-is ∙ w.left_of-at.ensures) in
            omega (arith, i.few, c.side.ensures.counted, d, e);
      }
    ]

pub returns-else-at-eq0-2-clause-found : goal.returns-else-at-eq0-2-clause-found
returns-else-at-eq0-2-clause-found g c =
    let l = c.loop-walked in
    sym (ap answer_of (l.invariant.found ∙ same-walk c.args.views.now c.args.held.now.content.nodes c.args.p c.args.version (42 - l.walked) 0 l.at (suc (l.at - 1)) l.floor l.floor (omega (arith, c.loop-walked-test.false)) (omega (arith, c.if-at-eq0-2.false)) refl))
