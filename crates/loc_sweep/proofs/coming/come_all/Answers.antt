use Rattle.std.proofs.Common.{◌≡◌, true, refl, sym, subst, arith}
use Rattle.std.proofs.lemmas.Bool.{not-true}
use Rattle.loc_spec_plane.specs.Lists.{is_in}
use Rattle.loc_status.specs.Lists.{is_chain_at}
use Rattle.loc_sweep.proofs.EdgesComing.{IsComing, all_came, begins_here, none_came, not_yet, one_came}
use Rattle.loc_sweep.proofs.Noting.{AreNoted, all_noted, none_noted, one_noted}
use Rattle.loc_sweep.proofs.BesideCorner.{all_past, floor_first, lies_kept}
use Rattle.loc_sweep.proofs.coming.come_all.Goals as goal
use Rattle.loc_sweep.proofs.coming.come_all.Goals.{then-edge-first, else-edge-first}

pub come-requires-clause-chain : goal.come-requires-clause-chain
come-requires-clause-chain g c =
    let here = begins_here c.args.table.now c.law.ensures.in_order c.args.corner c.beginning-first.result.0 c.beginning-first.result.1 c.beginning-first.ensures c.loop-edge.edge c.loop-edge.invariant.behind c.loop-edge-test.true in
    subst (λ b. is_chain_at c.args.table.now b (g.S.Status.meaning c.loop-edge.status).list ≡ true) (sym here.1) c.loop-edge.invariant.coming.chain

pub come-requires-clause-is_new : goal.come-requires-clause-is_new
come-requires-clause-is_new g c = not_yet c.args.table.now c.law.ensures.in_order c.args.corner c.beginning-first.result.0 c.beginning-first.result.1 c.beginning-first.ensures c.loop-edge.edge (g.S.Status.meaning c.args.status.now) (g.S.Status.meaning c.loop-edge.status) c.loop-edge.invariant.behind c.loop-edge-test.true c.loop-edge.invariant.coming

pub loop-edge-init : goal.loop-edge-init
loop-edge-init g c =
    let m = g.S.Status.meaning c.args.status.now in
    record { behind = omega arith; coming = none_came c.args.table.now c.args.corner c.beginning-first.result.0 m c.requires.line c.requires.greatest; between = c.requires.known; noted = none_noted c.args.table.now c.args.corner c.beginning-first.result.0 m.list c.args.of_edge.now.items }

pub loop-edge-preserved : goal.loop-edge-preserved
loop-edge-preserved g c =
    let t = c.args.table.now in
    let ok = c.law.ensures.in_order in
    let first = c.beginning-first.result.0 in
    let past = c.beginning-first.result.1 in
    let e = c.loop-edge.edge in
    let mid = g.S.Status.meaning c.loop-edge.status in
    let new = g.S.Status.meaning c.come.new.status in
    let i = c.loop-edge.invariant in
    let here = c.in_ok-beside.ensures in
    let begins = begins_here t ok c.args.corner first past c.beginning-first.ensures e i.behind c.loop-edge-test.true in
    let off = not-true (is_in e mid.list) (not_yet t ok c.args.corner first past c.beginning-first.ensures e (g.S.Status.meaning c.args.status.now) mid i.behind c.loop-edge-test.true i.coming) in
    record {
      behind = omega (arith, i.behind);
      coming = one_came t ok c.args.corner first past c.beginning-first.ensures e (g.S.Status.meaning c.args.status.now) mid new i.behind c.loop-edge-test.true i.coming here.here here.chain here.others;
      between = elim c.if-edge-first.branch [
        | then-edge-first w ↦ rw (w.between-is) (floor_first t ok c.args.corner e begins.0 begins.1 mid.list new.list here.here.list (all_past t c.args.corner first e (g.S.Status.meaning c.args.status.now) mid i.coming w.if-edge-first.true) c.in_ok-beside.beside off here.beside)
        | else-edge-first w ↦ rw (w.between-is) (lies_kept t c.args.corner e mid.list new.list begins.1 here.here.list c.loop-edge.between i.between)
      ];
      noted = one_noted t c.args.corner first e mid.list new.list c.in_ok-beside.beside c.args.of_edge.now.items c.loop-edge.of_edge.items c.note_above.new.of_edge.items _
          (λ d low high. (begins_here t ok c.args.corner first past c.beginning-first.ensures d low (omega (arith, high, c.loop-edge-test.true))).1) i.behind i.noted
          off here.here.list here.beside
          c.note_above.ensures.as_many c.note_above.ensures.above c.note_above.ensures.others c.note_above.ensures.elsewhere (omega (arith, c.loop-edge-test.true, c.beginning-first.ensures.within, c.note_above.ensures.as_many, i.noted.as_many, c.requires.as_many)) refl;
    }

pub returns-clause-here : goal.returns-clause-here
returns-clause-here g c = all_came c.args.table.now c.law.ensures.in_order c.args.corner c.beginning-first.result.0 c.beginning-first.result.1 c.beginning-first.ensures (g.S.Status.meaning c.args.status.now) (g.S.Status.meaning c.loop-edge.status) c.requires.in_range c.requires.begun
    (subst (λ k. IsComing c.args.table.now c.args.corner c.beginning-first.result.0 k (g.S.Status.meaning c.args.status.now) (g.S.Status.meaning c.loop-edge.status)) (let past : c.loop-edge.edge ≡ c.beginning-first.result.1 = omega (arith, c.loop-edge-test.false, c.loop-edge.auto.edge-end, c.beginning-first.ensures.in_order) in past) c.loop-edge.invariant.coming)

pub returns-clause-below : goal.returns-clause-below
returns-clause-below g c = all_noted c.args.table.now c.args.corner c.beginning-first.result.0 c.beginning-first.result.1 (g.S.Status.meaning c.loop-edge.status).list c.args.of_edge.now.items c.loop-edge.of_edge.items c.beginning-first.ensures
    (subst (λ k. AreNoted c.args.table.now c.args.corner c.beginning-first.result.0 k (g.S.Status.meaning c.loop-edge.status).list c.args.of_edge.now.items c.loop-edge.of_edge.items) (let past : c.loop-edge.edge ≡ c.beginning-first.result.1 = omega (arith, c.loop-edge-test.false, c.loop-edge.auto.edge-end, c.beginning-first.ensures.in_order) in past) c.loop-edge.invariant.noted)

pub returns-clause-between : goal.returns-clause-between
returns-clause-between g c = c.loop-edge.invariant.between
