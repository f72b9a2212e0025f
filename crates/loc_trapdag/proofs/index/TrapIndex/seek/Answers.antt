use Rattle.std.proofs.Common.{sym, ◌∙◌, ap, arith}
use Rattle.std.specs.Prelude.{Some}
use Rattle.loc_trapdag.specs.Graphs.{Graph}
use Rattle.loc_trapdag.proofs.Descent.{step_read, edge_real, seek_before_some, seek_behind_some, seek_before, seek_behind, seek_above, seek_below}
use Rattle.loc_trapdag.proofs.index.TrapIndex.seek.Goals as goal

pub ends-low-requires : goal.ends-low-requires
ends-low-requires c =
    record { in_range = edge_real c.args.ranks.now c.args.self.now c.requires.graph c.down.n c.in-Some.step c.down.invariant.real (step_read c.args.ranks.now c.args.self.now c.requires.graph c.down.n c.down.invariant.real c.self.inside.cuts.items (ap (λ (v : Graph). v.cuts) c.self.view_is) c.index.result.now c.index.ensures (Some c.in-Some.step) c.in-Some.is) }

pub unwrap-n-requires : goal.unwrap-n-requires
unwrap-n-requires c =
    seek_before_some c.args.ranks.now c.args.self.now c.requires.graph c.down.n c.in-Some.step c.down.invariant.real (step_read c.args.ranks.now c.args.self.now c.requires.graph c.down.n c.down.invariant.real c.self.inside.cuts.items (ap (λ (v : Graph). v.cuts) c.self.view_is) c.index.result.now c.index.ensures (Some c.in-Some.step) c.in-Some.is) c.args.edge c.requires.calm c.requires.is_new c.down.invariant.begins (omega (arith, c.ends-lo.ensures.lower, c.ends-low.ensures.lower))

pub unwrap-requires : goal.unwrap-requires
unwrap-requires c =
    seek_behind_some c.args.ranks.now c.args.self.now c.requires.graph c.down.n c.in-Some.step c.down.invariant.real (step_read c.args.ranks.now c.args.self.now c.requires.graph c.down.n c.down.invariant.real c.self.inside.cuts.items (ap (λ (v : Graph). v.cuts) c.self.view_is) c.index.result.now c.index.ensures (Some c.in-Some.step) c.in-Some.is) c.args.edge c.requires.calm c.requires.is_new c.down.invariant.begins (omega (arith, c.ends-lo.ensures.lower, c.ends-low.ensures.upper))

pub down-smaller-then-lo-low : goal.down-smaller-then-lo-low
down-smaller-then-lo-low c =
    let go = seek_before c.args.ranks.now c.args.self.now c.requires.graph c.down.n c.in-Some.step c.down.invariant.real (step_read c.args.ranks.now c.args.self.now c.requires.graph c.down.n c.down.invariant.real c.self.inside.cuts.items (ap (λ (v : Graph). v.cuts) c.self.view_is) c.index.result.now c.index.ensures (Some c.in-Some.step) c.in-Some.is) c.args.edge c.requires.calm c.requires.is_new c.down.invariant.begins (omega (arith, c.ends-lo.ensures.lower, c.ends-low.ensures.lower)) c.unwrap-n.result c.unwrap-n.ensures in
    omega (arith, go.0, go.1)

pub down-preserved-then-lo-low : goal.down-preserved-then-lo-low
down-preserved-then-lo-low c =
    let go = seek_before c.args.ranks.now c.args.self.now c.requires.graph c.down.n c.in-Some.step c.down.invariant.real (step_read c.args.ranks.now c.args.self.now c.requires.graph c.down.n c.down.invariant.real c.self.inside.cuts.items (ap (λ (v : Graph). v.cuts) c.self.view_is) c.index.result.now c.index.ensures (Some c.in-Some.step) c.in-Some.is) c.args.edge c.requires.calm c.requires.is_new c.down.invariant.begins (omega (arith, c.ends-lo.ensures.lower, c.ends-low.ensures.lower)) c.unwrap-n.result c.unwrap-n.ensures in
    record { real = go.1; begins = go.2 }

pub down-smaller-then-high-lo : goal.down-smaller-then-high-lo
down-smaller-then-high-lo c =
    let go = seek_behind c.args.ranks.now c.args.self.now c.requires.graph c.down.n c.in-Some.step c.down.invariant.real (step_read c.args.ranks.now c.args.self.now c.requires.graph c.down.n c.down.invariant.real c.self.inside.cuts.items (ap (λ (v : Graph). v.cuts) c.self.view_is) c.index.result.now c.index.ensures (Some c.in-Some.step) c.in-Some.is) c.args.edge c.requires.calm c.requires.is_new c.down.invariant.begins (omega (arith, c.ends-lo.ensures.lower, c.ends-low.ensures.upper)) c.unwrap.result c.unwrap.ensures in
    omega (arith, go.0, go.1)

pub down-preserved-then-high-lo : goal.down-preserved-then-high-lo
down-preserved-then-high-lo c =
    let go = seek_behind c.args.ranks.now c.args.self.now c.requires.graph c.down.n c.in-Some.step c.down.invariant.real (step_read c.args.ranks.now c.args.self.now c.requires.graph c.down.n c.down.invariant.real c.self.inside.cuts.items (ap (λ (v : Graph). v.cuts) c.self.view_is) c.index.result.now c.index.ensures (Some c.in-Some.step) c.in-Some.is) c.args.edge c.requires.calm c.requires.is_new c.down.invariant.begins (omega (arith, c.ends-lo.ensures.lower, c.ends-low.ensures.upper)) c.unwrap.result c.unwrap.ensures in
    record { real = go.1; begins = go.2 }

pub down-smaller-then-lower : goal.down-smaller-then-lower
down-smaller-then-lower c =
    let go = seek_above c.args.ranks.now c.args.self.now c.requires.graph c.down.n c.in-Some.step c.down.invariant.real (step_read c.args.ranks.now c.args.self.now c.requires.graph c.down.n c.down.invariant.real c.self.inside.cuts.items (ap (λ (v : Graph). v.cuts) c.self.view_is) c.index.result.now c.index.ensures (Some c.in-Some.step) c.in-Some.is) c.args.edge c.requires.calm c.requires.is_new c.down.invariant.begins (omega (arith, c.ends-lo.ensures.lower, c.ends-low.ensures.lower)) (omega (arith, c.ends-lo.ensures.lower, c.ends-low.ensures.upper)) (sym c.lower.ensures ∙ c.if-lower.true) in
    omega (arith, go.0, go.1)

pub down-preserved-then-lower : goal.down-preserved-then-lower
down-preserved-then-lower c =
    let go = seek_above c.args.ranks.now c.args.self.now c.requires.graph c.down.n c.in-Some.step c.down.invariant.real (step_read c.args.ranks.now c.args.self.now c.requires.graph c.down.n c.down.invariant.real c.self.inside.cuts.items (ap (λ (v : Graph). v.cuts) c.self.view_is) c.index.result.now c.index.ensures (Some c.in-Some.step) c.in-Some.is) c.args.edge c.requires.calm c.requires.is_new c.down.invariant.begins (omega (arith, c.ends-lo.ensures.lower, c.ends-low.ensures.lower)) (omega (arith, c.ends-lo.ensures.lower, c.ends-low.ensures.upper)) (sym c.lower.ensures ∙ c.if-lower.true) in
    record { real = go.1; begins = go.2 }

pub down-smaller : goal.down-smaller
down-smaller c =
    let go = seek_below c.args.ranks.now c.args.self.now c.requires.graph c.down.n c.in-Some.step c.down.invariant.real (step_read c.args.ranks.now c.args.self.now c.requires.graph c.down.n c.down.invariant.real c.self.inside.cuts.items (ap (λ (v : Graph). v.cuts) c.self.view_is) c.index.result.now c.index.ensures (Some c.in-Some.step) c.in-Some.is) c.args.edge c.requires.calm c.requires.is_new c.down.invariant.begins (omega (arith, c.ends-lo.ensures.lower, c.ends-low.ensures.lower)) (omega (arith, c.ends-lo.ensures.lower, c.ends-low.ensures.upper)) (sym c.lower.ensures ∙ c.if-lower.false) in
    omega (arith, go.0, go.1)

pub down-preserved : goal.down-preserved
down-preserved c =
    let go = seek_below c.args.ranks.now c.args.self.now c.requires.graph c.down.n c.in-Some.step c.down.invariant.real (step_read c.args.ranks.now c.args.self.now c.requires.graph c.down.n c.down.invariant.real c.self.inside.cuts.items (ap (λ (v : Graph). v.cuts) c.self.view_is) c.index.result.now c.index.ensures (Some c.in-Some.step) c.in-Some.is) c.args.edge c.requires.calm c.requires.is_new c.down.invariant.begins (omega (arith, c.ends-lo.ensures.lower, c.ends-low.ensures.lower)) (omega (arith, c.ends-lo.ensures.lower, c.ends-low.ensures.upper)) (sym c.lower.ensures ∙ c.if-lower.false) in
    record { real = go.1; begins = go.2 }
