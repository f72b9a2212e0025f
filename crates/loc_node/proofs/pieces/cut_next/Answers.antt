use Rattle.std.proofs.Common.{ℕ, ◌-◌, ◌<◌, get_or, sym, ◌∙◌, ap, inl, inr, arith}
use Rattle.std.proofs.{lemmas.Bool.both_ways, lemmas.Bool.cases_eq, lemmas.List.get_or_default}
use Rattle.std.proofs.lemmas.Result.{on_ok_weaker}
use Rattle.loc_spec_plane.specs.{Points.Edge, Tables.cut_at}
use Rattle.loc_laws_order.proofs.Tests.{same_edge_decides}
use Rattle.loc_node.proofs.pieces.cut_next.Goals as goal

pub returns-then-is_again : goal.returns-then-is_again
returns-then-is_again c = λ d.
    (let n = c.args.n in
    let tagged = c.args.tagged.now in
    let some : 0 < n = elim (cases_eq n 0) [
      | inl none ↦ absurd (both_ways _ (c.is_again.ensures.first none) c.if-is_again.true)
      | inr other ↦ omega (arith, other)
    ] in
    c.requires.last some d ∙ ap (λ e. cut_at c.args.finder.now e) (sym ((same_edge_decides (get_or tagged n d).0 (get_or tagged (n - 1) d).0).0 (sym (c.is_again.ensures.later some d) ∙ c.if-is_again.true))))

pub returns : goal.returns
returns c = on_ok_weaker c.cut.result (λ is d. is ∙ ap (λ (t : Edge × ℕ). cut_at c.args.finder.now t.0) (get_or_default c.args.tagged.now c.args.n c.index-tagged-n.result d c.requires.in_range)) c.cut.ensures
