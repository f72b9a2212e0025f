use Rattle.std.proofs.Common.{◌≡◌, ℕ, take, ◌+◌, ◌-◌, ◌++◌, length, get_or, sym, ◌∙◌, ap, ap₂, subst, arith}
use Rattle.std.proofs.lemmas.List.{take_all}
use Rattle.loc_spec_plane.specs.{Points.Edge, Tables.cut_at}
use Rattle.loc_laws_order.proofs.TableOrder.{origin_point}
use Rattle.loc_edges.specs.Tagged.{tagged_by}
use Rattle.loc_node.specs.Pieces.{IsRefused, cut_tagged, placed_from}
use Rattle.loc_node.proofs.Cutting.{cut_more, cut_within}
use Rattle.loc_node.proofs.Placed.{length-placed, many_placed, placed_at}
use Rattle.loc_node.proofs.Refusals.{refused_more, shown}
use Rattle.loc_node.proofs.pieces.cut_all.Goals as goal

pub loop-n-init : goal.loop-n-init
loop-n-init c = record { cut = c.new-all.ensures.items; few = omega (arith, ap length c.new-all.ensures.items); last = λ some d. absurd (omega (arith, some)) }

pub cut_next-requires : goal.cut_next-requires
cut_next-requires c = record { in_range = c.loop-n-test.true; last = c.loop-n.invariant.last }

pub add_pieces-requires : goal.add_pieces-requires
add_pieces-requires c = record { few = c.loop-n.invariant.few }

pub returns-in_err-add_pieces-clause-refused : goal.returns-in_err-add_pieces-clause-refused
returns-in_err-add_pieces-clause-refused c =
    let cut = cut_at c.args.finder.now in
    let tagged = c.args.tagged.now in
    let n = c.loop-n.n in
    let t : Edge × ℕ = (record { lo = origin_point; hi = origin_point }, 0) in
    let pieces : c.deref.result.now ≡ cut_at c.args.finder.now (get_or c.args.tagged.now c.loop-n.n t).0 = c.deref.ensures.value ∙ c.in_ok-cut_next.ensures t in
    let within = cut_within cut (placed_from 0 tagged) n t (omega (arith, c.loop-n-test.true, length-placed 0 tagged)) in
    let one : (get_or (placed_from 0 tagged) n t).0 ≡ (get_or tagged n t).0 = ap (λ (u : Edge × ℕ). u.0) (placed_at 0 tagged n t t c.loop-n-test.true) in
    shown _ (IsRefused (length (cut_tagged cut tagged))) c.from_residual-in_err-add_pieces.result
    (λ fault is. subst (IsRefused (length (cut_tagged cut tagged))) (sym is) (refused_more _ _ c.in_err-add_pieces.field-0.0 (omega (arith, within, ap length c.loop-n.invariant.cut, ap length pieces, ap (λ e. length (cut e)) one, many_placed cut tagged)) c.in_err-add_pieces.ensures.refused))
    c.from_residual-in_err-add_pieces.ensures.1

pub loop-n-preserved : goal.loop-n-preserved
loop-n-preserved c =
    let cut = cut_at c.args.finder.now in
    let tagged = c.args.tagged.now in
    let n = c.loop-n.n in
    let t : Edge × ℕ = (record { lo = origin_point; hi = origin_point }, 0) in
    let pieces = c.deref.ensures.value ∙ c.in_ok-cut_next.ensures t in
    let same : 0 + n ≡ n = omega arith in
    let here : get_or (placed_from 0 tagged) n t ≡ ((get_or tagged n t).0, n) = placed_at 0 tagged n t t c.loop-n-test.true ∙ ap (λ k. ((get_or tagged n t).0, k)) same in
    record {
      cut = c.in_ok-add_pieces.ensures.ok
          ∙ (ap₂ (λ ts es. ts ++ tagged_by n es) c.loop-n.invariant.cut pieces ∙ (ap (λ (u : Edge × ℕ). cut_tagged cut (take n (placed_from 0 tagged)) ++ tagged_by u.1 (cut u.0)) (sym here) ∙ sym (cut_more cut (placed_from 0 tagged) n t (omega (arith, c.loop-n-test.true, length-placed 0 tagged)))));
      few = c.in_ok-add_pieces.ensures.few;
      last = λ some d. (let here : c.loop-n.n ≡ (c.loop-n.n + 1) - 1 = omega arith in c.in_ok-cut_next.ensures d ∙ ap (λ k. cut (get_or tagged k d).0) here);
    }

pub returns-clause-ok : goal.returns-clause-ok
returns-clause-ok c = c.loop-n.invariant.cut ∙ ap (cut_tagged (cut_at c.args.finder.now)) (take_all c.loop-n.n (placed_from 0 c.args.tagged.now) (omega (arith, c.loop-n-test.false, length-placed 0 c.args.tagged.now)))

pub returns-clause-few : goal.returns-clause-few
returns-clause-few c = c.loop-n.invariant.few
