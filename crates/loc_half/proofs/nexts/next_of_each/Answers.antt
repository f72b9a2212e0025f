use Rattle.std.proofs.Common.{◌≡◌, ℕ, List, ◌++◌, length, get_or, take, drop, sym, ◌∙◌, ap, subst, inl, inr, arith}
use Rattle.std.proofs.{lemmas.Bool.cases_eq, Math.Seq.take-append_seam}
use Rattle.loc_spec_plane.specs.HalfEdges.{half_edge_count, target, IsNext}
use Rattle.loc_half.proofs.Halves.{target-fits}
use Rattle.loc_half.proofs.nexts.next_of_each.Goals as goal

-- what is written back into a list is the whole list
back : (n : ℕ) (new old : List ℕ) → n ≡ length new → take n (new ++ drop (length new) old) ≡ new
back n new old many = subst (λ k. take k (new ++ drop (length new) old) ≡ new) (sym many) (take-append_seam new (drop (length new) old))

pub loop-corner-preserved : goal.loop-corner-preserved
loop-corner-preserved c =
    let t = c.args.table.now in
    let corner = c.loop-corner.corner in
    let new : List ℕ = c.link_corner.new.nexts in
    let many : length new ≡ half_edge_count t = c.link_corner.ensures.as_many ∙ (ap length c.deref_mut.ensures.value ∙ c.loop-corner.invariant.as_many) in
    let whole = back c.loop-corner.nexts.len new c.loop-corner.nexts.items (sym (c.link_corner.ensures.as_many ∙ c.deref_mut.ensures.len)) in
    record {
      as_many = ap length whole ∙ many;
      each = λ h fits before. subst (IsNext t h) (sym (ap (λ ns. get_or ns h 0) whole)) (elim (cases_eq (target t h) corner) [
        | inl here ↦ c.link_corner.ensures.linked h fits here
        | inr other ↦ subst (IsNext t h) (sym (c.link_corner.ensures.others h other ∙ ap (λ ns. get_or ns h 0) c.deref_mut.ensures.value)) (c.loop-corner.invariant.each h fits (omega (arith, before, other)))
      ]);
    }

pub returns-clause-nexts : goal.returns-clause-nexts
returns-clause-nexts c = λ h lt. (let fits = target-fits c.args.table.now c.law.ensures.in_order h lt in c.loop-corner.invariant.each h lt (omega (arith, fits, c.loop-corner-test.false)))
