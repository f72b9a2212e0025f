use Rattle.std.proofs.Common.{◌≡◌, ℕ, Bool, true, ◌+◌, ◌*◌, sym, ◌∙◌, ap, subst, arith}
use Rattle.std.proofs.Math.ListN.{set}
use Rattle.loc_spec_plane.specs.{Lists.is_in, Covers.cover_above}
use Rattle.loc_faces.specs.FaceLists.{face_in}
use Rattle.loc_valid.proofs.Covered.{AreNoted, note_more, note_same}
use Rattle.loc_valid.proofs.parts.covered_faces.Goals as goal
use Rattle.loc_valid.proofs.parts.covered_faces.Goals.{then-contains, else-contains}

pub loop-edge-preserved : goal.loop-edge-preserved
loop-edge-preserved c =
    let t = c.args.table.now in
    let names : ℕ → Bool = λ e. is_in 0 (cover_above t e) in
    let n = c.loop-edge.edge in
    let told : c.contains.result ≡ names n = c.contains.ensures.value ∙ ap (is_in 0) (c.above.ensures ∙ c.requires.is_true.above n (omega (arith, c.loop-edge-test.true, c.edge_count-edge-end.ensures.value))) in
    elim c.if-contains.branch [
      | then-contains w ↦ subst (λ covered. AreNoted (face_in c.args.faces.now) names c.args.faces.now.count (n + 1) covered.items) (sym w.covered-is)
          (subst (λ f. AreNoted (face_in c.args.faces.now) names c.args.faces.now.count (n + 1) (set c.loop-edge.covered.items f true)) (sym w.face_of.ensures)
          (note_more (face_in c.args.faces.now) names c.args.faces.now.count n c.loop-edge.covered.items (sym told ∙ w.if-contains.true) (c.requires.within (2 * n)) c.loop-edge.invariant))
      | else-contains w ↦ subst (λ covered. AreNoted (face_in c.args.faces.now) names c.args.faces.now.count (n + 1) covered.items) (sym w.covered-is)
          (note_same (face_in c.args.faces.now) names c.args.faces.now.count n c.loop-edge.covered.items (sym told ∙ w.if-contains.false) c.loop-edge.invariant)
    ]
