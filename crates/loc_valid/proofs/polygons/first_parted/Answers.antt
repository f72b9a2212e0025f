use Rattle.std.proofs.Common.{◌≡◌, ℕ, ◌+◌, ◌<◌, length, sym, ◌∙◌, ap, arith, below_more}
use Rattle.std.specs.Prelude.{Some, option_map}
use Rattle.loc_spec_valid.specs.Breaches.{is_parted}
use Rattle.loc_rings.specs.Values.{rings_before}
use Rattle.loc_faces.specs.Subdivision.{face_at, next_at}
use Rattle.loc_laws_valid.proofs.Least.{first_at, first_none}
use Rattle.loc_valid.specs.Judged.{parts_at}
use Rattle.loc_valid.proofs.RingCounts.{empty, parted, whole}
use Rattle.loc_valid.proofs.polygons.first_parted.Goals as goal
use Rattle.loc_valid.proofs.polygons.first_parted.Goals.{then-first-past+in_ok-parts+else-parts-ne1, else-first-past}

pub returns-then-parts-ne1-clause-found : goal.returns-then-parts-ne1-clause-found
returns-then-parts-ne1-clause-found c =
    let polygons = c.args.feature.now.polygons in
    let n = c.loop-n.n in
    let lt : n < length polygons = omega (arith, c.loop-n-test.true, c.polygons-n-end.ensures.value, ap length c.rings-rings.ensures) in
    let first : c.polygon-first.result.0 ≡ rings_before polygons n = c.polygon-first.ensures.first ∙ ap (λ ps. rings_before ps n) c.rings-rings.ensures in
    let past : c.polygon-first.result.1 ≡ rings_before polygons (n + 1) = c.polygon-first.ensures.past ∙ ap (λ ps. rings_before ps (n + 1)) c.rings-rings.ensures in
    sym (ap (option_map (λ k. (k, parts_at polygons k))) (first_at (is_parted next_at face_at polygons) (length polygons) n lt (parted polygons n lt c.polygon-first.result.0 c.polygon-first.result.1 first past c.if-first-past.true (λ one. c.if-parts-ne1.true (c.in_ok-parts.ensures.parts ∙ one))) c.loop-n.invariant)
    ∙ ap (λ (parts : ℕ). Some (n, parts)) (sym c.in_ok-parts.ensures.parts))

pub loop-n-preserved : goal.loop-n-preserved
loop-n-preserved c =
    let polygons = c.args.feature.now.polygons in
    let n = c.loop-n.n in
    let lt : n < length polygons = omega (arith, c.loop-n-test.true, c.polygons-n-end.ensures.value, ap length c.rings-rings.ensures) in
    let first : c.polygon-first.result.0 ≡ rings_before polygons n = c.polygon-first.ensures.first ∙ ap (λ ps. rings_before ps n) c.rings-rings.ensures in
    let past : c.polygon-first.result.1 ≡ rings_before polygons (n + 1) = c.polygon-first.ensures.past ∙ ap (λ ps. rings_before ps (n + 1)) c.rings-rings.ensures in
    below_more _ _ c.loop-n.invariant (elim c.if-first-past.branch [
      | then-first-past+in_ok-parts+else-parts-ne1 w ↦ whole polygons n lt c.polygon-first.result.0 c.polygon-first.result.1 first past (sym w.in_ok-parts.ensures.parts ∙ w.if-parts-ne1.false)
      | else-first-past w ↦ empty polygons n lt c.polygon-first.result.0 c.polygon-first.result.1 first past w.if-first-past.false
    ])

pub returns-clause-found : goal.returns-clause-found
returns-clause-found c =
    let polygons = c.args.feature.now.polygons in
    sym (ap (option_map (λ k. (k, parts_at polygons k))) (first_none (is_parted next_at face_at polygons) (length polygons) (λ k lt. c.loop-n.invariant k (omega (arith, c.loop-n-test.false, c.polygons-n-end.ensures.value, ap length c.rings-rings.ensures, lt)))))
