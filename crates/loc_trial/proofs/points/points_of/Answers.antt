use Rattle.std.proofs.Common.{◌≡◌, ◌+◌, ◌*◌, ◌%◌, ◌++◌, ap, sym, subst, ◌∙◌, arith, rules}
use Rattle.std.specs.{Prelude.unsigned_abs, List.flat_map, List.range_with_len}
use Rattle.loc_spec_plane.specs.Points.{Point}
use Rattle.loc_spec_text.specs.Points.{ended}
use Rattle.loc_gen.specs.Layers.{start_of}
use Rattle.loc_trial.specs.Generated.{point_line}
use Rattle.loc_trial.proofs.PointTexts.{one_more}
use Rattle.loc_trial.proofs.points.points_of.Goals as goal

pub loop-t-preserved : goal.loop-t-preserved
loop-t-preserved c =
    let x : c.unsigned_abs.result ≡ start_of c.args.shift + (c.loop-t.t * 40503) % (4 * c.args.n) = (let a : c.unsigned_abs.result ≡ unsigned_abs c.x.result = search rules in a) ∙ ap unsigned_abs (c.x.ensures.value ∙ ap (λ (p : Point). p.x) c.gen_point-p.ensures) in
    let y : c.unsigned_abs-in-loop-t.result ≡ (c.loop-t.t * 25173) % (2 * c.args.n) = (let b : c.unsigned_abs-in-loop-t.result ≡ unsigned_abs c.y.result = search rules in b) ∙ ap unsigned_abs (c.y.ensures.value ∙ ap (λ (p : Point). p.y) c.gen_point-p.ensures) in
    let more = rw (x, y) at c.in_ok-push_point.ensures in
    more ∙ ap (λ l. l ++ ended (point_line c.args.n c.args.shift c.loop-t.t)) c.loop-t.invariant ∙ sym (one_more (λ t. ended (point_line c.args.n c.args.shift t)) c.loop-t.t)

pub loop-t-init : goal.loop-t-init
loop-t-init c = c.new-text.ensures.items

pub returns : goal.returns
returns c =
    let all : c.loop-t.t ≡ c.args.n = omega (arith, c.loop-t-test.false) in
    subst (λ k. c.loop-t.text.items ≡ flat_map (λ t. ended (point_line c.args.n c.args.shift t)) (range_with_len 0 k)) all c.loop-t.invariant
