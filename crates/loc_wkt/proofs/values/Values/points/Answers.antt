use Rattle.std.proofs.Common.{◌≡◌, ◌<◌, length, ◌∷◌, ◌++◌, ◌∙◌, ap, Some, [], refl, rules, arith, subst, List, sym, map, None}
use Rattle.std.specs.List.{fold}
use Rattle.loc_spec_plane.specs.Points.{Point}
use Rattle.loc_spec_text.specs.{Geometry.symbols, Reader.wide_point_at}
use Rattle.loc_wkt.specs.{Fronts.goes_on_at, Lists.IsRead, Lists.listed_at, Passes.after_point, Passes.point_or_zero}
use Rattle.loc_wkt.proofs.LoopLemmas.{ArePointsSoFar, list_stops, points_begin, points_break, points_end, points_go_on}
use Rattle.loc_wkt.proofs.PassLemmas.{less_room}
use Rattle.loc_wkt.proofs.values.Values.points.Goals as goal

pub loop-point-init : goal.loop-point-init
loop-point-init c = let P = λ (xs : List Point). ArePointsSoFar c.args.self.now c.args.self.now c.args.text.now c.args.text.now xs in
    subst P (sym c.in-Ok.ensures.items) (points_begin c.args.self.now c.args.text.now c.requires.room)

pub returns-in_default-next_point-clause-err : goal.returns-in_default-next_point-clause-err
returns-in_default-next_point-clause-err c = λ h. (
  refl,
  list_stops wide_point_at after_point c.args.self.now c.loop-point.self c.args.text.now c.loop-point.rest.now c.loop-point.invariant.list c.in_default-next_point.ensures.read,
)

pub returns-in_default-goes_on-clause-err : goal.returns-in_default-goes_on-clause-err
returns-in_default-goes_on-clause-err c = λ h. (
  refl,
  points_break c.args.self.now c.loop-point.self c.next_point.new.self c.args.text.now c.loop-point.rest.now c.in-Some.more.now c.loop-point.points.items c.in-Some.point c.loop-point.invariant c.in-Some.ensures.read
      (let f : goes_on_at (symbols c.in-Some.more.now) ≡ None = search rules in f),
)

pub returns-then-not-goes_on-clause-ok : goal.returns-then-not-goes_on-clause-ok
returns-then-not-goes_on-clause-ok c =
    let found : goes_on_at (symbols c.in-Some.more.now) ≡ Some (c.in-Some-goes_on.goes_on, symbols c.in-Some-goes_on.behind.now) = search rules in
    let pushed : c.push.new.self.items ≡ c.loop-point.points.items ++ c.in-Some.point ∷ [] = search rules in
    let P = λ (xs : List Point). IsRead (listed_at wide_point_at) c.args.text.now c.in-Some-goes_on.behind.now (λ ps. (xs ≡ map (point_or_zero c.args.self.now.scale) ps) × (c.next_point.new.self ≡ fold after_point c.args.self.now ps)) in
    subst P (sym pushed) (points_end c.args.self.now c.loop-point.self c.next_point.new.self c.args.text.now c.loop-point.rest.now c.in-Some.more.now c.loop-point.points.items c.in-Some.point c.loop-point.invariant c.in-Some.ensures.read
    c.in-Some-goes_on.behind.now (found ∙ ap (λ b. Some (b, symbols c.in-Some-goes_on.behind.now)) c.if-not-goes_on.true))

pub loop-point-preserved : goal.loop-point-preserved
loop-point-preserved c =
    let found : goes_on_at (symbols c.in-Some.more.now) ≡ Some (c.in-Some-goes_on.goes_on, symbols c.in-Some-goes_on.behind.now) = search rules in
    let closer : length c.in-Some-goes_on.behind.now < length c.in-Some.more.now = search rules in
    let pushed : c.push.new.self.items ≡ c.loop-point.points.items ++ c.in-Some.point ∷ [] = search rules in
    let P = λ (xs : List Point). ArePointsSoFar c.args.self.now c.next_point.new.self c.args.text.now c.in-Some-goes_on.behind.now xs in
    subst P (sym pushed) (points_go_on c.args.self.now c.loop-point.self c.next_point.new.self c.args.text.now c.loop-point.rest.now c.in-Some.more.now c.loop-point.points.items c.in-Some.point c.loop-point.invariant c.in-Some.ensures.read
    c.in-Some-goes_on.behind.now (found ∙ ap (λ b. Some (b, symbols c.in-Some-goes_on.behind.now)) c.if-not-goes_on.false)
    (less_room c.next_point.new.self c.in-Some.more.now c.in-Some-goes_on.behind.now c.in-Some.ensures.room (omega (arith, closer)))
    (omega (arith, c.in-Some.ensures.shorter, closer)))
