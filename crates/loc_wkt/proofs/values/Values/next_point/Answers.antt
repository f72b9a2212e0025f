use Rattle.std.proofs.Common.{◌≤◌, rules, arith, refl, subst, sym, ◌∙◌}
use Rattle.loc_spec_text.specs.Geometry.{symbols, two}
use Rattle.loc_wkt.specs.NumberTexts.{text_of}
use Rattle.loc_wkt.proofs.FrontLemmas.{at_none}
use Rattle.loc_wkt.proofs.PassLemmas.{both_numbers, no_first, no_second, number_room, point_kept, point_made, point_room, wide_point_kept, wide_room}
use Rattle.loc_wkt.proofs.values.Values.next_point.Goals as goal

pub returns-in_err-x-clause-read : goal.returns-in_err-x-clause-read
returns-in_err-x-clause-read c = at_none _ _ _ c.from_residual.ensures (no_first (symbols c.args.text.now) c.in_err-x.ensures.found)

pub returns-in_err-y-clause-read : goal.returns-in_err-y-clause-read
returns-in_err-y-clause-read c = at_none _ _ _ c.from_residual-in_err-y.ensures (no_second (symbols c.args.text.now) (symbols c.in_ok-x.rest.now) (text_of c.in_ok-x.x) c.in_ok-x.ensures.found c.in_err-y.ensures.found)

pub value-requires-2-clause-room : goal.value-requires-2-clause-room
value-requires-2-clause-room c = number_room c.args.self.now c.value.new.self (text_of c.in_ok-x.x) c.args.text.now c.value.ensures.counted c.requires.room (omega (arith, c.in_ok-x.ensures.shorter, c.in_ok-y.ensures.shorter))

pub returns-in-None-clause-read : goal.returns-in-None-clause-read
returns-in-None-clause-read c = let v = c.args.self.now in let x = (text_of c.in_ok-x.x) in let y = (text_of c.in_ok-y.y) in record {
  member = two x y;
  gives = both_numbers (symbols c.args.text.now) (symbols c.in_ok-x.rest.now) (symbols c.in_ok-y.rest.now) x y c.in_ok-x.ensures.found c.in_ok-y.ensures.found ∙ c.in-None.ensures.read x y;
  meaning = (
    point_made v c.value.new.self c.value-2.new.self x y c.value.ensures.counted c.value-2.ensures.counted c.in_ok-point.point (two x y) c.value.result c.value-2.result (search rules) c.value.ensures.value c.value-2.ensures.value refl,
    point_kept v c.value.new.self c.value-2.new.self x y c.value.ensures.counted c.value-2.ensures.counted,
  );
}

pub returns-in-None-clause-room : goal.returns-in-None-clause-room
returns-in-None-clause-room c = point_room c.args.self.now c.value.new.self c.value-2.new.self (text_of c.in_ok-x.x) (text_of c.in_ok-y.y) c.value.ensures.counted c.value-2.ensures.counted
    c.args.text.now c.in_ok-y.rest.now c.requires.room (omega (arith, c.in_ok-x.ensures.shorter, c.in_ok-y.ensures.shorter))

pub returns-in-Some-clause-read : goal.returns-in-Some-clause-read
returns-in-Some-clause-read c = let v = c.args.self.now in let x = (text_of c.in_ok-x.x) in let y = (text_of c.in_ok-y.y) in let further = c.in-Some.ensures.read x y in record {
  member = further.member;
  gives = both_numbers (symbols c.args.text.now) (symbols c.in_ok-x.rest.now) (symbols c.in_ok-y.rest.now) x y c.in_ok-x.ensures.found c.in_ok-y.ensures.found ∙ further.gives;
  meaning = (
    point_made v c.value.new.self c.value-2.new.self x y c.value.ensures.counted c.value-2.ensures.counted c.in_ok-point.point further.member c.value.result c.value-2.result (search rules) c.value.ensures.value c.value-2.ensures.value further.front,
    wide_point_kept v c.value.new.self c.value-2.new.self x y c.value.ensures.counted c.value-2.ensures.counted further.member further.front further.further,
  );
}

pub returns-in-Some-clause-room : goal.returns-in-Some-clause-room
returns-in-Some-clause-room c = wide_room c.value-2.new.self c.in_ok-y.rest.now c.in-Some.behind.now
    (point_room c.args.self.now c.value.new.self c.value-2.new.self (text_of c.in_ok-x.x) (text_of c.in_ok-y.y) c.value.ensures.counted c.value-2.ensures.counted
    c.args.text.now c.in_ok-y.rest.now c.requires.room (omega (arith, c.in_ok-x.ensures.shorter, c.in_ok-y.ensures.shorter))) (omega (arith, c.in-Some.ensures.shorter))

pub value-requires-clause-room : goal.value-requires-clause-room
value-requires-clause-room c = omega (arith, c.requires.room.numbers)

pub value-requires-2-clause-scale : goal.value-requires-2-clause-scale
value-requires-2-clause-scale c = subst (λ v. v.scale ≤ 15) (sym c.value.ensures.counted) c.requires.room.scale
