use Rattle.std.proofs.Common.{◌∙◌, refl, rules, [], sym, arith}
use Rattle.loc_spec_text.specs.Geometry.{symbols}
use Rattle.loc_wkt.specs.Lists.{listed_at, wide_polygon_at, wide_ring_at}
use Rattle.loc_wkt.proofs.ListLemmas.{list_empty, list_none, list_open}
use Rattle.loc_wkt.proofs.PassLemmas.{if_err, if_ok, polygon_kept, unread, begun_room, begun_some, not_err}
use Rattle.loc_wkt.proofs.values.Values.behind_polygon.Goals as goal

pub returns-in-Some-clause-ok : goal.returns-in-Some-clause-ok
returns-in-Some-clause-ok c = if_ok c.behind_rings.result _ _ (λ rest read. record {
  member = read.member;
  gives = list_open wide_ring_at (symbols c.args.text.now) (symbols c.in-Some.inside.now) c.in-Some.ensures.found ∙ read.gives;
  meaning = polygon_kept c.args.self.now c.behind_rings.new.self c.start_polygon.new.self read.member (not_err c.start_polygon.result _ (sym c.is_err.ensures.value ∙ c.if-is_err.false) c.start_polygon.ensures.ok) read.meaning;
}) c.behind_rings.ensures.ok

pub returns-in-Some-clause-err : goal.returns-in-Some-clause-err
returns-in-Some-clause-err c = if_err c.behind_rings.result _ _ (λ fault. unread fault (listed_at wide_ring_at (symbols c.in-Some.inside.now)) (wide_polygon_at (symbols c.args.text.now))
    (λ none. list_open wide_ring_at (symbols c.args.text.now) (symbols c.in-Some.inside.now) c.in-Some.ensures.found ∙ none)) c.behind_rings.ensures.err

pub returns-in-Some-behind_empty-clause-ok : goal.returns-in-Some-behind_empty-clause-ok
returns-in-Some-behind_empty-clause-ok c = record {
  member = [];
  gives = list_empty wide_ring_at (symbols c.args.text.now) (symbols c.in-Some-behind_empty.rest.now) c.in-Some-behind_empty.ensures.found;
  meaning = polygon_kept c.args.self.now _ c.start_polygon.new.self [] (not_err c.start_polygon.result _ (sym c.is_err.ensures.value ∙ c.if-is_err.false) c.start_polygon.ensures.ok) refl;
}

pub returns-in-None-clause-err : goal.returns-in-None-clause-err
returns-in-None-clause-err c = λ h. (refl, list_none wide_ring_at (symbols c.args.text.now) (search rules) c.in-None.ensures.found)

pub start_polygon-requires : goal.start_polygon-requires
start_polygon-requires c = record { room = omega (arith, c.requires.room.polygons) }

pub returns-then-is_err-clause-err : goal.returns-then-is_err-clause-err
returns-then-is_err-clause-err c = λ other. absurd (other refl)

pub behind_rings-requires-clause-room : goal.behind_rings-requires-clause-room
behind_rings-requires-clause-room c = begun_room c.args.self.now c.start_polygon.new.self c.args.text.now c.in-Some.inside.now (not_err c.start_polygon.result _ (sym c.is_err.ensures.value ∙ c.if-is_err.false) c.start_polygon.ensures.ok) c.requires.room c.in-Some.ensures.shorter

pub behind_rings-requires-clause-started : goal.behind_rings-requires-clause-started
behind_rings-requires-clause-started c = begun_some c.args.self.now c.start_polygon.new.self (not_err c.start_polygon.result _ (sym c.is_err.ensures.value ∙ c.if-is_err.false) c.start_polygon.ensures.ok)

pub returns-in-Some-clause-room : goal.returns-in-Some-clause-room
returns-in-Some-clause-room c = c.behind_rings.ensures.room

pub returns-in-Some-clause-shorter : goal.returns-in-Some-clause-shorter
returns-in-Some-clause-shorter c = if_ok c.behind_rings.result _ _ (λ rest closer. omega (arith, closer, c.in-Some.ensures.shorter)) c.behind_rings.ensures.shorter

pub returns-in-Some-behind_empty-clause-room : goal.returns-in-Some-behind_empty-clause-room
returns-in-Some-behind_empty-clause-room c = begun_room c.args.self.now c.start_polygon.new.self c.args.text.now c.in-Some-behind_empty.rest.now (not_err c.start_polygon.result _ (sym c.is_err.ensures.value ∙ c.if-is_err.false) c.start_polygon.ensures.ok) c.requires.room c.in-Some-behind_empty.ensures.shorter

pub returns-in-Some-behind_empty-clause-shorter : goal.returns-in-Some-behind_empty-clause-shorter
returns-in-Some-behind_empty-clause-shorter c = c.in-Some-behind_empty.ensures.shorter
