use Rattle.std.proofs.Common.{◌∙◌, refl, rules, []}
use Rattle.loc_spec_text.specs.{Geometry.symbols, Reader.list_at}
use Rattle.loc_wkt.specs.Lists.{listed_at, wide_polygon_at}
use Rattle.loc_wkt.proofs.ListLemmas.{list_empty, list_none, list_open}
use Rattle.loc_wkt.proofs.PassLemmas.{if_err, if_ok, unread}
use Rattle.loc_wkt.proofs.values.Values.behind_polygon_list.Goals as goal

pub returns-in-Some-clause-ok : goal.returns-in-Some-clause-ok
returns-in-Some-clause-ok c = if_ok c.behind_polygons.result _ _ (λ rest read. record {
  member = read.member;
  gives = list_open wide_polygon_at (symbols c.args.text.now) (symbols c.in-Some.inside.now) c.in-Some.ensures.found ∙ read.gives;
  meaning = read.meaning;
}) c.behind_polygons.ensures.ok

pub returns-in-Some-clause-err : goal.returns-in-Some-clause-err
returns-in-Some-clause-err c = if_err c.behind_polygons.result _ _ (λ fault. unread fault (listed_at wide_polygon_at (symbols c.in-Some.inside.now)) (list_at wide_polygon_at (symbols c.args.text.now))
    (λ none. list_open wide_polygon_at (symbols c.args.text.now) (symbols c.in-Some.inside.now) c.in-Some.ensures.found ∙ none)) c.behind_polygons.ensures.err

pub returns-in-Some-behind_empty-clause-ok : goal.returns-in-Some-behind_empty-clause-ok
returns-in-Some-behind_empty-clause-ok c = record {
  member = [];
  gives = list_empty wide_polygon_at (symbols c.args.text.now) (symbols c.in-Some-behind_empty.rest.now) c.in-Some-behind_empty.ensures.found;
  meaning = refl;
}

pub returns-in-None-clause-err : goal.returns-in-None-clause-err
returns-in-None-clause-err c = λ h. (refl, list_none wide_polygon_at (symbols c.args.text.now) (search rules) c.in-None.ensures.found)
