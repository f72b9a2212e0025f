use Rattle.std.proofs.Common.{◌∙◌, sym, refl, option_and_then}
use Rattle.loc_spec_text.specs.Geometry.{symbol_of, symbols}
use Rattle.loc_spec_text.specs.Reader.{all_of, list_at, one_of, wide_geometry_of}
use Rattle.loc_wkt.specs.Lists.{wide_polygon_at}
use Rattle.loc_wkt.proofs.PassLemmas.{if_err, if_ok, unread}
use Rattle.loc_wkt.proofs.TagLemmas.{many_trees, no_tag, one_tree, other_tag}
use Rattle.loc_wkt.proofs.geometry.read_values.Goals as goal

pub returns-in_default-clause-err : goal.returns-in_default-clause-err
returns-in_default-clause-err c = λ h. (refl, no_tag c.args.text.now c.in_default.ensures.none)

pub read_polygon-requires : goal.read_polygon-requires
read_polygon-requires c = record { room = c.requires c.in-Some.rest.now c.in-Some.ensures.shorter }

pub returns-then-is_this_word-clause-ok : goal.returns-then-is_this_word-clause-ok
returns-then-is_this_word-clause-ok c = if_ok c.read_polygon.result _ _ (λ u read. record {
  tree = read.tree;
  gives = one_tree c.args.text.now (symbol_of c.in-Some.tag.now) (symbols c.in-Some.rest.now) c.in-Some.ensures.found (sym c.is_this_word.ensures.symbol ∙ c.if-is_this_word.true) ∙ read.gives;
  values = read.values;
}) c.read_polygon.ensures.ok

pub returns-then-is_this_word-clause-err : goal.returns-then-is_this_word-clause-err
returns-then-is_this_word-clause-err c = if_err c.read_polygon.result _ _ (λ fault. unread fault (option_and_then one_of (wide_polygon_at (symbols c.in-Some.rest.now))) (wide_geometry_of c.args.text.now)
    (λ none. one_tree c.args.text.now (symbol_of c.in-Some.tag.now) (symbols c.in-Some.rest.now) c.in-Some.ensures.found (sym c.is_this_word.ensures.symbol ∙ c.if-is_this_word.true) ∙ none)) c.read_polygon.ensures.err

pub read_polygons-requires : goal.read_polygons-requires
read_polygons-requires c = record { room = c.requires c.in-Some.rest.now c.in-Some.ensures.shorter }

pub returns-then-is_this_word-2-clause-ok : goal.returns-then-is_this_word-2-clause-ok
returns-then-is_this_word-2-clause-ok c = if_ok c.read_polygons.result _ _ (λ u read. record {
  tree = read.tree;
  gives = many_trees c.args.text.now (symbol_of c.in-Some.tag.now) (symbols c.in-Some.rest.now) c.in-Some.ensures.found (sym c.is_this_word.ensures.symbol ∙ c.if-is_this_word.false) (sym c.is_this_word-2.ensures.symbol ∙ c.if-is_this_word-2.true) ∙ read.gives;
  values = read.values;
}) c.read_polygons.ensures.ok

pub returns-then-is_this_word-2-clause-err : goal.returns-then-is_this_word-2-clause-err
returns-then-is_this_word-2-clause-err c = if_err c.read_polygons.result _ _ (λ fault. unread fault (option_and_then all_of (list_at wide_polygon_at (symbols c.in-Some.rest.now))) (wide_geometry_of c.args.text.now)
    (λ none. many_trees c.args.text.now (symbol_of c.in-Some.tag.now) (symbols c.in-Some.rest.now) c.in-Some.ensures.found (sym c.is_this_word.ensures.symbol ∙ c.if-is_this_word.false) (sym c.is_this_word-2.ensures.symbol ∙ c.if-is_this_word-2.true) ∙ none)) c.read_polygons.ensures.err

pub returns-clause-err : goal.returns-clause-err
returns-clause-err c = λ h. (
  refl,
  other_tag c.args.text.now (symbol_of c.in-Some.tag.now) (symbols c.in-Some.rest.now) c.in-Some.ensures.found (sym c.is_this_word.ensures.symbol ∙ c.if-is_this_word.false) (sym c.is_this_word-2.ensures.symbol ∙ c.if-is_this_word-2.false),
)
