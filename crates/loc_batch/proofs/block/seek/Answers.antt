use Rattle.std.proofs.Common.{◌≡◌, suc, ◌+◌, ◌∷◌, drop, Some, sym, refl, ◌<◌, length, subst, ◌∙◌, ap, arith, rules, length-set, drop_of_length-le, drop-cons, add-one, add-mul, mul-le-mul_right}
use Rattle.std.specs.Prelude.{set, IfSome}
use Rattle.std.proofs.lemmas.List.Elements.{All-set}
use Rattle.loc_batch.specs.{Blocks.placed, declared.block.Query.Query}
use Rattle.loc_batch.proofs.block.seek.Goals as goal

pub loop-query-init : goal.loop-query-init
loop-query-init g c = record { goes = refl; as_many = refl; known = c.requires.known; up = omega arith; few = omega arith }

pub bounds-found-query : goal.bounds-found-query
bounds-found-query g c =
    subst (λ n. c.query-item.result.line < n) (sym c.loop-query.invariant.as_many)
    (subst (λ (q : Query). q.line < length c.args.found.now) (sym c.query-item.is) (c.requires.lines c.loop-query.query-index c.query-item.result c.loop-query-test.true))

pub offset_bounds-found-query : goal.offset_bounds-found-query
offset_bounds-found-query g c = search (rules, bounds-found-query g c)

pub loop-query-preserved : goal.loop-query-preserved
loop-query-preserved g c =
    let finds = g.D.Answerer.finds c.args.by.now in
    let q = c.query-item.result in
    let i = c.loop-query.query-index in
    let cut : drop i c.args.queries.now ≡ q ∷ drop (i + 1) c.args.queries.now = drop-cons c.args.queries.now i q c.loop-query-test.true ∙ (ap (λ x. x ∷ drop (suc i) c.args.queries.now) (sym c.query-item.is) ∙ ap (λ k. q ∷ drop k c.args.queries.now) (sym (add-one i))) in
    record {
      goes = ap (λ x. placed finds (drop (i + 1) c.args.queries.now) (set c.loop-query.found q.line (Some x))) c.find.ensures.found ∙ (sym (ap (λ l. placed finds l c.loop-query.found) cut) ∙ c.loop-query.invariant.goes);
      as_many = length-set c.loop-query.found q.line (Some c.find.result) ∙ c.loop-query.invariant.as_many;
      known = All-set (λ f. IfSome f (g.D.Answerer.knows c.args.by.now)) c.loop-query.found q.line (Some c.find.result) c.find.ensures.known c.loop-query.invariant.known;
      up = omega (arith, c.loop-query.invariant.up, c.find.ensures.counted);
      few = omega (arith, c.loop-query.invariant.few, c.find.ensures.within, add-mul i 1 (g.D.Answerer.most_found c.args.by.now));
    }

pub returns-clause-placed : goal.returns-clause-placed
returns-clause-placed g c = sym (ap (λ l. placed (g.D.Answerer.finds c.args.by.now) l c.loop-query.found) (drop_of_length-le c.args.queries.now c.loop-query-test.false)) ∙ c.loop-query.invariant.goes

pub returns-clause-known : goal.returns-clause-known
returns-clause-known g c = c.loop-query.invariant.known

pub returns-clause-within : goal.returns-clause-within
returns-clause-within g c = omega (arith, c.loop-query.invariant.few, mul-le-mul_right (g.D.Answerer.most_found c.args.by.now) c.loop-query.auto.query-index-end)

pub find-requires : goal.find-requires
find-requires g c = record { fits = c.requires.fits }
