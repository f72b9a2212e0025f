use Rattle.std.proofs.{Common.length, Common.ap, Common.arith, lemmas.List.length-map}
use Rattle.loc_cover.proofs.legend.Legend.make.Goals as goal

pub with_ids-requires-clause-features : goal.with_ids-requires-clause-features
with_ids-requires-clause-features c =
    let same = ap length c.in_ok-ids.ensures.value in
    omega (arith, c.requires.features, same, length-map c.in_ok-ids.ids.items (λ id. id.items), length-map c.args.layer.now (λ f. f.id))

pub returns-clause-ids : goal.returns-clause-ids
returns-clause-ids c = rw c.in_ok-ids.ensures.value at c.with_ids.ensures.ids
