use Rattle.std.proofs.Common.{◌+◌, ◌<◌, length, get_or, set, sym, ◌∙◌, ap, subst, arith}
use Rattle.std.proofs.lemmas.List.{length-map}
use Rattle.loc_cover.specs.Stores.{StoreRows}
use Rattle.loc_cover.proofs.Lasting.{ArePlaced, order_fits, placed_all, placed_more, placed_start}
use Rattle.loc_cover.proofs.Stored.{few_rows}
use Rattle.loc_cover.proofs.store.Store.places.Goals as goal

pub loop-place-init : goal.loop-place-init
loop-place-init c =
    let same = ap (λ (s : StoreRows). length s.rows) c.self.view_is in
    placed_start c.args.self.now c.resize.new.self.items (omega (arith, c.in_ok-resize.ensures.len, c.resize.new.self.ok.0, c.len.ensures, length-map c.self.inside.rows.items (λ row. row.now), same))

pub bounds-number-items-place : goal.bounds-number-items-place
bounds-number-items-place c = c.loop-place-test.true

pub overflow_cast-place : goal.overflow_cast-place
overflow_cast-place c =
    let same = c.deref-number-items.ensures.value ∙ c.in_ok-order.ensures in
    omega (arith, few_rows c.args.self.now c.requires.stands, c.requires.stands.as_many, ap length same, c.loop-place-test.true)

pub index_mut-requires : goal.index_mut-requires
index_mut-requires c =
    let same = c.deref-number-items.ensures.value ∙ c.in_ok-order.ensures in
    let fits = subst (λ order. get_or order c.loop-place.place 0 < length c.args.self.now.rows) (sym same) (order_fits c.args.self.now c.loop-place.place c.requires.stands (omega (arith, ap length same, c.loop-place-test.true))) in
    omega (arith, fits, c.loop-place.invariant.as_many, c.loop-place.places.ok.0)

pub loop-place-preserved : goal.loop-place-preserved
loop-place-preserved c =
    let same = c.deref-number-items.ensures.value ∙ c.in_ok-order.ensures in
    let i = c.loop-place.place in
    subst (λ order. ArePlaced c.args.self.now (i + 1) (set c.loop-place.places.items (get_or order i 0) i)) (sym same)
    (placed_more c.args.self.now i c.loop-place.places.items c.requires.stands c.loop-place.invariant (omega (arith, ap length same, c.loop-place-test.true)))

pub returns-clause-as_many : goal.returns-clause-as_many
returns-clause-as_many c = c.loop-place.invariant.as_many

pub returns-clause-each : goal.returns-clause-each
returns-clause-each c =
    let same = c.deref-number-items.ensures.value ∙ c.in_ok-order.ensures in
    placed_all c.args.self.now c.loop-place.place c.loop-place.places.items c.requires.stands c.loop-place.invariant (omega (arith, ap length same, c.loop-place-test.false))
