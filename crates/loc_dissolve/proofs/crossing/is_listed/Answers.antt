use Rattle.std.proofs.Common.{get_or, Ok, Err, sym, inl, inr, arith}
use Rattle.std.specs.Prelude.{◌==◌}
use Rattle.std.proofs.{lemmas.Bool.cases_lt, lemmas.Bool.eq-eqb, lemmas.Bool.ne_eqb, lemmas.List.get_or_default}
use Rattle.std.proofs.{lemmas.List.Folds.list_any_at, lemmas.List.Folds.list_any_none, lemmas.List.Sorted.searched}
use Rattle.loc_laws_order.proofs.TableOrder.{rises_weakly}
use Rattle.loc_dissolve.proofs.crossing.is_listed.Goals as goal

pub returns-in-Ok : goal.returns-in-Ok
returns-in-Ok c =
    let found = searched c.args.list.now c.args.feature (Ok c.in-Ok.field-0) c.in-Ok.ensures.position (rises_weakly c.args.list.now c.requires) in
    sym (list_any_at (λ m. m == c.args.feature) c.args.list.now c.in-Ok.field-0 0 found.0 (eq-eqb (get_or c.args.list.now c.in-Ok.field-0 0) c.args.feature found.1))

pub returns-in-Err : goal.returns-in-Err
returns-in-Err c =
    let xs = c.args.list.now in
    let around = searched xs c.args.feature (Err c.in-Err.field-0) c.in-Err.ensures.position (rises_weakly xs c.requires) in
    sym (list_any_none (λ m. m == c.args.feature) xs (λ k d fits. ne_eqb (get_or xs k d) c.args.feature (λ is. elim (cases_lt k c.in-Err.field-0) [
      | inl less ↦ (let low = around.1 k less in omega (arith, low, is, get_or_default xs k d 0 fits))
      | inr past ↦ (let high = around.2 k past fits in omega (arith, high, is, get_or_default xs k d 0 fits))
    ])))
