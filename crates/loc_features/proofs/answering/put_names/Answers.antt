use Rattle.std.proofs.Common.{get_or, refl, arith, []}
use Rattle.std.proofs.lemmas.Result.{err_from_is_err_and}
use Rattle.loc_spec_text.specs.Points.{ids_text, quoted}
use Rattle.loc_page.proofs.Pages.{goes_end, goes_more, goes_next, stop}
use Rattle.loc_features.specs.Told.{ids_of, names_in}
use Rattle.loc_features.proofs.answering.put_names.Goals as goal

pub loop-feature-init : goal.loop-feature-init
loop-feature-init g c = λ n k r p. p

pub returns-in_err-put_name : goal.returns-in_err-put_name
returns-in_err-put_name g c =
    let layer = c.args.layer.now in
    let id = quoted (get_or (ids_of layer) (get_or c.args.features.now c.loop-feature.feature-index 0) []) in
    goes_next (λ xs. ids_text (names_in layer xs)) c.args.features.now c.loop-feature.feature-index 0 id _ _ _ _ _ (omega arith) (refl) c.loop-feature.invariant _ _ _
    (stop _ c.in_err-put_name.was (err_from_is_err_and _ c.from_residual.ensures.1).1 c.put_name.ensures)

pub loop-feature-preserved : goal.loop-feature-preserved
loop-feature-preserved g c =
    let layer = c.args.layer.now in
    let id = quoted (get_or (ids_of layer) (get_or c.args.features.now c.loop-feature.feature-index 0) []) in
    goes_more _ id _ _ _ c.in_ok-put_name.was
    (goes_next (λ xs. ids_text (names_in layer xs)) c.args.features.now c.loop-feature.feature-index 0 id _ _ _ _ _ (omega arith) (refl) c.loop-feature.invariant) c.put_name.ensures

pub returns : goal.returns
returns g c = goes_end (λ xs. ids_text (names_in c.args.layer.now xs)) c.args.features.now c.loop-feature.feature-index _ _ _ _ _ _ (omega arith) refl c.loop-feature.invariant
