use Rattle.std.proofs.{Common.get_or, Common.refl, Common.arith, lemmas.Result.err_from_is_err_and}
use Rattle.std.specs.List.{flat_map}
use Rattle.loc_spec_text.specs.Points.{quoted_byte}
use Rattle.loc_page.proofs.Pages.{goes_end, goes_more, goes_next, stop}
use Rattle.loc_batch.proofs.answers.put_each_doubled.Goals as goal

pub loop-byte-init : goal.loop-byte-init
loop-byte-init g c = λ n k r p. p

pub returns-in_err-put_doubled_byte : goal.returns-in_err-put_doubled_byte
returns-in_err-put_doubled_byte g c =
    goes_next (λ xs. flat_map quoted_byte xs) c.args.id.now c.loop-byte.byte-index 0 (quoted_byte (get_or c.args.id.now c.loop-byte.byte-index 0)) _ _ _ _ _ (omega arith) (refl) c.loop-byte.invariant _ _ _
    (stop _ c.in_err-put_doubled_byte.was (err_from_is_err_and _ c.from_residual.ensures.1).1 c.put_doubled_byte.ensures)

pub loop-byte-preserved : goal.loop-byte-preserved
loop-byte-preserved g c =
    goes_more _ (quoted_byte (get_or c.args.id.now c.loop-byte.byte-index 0)) _ _ _ c.in_ok-put_doubled_byte.was
    (goes_next (λ xs. flat_map quoted_byte xs) c.args.id.now c.loop-byte.byte-index 0 (quoted_byte (get_or c.args.id.now c.loop-byte.byte-index 0)) _ _ _ _ _ (omega arith) (refl) c.loop-byte.invariant) c.put_doubled_byte.ensures

pub returns : goal.returns
returns g c = goes_end (λ xs. flat_map quoted_byte xs) c.args.id.now c.loop-byte.byte-index _ _ _ _ _ _ (omega arith) refl c.loop-byte.invariant
