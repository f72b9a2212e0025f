use Rattle.std.proofs.Common.{◌∙◌, ◌/◌, ap, arith}
use Rattle.loc_wkt.proofs.GridTexts.{left_more, put_more}
use Rattle.loc_wkt.proofs.grid_texts.put_padded.Goals as goal

pub loop-place-preserved : goal.loop-place-preserved
loop-place-preserved c = record {
  left = ap (λ n. n / 10) c.loop-place.invariant.left ∙ left_more c.args.number c.loop-place.place;
  text = put_more c.loop-place.room c.loop-place.place c.args.number c.loop-place.left (omega arith) c.loop-place.invariant.left c.loop-place.invariant.text;
}
