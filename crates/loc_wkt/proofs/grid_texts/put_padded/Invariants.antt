use Rattle.std.proofs.Common.{◌≡◌, ◌-◌, ◌/◌, ◌^◌, length, drop}
use Rattle.loc_spec_text.specs.Points.{padded_digits}
use Rattle.loc_wkt.proofs.grid_texts.put_padded.Given as goal

abbrev pub invariant-loop-place : goal.invariant-loop-place
invariant-loop-place l = record {
  left : l.left ≡ l.number / 10 ^ l.place;
  text : drop (length l.room - l.place) l.room ≡ padded_digits l.place l.number;
}
