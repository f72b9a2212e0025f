use Rattle.std.proofs.Common.{◌≡◌, length, Bool, true, false, ◌&&◌, Some, None, sym, refl, ◌∙◌, ap, option_and_then}
use Rattle.std.specs.Prelude.{if◌then◌else◌, nat_le, ℤ}
use Rattle.std.proofs.lemmas.Bool.{le-leb}
use Rattle.loc_spec_text.specs.{Limits.most_line, Number.grid_value, Points.is_grid_number, Points.point_on_grid}
use Rattle.loc_wkt.proofs.points.read_point.Goals as goal

off_first : {P : Type 0} (g h : Bool) (v : ℤ) (p : P) → None ≡ (if g then Some v else None) → (if g && h then Some p else None) ≡ None
off_first true h v p e = absurd (cc e)
off_first false h v p e = refl

off_second : {P : Type 0} (g h : Bool) (v : ℤ) (p : P) → None ≡ (if h then Some v else None) → (if g && h then Some p else None) ≡ None
off_second true true v p e = absurd (cc e)
off_second true false v p e = refl
off_second false h v p e = refl

pub returns-in_err-x : goal.returns-in_err-x
returns-in_err-x c = let le : nat_le (length c.args.text.now) most_line ≡ true = le-leb (length c.args.text.now) most_line c.if-text-gt-MOST_LINE.false in
    c.from_residual.ensures ∙ sym (rw le (ap (option_and_then (point_on_grid c.args.scale)) c.in_err-x.ensures))

pub returns-in_err-x-2 : goal.returns-in_err-x-2
returns-in_err-x-2 c = let le : nat_le (length c.args.text.now) most_line ≡ true = le-leb (length c.args.text.now) most_line c.if-text-gt-MOST_LINE.false in let r = c.in_ok-x.ensures in
    c.from_residual-in_err-x-2.ensures ∙ sym (rw le (ap (option_and_then (point_on_grid c.args.scale)) r.1 ∙ off_first (is_grid_number c.args.scale r.0.0) (is_grid_number c.args.scale r.0.1) (grid_value c.args.scale r.0.0) _ (sym c.in_err-x-2.was ∙ r.2.value)))

pub returns-in_err-y : goal.returns-in_err-y
returns-in_err-y c = let le : nat_le (length c.args.text.now) most_line ≡ true = le-leb (length c.args.text.now) most_line c.if-text-gt-MOST_LINE.false in let r = c.in_ok-x.ensures in
    c.from_residual-in_err-y.ensures ∙ sym (rw le (ap (option_and_then (point_on_grid c.args.scale)) r.1 ∙ off_second (is_grid_number c.args.scale r.0.0) (is_grid_number c.args.scale r.0.1) (grid_value c.args.scale r.0.1) _ (sym c.in_err-y.was ∙ r.3.value)))
