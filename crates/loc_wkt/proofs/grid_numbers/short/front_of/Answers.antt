use Rattle.std.proofs.Common.{◌∙◌, ◌&&◌, [], inl, inr, refl, sym, rules, arith, ap, ap₂, ◌-◌, take, drop, length, length-take}
use Rattle.std.specs.{Char.is_ascii_digit, List.list_all, Str.Parse.digits_value}
use Rattle.std.proofs.{lemmas.List.append-nil, lemmas.List.take_rest, lemmas.List.Folds.list_all-append}
use Rattle.loc_wkt.proofs.ShortNumbers.{point_front, room_less}
use Rattle.loc_wkt.proofs.grid_numbers.short.front_of.Goals as goal

pub returns-in-46 : goal.returns-in-46
returns-in-46 c =
    let t = c.args.text.now in
    let w = c.leading_digits-whole in
    let d = c.leading_digits-digits in
    let rest = take (length t - w.result.1) (drop w.result.1 t) in
    let behind = take (length rest - 1) (drop 1 rest) in
    record {
      whole = take w.result.1 t;
      fraction = take d.result.1 behind;
      cut = inl (point_front t w.result.1 d.result.1 rest behind w.ensures.within (take_rest t w.result.1) c.in-46.len_at_least (search rules) refl);
      some = omega (arith, length-take w.result.1 t, w.ensures.within, c.if-places-eq0.false);
      all = list_all-append is_ascii_digit (take w.result.1 t) (take d.result.1 behind) ∙ ap₂ (λ a b. a && b) w.ensures.digits d.ensures.digits;
      digits = d.ensures.value (take w.result.1 t) (w.ensures.value [] refl);
      places = omega (arith, d.ensures.within, length-take d.result.1 behind);
      within = omega (arith, w.ensures.within, d.ensures.within, c.in-46.len_at_least);
    }

pub returns-in_default-2 : goal.returns-in_default-2
returns-in_default-2 c =
    let t = c.args.text.now in
    let w = c.leading_digits-whole in
    record {
      whole = take w.result.1 t;
      fraction = [];
      cut = inr (refl, refl);
      some = omega (arith, length-take w.result.1 t, w.ensures.within, c.if-places-eq0.false);
      all = ap (list_all is_ascii_digit) (append-nil (take w.result.1 t)) ∙ w.ensures.digits;
      digits = w.ensures.value [] refl ∙ ap (digits_value 10) (sym (append-nil (take w.result.1 t)));
      places = refl;
      within = w.ensures.within;
    }

pub slice_bounds-t-11-count : goal.slice_bounds-t-11-count
slice_bounds-t-11-count c = c.leading_digits-whole.ensures.within

pub slice_bounds-behind-count : goal.slice_bounds-behind-count
slice_bounds-behind-count c = c.in-46.len_at_least

pub returns-in_default : goal.returns-in_default
returns-in_default c =
    let t = c.args.text.now in
    let w = c.leading_digits-whole in
    record {
      whole = take w.result.1 t;
      fraction = [];
      cut = inr (refl, refl);
      some = omega (arith, length-take w.result.1 t, w.ensures.within, c.if-places-eq0.false);
      all = ap (list_all is_ascii_digit) (append-nil (take w.result.1 t)) ∙ w.ensures.digits;
      digits = w.ensures.value [] refl ∙ ap (digits_value 10) (sym (append-nil (take w.result.1 t)));
      places = refl;
      within = w.ensures.within;
    }

pub leading_digits-whole-requires : goal.leading_digits-whole-requires
leading_digits-whole-requires c = record { room = room_less 0 (length c.args.text.now) 19 c.requires (omega arith) }

pub leading_digits-digits-requires : goal.leading_digits-digits-requires
leading_digits-digits-requires c =
    let t = c.args.text.now in
    let w = c.leading_digits-whole.result.1 in
    let rest = take (length t - w) (drop w t) in
    record { room = room_less c.leading_digits-whole.result.0 (length (take (length rest - 1) (drop 1 rest))) (length t - w) (omega (arith, length-take (length rest - 1) (drop 1 rest), length-take (length t - w) (drop w t))) c.leading_digits-whole.ensures.room }
