use Rattle.std.proofs.Common.{◌≡◌, ◌∙◌, ◌-◌, ◌+◌, ℕ, arith, ap, ap₂, sym, subst, drop, length, true, Some, length-take}
use Rattle.std.proofs.lemmas.List.{take_rest}
use Rattle.loc_spec_text.specs.{Geometry.ends_symbol, Geometry.symbols, Number.unsigned}
use Rattle.loc_wkt.specs.ShortNumbers.{IsFront}
use Rattle.loc_wkt.proofs.ShortNumbers.{IsPlain, few_places, front_number, front_symbol, front_widened}
use Rattle.loc_wkt.proofs.grid_numbers.short.short_number.Goals as goal

pub invariant_of-number : goal.invariant_of-number
invariant_of-number c =
    let text = c.args.text.now in
    let front = c.in_ok-front.front in
    let is : IsFront front (unsigned text) = subst (λ t. IsFront front t) c.unsigned-body.ensures (front_widened c.unsigned-body.result.now _ front c.in_ok-front.ensures) in
    let k : ℕ = (length text - length c.unsigned-body.result.now) + front.length in
    let place : k ≡ (length text - length (unsigned text)) + front.length = ap (λ t. (length text - length t) + front.length) c.unsigned-body.ensures in
    let plain : IsPlain c.split_at.result.0.now is.whole is.fraction = subst (λ r. IsPlain r is.whole is.fraction) (sym c.split_at.ensures.front) (front_number text front is k place) in
    record {
      number = plain.number;
      significand = is.digits ∙ sym plain.value;
      places = is.places ∙ ap length (sym plain.places);
      few = omega (arith, few_places _ front c.in_ok-front.ensures, length-take c.min.result c.unsigned-body.result.now, c.min.ensures);
      raised = plain.raises;
      lowered = plain.lowers;
    }

pub returns-clause-found : goal.returns-clause-found
returns-clause-found c =
    let text = c.args.text.now in
    let front = c.in_ok-front.front in
    let is : IsFront front (unsigned text) = subst (λ t. IsFront front t) c.unsigned-body.ensures (front_widened c.unsigned-body.result.now _ front c.in_ok-front.ensures) in
    let k : ℕ = (length text - length c.unsigned-body.result.now) + front.length in
    let place : k ≡ (length text - length (unsigned text)) + front.length = ap (λ t. (length text - length t) + front.length) c.unsigned-body.ensures in
    let ended : ends_symbol (drop front.length c.unsigned-body.result.now) ≡ true = ap ends_symbol (sym (take_rest c.unsigned-body.result.now front.length)) ∙ sym c.ends_symbol.ensures ∙ c.if-not-ends_symbol.false in
    front_symbol text front is k place (subst (λ t. ends_symbol (drop front.length t) ≡ true) c.unsigned-body.ensures ended)
    ∙ ap₂ (λ a b. Some (a, symbols b)) (sym c.split_at.ensures.front) (sym c.split_at.ensures.back)

pub slice_bounds-front_of-end : goal.slice_bounds-front_of-end
slice_bounds-front_of-end c = omega (arith, length-take c.min.result c.unsigned-body.result.now, c.min.ensures)

pub front_of-requires : goal.front_of-requires
front_of-requires c = omega (arith, length-take c.min.result c.unsigned-body.result.now, c.min.ensures)

pub returns-in_err-front-clause-found : goal.returns-in_err-front-clause-found
returns-in_err-front-clause-found c = rw c.from_residual.ensures tt

pub returns-in_err-front-clause-shorter : goal.returns-in_err-front-clause-shorter
returns-in_err-front-clause-shorter c = rw c.from_residual.ensures tt
