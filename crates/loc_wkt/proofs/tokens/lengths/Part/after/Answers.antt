use Rattle.std.proofs.Common.{rules, arith, ◌≡◌}
use Rattle.loc_wkt.proofs.TokenSteps.{start_digit, sign_digit, whole_digit, point_digit, fraction_digit, start_point, whole_point, whole_mark, fraction_mark, no_digit, sign_stops, whole_stops, start_stops}
use Rattle.loc_wkt.specs.declared.tokens.lengths.Part.TheVariants.{Start, Sign, Whole, Point, Fraction}
use Rattle.loc_wkt.proofs.tokens.lengths.Part.after.Goals as goal

pub returns-in-Whole-eq46-clause-goes_on : goal.returns-in-Whole-eq46-clause-goes_on
returns-in-Whole-eq46-clause-goes_on c text = rw (c.in-Whole-eq46.is-0, c.in-Whole-eq46.is-1) (whole_point text)

pub returns-in-Point-48-to-57-clause-goes_on : goal.returns-in-Point-48-to-57-clause-goes_on
returns-in-Point-48-to-57-clause-goes_on c text = let e : c.args.self ≡ Point = search rules in rw e (point_digit c.args.b text (omega arith) (omega arith))

pub returns-in-Point-48-to-57-2-clause-goes_on : goal.returns-in-Point-48-to-57-2-clause-goes_on
returns-in-Point-48-to-57-2-clause-goes_on c text = let e : c.args.self ≡ Fraction = search rules in rw e (fraction_digit c.args.b text (omega arith) (omega arith))

pub returns-in-Whole-eq101-clause-goes_on : goal.returns-in-Whole-eq101-clause-goes_on
returns-in-Whole-eq101-clause-goes_on c text = let e : c.args.self ≡ Whole = search rules in rw e (whole_mark c.args.b text c.in-Whole-eq101.is-1)

pub returns-in-Whole-eq101-2-clause-goes_on : goal.returns-in-Whole-eq101-2-clause-goes_on
returns-in-Whole-eq101-2-clause-goes_on c text = let e : c.args.self ≡ Fraction = search rules in rw e (fraction_mark c.args.b text c.in-Whole-eq101.is-1)

pub returns-in-Start-48-to-57-clause-goes_on : goal.returns-in-Start-48-to-57-clause-goes_on
returns-in-Start-48-to-57-clause-goes_on c text = let e : c.args.self ≡ Start = search rules in rw e (start_digit c.args.b text (omega arith) (omega arith))

pub returns-in-Start-48-to-57-2-clause-goes_on : goal.returns-in-Start-48-to-57-2-clause-goes_on
returns-in-Start-48-to-57-2-clause-goes_on c text = let e : c.args.self ≡ Sign = search rules in rw e (sign_digit c.args.b text (omega arith) (omega arith))

pub returns-in-Start-48-to-57-3-clause-goes_on : goal.returns-in-Start-48-to-57-3-clause-goes_on
returns-in-Start-48-to-57-3-clause-goes_on c text = let e : c.args.self ≡ Whole = search rules in rw e (whole_digit c.args.b text (omega arith) (omega arith))

pub returns-in-Start-eq46-clause-goes_on : goal.returns-in-Start-eq46-clause-goes_on
returns-in-Start-eq46-clause-goes_on c text = let e : c.args.self ≡ Start = search rules in rw e (rw c.in-Start-eq46.is-1 (start_point text))

pub returns-in-Start-eq46-2-clause-goes_on : goal.returns-in-Start-eq46-2-clause-goes_on
returns-in-Start-eq46-2-clause-goes_on c text = let e : c.args.self ≡ Sign = search rules in rw e (rw c.in-Start-eq46.is-1 (start_point text))

pub returns-in_default-clause-stops : goal.returns-in_default-clause-stops
returns-in_default-clause-stops c text = rw c.in_default.is-0 (start_stops c.args.b text (no_digit c.args.b (λ h k. absurd (omega arith))) c.in_default.is-1.1 c.in_default.is-1.0.1)

pub returns-in_default-2-clause-stops : goal.returns-in_default-2-clause-stops
returns-in_default-2-clause-stops c text = rw c.in_default.is-0 (start_stops c.args.b text (no_digit c.args.b (λ h k. absurd (omega arith))) c.in_default.is-1.1 c.in_default.is-1.0.1)

pub returns-in_default-3-clause-stops : goal.returns-in_default-3-clause-stops
returns-in_default-3-clause-stops c text = rw c.in_default.is-0 (sign_stops c.args.b text (no_digit c.args.b (λ h k. absurd (omega arith))) c.in_default.is-1.1)

pub returns-in_default-4-clause-stops : goal.returns-in_default-4-clause-stops
returns-in_default-4-clause-stops c text = rw c.in_default.is-0 (sign_stops c.args.b text (no_digit c.args.b (λ h k. absurd (omega arith))) c.in_default.is-1.1)

pub returns-in_default-5-clause-stops : goal.returns-in_default-5-clause-stops
returns-in_default-5-clause-stops c text = rw c.in_default.is-0 (whole_stops c.args.b text (no_digit c.args.b (λ h k. absurd (omega arith))) c.in_default.is-1.0.1 c.in_default.is-1.1)
