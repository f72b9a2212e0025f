use Rattle.std.proofs.Common.{◌≡◌, ◌≢◌, ◌≤◌, ◌∙◌, get_or, sym, ap, arith}
use Rattle.std.specs.Prelude.{Some, None}
use Rattle.std.proofs.lemmas.List.{take_all}
use Rattle.loc_verify.specs.Least.{is_odd_in}
use Rattle.loc_verify.proofs.Odd.{is_it, least_found, least_left, odd_ends, odd_starts}
use Rattle.loc_verify.proofs.features.least_odd.Goals as goal
use Rattle.loc_verify.proofs.features.least_odd.Goals.{in-None, in-Some}

pub returns-in-Some-2 : goal.returns-in-Some-2
returns-in-Some-2 c =
    let row = c.args.row.now in
    let i = c.loop-feature.feature-index in
    let last = c.in-Some-2.last in
    let inv = c.loop-feature.invariant in
    least_found row i last (λ f. inv.odd f ∙ ap (λ o. is_it o f) c.in-Some-2.is) (λ k from fits.
    (let least : c.in-Some-2.last ≤ get_or c.args.row.now c.loop-feature.feature-index 0 = inv.least last c.in-Some-2.is i (omega arith) c.loop-feature-test.true in
    let sorted : get_or c.args.row.now c.loop-feature.feature-index 0 ≤ get_or c.args.row.now k 0 = c.requires i k 0 from fits in
    let other : c.in-Some-2.last ≢ get_or c.args.row.now c.loop-feature.feature-index 0 = (λ same. c.if-last-feature.false (let one : c.in-Some.last ≡ c.in-Some-2.last = cc (c.in-Some.is, c.in-Some-2.is) in one ∙ same)) in
    omega (arith, least, sorted, other)))

pub loop-feature-preserved : goal.loop-feature-preserved
loop-feature-preserved c =
    let row = c.args.row.now in
    let i = c.loop-feature.feature-index in
    let inv = c.loop-feature.invariant in
    elim c.match-odd.branch [
      | in-None w ↦ record {
        odd = odd_starts row i c.loop-feature.odd c.match-odd.odd c.loop-feature-test.true inv.odd w.in-None.is w.odd-is;
        least = λ g some k from fits. (let same : get_or c.args.row.now c.loop-feature.feature-index 0 ≡ g = cc (w.odd-is, some) in
            let sorted : get_or c.args.row.now c.loop-feature.feature-index 0 ≤ get_or c.args.row.now k 0 = c.requires i k 0 (omega (arith, from)) fits in omega (arith, same, sorted));
      }
      | in-Some w ↦ record {
        odd = odd_ends row i c.loop-feature.odd c.match-odd.odd w.in-Some.last c.loop-feature-test.true inv.odd w.in-Some.is w.if-last-feature.true w.odd-is;
        least = λ g some k from fits. absurd (let no : None ≡ Some g = sym w.odd-is ∙ some in cc no);
      }
    ]

pub returns : goal.returns
returns c = least_left c.args.row.now c.loop-feature.odd (λ f. ap (is_odd_in f) (sym (take_all c.loop-feature.feature-index c.args.row.now c.loop-feature-test.false)) ∙ c.loop-feature.invariant.odd f)
