use Rattle.std.proofs.Common.{sym, ◌∙◌, ap}
use Rattle.std.specs.Prelude.{int_le}
use Rattle.loc_spec_plane.specs.Points.{Point}
use Rattle.loc_spans.proofs.Widening.{boxed_by, le_trans}
use Rattle.loc_spans.proofs.extents.widened.Goals as goal

pub returns-clause-wider : goal.returns-clause-wider
returns-clause-wider c = record { first = c.joined.ensures.first; last = c.joined.ensures.first_end; low = c.lower_of-2.ensures.first; high = c.higher_of-2.ensures.first }

pub returns-clause-holds : goal.returns-clause-holds
returns-clause-holds c =
    let s = c.args.s in
    let low = c.lower_of.result.y in
    let high = c.higher_of.result.y in
    let least = c.lower_of-2.result.y in
    let most = c.higher_of-2.result.y in
    boxed_by c.joined.result.lo c.joined.result.hi least most s c.joined.ensures.second c.joined.ensures.second_end
    (le_trans least low s.lo.y c.lower_of-2.ensures.second (ap (λ (q : Point). int_le low q.y) (sym c.lo-lo.ensures) ∙ c.lower_of.ensures.first))
    (le_trans least low s.hi.y c.lower_of-2.ensures.second (ap (λ (q : Point). int_le low q.y) (sym c.hi-hi.ensures.value) ∙ c.lower_of.ensures.second))
    (le_trans s.lo.y high most (ap (λ (q : Point). int_le q.y high) (sym c.lo-lo.ensures) ∙ c.higher_of.ensures.first) c.higher_of-2.ensures.second)
    (le_trans s.hi.y high most (ap (λ (q : Point). int_le q.y high) (sym c.hi-hi.ensures.value) ∙ c.higher_of.ensures.second) c.higher_of-2.ensures.second)
