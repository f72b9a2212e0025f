use Rattle.std.proofs.Common.{◌≤◌, ℕ, not, ap, length, arith, refl, filter}
use Rattle.std.specs.List.{flat_map}
use Rattle.std.specs.Prelude.{◌==◌}
use Rattle.std.proofs.{lemmas.Result.err_from_is_err_and, lemmas.List.Filters.length-filter_both}
use Rattle.std.proofs.lemmas.List.FromFn.{length-range_with_len}
use Rattle.loc_spec_plane.specs.Tables.{Table, hi_of, edge_numbers}
use Rattle.loc_spec_text.specs.Spans.{numbered}
use Rattle.loc_page.proofs.Pages.{put_same}
use Rattle.loc_stab.proofs.Ranges.{put_as, put_err}
use Rattle.loc_stab.proofs.beside.write_ending.Goals as goal

few : (t : Table) (corner : ℕ) → length (filter (λ e. hi_of t e == corner) (edge_numbers t)) ≤ length t.ends
few t corner = omega (arith, length-filter_both (λ e. hi_of t e == corner) (λ e. not (hi_of t e == corner)) (λ e. refl) (edge_numbers t), length-range_with_len 0 (length t.ends))

pub overflow_cast-result : goal.overflow_cast-result
overflow_cast-result g c =
    let n = ap length c.ending-edges.ensures in
    let many = few c.args.views.now c.args.corner in
    let small = c.law.ensures.small.few_edges in
    omega (arith, n, many, small)

pub returns-in_err-write_each-clause-written : goal.returns-in_err-write_each-clause-written
returns-in_err-write_each-clause-written g c = put_same (ap (flat_map numbered) c.ending-edges.ensures) (put_err c.in_err-write_each.was (err_from_is_err_and _ c.from_residual.ensures.1).1 c.write_each.ensures)

pub returns-clause-written : goal.returns-clause-written
returns-clause-written g c = put_same (ap (flat_map numbered) c.ending-edges.ensures) (put_as _ c.in_ok-write_each.was c.write_each.ensures)
