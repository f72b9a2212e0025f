-- What a walk from the place that was sought gives is what the span meets.
use Rattle.std.proofs.Common.{◌≡◌, ℕ, List, length, sym, ◌∙◌, ap, arith}
use Rattle.std.proofs.{lemmas.Bool.or_right, lemmas.List.length-append}
use Rattle.loc_pool.specs.{declared.Link.Link, Maps.Map, Rows.Row}
use Rattle.loc_spec_plane.specs.{Lists.is_in, Points.Point, Tables.Table, Places.IsListAt, Spans.IsSpan}
use Rattle.loc_place.specs.Planar.{IsPlanar}
use Rattle.loc_place.proofs.Listed.{listed_few}
use Rattle.loc_laws_order.proofs.AliveAt.{alive_parts}
use Rattle.loc_laws_stab.specs.Fronts.{passing_front}
use Rattle.loc_laws_stab.proofs.{Parted.is_in-append, RunOfRest.reaches_up, RunOfRest.run_of_rest, Runs.run_is_sorted}
use Rattle.loc_stab.specs.{Pending.IsRest, Runs.run_at, Sought.IsSought}

module _ (t : Table) (low : Point) (version : ℕ) (rows : Map Row) (list : List ℕ) (nodes : List Link) (is_list : IsListAt t low list) (s : IsSought t low version rows list nodes) where
  -- what is pending are edges of the table
  pub sought_rest : IsRest t version rows nodes s.rest
  sought_rest = record {
    pending = s.pending;
    in_range = λ e here. (alive_parts t low e (sym (is_list.exact e) ∙ (ap (is_in e) (sym s.whole) ∙ (is_in-append e s.front s.rest ∙ or_right (is_in e s.front) (is_in e s.rest) here)))).0;
    few = (let n = length-append s.front s.rest in let k = ap length s.whole in let few = listed_few t low list is_list in omega (arith, n, k, few));
  }

  -- the run is what the span meets
  pub sought_run : IsPlanar t → (high : Point) → IsSpan low high → passing_front (reaches_up t high) s.rest ≡ run_at t low high
  unfolding run_at
  sought_run planar high span =
      run_is_sorted t planar.in_order planar.apart low high (passing_front (reaches_up t high) s.rest)
      (run_of_rest t planar.apart low list is_list high span s.front s.rest s.whole s.over s.not_over)
