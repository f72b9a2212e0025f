use Rattle.std.proofs.Common.{◌≡◌, ℕ, ◌-◌, List, [], length, get_or, ap, subst, arith}
use Rattle.std.specs.{Prelude.IfOk, List.flat_map}
use Rattle.loc_page.proofs.Pages.{put_same}
use Rattle.loc_spec_text.specs.Spans.{numbered}
use Rattle.loc_place.specs.Steps.{alive_count}
use Rattle.loc_place.proofs.ListCounts.{listed_count, square_rises}
use Rattle.loc_stab.proofs.Alive.{sought_rest, sought_run}
use Rattle.loc_stab.proofs.run.write_alive.Goals as goal

pub write_run-requires : goal.write_run-requires
write_run-requires g c =
    let s = c.seek-pending.ensures.sought in
    (s.rest, sought_rest c.args.views.now c.args.low c.args.version c.args.versions.now.rows (get_or c.args.versions.now.sealed_lists c.args.version []) c.seek-pending.result.items c.requires.alive s)

pub returns-clause-written : goal.returns-clause-written
returns-clause-written g c =
    let t = c.args.views.now in
    let list = get_or c.args.versions.now.sealed_lists c.args.version [] in
    let s = c.seek-pending.ensures.sought in
    put_same (ap (flat_map numbered) (sought_run t c.args.low c.args.version c.args.versions.now.rows list c.seek-pending.result.items c.requires.alive s c.requires.planar c.args.high c.requires.span))
    (c.write_run.ensures.written s.rest (sought_rest t c.args.low c.args.version c.args.versions.now.rows list c.seek-pending.result.items c.requires.alive s))

pub returns-clause-count : goal.returns-clause-count
returns-clause-count g c =
    let t = c.args.views.now in
    let list = get_or c.args.versions.now.sealed_lists c.args.version [] in
    let s = c.seek-pending.ensures.sought in
    subst (λ (run : List ℕ). IfOk c.write_run.result (λ n. n ≡ length run)) (sought_run t c.args.low c.args.version c.args.versions.now.rows list c.seek-pending.result.items c.requires.alive s c.requires.planar c.args.high c.requires.span)
    (c.write_run.ensures.count s.rest (sought_rest t c.args.low c.args.version c.args.versions.now.rows list c.seek-pending.result.items c.requires.alive s))

pub returns-clause-few : goal.returns-clause-few
returns-clause-few g c =
    let t = c.args.views.now in
    let list = get_or c.args.versions.now.sealed_lists c.args.version [] in
    let s = c.seek-pending.ensures.sought in
    let run = sought_run t c.args.low c.args.version c.args.versions.now.rows list c.seek-pending.result.items c.requires.alive s c.requires.planar c.args.high c.requires.span in
    let many = ap length run in
    let took = c.write_run.ensures.few s.rest (sought_rest t c.args.low c.args.version c.args.versions.now.rows list c.seek-pending.result.items c.requires.alive s) in
    let first = c.seek-pending.ensures.counted in
    let few = c.seek-pending.ensures.few in
    let square = square_rises (length list) (alive_count t c.args.low) (listed_count t c.args.low list c.requires.alive) in
    (c.seek-pending.new.steps - c.args.steps.now, omega (arith, many, took, first), omega (arith, few, square))
