use Rattle.std.proofs.Common.{◌-◌, length, ◌∙◌, ap, arith}
use Rattle.loc_spec_plane.specs.Tables.{lo_of, hi_of}
use Rattle.loc_traps.specs.Meaning.{MapMeaning, row_of}
use Rattle.loc_traps.proofs.{Rows.fresh_count, Coded.fresh_same, Coded.numbered_same}
use Rattle.loc_traps.proofs.map.Traps.cut_along.Goals as goal

pub returns-clause-ok : goal.returns-clause-ok
returns-clause-ok c =
    let t = c.args.ranks.now in
    let m = c.args.self.now in
    let w = c.args.walk.now in
    let e = c.args.edge in
    let first = row_of m.rows c.args.from in
    record {
      last = w.last;
      overs = w.overs.items;
      unders = w.unders.items;
      cuts = w.cuts.items;
      walk = c.requires.walk;
      rows = c.in_ok-fresh.ensures ∙ fresh_same e c.ends-ends.result.0 c.ends-ends.result.1 (lo_of t e) (hi_of t e) w.overs.items w.unders.items c.trap-first.result first c.trap-last.result (row_of m.rows w.last) c.ends-ends.ensures.lower c.ends-ends.ensures.upper c.trap-first.ensures c.trap-last.ensures;
      numbers = numbered_same c.deref.result.now m.rows c.ends-ends.result.0 c.ends-ends.result.1 (lo_of t e) (hi_of t e) (length w.overs.items - 1) (length w.unders.items - 1) c.trap-first.result first w.cuts.items c.in_ok-splits.splits.items
          (c.deref.ensures.value ∙ (c.reserve.ensures.items ∙ ap (λ (v : MapMeaning). v.rows) c.self.view_is)) c.ends-ends.ensures.lower c.ends-ends.ensures.upper c.trap-first.ensures c.in_ok-splits.ensures;
    }

pub splits-requires-clause-room : goal.splits-requires-clause-room
splits-requires-clause-room c =
    let w = c.args.walk.now in
    let count = fresh_count c.args.self.now.rows c.args.edge c.ends-ends.result.0 c.ends-ends.result.1 w.overs.items w.unders.items c.trap-first.result c.trap-last.result in
    let many = ap length c.in_ok-fresh.ensures in
    let room = c.in_ok-reserve.ensures.ok in
    let small = c.reserve.new.self.small in
    let held = c.deref.ensures.len in
    omega arith

pub fresh_pieces-requires-clause-over : goal.fresh_pieces-requires-clause-over
fresh_pieces-requires-clause-over c = c.requires.walk.some_over

pub fresh_pieces-requires-clause-under : goal.fresh_pieces-requires-clause-under
fresh_pieces-requires-clause-under c = c.requires.walk.some_under

pub splits-requires-clause-over : goal.splits-requires-clause-over
splits-requires-clause-over c = c.requires.walk.some_over

pub splits-requires-clause-under : goal.splits-requires-clause-under
splits-requires-clause-under c = c.requires.walk.some_under

pub splits-requires-clause-real : goal.splits-requires-clause-real
splits-requires-clause-real c = λ j within. omega (arith, (c.requires.walk.live j within).0, ap length (c.deref.ensures.value ∙ (c.reserve.ensures.items ∙ ap (λ (v : MapMeaning). v.rows) c.self.view_is)))

pub splits-requires-clause-over_places : goal.splits-requires-clause-over_places
splits-requires-clause-over_places c = λ j within. omega (arith, (c.requires.walk.over j within).0)

pub splits-requires-clause-under_places : goal.splits-requires-clause-under_places
splits-requires-clause-under_places c = λ j within. omega (arith, (c.requires.walk.under j within).0)
