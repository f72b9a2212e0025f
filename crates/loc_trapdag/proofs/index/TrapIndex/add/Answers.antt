use Rattle.std.proofs.Common.{◌≡◌, List, true, length, sym, ◌∙◌, ap, subst, ◌⊎◌, arith}
use Rattle.std.specs.Prelude.{Option, Some, vec_len}
use Rattle.loc_spec_plane.specs.Tables.{corner, lo_of}
use Rattle.loc_laws_traps.specs.Sets.{is_inside}
use Rattle.loc_laws_traps.proofs.Where.{where_law}
use Rattle.loc_traps.specs.{declared.map.Split.Split, Meaning.MapMeaning, Meaning.row_of, Meaning.among}
use Rattle.loc_traps.specs.Splits.{AreSplits, IsAdded}
use Rattle.loc_traps.proofs.{Burying.written_back, Coded.calm_with}
use Rattle.loc_trapdag.specs.{declared.index.Step.Step, Graphs.Graph, Graphs.IsGraphOf, Graphs.Marks}
use Rattle.loc_trapdag.proofs.Growing.{graph_more, steps_grown}
use Rattle.loc_trapdag.proofs.index.TrapIndex.add.Goals as goal

pub seek-from-requires-clause-calm : goal.seek-from-requires-clause-calm
seek-from-requires-clause-calm c = calm_with c.args.ranks.now c.args.self.now.map c.args.edge c.requires.graph.map c.requires.in_range c.requires.apart

pub add-requires-clause-begins : goal.add-requires-clause-begins
add-requires-clause-begins c =
    let t = c.args.ranks.now in
    let m = c.args.self.now.map in
    let e = c.args.edge in
    let from = c.seek-from.result in
    subst (λ (x : MapMeaning). (is_inside t (row_of x.rows from) (corner t (lo_of t e)) ≡ true) ⊎ ((row_of x.rows from).left ≡ Some (lo_of t e))) (sym (ap (λ (v : Graph). v.map) c.self.view_is))
    (where_law t (among m.added) e (calm_with t m e c.requires.graph.map c.requires.in_range c.requires.apart) c.requires.is_new (row_of m.rows from) (c.requires.graph.map.map.sound from c.seek-from.ensures.in_range c.seek-from.ensures.live) c.seek-from.ensures.begins)

pub returns-clause-graph : goal.returns-clause-graph
returns-clause-graph c =
    let t = c.args.ranks.now in
    let g = c.args.self.now in
    let e = c.args.edge in
    let new = c.add.new.self in
    let splits = c.in_ok-splits.splits.items in
    let map_is : c.self.inside.traps ≡ g.map = ap (λ (v : Graph). v.map) c.self.view_is in
    let cuts_is : c.self.inside.cuts.items ≡ g.cuts = ap (λ (v : Graph). v.cuts) c.self.view_is in
    let added = subst (λ (x : MapMeaning). IsAdded t e x new) map_is c.in_ok-splits.ensures.added in
    let are = subst (λ (x : MapMeaning). AreSplits t e (length x.rows) new.rows x.is_live splits) map_is c.in_ok-splits.ensures.splits in
    let lent = c.deref_mut.result.now in
    let marks = subst (λ (s : List Split). Marks e s (length s) lent c.mark.new.cuts) c.deref.ensures.value c.mark.ensures in
    let lent_is = ap length c.deref_mut.ensures.value in
    let size = c.in_ok-resize.ensures.len in
    let made = c.made.ensures in
    let many : length lent ≡ length new.rows = omega arith in
    let written = marks.same_length in
    let longer = added.longer in
    let count = c.requires.graph.many in
    let cuts_many = ap length cuts_is in
    let same = steps_grown g.cuts c.self.inside.cuts.items lent c.made.result (vec_len c.self.inside.cuts) cuts_is (omega arith) (omega arith) (c.deref_mut.ensures.value ∙ c.in_ok-resize.ensures.items) in
    subst (λ (cs : List (Option Step)). IsGraphOf t (record { map = new; cuts = cs })) (sym (written_back c.resize.new.self.len c.mark.new.cuts c.resize.new.self.items (omega arith)))
    (graph_more t e g c.requires.graph new c.in_ok-splits.ensures.is_map added splits are lent c.mark.new.cuts marks many same)
