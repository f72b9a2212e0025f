-- The chain has fewer edges than the table, so there is room for one more.
use Rattle.std.proofs.{Common.length, Common.ap, Common.arith, lemmas.Bool.not-true}
use Rattle.loc_spec_plane.specs.Tables.{corner, lo_of}
use Rattle.loc_persist.specs.Meaning.{VersionsMeaning}
use Rattle.loc_treeidx.proofs.Changes.{chain_has_room, stands_beside}
use Rattle.loc_treeidx.proofs.tree_index.TreeIndexStatus.insert.Goals as goal
use Rattle.loc_treeidx.proofs.tree_index.TreeIndexStatus.insert.Goals.{in-Err, in-Ok}

pub insert_at-requires-clause-small : goal.insert_at-requires-clause-small
insert_at-requires-clause-small c =
    let t = c.args.ranks.now in
    omega (arith, chain_has_room t (corner t (lo_of t c.args.edge)) c.args.self.now.list c.args.edge c.requires.chain (not-true _ c.requires.is_new) c.requires.in_range, ap (λ (m : VersionsMeaning). length m.list) c.self.view_is, c.law.ensures.small.few_edges)

pub returns-clause-beside : goal.returns-clause-beside
returns-clause-beside c = elim c.match-insert_at.branch [
  | in-Err w ↦ rw w.result-is tt
  | in-Ok w ↦ rw w.result-is (stands_beside c.args.ranks.now c.args.edge c.self.inside.versions c.insert_at.new.self c.place_for.new.path.items c.in_ok-beside.beside c.in_ok-beside.ensures.ok w.in-Ok.ensures.inserts)
]
