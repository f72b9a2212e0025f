use Rattle.std.proofs.Common.{true, false, length, refl, ◌∙◌, ap}
use Rattle.std.proofs.lemmas.Bool.{lt-ltb}
use Rattle.loc_spec_plane.specs.Tables.{lo_of, hi_of}
use Rattle.loc_laws_traps.proofs.Begins.{begins_law}
use Rattle.loc_traps.specs.Meaning.{MapMeaning, row_of, among}
use Rattle.loc_traps.proofs.Coded.{calm_with, cut_rows, live_rows, rows_apart, namable, one_of_kind, map_there, added_there, splits_there, sends_there}
use Rattle.loc_traps.proofs.map.Traps.add.Goals as goal

pub pieces_of-requires-clause-calm : goal.pieces_of-requires-clause-calm
pieces_of-requires-clause-calm c = calm_with c.args.ranks.now c.args.self.now c.args.edge c.requires.is_map c.requires.in_range c.requires.apart

pub pieces_of-requires-clause-begins : goal.pieces_of-requires-clause-begins
pieces_of-requires-clause-begins c =
    let m = c.args.self.now in
    let t = c.args.ranks.now in
    begins_law t (among m.added) c.requires.is_map.calm c.args.edge (lt-ltb c.args.edge (length t.ends) c.requires.in_range) (row_of m.rows c.args.from) (c.requires.is_map.map.sound c.args.from c.requires.row c.requires.is_live) c.requires.begins c.requires.over_bottom c.requires.under_top

pub write-requires-clause-cut_rows : goal.write-requires-clause-cut_rows
write-requires-clause-cut_rows c =
    cut_rows c.args.ranks.now c.args.self.now c.requires.is_map c.args.edge c.requires.in_range c.requires.apart c.requires.is_new c.args.from c.in_ok-pieces.ensures.ok.last c.in_ok-pieces.ensures.ok.overs c.in_ok-pieces.ensures.ok.unders c.in_ok-pieces.ensures.ok.cuts c.in_ok-pieces.ensures.ok.walk
    (lo_of c.args.ranks.now c.args.edge) (hi_of c.args.ranks.now c.args.edge) refl refl (row_of c.args.self.now.rows c.args.from) refl c.in_ok-pieces.pieces.splits.items c.args.self.now.rows refl c.in_ok-pieces.ensures.ok.numbers c.deref-2.result.now c.deref-2.ensures.value c.pieces_of.new.self.is_live (ap (λ (v : MapMeaning). v.is_live) c.in_ok-pieces.ensures.same)

pub write-requires-clause-live_rows : goal.write-requires-clause-live_rows
write-requires-clause-live_rows c =
    live_rows c.args.ranks.now c.args.self.now c.requires.is_map c.args.edge c.requires.in_range c.requires.apart c.requires.is_new c.args.from c.in_ok-pieces.ensures.ok.last c.in_ok-pieces.ensures.ok.overs c.in_ok-pieces.ensures.ok.unders c.in_ok-pieces.ensures.ok.cuts c.in_ok-pieces.ensures.ok.walk
    (lo_of c.args.ranks.now c.args.edge) (hi_of c.args.ranks.now c.args.edge) refl refl (row_of c.args.self.now.rows c.args.from) refl c.in_ok-pieces.pieces.splits.items c.args.self.now.rows refl c.in_ok-pieces.ensures.ok.numbers c.deref-2.result.now c.deref-2.ensures.value c.pieces_of.new.self.is_live (ap (λ (v : MapMeaning). v.is_live) c.in_ok-pieces.ensures.same)

pub write-requires-clause-apart : goal.write-requires-clause-apart
write-requires-clause-apart c =
    rows_apart c.args.ranks.now c.args.self.now c.requires.is_map c.args.edge c.requires.in_range c.requires.apart c.requires.is_new c.args.from c.in_ok-pieces.ensures.ok.last c.in_ok-pieces.ensures.ok.overs c.in_ok-pieces.ensures.ok.unders c.in_ok-pieces.ensures.ok.cuts c.in_ok-pieces.ensures.ok.walk
    (lo_of c.args.ranks.now c.args.edge) (hi_of c.args.ranks.now c.args.edge) refl refl (row_of c.args.self.now.rows c.args.from) refl c.in_ok-pieces.pieces.splits.items c.args.self.now.rows refl c.in_ok-pieces.ensures.ok.numbers c.deref-2.result.now c.deref-2.ensures.value

pub write-requires-clause-namable : goal.write-requires-clause-namable
write-requires-clause-namable c =
    namable c.args.ranks.now c.args.self.now c.requires.is_map c.args.edge c.requires.in_range c.requires.apart c.requires.is_new c.args.from c.in_ok-pieces.ensures.ok.last c.in_ok-pieces.ensures.ok.overs c.in_ok-pieces.ensures.ok.unders c.in_ok-pieces.ensures.ok.cuts c.in_ok-pieces.ensures.ok.walk
    (lo_of c.args.ranks.now c.args.edge) (hi_of c.args.ranks.now c.args.edge) refl refl (row_of c.args.self.now.rows c.args.from) refl c.in_ok-pieces.pieces.splits.items c.args.self.now.rows refl c.in_ok-pieces.ensures.ok.numbers
    (row_of c.args.self.now.rows c.in_ok-pieces.ensures.ok.last) refl c.deref.result.now (c.deref.ensures.value ∙ c.in_ok-pieces.ensures.ok.rows) c.pieces_of.new.self.rows (ap (λ (v : MapMeaning). v.rows) c.in_ok-pieces.ensures.same)

pub write-requires-clause-one_lowest : goal.write-requires-clause-one_lowest
write-requires-clause-one_lowest c =
    one_of_kind c.args.ranks.now c.args.self.now c.requires.is_map c.args.edge c.requires.in_range c.requires.apart c.requires.is_new c.args.from c.in_ok-pieces.ensures.ok.last c.in_ok-pieces.ensures.ok.overs c.in_ok-pieces.ensures.ok.unders c.in_ok-pieces.ensures.ok.cuts c.in_ok-pieces.ensures.ok.walk
    (lo_of c.args.ranks.now c.args.edge) (hi_of c.args.ranks.now c.args.edge) refl refl (row_of c.args.self.now.rows c.args.from) refl c.in_ok-pieces.pieces.splits.items c.args.self.now.rows refl c.in_ok-pieces.ensures.ok.numbers
    (row_of c.args.self.now.rows c.in_ok-pieces.ensures.ok.last) refl c.deref.result.now (c.deref.ensures.value ∙ c.in_ok-pieces.ensures.ok.rows) c.pieces_of.new.self.rows (ap (λ (v : MapMeaning). v.rows) c.in_ok-pieces.ensures.same) true

pub write-requires-clause-one_highest : goal.write-requires-clause-one_highest
write-requires-clause-one_highest c =
    one_of_kind c.args.ranks.now c.args.self.now c.requires.is_map c.args.edge c.requires.in_range c.requires.apart c.requires.is_new c.args.from c.in_ok-pieces.ensures.ok.last c.in_ok-pieces.ensures.ok.overs c.in_ok-pieces.ensures.ok.unders c.in_ok-pieces.ensures.ok.cuts c.in_ok-pieces.ensures.ok.walk
    (lo_of c.args.ranks.now c.args.edge) (hi_of c.args.ranks.now c.args.edge) refl refl (row_of c.args.self.now.rows c.args.from) refl c.in_ok-pieces.pieces.splits.items c.args.self.now.rows refl c.in_ok-pieces.ensures.ok.numbers
    (row_of c.args.self.now.rows c.in_ok-pieces.ensures.ok.last) refl c.deref.result.now (c.deref.ensures.value ∙ c.in_ok-pieces.ensures.ok.rows) c.pieces_of.new.self.rows (ap (λ (v : MapMeaning). v.rows) c.in_ok-pieces.ensures.same) false

pub returns-clause-is_map : goal.returns-clause-is_map
returns-clause-is_map c =
    map_there c.args.ranks.now c.args.self.now c.requires.is_map c.args.edge c.requires.in_range c.requires.apart c.requires.is_new c.args.from c.in_ok-pieces.ensures.ok.last c.in_ok-pieces.ensures.ok.overs c.in_ok-pieces.ensures.ok.unders c.in_ok-pieces.ensures.ok.cuts c.in_ok-pieces.ensures.ok.walk
    (lo_of c.args.ranks.now c.args.edge) (hi_of c.args.ranks.now c.args.edge) refl refl (row_of c.args.self.now.rows c.args.from) refl c.in_ok-pieces.pieces.splits.items c.args.self.now.rows refl c.in_ok-pieces.ensures.ok.numbers
    (row_of c.args.self.now.rows c.in_ok-pieces.ensures.ok.last) refl c.deref.result.now (c.deref.ensures.value ∙ c.in_ok-pieces.ensures.ok.rows) c.pieces_of.new.self.rows (ap (λ (v : MapMeaning). v.rows) c.in_ok-pieces.ensures.same)
    c.pieces_of.new.self c.write.new.self
    c.in_ok-pieces.ensures.same c.deref-2.result.now c.deref-2.ensures.value c.in_ok-write.ensures.rows c.in_ok-write.ensures.added c.in_ok-write.ensures.stays c.in_ok-write.ensures.fresh c.in_ok-write.ensures.flags c.in_ok-write.ensures.count c.in_ok-write.ensures.lowest c.in_ok-write.ensures.highest

pub returns-clause-added : goal.returns-clause-added
returns-clause-added c =
    added_there c.args.ranks.now c.args.self.now c.requires.is_map c.args.edge c.requires.in_range c.requires.apart c.requires.is_new c.args.from c.in_ok-pieces.ensures.ok.last c.in_ok-pieces.ensures.ok.overs c.in_ok-pieces.ensures.ok.unders c.in_ok-pieces.ensures.ok.cuts c.in_ok-pieces.ensures.ok.walk
    (lo_of c.args.ranks.now c.args.edge) (hi_of c.args.ranks.now c.args.edge) refl refl (row_of c.args.self.now.rows c.args.from) refl c.in_ok-pieces.pieces.splits.items c.args.self.now.rows refl c.in_ok-pieces.ensures.ok.numbers
    (row_of c.args.self.now.rows c.in_ok-pieces.ensures.ok.last) refl c.deref.result.now (c.deref.ensures.value ∙ c.in_ok-pieces.ensures.ok.rows) c.pieces_of.new.self.rows (ap (λ (v : MapMeaning). v.rows) c.in_ok-pieces.ensures.same)
    c.pieces_of.new.self c.write.new.self
    c.in_ok-pieces.ensures.same c.deref-2.result.now c.deref-2.ensures.value c.in_ok-write.ensures.rows c.in_ok-write.ensures.added c.in_ok-write.ensures.stays c.in_ok-write.ensures.fresh

pub returns-clause-splits : goal.returns-clause-splits
returns-clause-splits c =
    splits_there c.args.ranks.now c.args.self.now c.requires.is_map c.args.edge c.requires.in_range c.requires.apart c.requires.is_new c.args.from c.in_ok-pieces.ensures.ok.last c.in_ok-pieces.ensures.ok.overs c.in_ok-pieces.ensures.ok.unders c.in_ok-pieces.ensures.ok.cuts c.in_ok-pieces.ensures.ok.walk
    (lo_of c.args.ranks.now c.args.edge) (hi_of c.args.ranks.now c.args.edge) refl refl (row_of c.args.self.now.rows c.args.from) refl c.in_ok-pieces.pieces.splits.items c.args.self.now.rows refl c.in_ok-pieces.ensures.ok.numbers
    (row_of c.args.self.now.rows c.in_ok-pieces.ensures.ok.last) refl c.deref.result.now (c.deref.ensures.value ∙ c.in_ok-pieces.ensures.ok.rows) c.pieces_of.new.self.rows (ap (λ (v : MapMeaning). v.rows) c.in_ok-pieces.ensures.same)
    c.pieces_of.new.self c.write.new.self
    c.in_ok-pieces.ensures.same c.deref-2.result.now c.deref-2.ensures.value c.in_ok-write.ensures.rows c.in_ok-write.ensures.added c.in_ok-write.ensures.stays c.in_ok-write.ensures.fresh

pub returns-clause-sends : goal.returns-clause-sends
returns-clause-sends c =
    sends_there c.args.ranks.now c.args.self.now c.requires.is_map c.args.edge c.requires.in_range c.requires.apart c.requires.is_new c.args.from c.in_ok-pieces.ensures.ok.last c.in_ok-pieces.ensures.ok.overs c.in_ok-pieces.ensures.ok.unders c.in_ok-pieces.ensures.ok.cuts c.in_ok-pieces.ensures.ok.walk
    (lo_of c.args.ranks.now c.args.edge) (hi_of c.args.ranks.now c.args.edge) refl refl (row_of c.args.self.now.rows c.args.from) refl c.in_ok-pieces.pieces.splits.items c.args.self.now.rows refl c.in_ok-pieces.ensures.ok.numbers
    (row_of c.args.self.now.rows c.in_ok-pieces.ensures.ok.last) refl c.deref.result.now (c.deref.ensures.value ∙ c.in_ok-pieces.ensures.ok.rows) c.pieces_of.new.self.rows (ap (λ (v : MapMeaning). v.rows) c.in_ok-pieces.ensures.same)
    c.pieces_of.new.self c.write.new.self
    c.in_ok-pieces.ensures.same c.deref-2.result.now c.deref-2.ensures.value c.in_ok-write.ensures.rows c.in_ok-write.ensures.added c.in_ok-write.ensures.stays c.in_ok-write.ensures.fresh
