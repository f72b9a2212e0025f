use Rattle.std.proofs.Common.{◌<◌, ◌-◌, ◌+◌, vec_len}
use Rattle.loc_io.proofs.Reading.{InHand}
use Rattle.loc_io.proofs.whole.read_all.Given as goal

abbrev pub invariant-pieces : goal.invariant-pieces
invariant-pieces g l =
    let meaning = g.F.Shelf.meaning in
    record {
      hand : InHand l.name l.limit (meaning l.fn.shelf) (meaning l.shelf) l.all.items;
      room : 0 < vec_len l.piece;
    }

abbrev pub decreases-pieces : goal.decreases-pieces
decreases-pieces g l = l.limit + 1 - vec_len l.all
