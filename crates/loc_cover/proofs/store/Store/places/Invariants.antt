use Rattle.loc_cover.proofs.Lasting.{ArePlaced}
use Rattle.loc_cover.proofs.store.Store.places.Given as goal

abbrev pub invariant-loop-place : goal.invariant-loop-place
invariant-loop-place l = ArePlaced l.self l.place l.places.items
