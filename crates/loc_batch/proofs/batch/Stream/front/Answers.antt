use Rattle.std.proofs.Common.{refl, sym}
use Rattle.loc_batch.proofs.batch.Stream.front.Goals as goal

pub returns-then-piece-room : goal.returns-then-piece-room
returns-then-piece-room g c = rw (sym c.self.view_is) refl
