use Rattle.std.proofs.Common.{◌<◌, ◌≤◌, ℕ, List, length, take, Option, Result, Ok, Err, IfOk, subst, arith, rules}
use Rattle.std.specs.Io.KnownBytes.{Appends, WriteAppends}
use Rattle.std.proofs.lemmas.List.{length-take-le, take-take}
use Rattle.loc_run_rows.proofs.watched.WatchedShelfShelf.write.Goals as goal

-- what was written of a front of a piece is a front of the piece
narrowed : {E : Type 0} (old new : Option (List ℕ)) (n : ℕ) (piece : List ℕ) (r : Result ℕ E) → n ≤ length piece → IfOk r (λ k. (0 < k) × (k ≤ length (take n piece))) → WriteAppends old new r (take n piece) → WriteAppends old new r piece
narrowed old new n piece (Ok k) le bound was = subst (λ front. Appends old new front) (take-take k n piece (omega (arith, length-take-le n piece le, bound.1))) was
narrowed old new n piece (Err _) le bound was = was

pub returns : goal.returns
returns c = record {
  reading = c.write.ensures.shelf.reading;
  bound = search rules;
  made = c.write.ensures.shelf.made;
  file = λ name is. narrowed _ _ c.front-front.result c.args.piece.now c.write.result c.front-front.ensures.within c.write.ensures.shelf.bound (c.write.ensures.shelf.file name is);
  others = c.write.ensures.shelf.others;
  refused = c.write.ensures.shelf.refused;
  cause = c.write.ensures.shelf.cause;
  late = c.write.ensures.shelf.late;
}
