-- Why segments are refused, as it is handed on.
use Rattle.std.proofs.Common.{ℕ, ◌≤◌, arith, Result, Ok, Err}
use Rattle.std.specs.{Prelude.IfErr, Result.IsErrAnd}
use Rattle.loc_node.specs.declared.fault.NodeFault.{NodeFault}
use Rattle.loc_node.specs.declared.fault.NodeFault.TheVariants.{ManyPieces, NoMemory}
use Rattle.loc_node.specs.Pieces.{IsRefused}

-- what is so of the value in an `Err` is so where there is one
pub shown : {A E : Type 0} (P Q : E → Type 0) (r : Result A E) → ((e : E) → P e → Q e) → IsErrAnd r P → IfErr r Q
shown P Q (Ok a) f h = tt
shown P Q (Err e) f h = f e h

-- what is refused for some pieces is refused for more
pub refused_more : (m n : ℕ) (fault : NodeFault) → m ≤ n → IsRefused m fault → IsRefused n fault
refused_more m n ManyPieces le h = omega arith
refused_more m n NoMemory le h = tt
