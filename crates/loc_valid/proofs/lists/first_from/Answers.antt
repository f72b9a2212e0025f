use Rattle.std.proofs.Common.{◌≡◌, ℕ, ◌<◌, ◌≤◌, length, get_or, Ok, Err, arith}
use Rattle.std.proofs.lemmas.List.Sorted.{searched}
use Rattle.loc_laws_order.proofs.TableOrder.{rises_weakly}
use Rattle.loc_valid.proofs.{InLists.strictly, lists.first_from.Goals.In-Ok, lists.first_from.Goals.In-Err}
use Rattle.loc_valid.proofs.lists.first_from.Goals as goal

found : (c : In-Ok) → (c.in-Ok.at < length c.args.list.now) × (get_or c.args.list.now c.in-Ok.at 0 ≡ c.args.n)
found c = searched c.args.list.now c.args.n (Ok c.in-Ok.at) c.in-Ok.ensures.position (rises_weakly c.args.list.now c.requires.rises)

around : (c : In-Err) → (c.in-Err.at ≤ length c.args.list.now) × ((k : ℕ) → k < c.in-Err.at → get_or c.args.list.now k 0 < c.args.n) × ((k : ℕ) → c.in-Err.at ≤ k → k < length c.args.list.now → c.args.n < get_or c.args.list.now k 0)
around c = searched c.args.list.now c.args.n (Err c.in-Err.at) c.in-Err.ensures.position (rises_weakly c.args.list.now c.requires.rises)

pub returns-in-Ok-clause-within : goal.returns-in-Ok-clause-within
returns-in-Ok-clause-within c = let at = found c in omega (arith, at.0)

pub returns-in-Ok-clause-below : goal.returns-in-Ok-clause-below
returns-in-Ok-clause-below c = λ k less. (let at = found c in omega (arith, strictly c.args.list.now c.requires.rises k c.in-Ok.at less at.0, at.1))

pub returns-in-Ok-clause-from : goal.returns-in-Ok-clause-from
returns-in-Ok-clause-from c = λ k ge lt. (let at = found c in omega (arith, rises_weakly c.args.list.now c.requires.rises c.in-Ok.at k ge lt, at.1))

pub returns-in-Err-clause-within : goal.returns-in-Err-clause-within
returns-in-Err-clause-within c = (around c).0

pub returns-in-Err-clause-below : goal.returns-in-Err-clause-below
returns-in-Err-clause-below c = (around c).1

pub returns-in-Err-clause-from : goal.returns-in-Err-clause-from
returns-in-Err-clause-from c = λ k ge lt. (let less = (around c).2 k ge lt in omega (arith, less))
