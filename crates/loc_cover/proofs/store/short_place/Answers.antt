use Rattle.std.proofs.Common.{◌≡◌, ℕ, suc, ◌+◌, List, [], ◌∷◌, length, get_or, ap, arith}
use Rattle.loc_cover.specs.Stores.{short_list}
use Rattle.loc_cover.proofs.store.short_place.Goals as goal

alone : (list : List ℕ) → length list ≡ 1 → short_list (get_or list 0 0 + 1) ≡ list
alone [] is = absurd (omega (arith, is))
alone (x ∷ []) is = let next : x + 1 ≡ suc x = omega arith in ap short_list next
alone (x ∷ y ∷ ys) is = absurd (omega (arith, is))

pub returns-in-1-clause-found : goal.returns-in-1-clause-found
returns-in-1-clause-found c = alone c.args.list.now c.in-1.is
