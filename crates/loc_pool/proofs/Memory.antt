-- What the walks share. Assumes `Logic`.
use mathlib.Core.Path.{refl}
use mathlib.Core.List.{List, [], ◌∷◌, ◌++◌}
use Prim.Native.Nat.{ℕ, zero, suc}
use denote.Builtin.{unit}
use denote.Signature.{Slot, plain}
use seplogic.Ra.Ura.{Ura}
use mir.Val.{Val, vstruct, vcons, vnil}
use base.Logic.{SProp, ent, sep, emp, via, fst∗, snd∗, id⊢}
use base.Fml.{Lft}
use types.Kit.{Item, Step, step, prop, ‵, raw, ◌⊛◌, ◌$◌, ◌∵◌, !, qed, move, use0, use1, use2, split, frame, fsplit, fjoin, done}
use contract.Monad.{fact, fact_i}
use denote.RawPtr.{Ptr, ptr_val}
use Rattle.loc_pool.specs.{Cells.Cell, Ownership.cell_own, Ownership.cells_own, Ownership.cells_lent}
use Rattle.loc_pool.specs.contracts.heap.Address.{the_row as Ad}
use denote.Struct.Lending.{lent_at}
use Rattle.std.specs.declared.alloc.Global.{Global}
use Rattle.loc_pool.specs.contracts.node.Slab.{the_row as R}
use types.Logic.{Logic, sem}
use denote.RattleType.{RattleType}
use denote.Shadow.{makes_shadow}
use denote.Struct.Struct.{Struct}
use denote.Struct.Owning.{shape}
use Rattle.loc_pool.specs.contracts.heap.Heap as H

-- the handle that a heap is made with: they are all the same
abbrev pub handle : Global
handle = record { memory = record { seal = tt } }

abbrev pub slot_at : {n : ℕ} → ℕ → List (Slot n) → Slot n
slot_at k [] = plain (λ _. unit)
slot_at zero (s ∷ ss) = s
slot_at (suc k) (s ∷ ss) = slot_at k ss

-- the heap's own field, which takes no bytes
abbrev pub Mark : RattleType
Mark = Struct (shape H.the_type)

abbrev pub mark : Val
mark = vstruct (vcons (vstruct vnil) vnil)

pub mark_made : {M : Type 1} {𝓤 : Ura M} (𝓛 : Logic 𝓤) → ent 𝓤 (emp 𝓤) (sem 𝓛 (Mark.own_val (tt, tt) (mark ∷ [])))
mark_made 𝓛 = makes_shadow 𝓛 (Mark.own_val (tt, tt) (mark ∷ [])) (λ vss. (tt, ((λ uss. (tt, tt)), tt))) ((vstruct vnil ∷ [], tt), (refl, ((tt, (refl, tt)), tt)))

module _ {M : Type 1} {𝓤 : Ura M} (𝓛 : Logic 𝓤) where
  pub cell_seen : (κ : Lft) (xs : List Cell) (c : Cell) (ys : List Cell) → ent 𝓤 (sem 𝓛 (cells_lent (xs ++ c ∷ ys) κ)) (sem 𝓛 (lent_at R c.0.at c.1 κ))
  cell_seen κ [] c ys = fst∗ 𝓤 _ (sem 𝓛 (cells_lent ys κ))
  cell_seen κ (x ∷ xs) c ys = via 𝓤 _ (snd∗ 𝓤 (sem 𝓛 (lent_at R x.0.at x.1 κ)) _) (cell_seen κ xs c ys)

  pub cells_cut : (xs : List Cell) (c : Cell) (ys : List Cell) → ent 𝓤 (sem 𝓛 (cells_own handle (xs ++ c ∷ ys))) (sep 𝓤 (sem 𝓛 (cell_own handle c)) (sem 𝓛 (cells_own handle (xs ++ ys))))
  cells_cut [] c ys = id⊢ 𝓤 _
  cells_cut (x ∷ xs) c ys = qed 𝓛 (‵ (cells_own handle (x ∷ xs ++ c ∷ ys)) ∷ []) ∵ fsplit ! $ move ! (1 ∷ []) $
      use1 𝓛 (‵ (cell_own handle c) ⊛ ‵ (cells_own handle (xs ++ ys))) (cells_cut xs c ys) $ split ! $ move ! (2 ∷ 1 ∷ []) $ fjoin ! $ move ! (1 ∷ []) $ done !

  pub cells_glue : (xs : List Cell) (c : Cell) (ys : List Cell) → ent 𝓤 (sep 𝓤 (sem 𝓛 (cell_own handle c)) (sem 𝓛 (cells_own handle (xs ++ ys)))) (sem 𝓛 (cells_own handle (xs ++ c ∷ ys)))
  cells_glue [] c ys = id⊢ 𝓤 _
  cells_glue (x ∷ xs) c ys = qed 𝓛 (‵ (cell_own handle c) ∷ ‵ (cells_own handle (x ∷ xs ++ ys)) ∷ []) ∵ move ! (1 ∷ []) $ fsplit ! $ move ! (2 ∷ 1 ∷ []) $
      use2 𝓛 (‵ (cells_own handle (xs ++ c ∷ ys))) (cells_glue xs c ys) $ move ! (1 ∷ 0 ∷ []) $ fjoin ! $ done !

pub address_made : {M : Type 1} {𝓤 : Ura M} (𝓛 : Logic 𝓤) (p : Ptr) → ent 𝓤 (emp 𝓤) (sem 𝓛 (Ad.own_val (record { at = p }) (vstruct (vcons (ptr_val p) vnil) ∷ [])))
address_made 𝓛 p = makes_shadow 𝓛 (Ad.own_val (record { at = p }) (vstruct (vcons (ptr_val p) vnil) ∷ [])) (λ _. (tt, (tt, tt))) ((ptr_val p ∷ [], tt), (refl, (refl, tt)))

module _ {M : Type 1} {𝓤 : Ura M} {𝓛 : Logic 𝓤} {K : Type 0} {Γ : List (Item 𝓤)} where
  -- an `ensures` of two facts
  pub says_both : K → {φ ψ : Type 0} {P : SProp 𝓤} → φ → ψ → Step K 𝓛 Γ (prop P) Γ (prop (sep 𝓤 P (sep 𝓤 (fact 𝓤 φ) (fact 𝓤 ψ))))
  says_both t {φ} {ψ} {P} x y = step (λ s. record {
    prf = via 𝓤 P s.prf (qed 𝓛 (raw P ∷ []) {P = sep 𝓤 P (sep 𝓤 (fact 𝓤 φ) (fact 𝓤 ψ))} (
        frame ! $ use0 𝓛 (raw (fact 𝓤 ψ)) (fact_i 𝓤 ψ (emp 𝓤) y) $ use0 𝓛 (raw (fact 𝓤 φ)) (fact_i 𝓤 φ (emp 𝓤) x) $ done !));
  })
