-- The graph of no edge, and of all.
use Rattle.std.proofs.Common.{◌≡◌, ℕ, zero, suc, ◌+◌, ◌<◌, Bool, true, false, List, [], ◌∷◌, ◌++◌, length, take, get_or, refl, sym, ◌∙◌, ap, subst, arith}
use Rattle.std.specs.Prelude.{Option, Some, None}
use Rattle.std.proofs.lemmas.List.{take_more}
use Rattle.loc_spec_plane.specs.declared.Trap.{Trap}
use Rattle.loc_spec_plane.specs.Tables.{Table, IsTable, AllEnds, NoConflict}
use Rattle.loc_laws_traps.specs.Sets.{has_real_bounds}
use Rattle.loc_traps.specs.Meaning.{MapMeaning, IsMapOf, no_bounds, row_of, live_of, among}
use Rattle.loc_trapdag.specs.{declared.index.Step.Step, Orders.IsOrder}
use Rattle.loc_trapdag.specs.Graphs.{Graph, step_of, IsGraphOf, IsIndexOf}
use Rattle.loc_trapdag.proofs.Members.{order_in, order_real, order_new, order_length}

no_step : (n : ℕ) (step : Step) → step_of (None ∷ []) n ≡ Some step → ⊥
no_step zero step h = cc
no_step (suc n) step h = cc

first_live : (n : ℕ) → n < 1 → live_of (true ∷ []) n ≡ true
first_live zero less = refl
first_live (suc n) less = absurd (omega arith)

first_real : (t : Table) (n : ℕ) → n < 1 → has_real_bounds t (row_of (no_bounds ∷ []) n) ≡ true
first_real t zero less = refl
first_real t (suc n) less = absurd (omega arith)

pub start_graph : (map : MapMeaning) (cuts : List (Option Step)) → map.rows ≡ no_bounds ∷ [] → map.is_live ≡ true ∷ [] → cuts ≡ None ∷ [] → (t : Table) → IsMapOf t map → IsGraphOf t (record { map = map; cuts = cuts })
start_graph map cuts rows live none t is_map = let one : length map.rows ≡ 1 = ap length rows in record {
  map = is_map;
  many = ap length none ∙ sym one;
  some = omega arith;
  first = ap (λ (rs : List Trap). row_of rs 0) rows;
  real = λ n less. subst (λ (rs : List Trap). has_real_bounds t (row_of rs n) ≡ true) (sym rows) (first_real t n (omega arith));
  leaf = λ n less at. ap (λ (bs : List Bool). live_of bs n) live ∙ first_live n (omega arith);
  node = λ n step less at. absurd (no_step n step (sym (ap (λ (cs : List (Option Step)). step_of cs n) none) ∙ at));
  birth = λ n. 0;
  born = λ n less. omega arith;
  later = λ n k step less at piece. absurd (no_step n step (sym (ap (λ (cs : List (Option Step)). step_of cs n) none) ∙ at));
}

-- ---- edge after edge of an order
module _ (t : Table) (order : List ℕ) (is_order : IsOrder (length t.ends) order) (items : List ℕ) (same : items ≡ order) (added : List ℕ) (i : ℕ) (are : added ≡ take i items) (less : i < length items) where
  still : IsOrder (length t.ends) items
  still = subst (λ (xs : List ℕ). IsOrder (length t.ends) xs) (sym same) is_order

  pub next_real : get_or items i 0 < length t.ends
  next_real = order_real (length t.ends) items still i less

  pub next_new : among added (get_or items i 0) ≡ false
  next_new = ap (λ (xs : List ℕ). among xs (get_or items i 0)) are ∙ order_new (length t.ends) items still i less

  pub next_added : take (i + 1) items ≡ added ++ get_or items i 0 ∷ []
  next_added = take_more items i 0 less ∙ ap (λ (xs : List ℕ). xs ++ get_or items i 0 ∷ []) (sym are)

pub all_added : (t : Table) (g : Graph) (order : List ℕ) → IsOrder (length t.ends) order → IsTable t → NoConflict t → AllEnds t → IsGraphOf t g → g.map.added ≡ order → IsIndexOf t g
all_added t g order is_order ok apart ends graph are = record {
  planar = record { in_order = ok; apart = apart };
  ends = ends;
  graph = graph;
  all = λ e. ap (λ (xs : List ℕ). among xs e) are ∙ order_in (length t.ends) order is_order e;
  counted = ap (λ (xs : List ℕ). length xs) are ∙ order_length (length t.ends) order is_order;
}
