use Rattle.std.proofs.Common.{◌≢◌, ℕ, ◌+◌, ◌<◌, get_or, Vec, Global, Option, None, refl, sym, subst, arith}
use Rattle.loc_cover.specs.{Numbered.IsNumbered, Stores.StoreRows, Stores.IsStore}
use Rattle.loc_cover.proofs.Numbering.{known_next, known_there, numbered_none}
use Rattle.loc_cover.proofs.covers.number_all.Goals as goal
use Rattle.loc_cover.proofs.covers.number_all.Goals.{then-is_none+in_default, else-is_none}

pub loop-edge-init : goal.loop-edge-init
loop-edge-init c = record {
  stands = c.new-store.ensures.stands;
  numbered = subst (λ rows. IsNumbered c.args.table.now rows c.resize.new.self.items) (sym c.new-store.ensures.none) (numbered_none c.args.table.now c.resize.new.self.items (omega (arith, c.in_ok-resize.ensures.len, c.resize.new.self.ok.0, c.edge_count.ensures.value))
      (λ e lt. c.in_ok-resize.ensures.by_index.1 e None refl (omega (arith, c.new-numbers.ensures.len)) (omega (arith, lt, c.edge_count.ensures.value))));
  known = λ e lt. absurd (omega (arith, lt));
}

pub index-requires : goal.index-requires
index-requires c = omega (arith, c.loop-edge.invariant.numbered.as_many, c.loop-edge.numbers.ok.0, c.edge_count-edge-end.ensures.value, c.loop-edge-test.true)

pub number_down-made-requires-clause-in_range : goal.number_down-made-requires-clause-in_range
number_down-made-requires-clause-in_range c = omega (arith, c.edge_count-edge-end.ensures.value, c.loop-edge-test.true)

pub loop-edge-preserved : goal.loop-edge-preserved
loop-edge-preserved c = elim c.if-is_none.branch [
  | then-is_none+in_default w ↦ record {
    stands = subst IsStore (sym w.store-is) w.in_default.ensures.stands;
    numbered = subst (λ (s : StoreRows). IsNumbered c.args.table.now s.rows c.if-is_none.numbers.items) (sym w.store-is) (subst (λ (numbers : Vec (Option ℕ) Global). IsNumbered c.args.table.now w.number_down-made.new.store.rows numbers.items) (sym w.numbers-is) w.in_default.ensures.numbered);
    known = subst (λ (numbers : Vec (Option ℕ) Global). (e : ℕ) → e < c.loop-edge.edge + 1 → get_or numbers.items e None ≢ None) (sym w.numbers-is) (known_next w.number_down-made.new.numbers.items c.loop-edge.edge (λ e lt. w.in_default.ensures.kept e (c.loop-edge.invariant.known e lt)) w.in_default.ensures.known);
  }
  | else-is_none w ↦ record {
    stands = subst IsStore (sym w.store-is) c.loop-edge.invariant.stands;
    numbered = subst (λ (s : StoreRows). IsNumbered c.args.table.now s.rows c.if-is_none.numbers.items) (sym w.store-is) (subst (λ (numbers : Vec (Option ℕ) Global). IsNumbered c.args.table.now c.loop-edge.store.rows numbers.items) (sym w.numbers-is) c.loop-edge.invariant.numbered);
    known = subst (λ (numbers : Vec (Option ℕ) Global). (e : ℕ) → e < c.loop-edge.edge + 1 → get_or numbers.items e None ≢ None) (sym w.numbers-is) (known_next c.loop-edge.numbers.items c.loop-edge.edge c.loop-edge.invariant.known (known_there c.loop-edge.numbers.items c.loop-edge.edge c.index.result.now (omega (arith, c.loop-edge.invariant.numbered.as_many, c.edge_count-edge-end.ensures.value, c.loop-edge-test.true)) c.index.ensures w.if-is_none.ensures));
  }
]

pub returns-clause-known : goal.returns-clause-known
returns-clause-known c = λ e lt. c.loop-edge.invariant.known e (omega (arith, lt, c.edge_count-edge-end.ensures.value, c.loop-edge-test.false))
