-- One level up at a time until a sibling mends it; past the root nothing is lacking.
use Rattle.std.proofs.Common.{◌≡◌, ℕ, List, refl, sym, ◌∙◌, true, false, not, IsTrue, arith}
use Rattle.loc_pool.specs.declared.Colour.TheVariants.{Red, Black}
use Rattle.loc_rb.specs.{Balance.IsBlackTop, Places.Holds, Steps.LacksBlack, Steps.IsRedTop}
use Rattle.loc_rb.proofs.{OneChange.no-entries, Counts.within-trans, Counts.within-more, Counts.within-none}
use Rattle.loc_rb.proofs.RemovalSteps.{uneven, other-fits, uneven-tested, lacks-root}
use Rattle.loc_rb.proofs.removal.fix_removal.Goals as goal

pub red_child-requires : goal.red_child-requires
red_child-requires g c = (_, _, _, _, other-fits _ _ _ _ _ _ (uneven _ _ _ _ _ _ c.up.invariant.some.1 c.in-Some.ensures.items) c.other_side.ensures)

pub rotate_red_sibling-low-requires-clause-place : goal.rotate_red_sibling-low-requires-clause-place
rotate_red_sibling-low-requires-clause-place g c = let u = uneven-tested (IsRedTop c.in-Some-red_child.sibling) _ _ _ _ _ _ _ c.up.invariant.some.1 c.in-Some.ensures.items c.other_side.ensures c.in-Some-red_child.ensures in (_, u.0, u.1)

pub fix_black_sibling-requires-clause-place : goal.fix_black_sibling-requires-clause-place
fix_black_sibling-requires-clause-place g c =
    let u = uneven-tested (IsRedTop c.in-Some-red_child.sibling) _ _ _ _ _ _ _ c.up.invariant.some.1 c.in-Some.ensures.items c.other_side.ensures c.in-Some-red_child.ensures in
    let v = c.rotate_red_sibling-low.ensures.tree _ u.0 u.1 in (_, v.0, v.1)

pub returns-in-Some-red_child-clause-tree : goal.returns-in-Some-red_child-clause-tree
returns-in-Some-red_child-clause-tree g c L H =
    let u = uneven-tested (IsRedTop c.in-Some-red_child.sibling) _ _ _ _ _ _ _ (c.up.invariant.all L H) c.in-Some.ensures.items c.other_side.ensures c.in-Some-red_child.ensures in
    let v = c.rotate_red_sibling-low.ensures.tree L u.0 u.1 in let s = c.fix_black_sibling.ensures.tree L v.0 v.1 in let m = g.K.Links.nodes c.fix_black_sibling.new.links in let ps = c.fix_black_sibling.new.path.items in
    (elim c.fix_black_sibling.result as (λ b. (IsTrue b → Holds m L) → (IsTrue (not b) → (v.0.colour ≡ Black) × LacksBlack m ps L) → Holds m L) [
      | true ↦ λ f _. f refl
      | false ↦ λ _ f. let q : Red ≡ Black = sym v.2 ∙ (f refl).0 in cc
    ]) s.0 s.1

pub fix_black_sibling-requires-in-None-clause-place : goal.fix_black_sibling-requires-in-None-clause-place
fix_black_sibling-requires-in-None-clause-place g c = let u = uneven-tested IsBlackTop _ _ _ _ _ _ _ c.up.invariant.some.1 c.in-Some.ensures.items c.other_side.ensures c.in-None.ensures in (_, u.0, u.1)

pub returns-then-fix_black_sibling-clause-tree : goal.returns-then-fix_black_sibling-clause-tree
returns-then-fix_black_sibling-clause-tree g c L H = let u = uneven-tested IsBlackTop _ _ _ _ _ _ _ (c.up.invariant.all L H) c.in-Some.ensures.items c.other_side.ensures c.in-None.ensures in (c.if-fix_black_sibling.ensures.tree L u.0 u.1).0 refl

pub up-preserved : goal.up-preserved
up-preserved g c =
    let i = c.up.invariant in
    let on : (L : List ℕ) → LacksBlack (g.K.Links.nodes c.up.links) c.up.path.items L → LacksBlack (g.K.Links.nodes c.fix_black_sibling-in-None.new.links) c.fix_black_sibling-in-None.new.path.items L = λ L H.
    let u = uneven-tested IsBlackTop _ _ _ _ _ _ _ H c.in-Some.ensures.items c.other_side.ensures c.in-None.ensures in ((c.if-fix_black_sibling.ensures.tree L u.0 u.1).1 refl).1 in
    record {
      some = (i.some.0, on i.some.0 i.some.1);
      all = λ L H. on L (i.all L H);
      within = within-trans 0 0 0 0 _ _ _ i.within (c.if-fix_black_sibling.ensures.still refl);
      short = (let a = c.in-Some.ensures.len in let b = c.if-fix_black_sibling.ensures.length refl in let s = i.short in omega (arith, a, b, s));
    }

pub up-smaller : goal.up-smaller
up-smaller g c = let a = c.in-Some.ensures.len in let b = c.if-fix_black_sibling.ensures.length refl in omega (arith, a, b)

pub returns-clause-tree : goal.returns-clause-tree
returns-clause-tree g c L H = lacks-root _ _ _ (c.up.invariant.all L H) (no-entries _ c.in_default.ensures.variant.1)

pub up-init : goal.up-init
up-init g c = record { some = c.requires.place; all = λ _ H. H; within = within-none _; short = c.requires.short }

pub rotate_red_sibling-low-requires-clause-room : goal.rotate_red_sibling-low-requires-clause-room
rotate_red_sibling-low-requires-clause-room g c = omega (arith, c.requires.room, c.up.invariant.within.spare)

pub rotate_red_sibling-low-requires-clause-short : goal.rotate_red_sibling-low-requires-clause-short
rotate_red_sibling-low-requires-clause-short g c = omega (arith, c.up.invariant.short, c.in-Some.ensures.len)

pub fix_black_sibling-requires-clause-room : goal.fix_black_sibling-requires-clause-room
fix_black_sibling-requires-clause-room g c = omega (arith, c.requires.room, c.up.invariant.within.spare, c.rotate_red_sibling-low.ensures.within.spare)

pub fix_black_sibling-requires-clause-short : goal.fix_black_sibling-requires-clause-short
fix_black_sibling-requires-clause-short g c = omega (arith, c.up.invariant.short, c.in-Some.ensures.len, c.rotate_red_sibling-low.ensures.length)

pub returns-in-Some-red_child-clause-within : goal.returns-in-Some-red_child-clause-within
returns-in-Some-red_child-clause-within g c = within-trans 0 3 0 6 _ _ _ (within-trans 0 0 0 3 _ _ _ c.up.invariant.within c.rotate_red_sibling-low.ensures.within) c.fix_black_sibling.ensures.within

pub fix_black_sibling-requires-in-None-clause-room : goal.fix_black_sibling-requires-in-None-clause-room
fix_black_sibling-requires-in-None-clause-room g c = omega (arith, c.requires.room, c.up.invariant.within.spare)

pub fix_black_sibling-requires-in-None-clause-short : goal.fix_black_sibling-requires-in-None-clause-short
fix_black_sibling-requires-in-None-clause-short g c = omega (arith, c.up.invariant.short, c.in-Some.ensures.len)

pub returns-then-fix_black_sibling-clause-within : goal.returns-then-fix_black_sibling-clause-within
returns-then-fix_black_sibling-clause-within g c = within-more 0 6 9 _ _ (within-trans 0 0 0 6 _ _ _ c.up.invariant.within c.fix_black_sibling-in-None.ensures.within) (omega arith)

pub returns-clause-within : goal.returns-clause-within
returns-clause-within g c = within-more 0 0 9 _ _ c.up.invariant.within (omega arith)
