use Rattle.std.proofs.Common.{◌≡◌, ℕ, ◌<◌, ◌≤◌, List, Option, get_or, sym, ◌∙◌, ap, subst, arith}
use Rattle.std.specs.Prelude.{◌⊎◌, None, Some}
use Rattle.loc_spec_plane.specs.{Rings.Rings, Lists.is_in}
use Rattle.loc_valid.specs.declared.hits.Fault.{Fault}
use Rattle.loc_valid.specs.declared.hits.Fault.TheVariants.{Nested, Outside}
use Rattle.loc_valid.specs.Hits.{IsLeast, misplaced_in, outside_in}
use Rattle.loc_valid.proofs.InLists.{around, around_end, around_past, misplaced_by_none, missed, missed_not}
use Rattle.loc_valid.proofs.RingHomes.{is_of_home}
use Rattle.loc_valid.proofs.hits.misplaced.Goals as goal

-- the least by the fault that is sought
by_fault : (fault sought : Fault) (polygons : List Rings) (ring : ℕ) (list : List ℕ) (o : Option (ℕ × ℕ)) → fault ≡ sought → IsLeast (misplaced_in sought polygons ring list) o → IsLeast (misplaced_in fault polygons ring list) o
by_fault fault sought polygons ring list o is least = subst (λ (f : Fault). IsLeast (misplaced_in f polygons ring list) o) (sym is) least

pub polygon-exterior-requires : goal.polygon-exterior-requires
polygon-exterior-requires c = (is_of_home c.args.rings.now c.args.homes.now c.requires.homes c.args.ring c.requires.in_range).fits

pub returns-then-ring-exterior : goal.returns-then-ring-exterior
returns-then-ring-exterior c = misplaced_by_none c.args.rings.now c.args.homes.now c.requires.homes c.args.ring c.requires.in_range c.args.list.now c.args.fault (c.if-ring-exterior.true ∙ c.polygon-exterior.ensures.first)

-- ---- outside
pub returns-then-is_among : goal.returns-then-is_among
returns-then-is_among c = by_fault c.args.fault Outside c.args.rings.now c.args.ring c.args.list.now None c.in-Outside.is (missed_not c.args.rings.now c.args.homes.now c.requires.homes c.args.ring c.requires.in_range c.args.list.now
    (ap (λ n. is_in n c.args.list.now) (sym c.polygon-exterior.ensures.first) ∙ (sym c.is_among.ensures ∙ c.if-is_among.true)))

pub returns-else-is_among : goal.returns-else-is_among
returns-else-is_among c = by_fault c.args.fault Outside c.args.rings.now c.args.ring c.args.list.now (Some (c.args.ring, c.polygon-exterior.result.0)) c.in-Outside.is
    (subst (λ n. IsLeast (outside_in c.args.rings.now c.args.ring c.args.list.now) (Some (c.args.ring, n))) (sym c.polygon-exterior.ensures.first)
    (missed c.args.rings.now c.args.homes.now c.requires.homes c.args.ring c.requires.in_range c.args.list.now
    (λ same. c.if-ring-exterior.false (same ∙ sym c.polygon-exterior.ensures.first))
    (ap (λ n. is_in n c.args.list.now) (sym c.polygon-exterior.ensures.first) ∙ (sym c.is_among.ensures ∙ c.if-is_among.false))))

-- ---- nested
pub returns-then-hole-past : goal.returns-then-hole-past
returns-then-hole-past c = by_fault c.args.fault Nested c.args.rings.now c.args.ring c.args.list.now None c.in-Nested.is
    (around_past c.args.rings.now c.args.homes.now c.requires.homes c.args.ring c.requires.in_range c.args.list.now c.requires.rises c.loop-at.at c.loop-at-test.true
    (subst (λ n. (i : ℕ) → i < c.loop-at.at → (get_or c.args.list.now i 0 ≤ n) ⊎ (get_or c.args.list.now i 0 ≡ c.args.ring)) c.polygon-exterior.ensures.first c.loop-at.invariant)
    (omega (arith, c.if-hole-past.true, c.polygon-exterior.ensures.past)))

pub returns-then-hole-ring : goal.returns-then-hole-ring
returns-then-hole-ring c =
    let above = c.first_from-at.ensures.from c.loop-at.at (omega arith) c.loop-at-test.true in
    by_fault c.args.fault Nested c.args.rings.now c.args.ring c.args.list.now (Some (c.args.ring, get_or c.args.list.now c.loop-at.at 0)) c.in-Nested.is
    (around c.args.rings.now c.args.homes.now c.requires.homes c.args.ring c.requires.in_range c.args.list.now c.requires.rises c.loop-at.at c.loop-at-test.true
    (subst (λ n. (i : ℕ) → i < c.loop-at.at → (get_or c.args.list.now i 0 ≤ n) ⊎ (get_or c.args.list.now i 0 ≡ c.args.ring)) c.polygon-exterior.ensures.first c.loop-at.invariant)
    (λ same. c.if-ring-exterior.false (same ∙ sym c.polygon-exterior.ensures.first))
    (omega (arith, above, c.polygon-exterior.ensures.first))
    (omega (arith, c.if-hole-past.false, c.polygon-exterior.ensures.past))
    c.if-hole-ring.true)

pub returns-after-loop-at : goal.returns-after-loop-at
returns-after-loop-at c = by_fault c.args.fault Nested c.args.rings.now c.args.ring c.args.list.now None c.in-Nested.is
    (around_end c.args.rings.now c.args.homes.now c.requires.homes c.args.ring c.requires.in_range c.args.list.now c.loop-at.at c.loop-at-test.false
    (subst (λ n. (i : ℕ) → i < c.loop-at.at → (get_or c.args.list.now i 0 ≤ n) ⊎ (get_or c.args.list.now i 0 ≡ c.args.ring)) c.polygon-exterior.ensures.first c.loop-at.invariant))
