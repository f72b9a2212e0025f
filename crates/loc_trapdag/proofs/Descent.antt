-- The way down the graph: of a point, and of an edge that begins.
use Rattle.std.proofs.Common.{◌≡◌, ◌≢◌, ℕ, suc, ◌<◌, ◌≤◌, Bool, true, false, List, length, get_or, refl, sym, ◌∙◌, ap, subst, inl, inr, arith}
use Rattle.std.specs.Prelude.{Option, Some, None, IsSome, ◌==◌}
use Rattle.std.proofs.lemmas.Bool.{both_ways, or_left, or_right, eq-eqb, lt-ltb}
use Rattle.std.proofs.lemmas.List.{get_or_read}
use Rattle.loc_spec_plane.specs.{declared.Trap.Trap, declared.Place.TheVariants.Area}
use Rattle.loc_spec_plane.specs.Points.{Point, before, is_above, is_below}
use Rattle.loc_spec_plane.specs.Tables.{Table, IsTable, corner, edge, lo_of, hi_of}
use Rattle.loc_spec_plane.specs.{Places.is_edge, Places.lower_of, Places.IsPlace, Traps.is_trap}
use Rattle.loc_laws_traps.specs.Sets.{IsCalmSet, with_edge, behind_left, before_right, part_before, part_behind, is_inside, begins_in, has_real_bounds}
use Rattle.loc_laws_traps.specs.Laws.{Sends, Seeks}
use Rattle.loc_laws_traps.proofs.{Corners.same_set, Points.area_law, Sends.send_law, Seek.seek_law, Begins.other_law}
use Rattle.loc_traps.specs.{declared.map.Split.Split, Meaning.row_of, Meaning.among, Splits.IsPart, Splits.IsSplitOf}
use Rattle.loc_trapdag.specs.declared.index.Step.{Step}
use Rattle.loc_trapdag.specs.Graphs.{Graph, step_of, IsPiece, IsStepOf, IsGraphOf, IsIndexOf}

-- a step that is read
pub step_read : (t : Table) (g : Graph) → IsGraphOf t g → (n : ℕ) → n < length g.map.rows → (items : List (Option Step)) → items ≡ g.cuts → (x : Option Step) → x ≡ get_or items n x → (o : Option Step) → x ≡ o → step_of g.cuts n ≡ o
step_read t g graph n real items same x read o is = sym (get_or_read g.cuts n x (let m = graph.many in omega arith) (read ∙ ap (λ (xs : List (Option Step)). get_or xs n x) same) None) ∙ is

-- a part that is there has a number
part_some : (t : Bool) (part : Trap) (n : ℕ) (rows : List Trap) (o : Option ℕ) → IsPart t part n rows o → t ≡ true → IsSome o
part_some t part n rows None h is = absurd (both_ways t h is)
part_some t part n rows (Some i) h is = refl

pub part_row : (t : Bool) (part : Trap) (n : ℕ) (rows : List Trap) (o : Option ℕ) (i : ℕ) → IsPart t part n rows o → o ≡ Some i → (n ≤ i) × (i < length rows) × (row_of rows i ≡ part)
part_row t part n rows None i h at = absurd (cc)
part_row t part n rows (Some j) i h at = let same : j ≡ i = cc in subst (λ k. (n ≤ k) × (k < length rows) × (row_of rows k ≡ part)) same (h.1, h.2, h.3)

part_none : (t : Bool) (part : Trap) (n : ℕ) (rows : List Trap) (o : Option ℕ) → IsPart t part n rows o → o ≡ None → t ≡ false
part_none t part n rows None h at = h
part_none t part n rows (Some j) h at = absurd (cc)

module _ (t : Table) (g : Graph) (graph : IsGraphOf t g) (n : ℕ) (step : Step) (real : n < length g.map.rows) (at : step_of g.cuts n ≡ Some step) where
  abbrev rows : List Trap
  rows = g.map.rows

  abbrev split : Split
  split = step.split

  abbrev e : ℕ
  e = step.edge

  is_step : IsStepOf t g.map n step
  is_step = graph.node n step real at

  abbrev cut : Trap
  cut = row_of rows split.cut

  s : IsSplitOf t e (suc n) rows split
  s = is_step.split

  row_is : cut ≡ row_of rows n
  row_is = ap (λ i. row_of rows i) is_step.cut

  pub edge_is : is_edge t e ≡ true
  edge_is = lt-ltb e (length t.ends) (graph.map.calm.within e is_step.added)

  pub edge_real : e < length t.ends
  edge_real = graph.map.calm.within e is_step.added

  -- pieces come later, and are rows
  pub piece_later : (k : ℕ) → IsPiece split k → (n < k) × (k < length rows)
  piece_later k (inl before) = let p = part_row (behind_left cut.left (lo_of t e)) (part_before cut (lo_of t e)) (suc n) rows split.before k s.before before in (omega (arith, p.0), p.1)
  piece_later k (inr (inl above)) = let a = s.above_new in (subst (λ i. n < i) above (omega (arith, a.0)), subst (λ i. i < length rows) above a.1)
  piece_later k (inr (inr (inl below))) = let b = s.below_new in (subst (λ i. n < i) below (omega (arith, b.0)), subst (λ i. i < length rows) below b.1)
  piece_later k (inr (inr (inr behind))) = let p = part_row (before_right cut.right (hi_of t e)) (part_behind cut (hi_of t e)) (suc n) rows split.behind k s.behind behind in (omega (arith, p.0), p.1)

  -- ---- a point
  module _ (ok : IsTable t) (p : Point) (inside : is_inside t (row_of rows n) p ≡ true) where
    cut_inside : is_inside t cut p ≡ true
    cut_inside = subst (λ (x : Trap). is_inside t x p ≡ true) (sym row_is) inside

    cut_real : has_real_bounds t cut ≡ true
    cut_real = subst (λ (x : Trap). has_real_bounds t x ≡ true) (sym row_is) (graph.real n real)

    sends : Sends t e cut p
    sends = send_law t ok e edge_is cut cut_real p cut_inside

    pub lower_comes : split.before ≡ None → before (corner t (lo_of t e)) p ≡ true
    lower_comes none = sends.no_before (part_none (behind_left cut.left (lo_of t e)) (part_before cut (lo_of t e)) (suc n) rows split.before s.before none)

    pub upper_comes : split.behind ≡ None → before p (corner t (hi_of t e)) ≡ true
    upper_comes none = sends.no_behind (part_none (before_right cut.right (hi_of t e)) (part_behind cut (hi_of t e)) (suc n) rows split.behind s.behind none)

    pub before_some : before p (corner t (lo_of t e)) ≡ true → IsSome split.before
    before_some early = part_some (behind_left cut.left (lo_of t e)) (part_before cut (lo_of t e)) (suc n) rows split.before s.before (sends.before_it early).0

    pub behind_some : before (corner t (hi_of t e)) p ≡ true → IsSome split.behind
    behind_some late = part_some (before_right cut.right (hi_of t e)) (part_behind cut (hi_of t e)) (suc n) rows split.behind s.behind (sends.behind_it late).0

    pub goes_before : before p (corner t (lo_of t e)) ≡ true → (k : ℕ) → split.before ≡ Some k → (is_inside t (row_of rows k) p ≡ true) × IsPiece split k
    goes_before early k is_k = (subst (λ (x : Trap). is_inside t x p ≡ true) (sym (part_row (behind_left cut.left (lo_of t e)) (part_before cut (lo_of t e)) (suc n) rows split.before k s.before is_k).2) (sends.before_it early).1, inl is_k)

    pub goes_behind : before (corner t (hi_of t e)) p ≡ true → (k : ℕ) → split.behind ≡ Some k → (is_inside t (row_of rows k) p ≡ true) × IsPiece split k
    goes_behind late k is_k = (subst (λ (x : Trap). is_inside t x p ≡ true) (sym (part_row (before_right cut.right (hi_of t e)) (part_behind cut (hi_of t e)) (suc n) rows split.behind k s.behind is_k).2) (sends.behind_it late).1, inr (inr (inr is_k)))

    pub goes_above : before (corner t (lo_of t e)) p ≡ true → before p (corner t (hi_of t e)) ≡ true → is_above (edge t e) p ≡ true → (is_inside t (row_of rows split.above) p ≡ true) × IsPiece split split.above
    goes_above lo hi side = (sends.above_it (row_of rows split.above) (graph.real split.above s.above_new.1) s.above lo hi side, inr (inl refl))

    pub goes_below : before (corner t (lo_of t e)) p ≡ true → before p (corner t (hi_of t e)) ≡ true → is_below (edge t e) p ≡ true → (is_inside t (row_of rows split.below) p ≡ true) × IsPiece split split.below
    goes_below lo hi side = (sends.below_it (row_of rows split.below) (graph.real split.below s.below_new.1) s.below lo hi side, inr (inr (inl refl)))

  -- ---- an edge
  module _ (f : ℕ) (calm : IsCalmSet t (with_edge (among g.map.added) f)) (is_new : among g.map.added f ≡ false) (begins : begins_in t f (row_of rows n) ≡ true) where
    seeks : Seeks t e f cut
    seeks = seek_law t e f cut (subst (λ (x : Trap). begins_in t f x ≡ true) (sym row_is) begins)

    pub seek_before_some : lo_of t f < lo_of t e → IsSome split.before
    seek_before_some less = part_some (behind_left cut.left (lo_of t e)) (part_before cut (lo_of t e)) (suc n) rows split.before s.before (seeks.before_it less).0

    pub seek_behind_some : hi_of t e ≤ lo_of t f → IsSome split.behind
    seek_behind_some le = part_some (before_right cut.right (hi_of t e)) (part_behind cut (hi_of t e)) (suc n) rows split.behind s.behind (seeks.behind_it le).0

    -- it goes on in a later row
    abbrev Goes : ℕ → Type 0
    Goes k = (n < k) × (k < length rows) × (begins_in t f (row_of rows k) ≡ true)

    pub seek_before : lo_of t f < lo_of t e → (k : ℕ) → split.before ≡ Some k → Goes k
    seek_before less k is_k =
        let p = part_row (behind_left cut.left (lo_of t e)) (part_before cut (lo_of t e)) (suc n) rows split.before k s.before is_k in
        (omega (arith, p.0), p.1, subst (λ (x : Trap). begins_in t f x ≡ true) (sym p.2) (seeks.before_it less).1)

    pub seek_behind : hi_of t e ≤ lo_of t f → (k : ℕ) → split.behind ≡ Some k → Goes k
    seek_behind le k is_k =
        let p = part_row (before_right cut.right (hi_of t e)) (part_behind cut (hi_of t e)) (suc n) rows split.behind k s.behind is_k in
        (omega (arith, p.0), p.1, subst (λ (x : Trap). begins_in t f x ≡ true) (sym p.2) (seeks.behind_it le).1)

    pub seek_above : lo_of t e ≤ lo_of t f → lo_of t f < hi_of t e → lower_of t e f ≡ true → Goes split.above
    seek_above le less low = (omega (arith, s.above_new.0), s.above_new.1, seeks.above_it (row_of rows split.above) s.above le less low)

    pub seek_below : lo_of t e ≤ lo_of t f → lo_of t f < hi_of t e → lower_of t e f ≡ false → Goes split.below
    seek_below le less off = (omega (arith, s.below_new.0), s.below_new.1, seeks.below_it (row_of rows split.below) s.below le less (other_law t (with_edge (among g.map.added) f) calm e f (or_left (among g.map.added e) (e == f) is_step.added) (or_right (among g.map.added f) (f == f) (eq-eqb f f refl)) differs le less off))
      where
        differs : e ≢ f
        differs same = both_ways (among g.map.added f) is_new (subst (λ d. among g.map.added d ≡ true) same is_step.added)

-- ---- the end of the way of a point
pub leaf_place : (t : Table) (g : Graph) (stands : IsIndexOf t g) (n : ℕ) → n < length g.map.rows → step_of g.cuts n ≡ None → (p : Point) → is_inside t (row_of g.map.rows n) p ≡ true → IsPlace t p (Area (row_of g.map.rows n).bottom)
leaf_place t g stands n real leaf p inside =
    let graph = stands.graph in
    let sets : among g.map.added ≡ is_edge t = same_set (among g.map.added) (is_edge t) stands.all in
    area_law t stands.planar.in_order stands.ends stands.planar.apart (row_of g.map.rows n)
    (subst (λ (A : ℕ → Bool). is_trap t A (row_of g.map.rows n) ≡ true) sets (graph.map.map.sound n real (graph.leaf n real leaf))) p inside
