-- The number texts of a span line by its front.
use Rattle.std.proofs.Common.{◌≡◌, ℕ, Bool, true, false, not, List, [], ◌∷◌, Option, Some, None, refl, sym, ◌∙◌, ap, ltb-true, ltb-false}
use Rattle.std.specs.Prelude.{IfSome, IfNone, is_some, if◌then◌else◌, int_le, int_lt, negsuc, option_and_then, pos, ℤ}
use Rattle.std.proofs.lemmas.Bool.{both_ways, not-true, not-false, le-leb, lt-leb}
use Rattle.std.proofs.lemmas.Option.{cond_some, same_Some}
use Rattle.loc_spec_plane.specs.Points.{point_at as at}
use Rattle.loc_spec_text.specs.{Geometry.Symbol, Geometry.PointText, Geometry.number, Reader.point_at}
use Rattle.loc_spec_text.specs.{Number.grid_value, Points.is_grid_number, Spans.span_on_grid, Spans.span_texts}
use Rattle.loc_wkt.specs.Fronts.{number_at}
use Rattle.loc_wkt.proofs.PassLemmas.{number_front}

-- two numbers at the front are the first symbols
front_pair : (ps rest : List Symbol) (x y : List ℕ) → point_at ps ≡ Some ((x, y), rest) → ps ≡ number x ∷ number y ∷ rest
front_pair (number a ∷ number b ∷ ps) rest x y e = ap (λ (p : PointText × List Symbol). number p.0.0 ∷ number p.0.1 ∷ p.1) (same_Some ((a, b), ps) ((x, y), rest) e)
front_pair _ rest x y e = absurd (cc)

third_none : (x y : List ℕ) (rest : List Symbol) → number_at rest ≡ None → span_texts (number x ∷ number y ∷ rest) ≡ None
unfolding number_at
third_none x y (number z ∷ ps) e = absurd (cc)
third_none x y _ e = refl

-- two numbers alone, or with something else behind them
pub half_span : (ps rest : List Symbol) (x y : List ℕ) → point_at ps ≡ Some ((x, y), rest) → number_at rest ≡ None → span_texts ps ≡ None
half_span ps rest x y e f = ap span_texts (front_pair ps rest x y e) ∙ third_none x y rest f

-- three numbers
three_front : (ps rest more : List Symbol) (x y z : List ℕ) → point_at ps ≡ Some ((x, y), rest) → number_at rest ≡ Some (z, more) → ps ≡ number x ∷ number y ∷ number z ∷ more
three_front ps rest more x y z e f = front_pair ps rest x y e ∙ ap (λ qs. number x ∷ number y ∷ qs) (number_front rest more z f)

pub whole_span : (ps rest more : List Symbol) (x y z : List ℕ) → point_at ps ≡ Some ((x, y), rest) → number_at rest ≡ Some (z, more) → more ≡ [] → span_texts ps ≡ Some (x, y, z)
whole_span ps rest more x y z e f none = ap span_texts (three_front ps rest more x y z e f ∙ ap (λ qs. number x ∷ number y ∷ number z ∷ qs) none)

-- three numbers, and something behind them
pub long_span : (ps rest more qs : List Symbol) (q : Symbol) (x y z : List ℕ) → point_at ps ≡ Some ((x, y), rest) → number_at rest ≡ Some (z, more) → more ≡ q ∷ qs → span_texts ps ≡ None
long_span ps rest more qs q x y z e f some = ap span_texts (three_front ps rest more x y z e f ∙ ap (λ ss. number x ∷ number y ∷ number z ∷ ss) some)

-- the same by what is read behind the three, and whether that is nothing
pub span_by : {X : Type 0} (ps rest more : List Symbol) (x y z : List ℕ) → point_at ps ≡ Some ((x, y), rest) → number_at rest ≡ Some (z, more) → (o : Option X) (b : Bool) (first : X → Symbol) (behind : X → List Symbol)
    → IfSome o (λ v. more ≡ first v ∷ behind v) → IfNone o (more ≡ []) → is_some o ≡ not b → (b ≡ true → span_texts ps ≡ Some (x, y, z)) × (b ≡ false → span_texts ps ≡ None)
span_by ps rest more x y z e f None b first behind some none h = (λ _. whole_span ps rest more x y z e f none, λ is. absurd (both_ways b is (not-false b (sym h))))
span_by ps rest more x y z e f (Some v) b first behind some none h = (λ is. absurd (both_ways b (not-true b (sym h)) is), λ _. long_span ps rest more (behind v) (first v) x y z e f some)

-- the tests of two heights
pub goes_down : (a b : ℤ) → int_lt b a ≡ true → int_le a b ≡ false
goes_down (pos a) (pos b) h = lt-leb a b (ltb-true b a h)
goes_down (pos a) (negsuc b) h = refl
goes_down (negsuc a) (pos b) h = absurd (cc h)
goes_down (negsuc a) (negsuc b) h = lt-leb b a (ltb-true a b h)

pub goes_up : (a b : ℤ) → int_lt b a ≡ false → int_le a b ≡ true
goes_up (pos a) (pos b) h = le-leb a b (ltb-false b a h)
goes_up (pos a) (negsuc b) h = absurd (cc h)
goes_up (negsuc a) (pos b) h = refl
goes_up (negsuc a) (negsuc b) h = le-leb b a (ltb-false a b h)

module _ (scale : ℕ) (ps : List Symbol) (x y z : List ℕ) (texts : span_texts ps ≡ Some (x, y, z)) where
  abbrev on : List ℕ → Option ℤ
  on text = if is_grid_number scale text then Some (grid_value scale text) else None

  -- the first is not on the grid
  pub first_off : None ≡ on x → option_and_then (span_on_grid scale) (span_texts ps) ≡ None
  first_off first = ap (option_and_then (span_on_grid scale)) texts ∙ off (is_grid_number scale x) refl first
    where
      off : (g : Bool) → is_grid_number scale x ≡ g → None ≡ (if g then Some (grid_value scale x) else None) → span_on_grid scale (x, y, z) ≡ None
      off true is none = absurd (cc none)
      off false is none = rw is refl

  -- the second is not on the grid
  pub second_off : (v : ℤ) → Some v ≡ on x → None ≡ on y → option_and_then (span_on_grid scale) (span_texts ps) ≡ None
  second_off v first second = ap (option_and_then (span_on_grid scale)) texts ∙ off (is_grid_number scale y) refl second
    where
      off : (g : Bool) → is_grid_number scale y ≡ g → None ≡ (if g then Some (grid_value scale y) else None) → span_on_grid scale (x, y, z) ≡ None
      off true is none = absurd (cc none)
      off false is none = rw ((cond_some (is_grid_number scale x) (grid_value scale x) v (sym first)).0, is) refl

  module _ (v w : ℤ) (first : Some v ≡ on x) (second : Some w ≡ on y) where
    a : (is_grid_number scale x ≡ true) × (grid_value scale x ≡ v)
    a = cond_some (is_grid_number scale x) (grid_value scale x) v (sym first)

    b : (is_grid_number scale y ≡ true) × (grid_value scale y ≡ w)
    b = cond_some (is_grid_number scale y) (grid_value scale y) w (sym second)

    -- the third is not on the grid
    pub third_off : None ≡ on z → option_and_then (span_on_grid scale) (span_texts ps) ≡ None
    third_off third = ap (option_and_then (span_on_grid scale)) texts ∙ off (is_grid_number scale z) refl third
      where
        off : (g : Bool) → is_grid_number scale z ≡ g → None ≡ (if g then Some (grid_value scale z) else None) → span_on_grid scale (x, y, z) ≡ None
        off true is none = absurd (cc none)
        off false is none = rw (a.0, b.0, is) refl

    -- all three are
    pub all_on : (u : ℤ) → Some u ≡ on z → option_and_then (span_on_grid scale) (span_texts ps) ≡ (if int_le w u then Some (at v w, at v u) else None)
    all_on u third =
        let c = cond_some (is_grid_number scale z) (grid_value scale z) u (sym third) in
        let all : span_on_grid scale (x, y, z) ≡ (if int_le (grid_value scale y) (grid_value scale z) then Some (at (grid_value scale x) (grid_value scale y), at (grid_value scale x) (grid_value scale z)) else None) = rw (a.0, b.0, c.0) refl in
        ap (option_and_then (span_on_grid scale)) texts ∙ (all ∙ rw (a.1, b.1, c.1) refl)
