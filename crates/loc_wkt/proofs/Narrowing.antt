-- A text is in the grammar of points of two numbers exactly where it is in the wide one and each of its points has two.
use Rattle.std.proofs.Common.{◌≡◌, ℕ, zero, suc, List, [], ◌∷◌, map, length, Bool, true, false, ◌&&◌, Option, Some, None, option_map, option_and_then, codes, refl, ◌∙◌, ap}
use Rattle.std.specs.Prelude.{if◌then◌else◌}
use Rattle.std.specs.{List.list_all, Str.bytes_eq}
use Rattle.loc_spec_text.specs.Geometry.{Symbol, Polygon, PointText, WidePoint, two, three, four, word, number, open_mark, close_mark, comma, other, symbols}
use Rattle.loc_spec_text.specs.Reader.{Reader, all_of, enclosed_at, geometry_of, list_at, members_at, next, one_of, onto, point_at, tree_after, tree_of, wide_end, wide_geometry_of, wide_more, wide_point_at}
use Rattle.loc_wkt.specs.Passes.{first_two, has_two}

-- what passes a test, mapped
abbrev pub narrowed : {X Y : Type 0} → (X → Bool) → (X → Y) → X → Option Y
narrowed test to x = if test x then Some (to x) else None

-- the same of what is read
abbrev pub narrowed_read : {X Y : Type 0} → (X → Bool) → (X → Y) → X × List Symbol → Option (Y × List Symbol)
narrowed_read test to r = if test r.0 then Some (to r.0, r.1) else None

-- One reader gives what the other does, where that passes the test.
abbrev pub Narrows : {X Y : Type 0} → (X → Bool) → (X → Y) → Reader X → Reader Y → Type 0
Narrows test to read narrow = (ps : List Symbol) → narrow ps ≡ option_and_then (narrowed_read test to) (read ps)

module _ {X Y : Type 0} (test : X → Bool) (to : X → Y) where
  -- members
  abbrev all_narrowed : List X × List Symbol → Option (List Y × List Symbol)
  all_narrowed = narrowed_read (list_all test) (map to)

  put_front : (x : X) (rest : List Symbol) (xs : List X) (a b : Bool) → a ≡ true
      → option_map (onto (to x)) (if b then Some (map to xs, rest) else None) ≡ (if a && b then Some (map to (x ∷ xs), rest) else None)
  put_front x rest xs true true h = refl
  put_front x rest xs true false h = refl
  put_front x rest xs false b h = absurd (cc)

  drop_all : (x : X) (rest : List Symbol) (xs : List X) (a b : Bool) → a ≡ false → ◌≡◌ {A = Option (List Y × List Symbol)} None (if a && b then Some (map to (x ∷ xs), rest) else None)
  drop_all x rest xs false b h = refl
  drop_all x rest xs true b h = absurd (cc)

  module _ (more : Reader (List X)) (narrow_more : Reader (List Y)) (ih : Narrows (list_all test) (map to) more narrow_more) (x : X) where
    behind_comma : test x ≡ true → (o : Option (List X × List Symbol)) → option_map (onto (to x)) (option_and_then all_narrowed o) ≡ option_and_then all_narrowed (option_map (onto x) o)
    behind_comma h None = refl
    behind_comma h (Some r) = put_front x r.1 r.0 (test x) (list_all test r.0) h

    -- a member that passes
    keeps : test x ≡ true → (qs : List Symbol) → next narrow_more (to x) qs ≡ option_and_then all_narrowed (next more x qs)
    keeps h (close_mark ∷ qs) = put_front x qs [] (test x) true h
    keeps h (comma ∷ qs) = ap (option_map (onto (to x))) (ih qs) ∙ behind_comma h (more qs)
    keeps h _ = refl

    none_behind : test x ≡ false → (o : Option (List X × List Symbol)) → None ≡ option_and_then all_narrowed (option_map (onto x) o)
    none_behind h None = refl
    none_behind h (Some r) = drop_all x r.1 r.0 (test x) (list_all test r.0) h

    -- one that does not
    drops : test x ≡ false → (qs : List Symbol) → None ≡ option_and_then all_narrowed (next more x qs)
    drops h (close_mark ∷ qs) = drop_all x qs [] (test x) true h
    drops h (comma ∷ qs) = none_behind h (more qs)
    drops h _ = refl

    by_test : (qs : List Symbol) (b : Bool) → test x ≡ b → option_and_then (λ (p : Y × List Symbol). next narrow_more p.0 p.1) (if b then Some (to x, qs) else None) ≡ option_and_then all_narrowed (next more x qs)
    by_test qs true h = keeps h qs
    by_test qs false h = drops h qs

  module _ (read : Reader X) (narrow : Reader Y) (narrows : Narrows test to read narrow) where
    one_more : (k : ℕ) → Narrows (list_all test) (map to) (members_at read k) (members_at narrow k) → (o : Option (X × List Symbol))
        → option_and_then (λ p. next (members_at narrow k) p.0 p.1) (option_and_then (narrowed_read test to) o) ≡ option_and_then all_narrowed (option_and_then (λ p. next (members_at read k) p.0 p.1) o)
    one_more k ih None = refl
    one_more k ih (Some r) = by_test (members_at read k) (members_at narrow k) ih r.0 r.1 (test r.0) refl

    -- the members of a list
    members_narrow : (k : ℕ) → Narrows (list_all test) (map to) (members_at read k) (members_at narrow k)
    members_narrow zero ps = refl
    members_narrow (suc k) ps = ap (option_and_then (λ p. next (members_at narrow k) p.0 p.1)) (narrows ps) ∙ one_more k (members_narrow k) (read ps)

    empty_narrow : (b : Bool) (rest : List Symbol) → (if b then Some ([], rest) else None) ≡ option_and_then all_narrowed (if b then Some ([], rest) else None)
    empty_narrow true rest = refl
    empty_narrow false rest = refl

    -- a list in parentheses, or EMPTY
    list_narrow : Narrows (list_all test) (map to) (list_at read) (list_at narrow)
    list_narrow (word w ∷ ps) = empty_narrow (bytes_eq w (codes "EMPTY")) ps
    list_narrow (open_mark ∷ ps) = members_narrow (length ps) ps
    list_narrow _ = refl

-- points, of which the wide reader takes a third number and a fourth
module _ (k : ℕ) (ih : Narrows (list_all has_two) (map first_two) (members_at wide_point_at k) (members_at point_at k)) where
  dropped : (p : WidePoint) → has_two p ≡ false → (qs : List Symbol) → None ≡ option_and_then (narrowed_read (list_all has_two) (map first_two)) (next (members_at wide_point_at k) p qs)
  dropped p h qs = drops has_two first_two (members_at wide_point_at k) (members_at point_at k) ih p h qs

  kept : (x y : List ℕ) (qs : List Symbol) → next (members_at point_at k) (x, y) qs ≡ option_and_then (narrowed_read (list_all has_two) (map first_two)) (next (members_at wide_point_at k) (two x y) qs)
  kept x y qs = keeps has_two first_two (members_at wide_point_at k) (members_at point_at k) ih (two x y) refl qs

  behind_three : (x y z : List ℕ) (ps : List Symbol)
      → None ≡ option_and_then (narrowed_read (list_all has_two) (map first_two)) (option_and_then (λ p. next (members_at wide_point_at k) p.0 p.1) (wide_end x y z ps))
  behind_three x y z (number m ∷ ps) = dropped (four x y z m) refl ps
  behind_three x y z [] = dropped (three x y z) refl []
  behind_three x y z (word w ∷ ps) = dropped (three x y z) refl (word w ∷ ps)
  behind_three x y z (open_mark ∷ ps) = dropped (three x y z) refl (open_mark ∷ ps)
  behind_three x y z (close_mark ∷ ps) = dropped (three x y z) refl (close_mark ∷ ps)
  behind_three x y z (comma ∷ ps) = dropped (three x y z) refl (comma ∷ ps)
  behind_three x y z (other w ∷ ps) = dropped (three x y z) refl (other w ∷ ps)

  behind_two : (x y : List ℕ) (ps : List Symbol)
      → next (members_at point_at k) (x, y) ps ≡ option_and_then (narrowed_read (list_all has_two) (map first_two)) (option_and_then (λ p. next (members_at wide_point_at k) p.0 p.1) (wide_more x y ps))
  behind_two x y (number z ∷ ps) = behind_three x y z ps
  behind_two x y [] = kept x y []
  behind_two x y (word w ∷ ps) = kept x y (word w ∷ ps)
  behind_two x y (open_mark ∷ ps) = kept x y (open_mark ∷ ps)
  behind_two x y (close_mark ∷ ps) = kept x y (close_mark ∷ ps)
  behind_two x y (comma ∷ ps) = kept x y (comma ∷ ps)
  behind_two x y (other w ∷ ps) = kept x y (other w ∷ ps)

points_narrow : (k : ℕ) → Narrows (list_all has_two) (map first_two) (members_at wide_point_at k) (members_at point_at k)
points_narrow zero ps = refl
points_narrow (suc k) (number x ∷ number y ∷ ps) = behind_two k (points_narrow k) x y ps
points_narrow (suc k) _ = refl

-- rings
ring_narrow : Narrows (list_all has_two) (map first_two) (enclosed_at wide_point_at) (enclosed_at point_at)
ring_narrow (open_mark ∷ ps) = points_narrow (length ps) ps
ring_narrow _ = refl

-- trees
module _ {P Q : Type 0} (test : Polygon P → Bool) (to : Polygon P → Polygon Q) where
  one_narrow : (o : Option (Polygon P × List Symbol)) → option_and_then one_of (option_and_then (narrowed_read test to) o) ≡ option_and_then (narrowed (list_all test) (map to)) (option_and_then one_of o)
  one_narrow None = refl
  one_narrow (Some (p, [])) = by_test (test p)
    where
      by_test : (b : Bool) → option_and_then one_of (if b then Some (to p, []) else None) ≡ (if b && true then Some (to p ∷ []) else None)
      by_test true = refl
      by_test false = refl
  one_narrow (Some (p, q ∷ ps)) = by_test (test p)
    where
      by_test : (b : Bool) → option_and_then one_of (if b then Some (to p, q ∷ ps) else None) ≡ None
      by_test true = refl
      by_test false = refl

  all_narrow : (o : Option (List (Polygon P) × List Symbol)) → option_and_then all_of (option_and_then (narrowed_read (list_all test) (map to)) o) ≡ option_and_then (narrowed (list_all test) (map to)) (option_and_then all_of o)
  all_narrow None = refl
  all_narrow (Some (p, [])) = by_test (list_all test p)
    where
      by_test : (b : Bool) → option_and_then all_of (if b then Some (map to p, []) else None) ≡ (if b then Some (map to p) else None)
      by_test true = refl
      by_test false = refl
  all_narrow (Some (p, q ∷ ps)) = by_test (list_all test p)
    where
      by_test : (b : Bool) → option_and_then all_of (if b then Some (map to p, q ∷ ps) else None) ≡ None
      by_test true = refl
      by_test false = refl

  module _ (read : Reader (Polygon P)) (narrow : Reader (Polygon Q)) (narrows : Narrows test to read narrow) where
    after_narrow : (a b : Bool) (ps : List Symbol) → tree_after narrow a b ps ≡ option_and_then (narrowed (list_all test) (map to)) (tree_after read a b ps)
    after_narrow true b ps = ap (option_and_then one_of) (narrows ps) ∙ one_narrow (read ps)
    after_narrow false true ps = ap (option_and_then all_of) (list_narrow test to read narrow narrows ps) ∙ all_narrow (list_at read ps)
    after_narrow false false ps = refl

    tree_narrow : (ps : List Symbol) → tree_of narrow ps ≡ option_and_then (narrowed (list_all test) (map to)) (tree_of read ps)
    tree_narrow (word w ∷ ps) = after_narrow (bytes_eq w (codes "POLYGON")) (bytes_eq w (codes "MULTIPOLYGON")) ps
    tree_narrow _ = refl

-- each point of a tree has two numbers
abbrev pub is_narrow : List (Polygon WidePoint) → Bool
is_narrow tree = list_all (list_all (list_all has_two)) tree

-- the tree of the first two numbers
abbrev pub narrow_tree : List (Polygon WidePoint) → List (Polygon PointText)
narrow_tree tree = map (map (map first_two)) tree

-- the tree of a text is the wide one, where that is narrow
pub geometry-narrow : (text : List ℕ) → geometry_of text ≡ option_and_then (narrowed is_narrow narrow_tree) (wide_geometry_of text)
unfolding geometry_of wide_geometry_of
geometry-narrow text = tree_narrow (list_all (list_all has_two)) (map (map first_two)) (list_at (enclosed_at wide_point_at)) (list_at (enclosed_at point_at))
    (list_narrow (list_all has_two) (map first_two) (enclosed_at wide_point_at) (enclosed_at point_at) ring_narrow) (symbols text)
