-- The laws of the plain reader: what it reads is spelled so, and what is spelled so is read.
use Rattle.std.proofs.Common.{◌≡◌, ◌≢◌, ◌⊎◌, ℕ, zero, suc, ◌+◌, ◌≤◌, List, [], ◌∷◌, ◌++◌, length, Bool, true, false, Option, Some, None, option_map, option_and_then, refl, sym, ◌∙◌, ap, ap₂, inl, inr, arith, append_assoc, append-nil, length-append, codes, bytes_eq}
use Rattle.std.specs.Prelude.{⊤, Result, Err, MatchOption}
use Rattle.std.specs.List.{AllByRecursion}
use Rattle.std.proofs.lemmas.Option.{option_and_then_some, some_pair_parts, cond_some, none-some}
use Rattle.std.proofs.lemmas.Slice.Eq.{bytes_eq-Decides}
use Rattle.loc_spec_text.specs.Reader.{Reader, onto, next, members_at, enclosed_at, list_at, point_at, wide_end, wide_more, wide_point_at, one_of, all_of, tree_after, tree_of, geometry_of, wide_geometry_of}
use Rattle.loc_spec_text.specs.{Bytes.err_or, declared.TextFault.TextFault}
use Rattle.loc_spec_text.specs.Reading.{Polygons, reading, reading_of, Reads, ReadsTree, word_fault}
use Rattle.loc_spec_text.specs.Geometry.{Symbol, word, number, open_mark, close_mark, comma, other, separated, enclosed, enclosed_or_empty, PointText, WidePoint, two, three, four, numbers, wide_numbers, point, ring, polygon, Polygon, Ring, Spells, IsTree, symbols}

-- the next symbol is a number
abbrev pub starts_number : List Symbol → Bool
starts_number (number n ∷ ps) = true
starts_number _ = false

pub record IsReader {X : Type 0} (spelled : X → List Symbol) (Good : X → Type 0) (read : Reader X) : Type 0 where
  pub sound : (ps rest : List Symbol) (x : X) → read ps ≡ Some (x, rest) → (ps ≡ spelled x ++ rest) × Good x
  pub complete : (x : X) (rest : List Symbol) → Good x → starts_number rest ≡ false → read (spelled x ++ rest) ≡ Some (x, rest)

abbrev NextSplit : {X : Type 0} → Reader (List X) → X → List Symbol → List X → List Symbol → Type 0
NextSplit {X} more x ps xs rest = ((ps ≡ close_mark ∷ rest) × (xs ≡ x ∷ [])) ⊎ ((q : List Symbol) × (ys : List X) × (ps ≡ comma ∷ q) × (more q ≡ Some (ys, rest)) × (xs ≡ x ∷ ys))

more-sound : {X : Type 0} (x : X) (o : Option (List X × List Symbol)) (xs : List X) (rest : List Symbol) → option_map (onto x) o ≡ Some (xs, rest)
    → (ys : List X) × (o ≡ Some (ys, rest)) × (xs ≡ x ∷ ys)
more-sound x None xs rest e = absurd (cc)
more-sound x (Some r) xs rest e = let p = some_pair_parts (x ∷ r.0) xs r.1 rest e in (r.0, ap (λ q. Some (r.0, q)) p.1, sym p.0)

next-sound : {X : Type 0} (more : Reader (List X)) (x : X) (ps : List Symbol) (xs : List X) (rest : List Symbol) → next more x ps ≡ Some (xs, rest) → NextSplit more x ps xs rest
next-sound more x (close_mark ∷ q) xs rest e = let p = some_pair_parts (x ∷ []) xs q rest e in inl (ap (λ r. close_mark ∷ r) p.1, sym p.0)
next-sound more x (comma ∷ q) xs rest e = let s = more-sound x (more q) xs rest e in inr (q, s.0, refl, s.1, s.2)
next-sound more x [] xs rest e = absurd (cc)
next-sound more x (word w ∷ q) xs rest e = absurd (cc)
next-sound more x (number w ∷ q) xs rest e = absurd (cc)
next-sound more x (open_mark ∷ q) xs rest e = absurd (cc)
next-sound more x (other w ∷ q) xs rest e = absurd (cc)

separated-more : {X : Type 0} (spelled : X → List Symbol) (x : X) (ys : List X) → ys ≢ [] → separated spelled (x ∷ ys) ≡ spelled x ++ comma ∷ separated spelled ys
separated-more spelled x [] h = absurd (h refl)
separated-more spelled x (y ∷ ys) h = refl

module _ {X : Type 0} (spelled : X → List Symbol) (Good : X → Type 0) (read : Reader X) (law : IsReader spelled Good read) where
  members-sound : (k : ℕ) (ps rest : List Symbol) (xs : List X) → members_at read k ps ≡ Some (xs, rest)
      → (ps ≡ separated spelled xs ++ close_mark ∷ rest) × AllByRecursion Good xs × (xs ≢ [])
  members-sound zero ps rest xs e = absurd (cc)
  members-sound (suc k) ps rest xs e = option_and_then_some (λ p. next (members_at read k) p.0 p.1) (read ps) (xs, rest) e (λ p r n.
      let s = law.sound ps p.1 p.0 r in
      elim (next-sound (members_at read k) p.0 p.1 xs rest n) [
        | inl h ↦ (s.0 ∙ ap (λ q. spelled p.0 ++ q) h.0 ∙ ap (λ ys. separated spelled ys ++ close_mark ∷ rest) (sym h.1), rw h.1 (s.1, tt), λ z. cc)
        | inr h ↦ let ih = members-sound k h.0 rest h.1 h.3 in (
          s.0 ∙ ap (λ q. spelled p.0 ++ q) (h.2 ∙ ap (λ q. comma ∷ q) ih.0)
              ∙ sym (append_assoc (spelled p.0) (comma ∷ separated spelled h.1) (close_mark ∷ rest))
              ∙ ap (λ q. q ++ close_mark ∷ rest) (sym (separated-more spelled p.0 h.1 ih.2))
              ∙ ap (λ ys. separated spelled ys ++ close_mark ∷ rest) (sym h.4),
          rw h.4 (s.1, ih.1),
          λ z. cc,
        )
      ])

  members-complete : (k : ℕ) (x : X) (xs : List X) (rest : List Symbol) → AllByRecursion Good (x ∷ xs) → length (x ∷ xs) ≤ k
      → members_at read k (separated spelled (x ∷ xs) ++ close_mark ∷ rest) ≡ Some (x ∷ xs, rest)
  members-complete zero x xs rest good fits = absurd (omega arith)
  members-complete (suc k) x [] rest good fits = rw (law.complete x (close_mark ∷ rest) good.0 refl) refl
  members-complete (suc k) x (y ∷ ys) rest good fits =
      rw (append_assoc (spelled x) (comma ∷ separated spelled (y ∷ ys)) (close_mark ∷ rest), law.complete x (comma ∷ (separated spelled (y ∷ ys) ++ close_mark ∷ rest)) good.0 refl)
      (rw (members-complete k y ys rest good.1 (omega arith)) refl)

  length-separated : (x : X) (xs : List X) → length (x ∷ xs) ≤ length (separated spelled (x ∷ xs)) + 1
  length-separated x [] = omega arith
  length-separated x (y ∷ ys) = omega (arith, length-separated y ys, length-append (spelled x) (comma ∷ separated spelled (y ∷ ys)))

  members_fit : (x : X) (xs : List X) (rest : List Symbol) → length (x ∷ xs) ≤ length (separated spelled (x ∷ xs) ++ close_mark ∷ rest)
  members_fit x xs rest = omega (arith, length-separated x xs, length-append (separated spelled (x ∷ xs)) (close_mark ∷ rest))

  -- a list in parentheses
  enclosed-sound : (ps rest : List Symbol) (xs : List X) → enclosed_at read ps ≡ Some (xs, rest) → (ps ≡ enclosed spelled xs ++ rest) × (AllByRecursion Good xs × (xs ≢ []))
  enclosed-sound (open_mark ∷ ps) rest xs e = let s = members-sound (length ps) ps rest xs e in
      (ap (λ q. open_mark ∷ q) (s.0 ∙ sym (append_assoc (separated spelled xs) (close_mark ∷ []) rest)), (s.1, s.2))
  enclosed-sound _ rest xs e = absurd (cc)

  enclosed-complete : (xs : List X) (rest : List Symbol) → AllByRecursion Good xs × (xs ≢ []) → enclosed_at read (enclosed spelled xs ++ rest) ≡ Some (xs, rest)
  enclosed-complete [] rest good = absurd (good.1 refl)
  enclosed-complete (x ∷ xs) rest good = rw (append_assoc (separated spelled (x ∷ xs)) (close_mark ∷ []) rest)
      (members-complete (length (separated spelled (x ∷ xs) ++ close_mark ∷ rest)) x xs rest good.0 (members_fit x xs rest))

  -- the reader of a list in parentheses, from the reader of a member
  pub enclosed_reader : IsReader (enclosed spelled) (λ xs. AllByRecursion Good xs × (xs ≢ [])) (enclosed_at read)
  enclosed_reader = record { sound = enclosed-sound; complete = λ xs rest good h. enclosed-complete xs rest good }

  -- such a list, or EMPTY
  enclosed_or_empty-more : (xs : List X) → xs ≢ [] → enclosed_or_empty spelled xs ≡ enclosed spelled xs
  enclosed_or_empty-more [] h = absurd (h refl)
  enclosed_or_empty-more (x ∷ xs) h = refl

  list-sound : (ps rest : List Symbol) (xs : List X) → list_at read ps ≡ Some (xs, rest) → (ps ≡ enclosed_or_empty spelled xs ++ rest) × AllByRecursion Good xs
  list-sound (word w ∷ ps) rest xs e =
      let c = cond_some (bytes_eq w (codes "EMPTY")) ([], ps) (xs, rest) e in
      let w_is = (bytes_eq-Decides w (codes "EMPTY")).0 c.0 in
      let xs_is : [] ≡ xs = ap (λ (p : List X × List Symbol). p.0) c.1 in
      let rest_is : ps ≡ rest = ap (λ (p : List X × List Symbol). p.1) c.1 in
      (ap (λ v. word v ∷ ps) w_is ∙ ap (λ q. word (codes "EMPTY") ∷ q) rest_is ∙ ap (λ ys. enclosed_or_empty spelled ys ++ rest) xs_is, rw (sym xs_is) tt)
  list-sound (open_mark ∷ ps) rest xs e = let s = enclosed-sound (open_mark ∷ ps) rest xs e in
      (s.0 ∙ ap (λ q. q ++ rest) (sym (enclosed_or_empty-more xs s.1.1)), s.1.0)
  list-sound _ rest xs e = absurd (cc)

  list-complete : (xs : List X) (rest : List Symbol) → AllByRecursion Good xs → list_at read (enclosed_or_empty spelled xs ++ rest) ≡ Some (xs, rest)
  list-complete [] rest good = refl
  list-complete (x ∷ xs) rest good = enclosed-complete (x ∷ xs) rest (good, λ z. cc)

  -- the reader of such a list or EMPTY
  pub list_reader : IsReader (enclosed_or_empty spelled) (AllByRecursion Good) (list_at read)
  list_reader = record { sound = list-sound; complete = λ xs rest good h. list-complete xs rest good }

point-sound : (ps rest : List Symbol) (p : PointText) → point_at ps ≡ Some (p, rest) → (ps ≡ point numbers p ++ rest) × ⊤
point-sound (number x ∷ number y ∷ ps) rest p e = let s = some_pair_parts (x, y) p ps rest e in
    (ap (λ (q : PointText). number q.0 ∷ number q.1 ∷ ps) s.0 ∙ ap (λ r. number p.0 ∷ number p.1 ∷ r) s.1, tt)
point-sound _ rest p e = absurd (cc)

-- the reader of points of two numbers
pub point_reader : IsReader (point numbers) (λ p. ⊤) point_at
point_reader = record { sound = point-sound; complete = λ p rest good h. refl }

from_some : (w p : WidePoint) (ps rest : List Symbol) → ◌≡◌ {A = Option (WidePoint × List Symbol)} (Some (w, ps)) (Some (p, rest)) → (point wide_numbers w ++ ps ≡ point wide_numbers p ++ rest) × ⊤
from_some w p ps rest e = let s = some_pair_parts w p ps rest e in (ap (λ (q : WidePoint). point wide_numbers q ++ ps) s.0 ∙ ap (λ r. point wide_numbers p ++ r) s.1, tt)

wide_end-sound : (x y z : List ℕ) (ps rest : List Symbol) (p : WidePoint) → wide_end x y z ps ≡ Some (p, rest) → (number x ∷ number y ∷ number z ∷ ps ≡ point wide_numbers p ++ rest) × ⊤
wide_end-sound x y z (number m ∷ ps) rest p e = from_some (four x y z m) p ps rest e
wide_end-sound x y z [] rest p e = from_some (three x y z) p [] rest e
wide_end-sound x y z (word w ∷ ps) rest p e = from_some (three x y z) p (word w ∷ ps) rest e
wide_end-sound x y z (open_mark ∷ ps) rest p e = from_some (three x y z) p (open_mark ∷ ps) rest e
wide_end-sound x y z (close_mark ∷ ps) rest p e = from_some (three x y z) p (close_mark ∷ ps) rest e
wide_end-sound x y z (comma ∷ ps) rest p e = from_some (three x y z) p (comma ∷ ps) rest e
wide_end-sound x y z (other w ∷ ps) rest p e = from_some (three x y z) p (other w ∷ ps) rest e

wide_more-sound : (x y : List ℕ) (ps rest : List Symbol) (p : WidePoint) → wide_more x y ps ≡ Some (p, rest) → (number x ∷ number y ∷ ps ≡ point wide_numbers p ++ rest) × ⊤
wide_more-sound x y (number z ∷ ps) rest p e = wide_end-sound x y z ps rest p e
wide_more-sound x y [] rest p e = from_some (two x y) p [] rest e
wide_more-sound x y (word w ∷ ps) rest p e = from_some (two x y) p (word w ∷ ps) rest e
wide_more-sound x y (open_mark ∷ ps) rest p e = from_some (two x y) p (open_mark ∷ ps) rest e
wide_more-sound x y (close_mark ∷ ps) rest p e = from_some (two x y) p (close_mark ∷ ps) rest e
wide_more-sound x y (comma ∷ ps) rest p e = from_some (two x y) p (comma ∷ ps) rest e
wide_more-sound x y (other w ∷ ps) rest p e = from_some (two x y) p (other w ∷ ps) rest e

wide-sound : (ps rest : List Symbol) (p : WidePoint) → wide_point_at ps ≡ Some (p, rest) → (ps ≡ point wide_numbers p ++ rest) × ⊤
wide-sound (number x ∷ number y ∷ ps) rest p e = wide_more-sound x y ps rest p e
wide-sound _ rest p e = absurd (cc)

-- no number follows
wide_more-stops : (x y : List ℕ) (ps : List Symbol) → starts_number ps ≡ false → wide_more x y ps ≡ Some (two x y, ps)
wide_more-stops x y (number z ∷ ps) h = absurd (cc)
wide_more-stops x y _ h = refl

wide_end-stops : (x y z : List ℕ) (ps : List Symbol) → starts_number ps ≡ false → wide_end x y z ps ≡ Some (three x y z, ps)
wide_end-stops x y z (number m ∷ ps) h = absurd (cc)
wide_end-stops x y z _ h = refl

wide-complete : (p : WidePoint) (rest : List Symbol) → starts_number rest ≡ false → wide_point_at (point wide_numbers p ++ rest) ≡ Some (p, rest)
wide-complete (two x y) rest h = wide_more-stops x y rest h
wide-complete (three x y z) rest h = wide_end-stops x y z rest h
wide-complete (four x y z m) rest h = refl

-- the reader of points of two, three or four numbers
pub wide_point_reader : IsReader (point wide_numbers) (λ p. ⊤) wide_point_at
wide_point_reader = record { sound = wide-sound; complete = λ p rest good h. wide-complete p rest h }

all_in : {X : Type 0} {P Q : X → Type 0} → ((x : X) → P x → Q x) → (xs : List X) → AllByRecursion P xs → AllByRecursion Q xs
all_in f [] h = tt
all_in f (x ∷ xs) h = (f x h.0, all_in f xs h.1)

every : {X : Type 0} (xs : List X) → AllByRecursion (λ x. ⊤) xs
every [] = tt
every (x ∷ xs) = (tt, every xs)

one_of-sound : {X : Type 0} (r : X × List Symbol) (t : List X) → one_of r ≡ Some t → (r.1 ≡ []) × (t ≡ r.0 ∷ [])
one_of-sound (x, []) t e = (refl, cc)
one_of-sound (x, q ∷ ps) t e = absurd (cc)

all_of-sound : {X : Type 0} (r : List X × List Symbol) (t : List X) → all_of r ≡ Some t → (r.1 ≡ []) × (t ≡ r.0)
all_of-sound (xs, []) t e = (refl, cc)
all_of-sound (xs, q ∷ ps) t e = absurd (cc)

-- the readers of rings and polygons, of a reader of points
module _ {P : Type 0} (numbers_of : P → List (List ℕ)) (read : Reader P) (law : IsReader (point numbers_of) (λ p. ⊤) read) where
  -- a ring has a point
  abbrev pub HasPoint : Ring P → Type 0
  HasPoint r = AllByRecursion (λ p. ⊤) r × (r ≢ [])

  -- the reader of a polygon
  abbrev pub polygon_at : Reader (Polygon P)
  polygon_at = list_at (enclosed_at read)

  ring_reader : IsReader (ring numbers_of) HasPoint (enclosed_at read)
  ring_reader = enclosed_reader (point numbers_of) (λ p. ⊤) read law

  polygon_reader : IsReader (polygon numbers_of) (AllByRecursion HasPoint) polygon_at
  polygon_reader = list_reader (ring numbers_of) HasPoint (enclosed_at read) ring_reader

  polygons_reader : IsReader (enclosed_or_empty (polygon numbers_of)) (AllByRecursion (AllByRecursion HasPoint)) (list_at polygon_at)
  polygons_reader = list_reader (polygon numbers_of) (AllByRecursion HasPoint) polygon_at polygon_reader

  -- each ring of each polygon has a point
  abbrev pub Good : List (Polygon P) → Type 0
  Good t = AllByRecursion (AllByRecursion HasPoint) t

  tree_after-sound : (w : List ℕ) (a b : Bool) → bytes_eq w (codes "POLYGON") ≡ a → bytes_eq w (codes "MULTIPOLYGON") ≡ b → (ps : List Symbol) (t : List (Polygon P))
      → tree_after polygon_at a b ps ≡ Some t → Spells numbers_of (word w ∷ ps) t × Good t
  tree_after-sound w true b is_one is_many ps t e = option_and_then_some one_of (polygon_at ps) t e (λ r h n.
      let o = one_of-sound r t n in
      let s = polygon_reader.sound ps r.1 r.0 h in (
        inl (
          r.0,
          o.1,
          ap (λ v. word v ∷ ps) ((bytes_eq-Decides w (codes "POLYGON")).0 is_one)
              ∙ ap (λ q. word (codes "POLYGON") ∷ q) (s.0 ∙ ap (λ q. polygon numbers_of r.0 ++ q) o.0 ∙ append-nil (polygon numbers_of r.0)),
        ),
        rw o.1 (s.1, tt),
      ))
  tree_after-sound w false true is_one is_many ps t e = option_and_then_some all_of (list_at polygon_at ps) t e (λ r h n.
      let o = all_of-sound r t n in
      let s = polygons_reader.sound ps r.1 r.0 h in (
        inr (ap (λ v. word v ∷ ps) ((bytes_eq-Decides w (codes "MULTIPOLYGON")).0 is_many)
            ∙ ap (λ q. word (codes "MULTIPOLYGON") ∷ q) (s.0 ∙ ap (λ q. enclosed_or_empty (polygon numbers_of) r.0 ++ q) o.0 ∙ append-nil (enclosed_or_empty (polygon numbers_of) r.0)
            ∙ ap (λ ps. enclosed_or_empty (polygon numbers_of) ps) (sym o.1))),
        rw o.1 s.1,
      ))
  tree_after-sound w false false is_one is_many ps t e = absurd (cc)

  tree-sound : (ps : List Symbol) (t : List (Polygon P)) → tree_of polygon_at ps ≡ Some t → Spells numbers_of ps t × Good t
  tree-sound (word w ∷ ps) t e = tree_after-sound w (bytes_eq w (codes "POLYGON")) (bytes_eq w (codes "MULTIPOLYGON")) refl refl ps t e
  tree-sound _ t e = absurd (cc)

  tree-complete : (ps : List Symbol) (t : List (Polygon P)) → Spells numbers_of ps t → Good t → tree_of polygon_at ps ≡ Some t
  tree-complete ps t (inl s) good = let good_one = rw s.1 at good in
      rw (s.2, s.1) (ap (λ q. option_and_then one_of (polygon_at q)) (sym (append-nil (polygon numbers_of s.0))) ∙ ap (option_and_then one_of) (polygon_reader.complete s.0 [] good_one.0 refl))
  tree-complete ps t (inr s) good =
      rw s (ap (λ q. option_and_then all_of (list_at polygon_at q)) (sym (append-nil (enclosed_or_empty (polygon numbers_of) t))) ∙ ap (option_and_then all_of) (polygons_reader.complete t [] good refl))

  -- a text's tree is what the reader reads
  pub IsTree-read : (text : List ℕ) (t : List (Polygon P)) → IsTree numbers_of text t → tree_of polygon_at (symbols text) ≡ Some t
  IsTree-read text t h = tree-complete (symbols text) t h.spelled (all_in (λ rings. all_in (λ r ne. (every r, ne)) rings) t h.points)

  -- what the reader gives is a tree of the grammar
  pub read-IsTree : (text : List ℕ) (t : List (Polygon P)) → tree_of polygon_at (symbols text) ≡ Some t → IsTree numbers_of text t
  read-IsTree text t e = let s = tree-sound (symbols text) t e in
      record { spelled = s.0; points = all_in (λ rings. all_in (λ r good. good.1) rings) t s.1 }

-- the plain reader gives the tree of a text exactly where the grammar does
pub IsTree-geometry : (text : List ℕ) (t : List (Polygon PointText)) → IsTree numbers text t → geometry_of text ≡ Some t
unfolding geometry_of
IsTree-geometry text t h = IsTree-read numbers point_at point_reader text t h

-- the tree that the plain reader gives is in the grammar
pub geometry-IsTree : (text : List ℕ) (t : List (Polygon PointText)) → geometry_of text ≡ Some t → IsTree numbers text t
unfolding geometry_of
geometry-IsTree text t e = read-IsTree numbers point_at point_reader text t e

-- a tree of the wide grammar is the one that the wide reader gives
pub IsTree-wide_geometry : (text : List ℕ) (t : List (Polygon WidePoint)) → IsTree wide_numbers text t → wide_geometry_of text ≡ Some t
unfolding wide_geometry_of
IsTree-wide_geometry text t h = IsTree-read wide_numbers wide_point_at wide_point_reader text t h

-- the tree that the wide reader gives is in the wide grammar
pub wide_geometry-IsTree : (text : List ℕ) (t : List (Polygon WidePoint)) → wide_geometry_of text ≡ Some t → IsTree wide_numbers text t
unfolding wide_geometry_of
wide_geometry-IsTree text t e = read-IsTree wide_numbers wide_point_at wide_point_reader text t e

-- what a text reads as is what the grammar says
without_none : {X : Type 0} (o : Option X) (In : X → Type 0) → ((x : X) → In x → o ≡ Some x) → o ≡ None → (x : X) → In x → ⊥
without_none o In f e x h = none-some x (sym e ∙ f x h)

reads_tree : (scale : ℕ) (text : List ℕ) (o : Option (List (Polygon PointText))) (w : Option (List (Polygon WidePoint))) → geometry_of text ≡ o → wide_geometry_of text ≡ w
    → ReadsTree scale text (reading_of scale o w)
reads_tree scale text (Some t) w e f = inl (t, geometry-IsTree text t e, refl)
reads_tree scale text None (Some v) e f = inr (inl (without_none (geometry_of text) (IsTree numbers text) (IsTree-geometry text) e, (v, wide_geometry-IsTree text v f), refl))
reads_tree scale text None None e f = inr (inr (without_none (geometry_of text) (IsTree numbers text) (IsTree-geometry text) e, (λ v. without_none (wide_geometry_of text) (IsTree wide_numbers text) (IsTree-wide_geometry text) f v.0 v.1), refl))

reads_words : (scale : ℕ) (text : List ℕ) (o : Option TextFault) (r : Result Polygons TextFault) → ReadsTree scale text r
    → MatchOption o (ReadsTree scale text (err_or o r)) (λ fault. err_or o r ≡ Err fault)
reads_words scale text None r h = h
reads_words scale text (Some fault) r h = refl

-- the reading is what the grammar and the order of faults say
pub reading_reads : (scale : ℕ) (text : List ℕ) → Reads scale text (reading scale text)
unfolding reading
reading_reads scale text = reads_words scale text (word_fault text) (reading_of scale (geometry_of text) (wide_geometry_of text))
    (reads_tree scale text (geometry_of text) (wide_geometry_of text) refl refl)

none_where : {X : Type 0} (o : Option X) (In : X → Type 0) → ((x : X) → o ≡ Some x → In x) → ((x : X) → In x → ⊥) → o ≡ None
none_where None In f out = refl
none_where (Some x) In f out = absurd (out x (f x refl))

tree_reads_once : (scale : ℕ) (text : List ℕ) (read : Result Polygons TextFault) → ReadsTree scale text read → read ≡ reading_of scale (geometry_of text) (wide_geometry_of text)
tree_reads_once scale text read (inl h) = h.2 ∙ ap (λ o. reading_of scale o (wide_geometry_of text)) (sym (IsTree-geometry text h.0 h.1))
tree_reads_once scale text read (inr (inl h)) = h.2
    ∙ ap₂ (reading_of scale) (sym (none_where (geometry_of text) (IsTree numbers text) (geometry-IsTree text) h.0)) (sym (IsTree-wide_geometry text h.1.0 h.1.1))
tree_reads_once scale text read (inr (inr h)) = h.2
    ∙ ap₂ (reading_of scale) (sym (none_where (geometry_of text) (IsTree numbers text) (geometry-IsTree text) h.0)) (sym (none_where (wide_geometry_of text) (IsTree wide_numbers text) (wide_geometry-IsTree text) (λ t k. h.1 (t, k))))

reads_once : (scale : ℕ) (text : List ℕ) (o : Option TextFault) (read : Result Polygons TextFault) → MatchOption o (ReadsTree scale text read) (λ fault. read ≡ Err fault)
    → read ≡ err_or o (reading_of scale (geometry_of text) (wide_geometry_of text))
reads_once scale text None read h = tree_reads_once scale text read h
reads_once scale text (Some fault) read h = h

-- and nothing else is
pub Reads-reading : (scale : ℕ) (text : List ℕ) (read : Result Polygons TextFault) → Reads scale text read → read ≡ reading scale text
unfolding reading
Reads-reading scale text read h = reads_once scale text (word_fault text) read h
