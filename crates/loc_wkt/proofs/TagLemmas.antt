-- The tree of a text by its first word, and the number texts of a point line by its front.
use Rattle.std.proofs.Common.{◌≡◌, ℕ, List, [], ◌∷◌, Bool, true, false, Option, Some, None, Result, Ok, Err, option_and_then, codes, refl, sym, ◌∙◌, ap, ap₂}
use Rattle.std.specs.Prelude.{if◌then◌else◌, IfErr, IfNone, IfOk, IfSome, is_some, not}
use Rattle.std.specs.Str.{bytes_eq}
use Rattle.std.proofs.{lemmas.Bool.not-false, lemmas.Bool.not-true, lemmas.Option.same_Some}
use Rattle.loc_spec_text.specs.Geometry.{Symbol, PointText, Polygon, word, number, open_mark, close_mark, symbols}
use Rattle.loc_spec_text.specs.Points.{point_texts}
use Rattle.loc_spec_text.specs.Reader.{Reader, all_of, list_at, one_of, point_at, tree_after, tree_of, wide_geometry_of}
use Rattle.loc_wkt.specs.Fronts.{is_end, is_word, number_at, point_mark_at}
use Rattle.loc_wkt.specs.Lists.{wide_polygon_at}
use Rattle.loc_wkt.proofs.PassLemmas.{number_front}

tag_tree : {P : Type 0} (read : Reader (Polygon P)) (p : Symbol) (ps : List Symbol) → tree_of read (p ∷ ps) ≡ tree_after read (is_word (codes "POLYGON") p) (is_word (codes "MULTIPOLYGON") p) ps
tag_tree read (word w) ps = refl
tag_tree read _ ps = refl

module _ (text : List ℕ) (p : Symbol) (ps : List Symbol) (e : symbols text ≡ p ∷ ps) where
  by_words : (a b : Bool) → is_word (codes "POLYGON") p ≡ a → is_word (codes "MULTIPOLYGON") p ≡ b → wide_geometry_of text ≡ tree_after wide_polygon_at a b ps
  unfolding wide_geometry_of
  by_words a b h k = ap (tree_of wide_polygon_at) e ∙ tag_tree wide_polygon_at p ps ∙ ap₂ (λ x y. tree_after wide_polygon_at x y ps) h k

  -- POLYGON
  pub one_tree : is_word (codes "POLYGON") p ≡ true → wide_geometry_of text ≡ option_and_then one_of (wide_polygon_at ps)
  one_tree h = by_words true (is_word (codes "MULTIPOLYGON") p) h refl

  -- MULTIPOLYGON
  pub many_trees : is_word (codes "POLYGON") p ≡ false → is_word (codes "MULTIPOLYGON") p ≡ true → wide_geometry_of text ≡ option_and_then all_of (list_at wide_polygon_at ps)
  many_trees h k = by_words false true h k

  -- neither
  pub other_tag : is_word (codes "POLYGON") p ≡ false → is_word (codes "MULTIPOLYGON") p ≡ false → wide_geometry_of text ≡ None
  other_tag h k = by_words false false h k

-- no symbol
pub no_tag : (text : List ℕ) → symbols text ≡ [] → wide_geometry_of text ≡ None
unfolding wide_geometry_of
no_tag text e = ap (tree_of wide_polygon_at) e

-- two numbers at the front
pub pair_front : (ps rest behind : List Symbol) (x y : List ℕ) → number_at ps ≡ Some (x, rest) → number_at rest ≡ Some (y, behind) → point_at ps ≡ Some ((x, y), behind)
pair_front ps rest behind x y e f = ap point_at (number_front ps rest x e ∙ ap (λ qs. number x ∷ qs) (number_front rest behind y f))

-- no first one
pub no_pair : (ps : List Symbol) → number_at ps ≡ None → point_at ps ≡ None
unfolding number_at
no_pair (number w ∷ ps) e = absurd (cc)
no_pair _ e = refl

alone_first : (x : List ℕ) (qs : List Symbol) → number_at qs ≡ None → point_at (number x ∷ qs) ≡ None
unfolding number_at
alone_first x (number w ∷ qs) h = absurd (cc)
alone_first x _ h = refl

-- no second one
pub half_pair : (ps rest : List Symbol) (x : List ℕ) → number_at ps ≡ Some (x, rest) → number_at rest ≡ None → point_at ps ≡ None
half_pair ps rest x e f = ap point_at (number_front ps rest x e) ∙ alone_first x rest f

-- two numbers and what has to follow them
abbrev pub pair_then : (List Symbol → Bool) → Option (PointText × List Symbol) → Option PointText
pair_then ends (Some r) = if ends r.1 then Some r.0 else None
pair_then ends None = None

-- nothing is left
abbrev pub is_nothing : List Symbol → Bool
is_nothing [] = true
is_nothing (p ∷ ps) = false

in_mark : (w : List ℕ) (qs : List Symbol) → bytes_eq w (codes "POINT") ≡ true → point_texts (word w ∷ open_mark ∷ qs) ≡ pair_then is_end (point_at qs)
unfolding is_end
in_mark w (number x ∷ number y ∷ close_mark ∷ []) h = rw h refl
in_mark w (number x ∷ number y ∷ close_mark ∷ q ∷ qs) h = refl
in_mark w (number x ∷ number y ∷ qs) h = refl
in_mark w (number x ∷ qs) h = refl
in_mark w _ h = refl

-- a list where a test passes
pub if_some : (b : Bool) (ps inside : List Symbol) → (if b then Some ps else None) ≡ Some inside → (b ≡ true) × (ps ≡ inside)
if_some true ps inside e = (refl, same_Some ps inside e)
if_some false ps inside e = absurd (cc)

-- behind the word POINT and an open mark
pub marked_texts : (ps inside : List Symbol) → point_mark_at ps ≡ Some inside → point_texts ps ≡ pair_then is_end (point_at inside)
unfolding point_mark_at
marked_texts (word w ∷ open_mark ∷ ps) inside e = let p = if_some (bytes_eq w (codes "POINT")) ps inside e in in_mark w ps p.0 ∙ ap (λ qs. pair_then is_end (point_at qs)) p.1
marked_texts _ inside e = absurd (cc)

no_point_word : (b : Bool) (ps : List Symbol) (t : PointText) → (if b then Some ps else None) ≡ None → (if b then Some t else None) ≡ None
no_point_word true ps t e = absurd (cc)
no_point_word false ps t e = refl

-- without them
pub plain_texts : (ps : List Symbol) → point_mark_at ps ≡ None → point_texts ps ≡ pair_then is_nothing (point_at ps)
unfolding point_mark_at
plain_texts (number x ∷ number y ∷ []) e = refl
plain_texts (number x ∷ number y ∷ q ∷ ps) e = refl
plain_texts (word w ∷ open_mark ∷ number x ∷ number y ∷ close_mark ∷ []) e = no_point_word (bytes_eq w (codes "POINT")) (number x ∷ number y ∷ close_mark ∷ []) (x, y) e
plain_texts _ e = refl

-- by what is read of a rest, and whether that is nothing
pub nothing_by : {X : Type 0} (rest : List Symbol) (o : Option X) (b : Bool) (first : X → Symbol) (more : X → List Symbol) → IfSome o (λ x. rest ≡ first x ∷ more x) → IfNone o (rest ≡ []) → is_some o ≡ not b → is_nothing rest ≡ b
nothing_by rest None b first more some none h = ap is_nothing none ∙ sym (not-false b (sym h))
nothing_by rest (Some x) b first more some none h = ap is_nothing some ∙ sym (not-true b (sym h))

-- a result is what it is
pub is_ok_of : {X F : Type 0} (r x : Result X F) → x ≡ r → IfOk r (λ y. x ≡ Ok y)
is_ok_of (Ok y) x e = e
is_ok_of (Err f) x e = tt

pub is_err_of : {X F : Type 0} (A : F → Type 0) (r x : Result X F) → x ≡ r → IfErr r (λ f. A f → x ≡ Err f)
is_err_of A (Ok y) x e = tt
is_err_of A (Err f) x e = λ a. e
