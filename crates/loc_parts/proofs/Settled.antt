-- Features of a layer go into a part or are left, until none is in no part.
use Rattle.std.proofs.Common.{◌≡◌, ◌+◌, ℕ, Bool, true, false, ◌||◌, List, [], ◌∷◌, ◌++◌, length, map, get_or, refl, sym, ◌∙◌, ap, subst, arith}
use Rattle.std.specs.{Prelude.nat_lt, List.list_any, List.sum_by}
use Rattle.std.proofs.lemmas.List.{length-map, map-append}
use Rattle.std.proofs.lemmas.List.Elements.{All-nil, All-push}
use Rattle.std.proofs.{lemmas.List.Sums.sum_by-append, lemmas.List.Sums.sum_by-cons, lemmas.List.Folds.list_any-append}
use Rattle.loc_spec_plane.specs.Lists.{is_in, numbers}
use Rattle.loc_rings.specs.Values.{Feature}
use Rattle.loc_edges.specs.Layers.{layer_rings}
use Rattle.loc_sweep.specs.Swept.{IsSwept}
use Rattle.loc_treeidx.specs.Meaning.{meaning_of}
use Rattle.loc_maps.specs.Maps.{IsMapOf}
use Rattle.loc_spans.specs.Boxes.{IsBoxed}
use Rattle.loc_parts.specs.Parts.{AreNumbersOf, IsLeftOf, IsPartOf, IsPartedBut, IsRestOf, features_with, no_rings, numbers_in}
use Rattle.loc_parts.specs.{declared.parts.Left.Left, declared.parts.Part.Part}
use Rattle.loc_parts.proofs.Numbered.{all_features, all_numbers, in_all}

-- of lists in two rows, one goes from those that are in no row to the end of the first, or of the second
to_first : (p : List ℕ → Bool) (lists others rests : List (List ℕ)) (ns : List ℕ) → (list_any p ((lists ++ ns ∷ []) ++ others) || list_any p rests) ≡ (list_any p (lists ++ others) || (p ns || list_any p rests))
to_first p lists others rests ns =
    ap (λ b. b || list_any p rests) (list_any-append p (lists ++ ns ∷ []) others ∙ ap (λ b. b || list_any p others) (list_any-append p lists (ns ∷ [])))
    ∙ (move (list_any p lists) (list_any p others) (p ns) (list_any p rests)
    ∙ ap (λ b. b || (p ns || list_any p rests)) (sym (list_any-append p lists others)))
  where
    move : (a b c d : Bool) → (((a || (c || false)) || b) || d) ≡ ((a || b) || (c || d))
    move true b c d = refl
    move false true true d = refl
    move false true false d = refl
    move false false true d = refl
    move false false false d = refl

to_second : (p : List ℕ → Bool) (lists others rests : List (List ℕ)) (ns : List ℕ) → (list_any p (lists ++ (others ++ ns ∷ [])) || list_any p rests) ≡ (list_any p (lists ++ others) || (p ns || list_any p rests))
to_second p lists others rests ns =
    ap (λ b. b || list_any p rests) (list_any-append p lists (others ++ ns ∷ []) ∙ ap (λ b. list_any p lists || b) (list_any-append p others (ns ∷ [])))
    ∙ (move (list_any p lists) (list_any p others) (p ns) (list_any p rests)
    ∙ ap (λ b. b || (p ns || list_any p rests)) (sym (list_any-append p lists others)))
  where
    move : (a b c d : Bool) → ((a || (b || (c || false))) || d) ≡ ((a || b) || (c || d))
    move true b c d = refl
    move false true c d = refl
    move false false true d = refl
    move false false false d = refl

-- what is summed over all lists stays
sum_first : (g : List ℕ → ℕ) (lists others rests : List (List ℕ)) (ns : List ℕ) → sum_by g ((lists ++ ns ∷ []) ++ others) + sum_by g rests ≡ sum_by g (lists ++ others) + sum_by g (ns ∷ rests)
sum_first g lists others rests ns = omega (arith, sum_by-append g (lists ++ ns ∷ []) others, sum_by-append g lists (ns ∷ []), sum_by-append g lists others, sum_by-cons g ns [], sum_by-cons g ns rests)

sum_second : (g : List ℕ → ℕ) (lists others rests : List (List ℕ)) (ns : List ℕ) → sum_by g (lists ++ (others ++ ns ∷ [])) + sum_by g rests ≡ sum_by g (lists ++ others) + sum_by g (ns ∷ rests)
sum_second g lists others rests ns = omega (arith, sum_by-append g lists (others ++ ns ∷ []), sum_by-append g others (ns ∷ []), sum_by-append g lists others, sum_by-cons g ns [], sum_by-cons g ns rests)

-- where no list is in a part or left, all numbers are in no part
pub at_first : (layer : List Feature) → IsPartedBut layer (numbers (length layer) ∷ []) [] []
at_first layer = record {
  parts_are = All-nil (IsPartOf layer);
  left_are = All-nil (IsLeftOf layer);
  all = λ n. in_all n (length layer);
  once = λ f. omega (arith, sum_by-cons (sum_by f) (numbers (length layer)) []);
}

-- all features of a layer
pub rest_of_all : (layer : List Feature) → IsRestOf layer (numbers (length layer)) layer
rest_of_all layer = record { numbers = all_numbers layer; are = sym (all_features layer) }

-- features with these numbers that are swept are a part
pub as_part : (layer : List Feature) (ns : List ℕ) (features : List Feature) (part : Part) → IsRestOf layer ns features → part.numbers.items ≡ ns → IsMapOf features part.plane.table part.plane.legend
    → IsSwept part.plane.table (meaning_of part.plane.tree) → IsPartOf layer part
as_part layer ns features part rest same map swept = record {
  numbers = subst (AreNumbersOf layer) (sym same) rest.numbers;
  map = subst (λ (fs : List Feature). IsMapOf fs part.plane.table part.plane.legend) (rest.are ∙ ap (λ ms. features_with ms layer) (sym same)) map;
  swept = swept;
}

-- features with these numbers that stand in boxes are left
pub as_left : (layer : List Feature) (ns : List ℕ) (features : List Feature) (left : Left) → IsRestOf layer ns features → left.numbers.items ≡ ns → IsBoxed (layer_rings features) left.boxed → IsLeftOf layer left
as_left layer ns features left rest same boxed = record {
  numbers = subst (AreNumbersOf layer) (sym same) rest.numbers;
  boxed = subst (λ (fs : List Feature). IsBoxed (layer_rings fs) left.boxed) (rest.are ∙ ap (λ ms. features_with ms layer) (sym same)) boxed;
}

-- one part more
pub more_parts : (layer : List Feature) (rests : List (List ℕ)) (parts : List Part) (left : List Left) (part : Part) → IsPartedBut layer (part.numbers.items ∷ rests) parts left → IsPartOf layer part
    → IsPartedBut layer rests (parts ++ part ∷ []) left
more_parts layer rests parts left part but is = record {
  parts_are = All-push (IsPartOf layer) parts part but.parts_are is;
  left_are = but.left_are;
  all = λ n.
      ap (λ (ls : List (List ℕ)). list_any (is_in n) (ls ++ map (λ (l : Left). l.numbers.items) left) || list_any (is_in n) rests) (map-append (λ (p : Part). p.numbers.items) parts (part ∷ []))
      ∙ (to_first (is_in n) (map (λ (p : Part). p.numbers.items) parts) (map (λ (l : Left). l.numbers.items) left) rests part.numbers.items ∙ but.all n);
  once = λ f.
      ap (λ (ls : List (List ℕ)). sum_by (sum_by f) (ls ++ map (λ (l : Left). l.numbers.items) left) + sum_by (sum_by f) rests) (map-append (λ (p : Part). p.numbers.items) parts (part ∷ []))
      ∙ (sum_first (sum_by f) (map (λ (p : Part). p.numbers.items) parts) (map (λ (l : Left). l.numbers.items) left) rests part.numbers.items ∙ but.once f);
}

-- more is left
pub more_left : (layer : List Feature) (rests : List (List ℕ)) (parts : List Part) (left : List Left) (one : Left) → IsPartedBut layer (one.numbers.items ∷ rests) parts left → IsLeftOf layer one
    → IsPartedBut layer rests parts (left ++ one ∷ [])
more_left layer rests parts left one but is = record {
  parts_are = but.parts_are;
  left_are = All-push (IsLeftOf layer) left one but.left_are is;
  all = λ n.
      ap (λ (ls : List (List ℕ)). list_any (is_in n) (map (λ (p : Part). p.numbers.items) parts ++ ls) || list_any (is_in n) rests) (map-append (λ (l : Left). l.numbers.items) left (one ∷ []))
      ∙ (to_second (is_in n) (map (λ (p : Part). p.numbers.items) parts) (map (λ (l : Left). l.numbers.items) left) rests one.numbers.items ∙ but.all n);
  once = λ f.
      ap (λ (ls : List (List ℕ)). sum_by (sum_by f) (map (λ (p : Part). p.numbers.items) parts ++ ls) + sum_by (sum_by f) rests) (map-append (λ (l : Left). l.numbers.items) left (one ∷ []))
      ∙ (sum_second (sum_by f) (map (λ (p : Part). p.numbers.items) parts) (map (λ (l : Left). l.numbers.items) left) rests one.numbers.items ∙ but.once f);
}

-- where nothing is in no part, every feature is in a part or left
pub at_last : (layer : List Feature) (parts : List Part) (left : List Left) → IsPartedBut layer [] parts left → (n : ℕ) → list_any (is_in n) (numbers_in parts left) ≡ nat_lt n (length layer)
at_last layer parts left but n = none (list_any (is_in n) (numbers_in parts left)) ∙ but.all n
  where
    none : (b : Bool) → b ≡ (b || false)
    none true = refl
    none false = refl

-- and stands there once
pub once_last : (layer : List Feature) (parts : List Part) (left : List Left) → IsPartedBut layer [] parts left → (f : ℕ → ℕ) → sum_by (sum_by f) (numbers_in parts left) ≡ sum_by f (numbers (length layer))
once_last layer parts left but f = omega (arith, but.once f)

-- what is in no part may be told by other lists
pub but_told : (layer : List Feature) (rests others : List (List ℕ)) (parts : List Part) (left : List Left) → IsPartedBut layer rests parts left → ((n : ℕ) → list_any (is_in n) others ≡ list_any (is_in n) rests)
    → ((f : ℕ → ℕ) → sum_by (sum_by f) others ≡ sum_by (sum_by f) rests) → IsPartedBut layer others parts left
but_told layer rests others parts left but same sums = record {
  parts_are = but.parts_are;
  left_are = but.left_are;
  all = λ n. ap (λ b. list_any (is_in n) (numbers_in parts left) || b) (same n) ∙ but.all n;
  once = λ f. ap (λ k. sum_by (sum_by f) (numbers_in parts left) + k) (sums f) ∙ but.once f;
}

-- of three lists, of which the last two are one
pub in_three : (a b c d e : Bool) → (b || c) ≡ d → (a || d) ≡ e → (rest : Bool) → (a || (b || (c || rest))) ≡ (e || rest)
in_three true b c d e two all rest = ap (λ x. x || rest) all
in_three false true c d e two all rest = ap (λ x. x || rest) (two ∙ all)
in_three false false c d e two all rest = ap (λ x. x || rest) (two ∙ all)

-- the sums over three lists, of which the last two are one
pub sum_three : (g : List ℕ → ℕ) (a b c d e : List ℕ) (rests : List (List ℕ)) → g b + g c ≡ g d → g a + g d ≡ g e → sum_by g (a ∷ b ∷ c ∷ rests) ≡ sum_by g (e ∷ rests)
sum_three g a b c d e rests two all = omega (arith, two, all, sum_by-cons g a (b ∷ c ∷ rests), sum_by-cons g b (c ∷ rests), sum_by-cons g c rests, sum_by-cons g e rests)

-- features with their numbers are as many as these
pub rest_numbered : (layer : List Feature) (ns : List ℕ) (features : List Feature) → IsRestOf layer ns features → length ns ≡ length features
rest_numbered layer ns features rest = sym (ap length rest.are ∙ length-map ns (λ n. get_or layer n no_rings))
