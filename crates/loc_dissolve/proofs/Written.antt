-- The written text by the parts in which it is put: a ring closed by its first corner.
use Rattle.std.proofs.Common.{◌≡◌, ℕ, List, [], ◌∷◌, ◌++◌, map, refl, sym, ◌∙◌, ap, append_assoc, append-nil, codes}
use Rattle.std.specs.List.{flat_map}
use Rattle.loc_spec_plane.specs.{Points.Point, Rings.Ring}
use Rattle.loc_spec_text.specs.{Bytes.Text, Points.position_text, Points.quoted_byte}
use Rattle.loc_spec_groups.specs.Groups.{Group}
use Rattle.loc_spec_groups.specs.GroupTexts.{group_row, listed, polygons_text, ring_text}
use Rattle.loc_dissolve.specs.Writing.{closed_text}

module _ (f : Point → Text) (last : Text) where
  -- a comma before each text, or behind each but the last
  commas : (ps : List Point) → flat_map (λ l. codes ", " ++ l) (map f ps ++ last ∷ []) ≡ codes ", " ++ (flat_map (λ q. f q ++ codes ", ") ps ++ last)
  commas [] = ap (λ l. codes ", " ++ l) (append-nil last)
  commas (q ∷ qs) =
      let rest = flat_map (λ q. f q ++ codes ", ") qs in
      ap (λ l. codes ", " ++ (f q ++ l)) (commas qs)
      ∙ ap (λ l. codes ", " ++ l) (sym (append_assoc (f q ++ codes ", ") rest last ∙ append_assoc (f q) (codes ", ") (rest ++ last)))

  -- texts with a comma between them, by a comma behind each
  closes : (p : Point) (ps : List Point) → listed (map f (p ∷ ps) ++ last ∷ []) ≡ flat_map (λ q. f q ++ codes ", ") (p ∷ ps) ++ last
  closes p ps =
      let rest = flat_map (λ q. f q ++ codes ", ") ps in
      ap (λ l. f p ++ l) (commas ps) ∙ sym (append_assoc (f p ++ codes ", ") rest last ∙ append_assoc (f p) (codes ", ") (rest ++ last))

-- a ring by its parts
pub ring_is : (scale : ℕ) (ring : Ring) → codes "(" ++ (closed_text scale ring ++ codes ")") ≡ ring_text scale ring
ring_is scale [] = refl
ring_is scale (p ∷ ps) = ap (λ l. codes "(" ++ (l ++ codes ")")) (sym (closes (position_text scale) (position_text scale p) p ps))

-- the corners of a ring and the first once more, where there are some
pub closed_is : (scale : ℕ) (all : Ring) (p : Point) (ps : Ring) → all ≡ p ∷ ps → flat_map (λ (q : Point). position_text scale q ++ codes ", ") all ++ position_text scale p ≡ closed_text scale all
closed_is scale all p ps is = ap (λ (l : Ring). flat_map (λ (q : Point). position_text scale q ++ codes ", ") l ++ position_text scale p) is ∙ ap (closed_text scale) (sym is)

-- texts with a comma before each
laters : {X : Type 0} (f : X → Text) (xs : List X) → flat_map (λ (x : X). codes ", " ++ f x) xs ≡ flat_map (λ (l : Text). codes ", " ++ l) (map f xs)
laters f [] = refl
laters f (x ∷ xs) = ap (λ l. (codes ", " ++ f x) ++ l) (laters f xs)

-- texts with a comma between them, by the first and those behind it
pub listed_is : {X : Type 0} (f : X → Text) (all : List X) (x : X) (xs : List X) → all ≡ x ∷ xs → f x ++ flat_map (λ (x : X). codes ", " ++ f x) xs ≡ listed (map f all)
listed_is f all x xs is = ap (λ l. f x ++ l) (laters f xs) ∙ ap (λ l. listed (map f l)) (sym is)

-- the row of a group by its parts
pub row_is : (scale : ℕ) (group : Group) → codes "\"MULTIPOLYGON " ++ (polygons_text scale group.polygons ++ (codes "\",\"" ++ (flat_map quoted_byte group.id ++ codes "\"\n"))) ≡ group_row scale group
row_is scale group =
    let polygons = polygons_text scale group.polygons in
    let id = flat_map quoted_byte group.id in
    ap (λ l. codes "\"MULTIPOLYGON " ++ l) (sym (append_assoc polygons (codes "\",\"") (id ++ codes "\"\n"))
    ∙ (sym (append_assoc (polygons ++ codes "\",\"") id (codes "\"\n"))
    ∙ sym (append_assoc ((polygons ++ codes "\",\"") ++ id) (codes "\"") (codes "\n"))))
