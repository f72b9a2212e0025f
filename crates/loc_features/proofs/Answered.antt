-- What is told to the lines of a points text is what is defined.
use Rattle.std.proofs.Common.{◌≡◌, ℕ, ◌+◌, ◌<◌, ◌≤◌, zero, suc, List, [], ◌∷◌, ◌++◌, length, get_or, map, filter, Option, Some, None, Ok, refl, sym, ◌∙◌, ap, ap₂, subst, append_assoc, arith}
use Rattle.std.specs.Prelude.{◌==◌, All, Bool, codes, false, option_map, slice_get}
use Rattle.std.specs.Option.{option_map_or}
use Rattle.std.proofs.{Math.Path.fun_ext, lemmas.Bool.true≢false, lemmas.List.length-map}
use Rattle.std.proofs.lemmas.List.Elements.{All-filter}
use Rattle.std.proofs.lemmas.List.FromFn.{get_or-range_with_len, length-range_with_len}
use Rattle.loc_spec_text.specs.Points.{ended, ids_text, point_of}
use Rattle.loc_spec_plane.specs.{Lists.numbers, Points.Point, Rings.Rings, Rings.covers, Rings.touches}
use Rattle.loc_laws_any.specs.Unions.{passing}
use Rattle.loc_rings.specs.Values.{Feature, rings_of}
use Rattle.loc_edges.specs.Layers.{layer_rings}
use Rattle.loc_batch.specs.{Lists.ListsState, Told.told_by, Told.told_found, declared.tally.Tally.Tally}
use Rattle.loc_answering.specs.ByLine.{told_by_line, told_bytes}
use Rattle.loc_query.specs.Answered.{ids_where}
use Rattle.loc_query.proofs.LegendAnswers.{by_number}
use Rattle.loc_parts.specs.declared.parts.Part.{Part}
use Rattle.loc_features.specs.{declared.placing.Found.Found, Places.found_at}
use Rattle.loc_features.specs.Features.{features_at, features_line, features_text}
use Rattle.loc_features.specs.Told.{counted, ids_of, names_in, told_at, told_lists}

-- the names of the features that pass are the ids of those features
pub names_passing : (test : Rings → Bool) (layer : List Feature) → names_in layer (passing test (layer_rings layer)) ≡ ids_where test layer
names_passing test layer =
    let id_at : ℕ → List ℕ = λ f. get_or (ids_of layer) f [] in
    let passes : ℕ → Bool = λ f. test (get_or (layer_rings layer) f []) in
    ap (λ n. map id_at (filter passes (numbers n))) (length-map layer rings_of)
    ∙ by_number test id_at passes 0 layer (λ i less. (let at : 0 + i ≡ i = omega arith in (ap id_at at, ap passes at)))

-- the id of a feature by number
pub id_is : (layer : List Feature) (n : ℕ) (feature : Feature) → slice_get layer n ≡ Some feature → get_or (ids_of layer) n [] ≡ feature.id
id_is [] n feature is = absurd (cc is)
id_is (f ∷ fs) zero feature is = let same : f ≡ feature = cc is in ap (λ (g : Feature). g.id) same
id_is (f ∷ fs) (suc n) feature is = id_is fs n feature is

below : (n m : ℕ) → n ≤ m → All (λ f. f < m) (numbers n)
below n m le k d lt = let at = get_or-range_with_len 0 n k d (omega (arith, lt, length-range_with_len 0 n)) in omega (arith, at, lt, length-range_with_len 0 n, le)

-- the features that pass are features of the layer
pub passing_within : (test : Rings → Bool) (layer : List Feature) (fs : List ℕ) → fs ≡ passing test (layer_rings layer) → All (λ f. f < length layer) fs
passing_within test layer fs is =
    let many = length-map layer rings_of in
    subst (All (λ f. f < length layer)) (sym is)
    (All-filter (λ f. test (get_or (layer_rings layer) f [])) (λ f. f < length layer) (numbers (length (layer_rings layer)))
    (below (length (layer_rings layer)) (length layer) (omega (arith, many))))

pub text_some : (on covering : List ℕ) (layer : List Feature) → (on ≡ [] → ⊥) → (codes "on" ++ ids_text (names_in layer on)) ++ (codes " in" ++ ids_text (names_in layer covering)) ≡ features_text (names_in layer on) (names_in layer covering)
text_some [] covering layer some = absurd (some refl)
text_some (f ∷ on) covering layer some = sym (append_assoc (codes "on" ++ ids_text (names_in layer (f ∷ on))) (codes " in") (ids_text (names_in layer covering)))

pub not_empty : (xs now : List ℕ) (b : Bool) → b ≡ (length now == 0) → b ≡ false → now ≡ xs → xs ≡ [] → ⊥
not_empty xs now b is some same none = true≢false (sym (is ∙ ap (λ (l : List ℕ). length l == 0) (same ∙ none)) ∙ some)

-- what is told by lists that name the features that pass is what is told to the point
pub told_same : (layer : List Feature) (p : Point) (l : ListsState) → l.touching ≡ passing (λ rings. touches rings p) (layer_rings layer) → l.covering ≡ passing (λ rings. covers rings p) (layer_rings layer) → told_lists layer l ≡ told_at layer p
told_same layer p l on covering =
    let on_names = ap (names_in layer) on ∙ names_passing (λ rings. touches rings p) layer in
    let in_names = ap (names_in layer) covering ∙ names_passing (λ rings. covers rings p) layer in
    let on_count = sym (length-map l.touching (λ f. get_or (ids_of layer) f [])) ∙ ap length on_names in
    let in_count = sym (length-map l.covering (λ f. get_or (ids_of layer) f [])) ∙ ap length in_names in
    ap₂ (λ (line : List ℕ) (c : Tally → Tally). record { line = line; counted = c }) (ap ended (ap₂ features_text on_names in_names)) (ap₂ counted on_count in_count)

-- what is told to a line
told_line : (most scale : ℕ) (layer : List Feature) (parts : List Part) (line : List ℕ) → told_by_line (told_by scale (found_at {most = most} parts) (λ (found : Found most). Ok (told_at layer found.point))) line ≡ Ok (features_line scale layer line)
unfolding told_by
told_line most scale layer parts line = by (point_of scale line)
  where
    by : (o : Option Point) → told_bytes (told_found (λ (found : Found most). Ok (told_at layer found.point)) (option_map (found_at {most = most} parts) o)) ≡ Ok (ended (option_map_or (features_at layer) o (codes "unread")))
    by None = refl
    by (Some p) = refl

pub told_lines : (most scale : ℕ) (layer : List Feature) (parts : List Part) → told_by_line (told_by scale (found_at {most = most} parts) (λ (found : Found most). Ok (told_at layer found.point))) ≡ (λ line. Ok (features_line scale layer line))
told_lines most scale layer parts = fun_ext (λ line. told_line most scale layer parts line)
