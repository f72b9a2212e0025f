-- Segments with the numbers of their features. The words: `tagged_by`, `tagged_from`, `tagged_pieces`, `segments_in`, `features_of`, `with_mark`, `marks_of`, `marks_in`.
use Rattle.std.specs.Prelude.{ℕ, ◌==◌, not, true, List, [], ◌∷◌, map, filter, if◌then◌else◌}
use Rattle.std.specs.List.{flat_map, enumerate_from}
use Rattle.loc_spec_plane.specs.{declared.Mark.Mark, Lists.sorted_set}
use Rattle.loc_spec_plane.specs.{Points.Edge, Points.edge_before, Points.same_edge, Rings.Rings, Rings.segments}

-- the segments of a feature
abbrev pub tagged_by : ℕ → List Edge → List (Edge × ℕ)
tagged_by feature ss = map (λ s. (s, feature)) ss

-- those of all features, of which the first has this number
abbrev pub tagged_from : ℕ → List Rings → List (Edge × ℕ)
tagged_from first layer = flat_map (λ (numbered : ℕ × Rings). tagged_by numbered.0 (segments numbered.1)) (enumerate_from first layer)

-- the pieces into which those segments are cut
abbrev pub tagged_pieces : (Edge → List Edge) → ℕ → List Rings → List (Edge × ℕ)
tagged_pieces cut first layer = flat_map (λ (numbered : ℕ × Rings). tagged_by numbered.0 (flat_map cut (segments numbered.1))) (enumerate_from first layer)

-- the segments alone
abbrev pub segments_in : List (Edge × ℕ) → List Edge
segments_in tagged = map (λ (t : Edge × ℕ). t.0) tagged

-- the features of those segments that are the edge
abbrev pub features_of : List (Edge × ℕ) → Edge → List ℕ
features_of tagged e = map (λ (t : Edge × ℕ). t.1) (filter (λ (t : Edge × ℕ). same_edge e t.0) tagged)

-- the marks with one more segment of the feature in front
abbrev pub with_mark : ℕ → List Mark → List Mark
with_mark f [] = record { feature = f; odd = true } ∷ []
with_mark f (m ∷ ms) = if m.feature == f then record { feature = m.feature; odd = not m.odd } ∷ ms else record { feature = f; odd = true } ∷ m ∷ ms

-- a mark for each run of equal features, odd where the run has an odd length
abbrev pub marks_of : List ℕ → List Mark
marks_of [] = []
marks_of (f ∷ fs) = with_mark f (marks_of fs)

-- the marks of each edge, in the order of the edges
abbrev pub marks_in : List (Edge × ℕ) → List (List Mark)
marks_in tagged = map marks_of (map (features_of tagged) (sorted_set edge_before (segments_in tagged)))
