-- The answers to the points of a generated layer, their counts, and the line of a trial. The words:
--   answers_of                            the answers
--   touching_ids, covering_ids            the two lists of an answer
--   is_corner, is_border, is_face         where an answer's point lies
--   counted_text, counts_text, tally_text how many answers are what
--   kind_text, sizes_text, nodes_text     the parts of the line
--   trial_text, is_trial_line             the line, and the test of it by the index
use Rattle.std.specs.Prelude.{ℕ, ◌+◌, ◌*◌, Bool, true, false, List, [], ◌++◌, length, map, filter, codes, Option, Some, None}
use Rattle.std.specs.{Fmt.decimal, List.list_any, List.range_with_len, List.sum_by}
use Rattle.loc_spec_text.specs.Bytes.{Text}
use Rattle.loc_spec_asked.specs.declared.Index.{Index}
use Rattle.loc_spec_asked.specs.declared.Index.TheVariants.{Scan, Tree, Trap}
use Rattle.loc_spec_plane.specs.Lists.{numbers}
use Rattle.loc_spec_text.specs.Points.{Answer, on_corner, on_border, in_face, no_point, ended}
use Rattle.loc_rings.specs.Values.{Feature}
use Rattle.loc_gen.specs.declared.kinds.Kind.{Kind}
use Rattle.loc_gen.specs.declared.kinds.Kind.TheVariants.{Grid, Nest, Strips}
use Rattle.loc_gen.specs.Layers.{point_number}
use Rattle.loc_batch.specs.declared.tally.Tally.{Tally}
use Rattle.loc_course.specs.Outcomes.{exactly}
use Rattle.loc_maps.specs.Located.{table_in}
use Rattle.loc_query.specs.Answered.{located}

-- what is answered to the points of a layer of size n
abbrev pub answers_of : List Feature → ℕ → ℕ → List Answer
answers_of layer n shift = map (λ t. located false layer (point_number n shift t)) (numbers n)

-- the ids of the features that touch the point
abbrev pub touching_ids : Answer → List Text
touching_ids (on_corner n on covering) = on
touching_ids (on_border n on covering) = on
touching_ids (in_face face covering) = []
touching_ids no_point = []

-- the ids of the features that cover it
abbrev pub covering_ids : Answer → List Text
covering_ids (on_corner n on covering) = covering
covering_ids (on_border n on covering) = covering
covering_ids (in_face face covering) = covering
covering_ids no_point = []

-- the point is a corner
abbrev pub is_corner : Answer → Bool
is_corner (on_corner n on covering) = true
is_corner _ = false

-- it lies on a border
abbrev pub is_border : Answer → Bool
is_border (on_border n on covering) = true
is_border _ = false

-- it lies in an open face
abbrev pub is_face : Answer → Bool
is_face (in_face face covering) = true
is_face _ = false

-- how many points are corners, on borders and in faces, and how many ids touch and cover them
abbrev pub counted_text : ℕ → ℕ → ℕ → ℕ → ℕ → Text
counted_text corners borders faces on covering = codes " corner " ++ decimal corners ++ codes " border " ++ decimal borders ++ codes " face " ++ decimal faces
    ++ codes " on " ++ decimal on ++ codes " in " ++ decimal covering

-- the same of answers
abbrev pub counts_text : List Answer → Text
counts_text answers = counted_text (length (filter is_corner answers)) (length (filter is_border answers)) (length (filter is_face answers))
    (sum_by (λ a. length (touching_ids a)) answers) (sum_by (λ a. length (covering_ids a)) answers)

-- the same of a tally
abbrev pub tally_text : Tally → Text
tally_text t = counted_text t.corners t.borders t.faces t.on t.covering

-- a kind by its name
abbrev pub kind_text : Kind → Text
kind_text Grid = codes "grid"
kind_text Nest = codes "nest"
kind_text Strips = codes "strips"

-- what was generated, and how many corners and edges it has
abbrev pub sizes_text : Kind → ℕ → ℕ → ℕ → ℕ → Text
sizes_text kind n shift corners edges = codes "trial " ++ kind_text kind ++ codes " " ++ decimal n ++ codes " " ++ decimal shift ++ codes " corners " ++ decimal corners ++ codes " edges " ++ decimal edges

-- the number of nodes, where it is told
abbrev pub nodes_text : Option ℕ → Text
nodes_text None = []
nodes_text (Some nodes) = codes " nodes " ++ decimal nodes

-- what is said of a trial, with the number of nodes where it is told
abbrev pub trial_text : Kind → ℕ → ℕ → List Feature → Option ℕ → Text
trial_text kind n shift layer nodes = sizes_text kind n shift (length (table_in layer).corners) (length (table_in layer).ends) ++ counts_text (answers_of layer n shift) ++ nodes_text nodes

-- The line of a trial. The tree tells its nodes: at least as many as there are edges, and at most 24 for each.
abbrev pub is_trial_line : Index → Kind → ℕ → ℕ → List Feature → Text → Bool
is_trial_line Scan kind n shift layer line = exactly (ended (trial_text kind n shift layer None)) line
is_trial_line Tree kind n shift layer line = list_any (λ nodes. exactly (ended (trial_text kind n shift layer (Some nodes))) line)
    (range_with_len (length (table_in layer).ends) (23 * length (table_in layer).ends + 1))
is_trial_line Trap kind n shift layer line = exactly (ended (trial_text kind n shift layer None)) line
