-- What is told to a point of a layer, as it is written and counted. The words:
--   ids_of, names_in  the ids of all features, and of those of a list
--   counted           a tally with an answer more, of so many features that touch and that cover
--   told_lists        the answer line by two lists of features
--   told_at           the answer line to a point
use Rattle.std.specs.Prelude.{ℕ, List, [], get_or, length, map}
use Rattle.loc_spec_plane.specs.{Points.Point, Rings.touches, Rings.covers}
use Rattle.loc_spec_text.specs.Points.{ended}
use Rattle.loc_rings.specs.Values.{Feature}
use Rattle.loc_batch.specs.{Lists.ListsState, Streams.plus, Told.Told, declared.tally.Tally.Tally}
use Rattle.loc_query.specs.Answered.{ids_where}
use Rattle.loc_features.specs.Features.{features_at, features_text}

-- the ids of all features of a layer, in order
abbrev pub ids_of : List Feature → List (List ℕ)
ids_of layer = map (λ (feature : Feature). feature.id) layer

-- the ids of features of a layer, by their numbers
abbrev pub names_in : List Feature → List ℕ → List (List ℕ)
names_in layer fs = map (λ f. get_or (ids_of layer) f []) fs

-- one line more, with so many features that touch and so many that cover
abbrev pub counted : ℕ → ℕ → Tally → Tally
counted on covering t = record t { lines = plus t.lines 1; on = plus t.on on; covering = plus t.covering covering }

-- the answer line by the features that touch and those that cover
abbrev pub told_lists : List Feature → ListsState → Told
told_lists layer l = record { line = ended (features_text (names_in layer l.touching) (names_in layer l.covering)); counted = counted (length l.touching) (length l.covering) }

-- the answer line to a point of a layer
abbrev pub told_at : List Feature → Point → Told
told_at layer p = record {
  line = ended (features_at layer p);
  counted = counted (length (ids_where (λ rings. touches rings p) layer)) (length (ids_where (λ rings. covers rings p) layer));
}
