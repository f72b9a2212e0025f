-- The ids of an index file are bytes, and so is its second version.
use Rattle.std.proofs.Common.{ℕ, zero, suc, List, [], ◌∷◌, ◌++◌, subst, arith}
use Rattle.std.specs.{Prelude.All, List.flat_map}
use Rattle.loc_spec_index.specs.Content.{Content}
use Rattle.loc_spec_index.specs.IndexFile.{Field, IsFileOf, bytes_of, fields, header_fields, id_fields, spelled_all}
use Rattle.loc_laws_index.specs.IndexReading.{AreBytes}
use Rattle.loc_laws_index.proofs.Progress.{spelled_all-append}
use Rattle.loc_laws_built.proofs.Spelled.{bytes_of_are}

-- both parts of bytes are bytes
bytes_left : (xs ys : List ℕ) → AreBytes (xs ++ ys) → AreBytes xs
bytes_left [] ys are i = omega arith
bytes_left (x ∷ xs) ys are zero = are 0
bytes_left (x ∷ xs) ys are (suc i) = bytes_left xs ys (λ j. are (suc j)) i

bytes_right : (xs ys : List ℕ) → AreBytes (xs ++ ys) → AreBytes ys
bytes_right [] ys are = are
bytes_right (x ∷ xs) ys are = bytes_right xs ys (λ j. are (suc j))

ids_are_bytes : (ids : List (List ℕ)) → AreBytes (spelled_all (flat_map id_fields ids)) → All AreBytes ids
ids_are_bytes [] are k d less = absurd (omega (arith, less))
ids_are_bytes (id ∷ ids) are zero d less = bytes_left id (spelled_all (flat_map id_fields ids)) (λ j. are (suc j))
ids_are_bytes (id ∷ ids) are (suc k) d less = ids_are_bytes ids (bytes_right id (spelled_all (flat_map id_fields ids)) (λ j. are (suc j))) k d (omega (arith, less))

-- of fields in three parts the second is of bytes
middle : (front part rest : List Field) → AreBytes (spelled_all (front ++ (part ++ rest))) → AreBytes (spelled_all part)
middle front part rest are =
    bytes_left (spelled_all part) (spelled_all rest) (subst AreBytes (spelled_all-append part rest)
    (bytes_right (spelled_all front) (spelled_all (part ++ rest)) (subst AreBytes (spelled_all-append front (part ++ rest)) are)))

module _ (bytes : List ℕ) (v : ℕ) (c : Content) (are : AreBytes bytes) (file : IsFileOf v c bytes) where
  byte_ids : All AreBytes c.ids
  unfolding fields
  byte_ids = ids_are_bytes c.ids (middle (header_fields v c) (flat_map id_fields c.ids) _ (subst AreBytes file.spelled are))

  -- what is written of it in the second version is bytes
  pub upgrade_bytes : AreBytes (bytes_of 2 c)
  upgrade_bytes = bytes_of_are c byte_ids
