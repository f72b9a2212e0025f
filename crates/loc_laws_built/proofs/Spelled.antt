-- What is written of a content is bytes, where its ids are.
use Rattle.std.proofs.Common.{◌≡◌, ℕ, zero, suc, ◌+◌, ◌<◌, Bool, true, List, [], ◌∷◌, ◌++◌, length, map, refl, sym, ◌∙◌, ap, arith}
use Rattle.std.specs.{Prelude.All, Prelude.nat_lt, List.flat_map, List.list_all}
use Rattle.std.specs.Int.{byte_at, byte_len, bytes_high_first, cast_unsigned, w32, w64}
use Rattle.std.proofs.lemmas.Bool.{and_from, and_parts, lt-ltb, ltb-true}
use Rattle.loc_spec_index.specs.Content.{Content}
use Rattle.loc_spec_index.specs.IndexFile.{Field, magic, version, number, coordinate, text, order, fields, spelled, spelled_all, rows_from, id_fields, corner_fields, edge_fields, mark_fields, cover_fields, node_fields, none_or_next, parts}
use Rattle.loc_laws_order.proofs.Sets.{all_joined}
use Rattle.loc_laws_index.specs.IndexReading.{AreBytes}
use Rattle.loc_laws_index.proofs.Progress.{flat-rows, map-rows}
use Rattle.loc_laws_built.specs.Built.{BytesOf}

-- ---- bytes, by a test

abbrev are_small : List ℕ → Bool
are_small bytes = list_all (λ b. nat_lt b 256) bytes

small_are : (bytes : List ℕ) → AreBytes bytes → are_small bytes ≡ true
small_are [] are = refl
small_are (b ∷ bytes) are = and_from (nat_lt b 256) (are_small bytes) (lt-ltb b 256 (are 0)) (small_are bytes (λ i. are (suc i)))

are_bytes : (bytes : List ℕ) → are_small bytes ≡ true → AreBytes bytes
are_bytes [] small i = omega arith
are_bytes (b ∷ bytes) small zero = ltb-true b 256 (and_parts (nat_lt b 256) (are_small bytes) small).0
are_bytes (b ∷ bytes) small (suc i) = are_bytes bytes (and_parts (nat_lt b 256) (are_small bytes) small).1 i

byte_small : (k n : ℕ) → byte_at k n < 256
byte_small zero n = omega arith
byte_small (suc k) n = omega arith

number_small : (k n : ℕ) → are_small (bytes_high_first k n) ≡ true
number_small zero n = refl
number_small (suc k) n = and_from (nat_lt (byte_at k n) 256) (are_small (bytes_high_first k n)) (lt-ltb (byte_at k n) 256 (byte_small k n)) (number_small k n)

-- ---- fields

-- a text of bytes, or a field of another kind
abbrev is_small : Field → Bool
is_small (magic letters) = are_small letters
is_small (version found) = true
is_small (number w bound value) = true
is_small (coordinate value) = true
is_small (text bytes) = are_small bytes
is_small (order part row holds) = true

spelled_small : (f : Field) → is_small f ≡ true → are_small (spelled f) ≡ true
spelled_small (magic letters) small = small
spelled_small (version found) small = number_small 4 found
spelled_small (number w bound value) small = number_small (byte_len w) value
spelled_small (coordinate value) small = number_small 8 (cast_unsigned w64 value)
spelled_small (text bytes) small = small
spelled_small (order part row holds) small = refl

all_spelled : (fs : List Field) → list_all is_small fs ≡ true → are_small (spelled_all fs) ≡ true
all_spelled [] small = refl
all_spelled (f ∷ fs) small =
    let parts = and_parts (is_small f) (list_all is_small fs) small in
    all_joined (λ b. nat_lt b 256) (spelled f) (spelled_all fs) (spelled_small f parts.0) (all_spelled fs parts.1)

-- ---- rows

from : {X : Type 0} (row : List X → X → List Field) → ((earlier : List X) (x : X) → list_all is_small (row earlier x) ≡ true) → (earlier xs : List X) → list_all is_small (rows_from row earlier xs) ≡ true
from row each earlier [] = refl
from row each earlier (x ∷ xs) = all_joined is_small (row earlier x) (rows_from row (earlier ++ x ∷ []) xs) (each earlier x) (from row each (earlier ++ x ∷ []) xs)

mapped : {X : Type 0} (f : X → Field) → ((x : X) → is_small (f x) ≡ true) → (xs : List X) → list_all is_small (map f xs) ≡ true
mapped f each xs = ap (list_all is_small) (sym (map-rows f [] xs)) ∙ from (λ _ x. f x ∷ []) (λ _ x. and_from (is_small (f x)) true (each x) refl) [] xs

flat : {X : Type 0} (row : X → List Field) → ((x : X) → list_all is_small (row x) ≡ true) → (xs : List X) → list_all is_small (flat_map row xs) ≡ true
flat row each xs = ap (list_all is_small) (sym (flat-rows row [] xs)) ∙ from (λ _. row) (λ _. each) [] xs

ids_small : (ids : List (List ℕ)) → All AreBytes ids → list_all is_small (flat_map id_fields ids) ≡ true
ids_small [] are = refl
ids_small (id ∷ ids) are =
    all_joined is_small (id_fields id) (flat_map id_fields ids) (and_from (are_small id) true (small_are id (are 0 id (omega arith))) refl) (ids_small ids (λ i d lt. are (suc i) d (omega (arith, lt))))

cover_small : (features : ℕ) (earlier : List (List ℕ)) (list : List ℕ) → list_all is_small (cover_fields features earlier list) ≡ true
cover_small features earlier list = all_joined is_small (map (number w32 features) list) _ (mapped (number w32 features) (λ n. refl) list) refl

parts_small : (ps : List (List Field)) → list_all (λ part. list_all is_small part) ps ≡ true → list_all is_small (flat_map (λ part. part) ps) ≡ true
parts_small [] small = refl
parts_small (part ∷ ps) small =
    let both = and_parts (list_all is_small part) (list_all (λ part. list_all is_small part) ps) small in
    all_joined is_small part (flat_map (λ part. part) ps) both.0 (parts_small ps both.1)

fields_small : (c : Content) → All AreBytes c.ids → list_all is_small (fields 2 c) ≡ true
unfolding fields
fields_small c are = parts_small (parts 2 c)
    (and_from _ _ refl
    (and_from _ _ (ids_small c.ids are)
    (and_from _ _ (from corner_fields (λ earlier p. refl) [] c.corners)
    (and_from _ _ (from (edge_fields 2 (length c.corners) (length c.covers)) (λ earlier e. refl) [] c.edges)
    (and_from _ _ (from (mark_fields (length c.edges) (length c.ids)) (λ earlier m. refl) [] c.marks)
    (and_from _ _ (from (cover_fields (length c.ids)) (cover_small (length c.ids)) [] c.covers)
    (and_from _ _ (mapped (λ floor. number w32 (length c.edges + 1) (none_or_next floor)) (λ floor. refl) c.floors)
    (and_from _ _ (mapped (number w32 (length c.nodes + 1)) (λ n. refl) c.roots)
    (and_from _ _ (flat (node_fields (length c.edges) (length c.corners) (length c.nodes)) (λ n. refl) c.nodes) refl)))))))))

-- all that is written is bytes
pub bytes_of_are : BytesOf
bytes_of_are c are = are_bytes _ (all_spelled (fields 2 c) (fields_small c are))
