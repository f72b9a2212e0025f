-- The row of a group is read back as its two fields: each stands between quotes, and what stands there is doubled where it is a quote.
use Rattle.std.proofs.Common.{◌≡◌, ℕ, zero, suc, ◌+◌, ◌<◌, ◌≤◌, false, List, [], ◌∷◌, ◌++◌, map, flat_map, length, Some, refl, sym, ◌∙◌, ap, ap₂, inl, inr, arith, append_assoc, length-append, add-one}
use Rattle.std.specs.Prelude.{codes, All, ◌==◌}
use Rattle.std.specs.List.{list_any}
use Rattle.std.proofs.lemmas.Bool.{cases_Bool, or_parts, eqb-true}
use Rattle.csv.specs.{Machine.next_record, Reading.default_config, Reading.records_from, Reading.strip_bom}
use Rattle.csv.specs.Writing.{default_writer, escaped}
use Rattle.csv.specs.declared.parser.State.TheVariants as st
use Rattle.csv.proofs.RoundTrip.{after-quote-same, quoted-run, record-same}
use Rattle.loc_spec_text.specs.{Bytes.Text, Points.ended, Points.quoted_byte}
use Rattle.loc_spec_groups.specs.{Groups.Group, GroupTexts.group_row, GroupTexts.polygons_text}
use Rattle.loc_laws_grouptext.specs.Laws.{AreOnGrid, fields_of, geometry_of, GroupsRead, HasNoQuotes}
use Rattle.loc_laws_grouptext.proofs.NoQuotes.{polygons_bare}

-- the default writer's way to write what stands between quotes
doubled : (text : Text) → flat_map quoted_byte text ≡ escaped default_writer text
unfolding escaped
doubled [] = refl
doubled (b ∷ text) = elim (cases_Bool (b == 34)) [
  | inl quote ↦ rw quote (ap (λ (l : Text). b ∷ b ∷ l) (doubled text) ∙ (let e : b ≡ 34 = eqb-true b 34 quote in ap (λ k. k ∷ b ∷ escaped default_writer text) e))
  | inr other ↦ rw other (ap (λ (l : Text). b ∷ l) (doubled text))
]

-- what has no quote stands as it is
bare : (text : Text) → HasNoQuotes text → escaped default_writer text ≡ text
unfolding escaped
bare [] none = refl
bare (b ∷ text) none = let parts = or_parts (b == 34) (list_any (λ c. c == 34) text) none in rw parts.0 (ap (λ (l : Text). b ∷ l) (bare text parts.1))

-- a quote begins a field
quote-start : (fields : List Text) (tail : Text) → next_record default_config st.StartField fields [] (34 ∷ tail) ≡ next_record default_config st.InQuoted fields [] tail
unfolding next_record
quote-start fields tail = refl

comma : (fields : List Text) (x tail : Text) → next_record default_config st.InField fields x (44 ∷ tail) ≡ next_record default_config st.StartField (fields ++ (x ∷ [])) [] tail
unfolding next_record
comma fields x tail = refl

line-end : (fields : List Text) (x tail : Text) → next_record default_config st.InField fields x (10 ∷ tail) ≡ Some (fields ++ (x ∷ []), st.StartRecord, tail)
unfolding next_record
line-end fields x tail = refl

-- a field between quotes, and what comes behind it
quoted-field : (fields : List Text) (x : Text) (c : ℕ) (tail : Text) → (c == 34) ≡ false → next_record default_config st.StartField fields [] (34 ∷ (escaped default_writer x ++ (34 ∷ c ∷ tail))) ≡ next_record default_config st.InField fields x (c ∷ tail)
quoted-field fields x c tail n = quote-start fields (escaped default_writer x ++ (34 ∷ c ∷ tail)) ∙ (quoted-run fields [] x (c ∷ tail) ∙ after-quote-same fields x c tail n)

-- two fields between quotes are a record
two-fields : (x y tail : Text) → next_record default_config st.StartRecord [] [] (34 ∷ (escaped default_writer x ++ (34 ∷ 44 ∷ 34 ∷ (escaped default_writer y ++ (34 ∷ 10 ∷ tail))))) ≡ Some (x ∷ y ∷ [], st.StartRecord, tail)
two-fields x y tail =
    record-same [] [] 34 (escaped default_writer x ++ (34 ∷ 44 ∷ 34 ∷ (escaped default_writer y ++ (34 ∷ 10 ∷ tail)))) refl refl
    ∙ (quoted-field [] x 44 (34 ∷ (escaped default_writer y ++ (34 ∷ 10 ∷ tail))) refl
    ∙ (comma [] x (34 ∷ (escaped default_writer y ++ (34 ∷ 10 ∷ tail)))
    ∙ (quoted-field (x ∷ []) y 10 tail refl ∙ line-end (x ∷ []) y tail)))

-- the row of a group
row-is : (scale : ℕ) (group : Group) (tail : Text) → HasNoQuotes (geometry_of scale group) → group_row scale group ++ tail ≡ 34 ∷ (escaped default_writer (geometry_of scale group) ++ (34 ∷ 44 ∷ 34 ∷ (escaped default_writer group.id ++ (34 ∷ 10 ∷ tail))))
row-is scale group tail none =
    let g : Text = polygons_text scale group.polygons in
    let i : Text = flat_map quoted_byte group.id in
    shape (codes "MULTIPOLYGON ") g i tail ∙ ap₂ (λ (a b : Text). 34 ∷ (a ++ (34 ∷ 44 ∷ 34 ∷ (b ++ (34 ∷ 10 ∷ tail))))) (sym (bare (geometry_of scale group) none)) (doubled group.id)
  where
    shape : (m g i tail : Text) → ((((((34 ∷ m) ++ g) ++ (34 ∷ 44 ∷ 34 ∷ [])) ++ i) ++ (34 ∷ [])) ++ (10 ∷ [])) ++ tail ≡ 34 ∷ ((m ++ g) ++ (34 ∷ 44 ∷ 34 ∷ (i ++ (34 ∷ 10 ∷ tail))))
    shape m g i tail = simp append_assoc

pub row-read : (scale : ℕ) (group : Group) (tail : Text) → HasNoQuotes (geometry_of scale group) → next_record default_config st.StartRecord [] [] (group_row scale group ++ tail) ≡ Some (fields_of scale group, st.StartRecord, tail)
row-read scale group tail none = ap (next_record default_config st.StartRecord [] []) (row-is scale group tail none) ∙ two-fields (geometry_of scale group) group.id tail

-- the rows, where the records are more than the groups by far
rows-read : (scale : ℕ) (groups : List Group) (n : ℕ) → All (λ group. AreOnGrid group.polygons) groups → length groups < n → records_from default_config n st.StartRecord (flat_map (group_row scale) groups) ≡ map (fields_of scale) groups
unfolding records_from next_record
rows-read scale groups zero each few = absurd (omega arith)
rows-read scale [] (suc n) each few = refl
rows-read scale (group ∷ groups) (suc n) each few =
    rw (row-read scale group (flat_map (group_row scale) groups) (polygons_bare scale group.polygons (each 0 group (omega arith)))) (ap (λ (l : List (List Text)). fields_of scale group ∷ l) (rows-read scale groups n (λ k d lt. each (suc k) d (omega arith)) (omega arith)))

long : (scale : ℕ) (groups : List Group) → length groups ≤ length (flat_map (group_row scale) groups)
long scale [] = omega arith
long scale (group ∷ groups) =
    let rest = long scale groups in
    let both = length-append (group_row scale group) (flat_map (group_row scale) groups) in
    let some : 1 ≤ length (group_row scale group) = omega arith in
    omega (arith, rest, both, some)

header-read : (rest : Text) → next_record default_config st.StartRecord [] [] (ended (codes "wkt,id") ++ rest) ≡ Some (codes "wkt" ∷ codes "id" ∷ [], st.StartRecord, rest)
unfolding next_record
header-read rest = refl

-- one record more
unrolled : (scale : ℕ) (groups : List Group) (n : ℕ) → records_from default_config (n + 1) st.StartRecord (ended (codes "wkt,id") ++ flat_map (group_row scale) groups) ≡ (codes "wkt" ∷ codes "id" ∷ []) ∷ records_from default_config n st.StartRecord (flat_map (group_row scale) groups)
unfolding records_from
unrolled scale groups n = rw (add-one n) (rw (header-read (flat_map (group_row scale) groups)) refl)

pub groups_read : GroupsRead
unfolding strip_bom
groups_read scale groups each =
    let many : length groups < length (ended (codes "wkt,id") ++ flat_map (group_row scale) groups) = (let l = long scale groups in let both = length-append (ended (codes "wkt,id")) (flat_map (group_row scale) groups) in let seven : length (ended (codes "wkt,id")) ≡ 7 = refl in omega (arith, l, both, seven)) in
    unrolled scale groups (length (ended (codes "wkt,id") ++ flat_map (group_row scale) groups)) ∙ ap (λ (l : List (List Text)). (codes "wkt" ∷ codes "id" ∷ []) ∷ l) (rows-read scale groups (length (ended (codes "wkt,id") ++ flat_map (group_row scale) groups)) each many)
