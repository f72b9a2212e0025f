-- The rows of a legend whose touching features are those of the marks are those of a content.
use Rattle.std.proofs.Common.{◌≡◌, ℕ, ◌<◌, true, List, [], length, get_or, Option}
use Rattle.std.specs.Prelude.{nat_lt}
use Rattle.std.proofs.lemmas.List.FromFn.{fill_by_all}
use Rattle.loc_spec_plane.specs.{Covers.feature_count, Covers.has_at, Lists.IsRisingListOf}
use Rattle.loc_spec_plane.specs.Tables.{Table, edge_numbers, has}
use Rattle.loc_spec_index.specs.Content.{Content, cover_numbers, table_in}
use Rattle.loc_laws_rays.proofs.Members.{feature_below}
use Rattle.loc_cover.specs.Legends.{FitsTable, LegendRows}
use Rattle.loc_cover.proofs.Sound.{marked_there}
use Rattle.loc_batch.specs.Marked.{features_where}
use Rattle.loc_batch.proofs.Marks.{listed, listed_only}
use Rattle.loc_indexed.specs.IndexedCourses.{rows_in}

at_corner : (t : Table) (c f : ℕ) → has_at t c f ≡ true → f < feature_count t
at_corner t c f = marked_there t c f (edge_numbers t)

on_edge : (t : Table) (e f : ℕ) → has t f e ≡ true → f < feature_count t
on_edge t e f = feature_below t f e

-- the features at each corner and on each edge
pub corner_listed : (t : Table) (c : ℕ) → IsRisingListOf nat_lt (has_at t c) (features_where t (has_at t c))
corner_listed t c = listed t (has_at t c) (at_corner t c)

pub edge_listed : (t : Table) (e : ℕ) → IsRisingListOf nat_lt (λ f. has t f e) (features_where t (λ f. has t f e))
edge_listed t e = listed t (λ f. has t f e) (on_edge t e)

same : (a a' b b' d d' e e' : List (List ℕ)) (g g' : List ℕ) (h h' : List (Option ℕ)) → a ≡ a' → b ≡ b' → d ≡ d' → e ≡ e' → g ≡ g' → h ≡ h'
    → ◌≡◌ {A = LegendRows} (record { ids = a; on_corner = b; on_edge = d; lists = e; above = g; floors = h }) (record { ids = a'; on_corner = b'; on_edge = d'; lists = e'; above = g'; floors = h' })
same a a' b b' d d' e e' g g' h h' p q r s u v = cc

-- the rows are those of the content
pub rows_are : (c : Content) (rows : LegendRows) → rows.ids ≡ c.ids → rows.lists ≡ c.covers → rows.above ≡ cover_numbers c → rows.floors ≡ c.floors → FitsTable (table_in c) rows → rows ≡ rows_in c
unfolding rows_in
rows_are c rows ids lists above floors fits =
    let t = table_in c in
    same _ _ _ _ _ _ _ _ _ _ _ _ ids
    (fill_by_all (λ n. features_where t (has_at t n)) rows.on_corner (length t.corners) [] fits.as_many_corners (λ n less. listed_only t (has_at t n) (at_corner t n) (get_or rows.on_corner n []) (fits.on_corner n less)))
    (fill_by_all (λ e. features_where t (λ f. has t f e)) rows.on_edge (length t.ends) [] fits.as_many_edges (λ e less. listed_only t (λ f. has t f e) (on_edge t e) (get_or rows.on_edge e []) (fits.on_edge e less)))
    lists above floors
