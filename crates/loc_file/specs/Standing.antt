-- Where a held file stands, as laws: no edges of its table conflict (index_apart), and what it finds is the place of the point (index_finds). The words:
-- `index_apart`, `index_finds`.
use Rattle.std.specs.Prelude.{IsOkAnd}
use Rattle.std.proofs.Common.{sym, subst}
use Rattle.loc_spec_plane.specs.{Points.Point, Tables.Table, Tables.IsTable, Tables.NoConflict, Places.IsPlace}
use Rattle.loc_spec_index.specs.{Content.Content, Content.table_in, Search.search_for}
use Rattle.loc_laws_search.proofs.FindsPlace.{search_finds_place}
use Rattle.loc_file.specs.Searches.{answer_of, IsIndexFor}

pub index_apart : (c : Content) (t : Table) → IsIndexFor c t → NoConflict t
index_apart c t s = subst NoConflict (sym s.table_is) s.is_true.apart

pub index_finds : (c : Content) (t : Table) (p : Point) → IsIndexFor c t → IsOkAnd (answer_of (search_for t c.nodes p c.roots)) (IsPlace t p)
index_finds c t p s =
    subst (λ u. IsOkAnd (answer_of (search_for u c.nodes p c.roots)) (IsPlace u p)) (sym s.table_is)
    (let f = search_finds_place c (subst IsTable s.table_is s.in_order) s.is_true s.few_edges p in
    subst (λ found. IsOkAnd (answer_of found) (IsPlace (table_in c) p)) (sym f.1) f.2)
