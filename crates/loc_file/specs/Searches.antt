-- What a held file finds, and where it stands. The words:
--   answer_of   what a search found, as a locator answers it
--   IsIndexFor  a content is a true index, and a table is its own
--   IsNodeIn    the numbers of a node are those of an edge and of nodes
use Rattle.std.specs.Prelude.{◌≡◌, ℕ, ◌<◌, ◌≤◌, length, Ok, Err}
use Rattle.loc_spec_text.specs.Limits.{most_pieces}
use Rattle.loc_spec_index.specs.{declared.NodeRow.NodeRow, Content.Content, Content.table_in, TrueIndex.IsTrueIndex}
use Rattle.loc_spec_plane.specs.Tables.{Table, IsTable}
use Rattle.loc_spec_index.specs.Search.{Found}
use Rattle.loc_place.specs.Answers.{Answer}

-- a place, or the version in which the search was given up
abbrev pub answer_of : Found → Answer
answer_of (Ok place) = Ok place
answer_of (Err version) = Err (record { version = version })

-- the content is a true index, and the table is its own, in order and not too large
pub record IsIndexFor (c : Content) (t : Table) : Type 0 where
  pub table_is : t ≡ table_in c
  pub in_order : IsTable t
  pub few_edges : length c.edges ≤ most_pieces
  pub is_true : IsTrueIndex c

-- the item is the number of an edge, and the pointers are numbers of nodes or 0
pub record IsNodeIn (edges nodes : ℕ) (row : NodeRow) : Type 0 where
  pub item : row.item < edges
  pub left : row.left ≤ nodes
  pub right : row.right ≤ nodes
  pub extra : row.extra ≤ nodes
