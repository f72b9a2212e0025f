-- Two lists of features that are filled. The words: `ListsState`, `no_lists`.
use Rattle.std.specs.Prelude.{ℕ, List, []}

-- the features that touch, and those that cover
pub record ListsState : Type 0 where
  pub touching : List ℕ
  pub covering : List ℕ

-- no features
abbrev pub no_lists : ListsState
no_lists = record { touching = []; covering = [] }
