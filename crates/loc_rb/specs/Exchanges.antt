-- How a store may exchange nodes on `change`: in place, or by copies.
use Rattle.std.specs.Prelude.{◌≡◌, ◌≢◌, true, Option, Some, None}
use Rattle.loc_pool.specs.{declared.Link.Link, declared.Turn.Turn}
use Rattle.loc_rb.specs.{Trees.Row, Trees.with_child, Nodes.Nodes}
pub use Rattle.loc_rb.specs.Nodes.{Exchanges}

-- one pointer is written in place
pub record InPlace (old now : Nodes) (at : Link) (turn : Turn) (to : Option Link) : Type 0 where
  pub here : (row : Row) → old.rows at ≡ Some row → now.rows at ≡ Some (with_child turn to row)
  pub others : (link : Link) → link ≢ at → now.rows link ≡ old.rows link
  pub current : (link : Link) → now.current link ≡ old.current link
  pub root : now.root ≡ old.root

-- the result is a copy of `at` with one pointer changed, and `at` may be current no longer
pub record Copies (old now : Nodes) (at result : Link) (turn : Turn) (to : Option Link) : Type 0 where
  pub fresh : old.rows result ≡ None
  pub here : (row : Row) → old.rows at ≡ Some row → now.rows result ≡ Some (with_child turn to row)
  pub new : now.current result ≡ true
  pub others : (link : Link) → link ≢ result → now.rows link ≡ old.rows link
  pub current : (link : Link) → link ≢ at → old.current link ≡ true → now.current link ≡ true
  pub root : now.root ≡ old.root
