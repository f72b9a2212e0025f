-- The nodes that a walk meets are there.
use Rattle.std.proofs.Common.{◌≡◌, ℕ, ◌≤◌, length, ◌∙◌, ap}
use Rattle.loc_spec_plane.specs.Tables.{Table}
use Rattle.loc_spec_index.specs.{declared.NodeRow.NodeRow, Nodes.Side, Nodes.child, Content.Content, Content.table_in}
use Rattle.loc_laws_index.proofs.FileFacts as laws
use Rattle.loc_laws_index.proofs.FlawKinds.{as_many}
use Rattle.loc_file.specs.Searches.{IsNodeIn}

-- a child is a node that is there
pub child-within : (ne nn : ℕ) (row : NodeRow) (side : Side) (version : ℕ) → IsNodeIn ne nn row → child row side version ≤ nn
child-within ne nn row side version h = laws.child-within row side version nn h.left h.right h.extra

-- as many edges as the table of a content has
pub edges-there : (c : Content) (t : Table) → t ≡ table_in c → length t.ends ≡ length c.edges
edges-there c t e = ap (λ (k : Table). length k.ends) e ∙ as_many c

-- and as many corners
pub corners-there : (c : Content) (t : Table) → t ≡ table_in c → length t.corners ≡ length c.corners
unfolding table_in
corners-there c t e = ap (λ (k : Table). length k.corners) e
