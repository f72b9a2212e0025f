use Rattle.std.proofs.Common.{ℕ, ◌<◌, ◌≡◌, Option, Some, get_or}
use Rattle.std.specs.Prelude.{slice_get}
use Rattle.loc_pool.specs.declared.Link.{Link}
use Rattle.loc_persist.specs.Numbered.{IsNumber}
use Rattle.loc_verify.proofs.versions.has_roots.Given as goal

-- the roots before are those of the tree
abbrev pub invariant-loop-version : goal.invariant-loop-version
invariant-loop-version l = (version : ℕ) → version < l.version → (root : Option Link) → slice_get l.tree.roots version ≡ Some root → IsNumber l.tree.rows root (get_or l.held.content.roots version 0)
