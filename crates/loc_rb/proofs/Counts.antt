-- Counts of calls add up.
use Rattle.std.proofs.Common.{ℕ, refl, ◌∙◌, ◌+◌, ◌≤◌, arith}
use Rattle.loc_rb.specs.Nodes.{Nodes, Within, KeepsItems}

pub keeps-trans : (n m p : Nodes) → KeepsItems n m → KeepsItems m p → KeepsItems n p
keeps-trans n m p a b l x e = let o = b l x e in let q = a o.0 o.1 o.2 in (q.0, q.1, q.2, q.3 ∙ o.3)

-- no call changes nothing
pub within-none : (n : Nodes) → Within 0 0 n n
within-none n = record { made = omega arith; changed = omega arith; spare = omega arith; kept = refl; items = λ link row is. (link, row, is, refl) }

-- counts of two runs of calls add up
pub within-trans : (k j k' j' : ℕ) (n m p : Nodes) → Within k j n m → Within k' j' m p → Within (k + k') (j + j') n p
within-trans k j k' j' n m p a b = record {
  made = (let x = a.made in let y = b.made in omega (arith, x, y));
  changed = (let x = a.changed in let y = b.changed in omega (arith, x, y));
  spare = (let x = a.spare in let y = b.spare in omega (arith, x, y));
  kept = b.kept ∙ a.kept;
  items = keeps-trans n m p a.items b.items;
}

-- fewer changes are within more
pub within-more : (k j i : ℕ) (n m : Nodes) → Within k j n m → j ≤ i → Within k i n m
within-more k j i n m a h = record { made = a.made; changed = (let x = a.changed in omega (arith, x, h)); spare = (let x = a.spare in omega (arith, x, h)); kept = a.kept; items = a.items }
