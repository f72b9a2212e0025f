use Rattle.std.proofs.Common.{◌≡◌, ℕ, [], ◌∷◌, ◌++◌, ◌+◌, refl}
use Rattle.std.specs.Int.{w8}
use Rattle.loc_spec_index.specs.{declared.IndexFault.IndexFault, IndexFile.number, IndexFile.node_fields}
use Rattle.loc_file.specs.Readings.{Left, IsRead, IsRowStop, stop, two, three}
use Rattle.loc_file.proofs.Steps.{handed, stop-within, row-along, stop-along, read-none, read-append, fault-first, fault-behind}
use Rattle.loc_file.proofs.nodes.next_node.Goals as goal

pub returns-in_err-item-clause-err : goal.returns-in_err-item-clause-err
returns-in_err-item-clause-err c =
    handed c.from_residual.result _ _ c.from_residual.ensures.1
    (stop-within (node_fields c.args.edges c.args.corners c.args.nodes) (three c.args.edges (c.args.nodes + 1) (c.args.nodes + 1)) [] (λ ns. record { item = ns.0; left = ns.1; right = ns.2; side = 0; stamp = 0; extra = 0 }) _ (λ ns. refl) (read-none _) c.in_err-item.ensures.err)

pub returns-in_err-side-clause-err : goal.returns-in_err-side-clause-err
returns-in_err-side-clause-err c =
    handed c.from_residual-in_err-side.result _ _ c.from_residual-in_err-side.ensures.1
    (stop (record { item = c.in_ok-item.item; left = c.in_ok-item.left; right = c.in_ok-item.right; side = 0; stamp = 0; extra = 0 }) _ tt
    (fault-behind (three c.args.edges (c.args.nodes + 1) (c.args.nodes + 1) (c.in_ok-item.item, c.in_ok-item.left, c.in_ok-item.right)) _ c.in_ok-item.ensures.ok (fault-first _ _ (c.in_err-side.ensures.err 0))))

-- two numbers whose bounds are known by other words
two-stop : (b b' k k' : ℕ) {a : Left} {f : IndexFault} → b ≡ b' → k ≡ k' → IsRowStop (two b k) a f → IsRowStop (two b' k') a f
two-stop b b' k k' p q w = stop-along (λ n. two b' n) q (stop-along (λ n. two n k) p w)

two-read : (b b' k k' : ℕ) (ns : ℕ × ℕ) {a c : Left} → b ≡ b' → k ≡ k' → IsRead (two b k ns) a c → IsRead (two b' k' ns) a c
two-read b b' k k' ns p q r = row-along (λ n. two b' n ns) q (row-along (λ n. two n k ns) p r)

pub returns-in_err-stamp-clause-err : goal.returns-in_err-stamp-clause-err
returns-in_err-stamp-clause-err c =
    handed c.from_residual-in_err-stamp.result _ _ c.from_residual-in_err-stamp.ensures.1
    (stop-within (node_fields c.args.edges c.args.corners c.args.nodes) (two _ _) (three c.args.edges (c.args.nodes + 1) (c.args.nodes + 1) (c.in_ok-item.item, c.in_ok-item.left, c.in_ok-item.right) ++ number w8 3 c.in_ok-side.side ∷ [])
    (λ ns. record { item = c.in_ok-item.item; left = c.in_ok-item.left; right = c.in_ok-item.right; side = c.in_ok-side.side; stamp = ns.0; extra = ns.1 }) (λ ns. []) (λ ns. refl)
    (read-append (three c.args.edges (c.args.nodes + 1) (c.args.nodes + 1) (c.in_ok-item.item, c.in_ok-item.left, c.in_ok-item.right)) _ c.in_ok-item.ensures.ok c.in_ok-side.ensures.ok)
    (two-stop _ _ _ _ c.bound_at.ensures c.bound_at-2.ensures c.in_err-stamp.ensures.err))
