use Rattle.std.proofs.Common.{ap, rules, string_bytes}
use Rattle.loc_io.proofs.Lookup.{set_puts, push_puts}
use Rattle.loc_io.proofs.mem_file.put.Goals as goal

pub returns-in-Some-clause-ok : goal.returns-in-Some-clause-ok
returns-in-Some-clause-ok c = set_puts _ _ _ c.index_mut.result.now _ (search rules) (ap (λ f. string_bytes f.name) c.index_mut.ensures.value)

pub returns-clause-ok : goal.returns-clause-ok
returns-clause-ok c q =
    rw c.in_ok-push.ensures.items (push_puts _ _ _ (search rules) (search rules) q)
