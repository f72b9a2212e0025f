-- There is nothing.
use Rattle.std.proofs.Common.{false, sym, ap, subst, ◌∙◌}
use Rattle.loc_persist.specs.{Stored.Stored, Meaning.meaning, Meaning.IsKept}
use Rattle.loc_persist.proofs.Meanings.{kept-none, meaning-none}
use Rattle.loc_persist.proofs.versions.Versions.new.Goals as goal

pub invariant_of-result : goal.invariant_of-result
invariant_of-result c = subst (λ (s : Stored). IsKept s 0 0 0 false) (sym c.new.ensures) kept-none

pub returns : goal.returns
returns c = ap (λ (s : Stored). meaning s 0 0 0 false) c.new.ensures ∙ meaning-none
