use Rattle.std.proofs.Common.{◌≡◌, ◌∙◌, ℕ, true, false, Bool, [], refl, sym, ap, subst}
use Rattle.std.specs.Prelude.{if◌then◌else◌, not, ◌==◌, Result, Ok, Err, IfOk, IfErr}
use Rattle.std.proofs.lemmas.Bool.{ne_eqb}
use Rattle.loc_spec_index.specs.{declared.IndexFault.IndexFault, IndexFile.source_fields}
use Rattle.loc_file.specs.Readings.{Left, IsRead, IsFaultIn, IsRowStop, stop, no_memory, two}
use Rattle.loc_file.proofs.edges.next_source.Goals as goal

-- the version names sources
named : (v corners : ℕ) (source : ℕ × ℕ) → (v ≡ 1 → ⊥) → two corners corners source ≡ source_fields v corners source
named v corners source other = ap (λ b. if b then [] else two corners corners source) (sym (ne_eqb v 1 other)) ∙ turned (v == 1)
  where
    turned : (b : Bool) → (if b then [] else two corners corners source) ≡ (if not b then two corners corners source else [])
    turned true = refl
    turned false = refl

named-stop : (v corners : ℕ) (a : Left) (f : IndexFault) → (v ≡ 1 → ⊥) → IsRowStop (two corners corners) a f → IsRowStop (source_fields v corners) a f
named-stop v corners a f other (stop x g u w) = stop x g u (subst (λ fs. IsFaultIn fs a g) (named v corners x other) w)
named-stop v corners a _ other no_memory = no_memory

-- what a reader of two numbers finds
named-ok : (v corners : ℕ) (a b : Left) (r : Result (ℕ × ℕ) IndexFault) → (v ≡ 1 → ⊥) → IfOk r (λ source. IsRead (two corners corners source) a b) → IfOk r (λ source. IsRead (source_fields v corners source) a b)
named-ok v corners a b (Ok source) other read = subst (λ fs. IsRead fs a b) (named v corners source other) read
named-ok v corners a b (Err f) other read = tt

named-err : (v corners : ℕ) (a : Left) (r : Result (ℕ × ℕ) IndexFault) → (v ≡ 1 → ⊥) → IfErr r (IsRowStop (two corners corners) a) → IfErr r (IsRowStop (source_fields v corners) a)
named-err v corners a (Ok source) other wrong = tt
named-err v corners a (Err f) other wrong = named-stop v corners a f other wrong

pub returns-else-version-eq1-clause-err : goal.returns-else-version-eq1-clause-err
returns-else-version-eq1-clause-err c = named-err c.args.version c.args.corners _ c.two_numbers.result c.if-version-eq1.false c.two_numbers.ensures.err
