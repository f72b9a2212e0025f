-- What was written in memory is read back.
use Rattle.std.proofs.Common.{◌≡◌, ℕ, ◌≤◌, List, [], ◌++◌, Option, Some, None, Ok, refl, sym, ◌∙◌, ap, subst}
use Rattle.std.specs.Io.KnownBytes.{Appends}
use Rattle.loc_spec_text.specs.declared.Form.TheVariants.{Lines}
use Rattle.loc_rings.specs.Values.{Feature}
use Rattle.loc_csvform.specs.{Layer.layer_of, Faults.IsFaultOf, declared.faults.LayerFault.LayerFault}
use Rattle.loc_csvform.specs.declared.faults.LayerFault.TheVariants as f
use Rattle.loc_gen.specs.{declared.kinds.Kind.Kind, Layers.layer_text, Layers.limit_of}
use Rattle.loc_trial.specs.Generated.{generated}
use Rattle.loc_trial.proofs.LayerTexts.{layer_read}

-- what a fresh sink in memory holds is the text that was written
pub text_is : (old new : Option (List ℕ)) (text bytes : List ℕ) → old ≡ Some [] → new ≡ Some bytes → Appends old new text → bytes ≡ text
text_is None new text bytes e h w = absurd (cc e)
text_is (Some x) None text bytes e h w = absurd (cc h)
text_is (Some x) (Some y) text bytes e h w =
    let none : x ≡ [] = cc e in
    let same : y ≡ bytes = cc h in
    sym same ∙ w ∙ ap (λ l. l ++ text) none

-- what was read is the generated layer
pub one_layer : (kind : Kind) (n shift : ℕ) (bytes : List ℕ) (layer : List Feature) → n ≤ limit_of kind → bytes ≡ layer_text kind n shift → layer_of Lines 0 bytes ≡ Ok layer → layer ≡ generated kind n shift
one_layer kind n shift bytes layer within is read =
    cc (sym read ∙ ap (layer_of Lines 0) is ∙ layer_read kind n shift within)

-- and its text has no fault
pub no_fault_of : (kind : Kind) (n shift : ℕ) (bytes : List ℕ) (fault : LayerFault) → n ≤ limit_of kind → bytes ≡ layer_text kind n shift → IsFaultOf (layer_of Lines 0 bytes) fault → fault ≡ f.NoMemory
no_fault_of kind n shift bytes fault within is of = by fault (subst (λ r. IsFaultOf r fault) (ap (layer_of Lines 0) is ∙ layer_read kind n shift within) of)
  where
    by : (fault : LayerFault) → IsFaultOf (Ok (generated kind n shift)) fault → fault ≡ f.NoMemory
    by f.NoMemory of = refl
    by f.NoColumn of = absurd (cc of)
    by (f.Ragged row) of = absurd (cc of)
    by (f.BadText row) of = absurd (cc of)
    by (f.LongId row) of = absurd (cc of)
    by (f.Text row fault) of = absurd (cc of.0)
    by (f.ManyFeatures row) of = absurd (cc of)
    by (f.ManyPoints row) of = absurd (cc of)
