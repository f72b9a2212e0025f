-- What of a layer is in no part yet, and of that the features with a flag.
use Rattle.std.proofs.Common.{◌≡◌, ℕ, Bool, List, sym, ◌∙◌, ap, subst}
use Rattle.std.specs.Prelude.{get_or, length, nat_lt}
use Rattle.loc_rings.specs.Values.{Feature}
use Rattle.loc_rings.proofs.Flags.{chosen}
use Rattle.loc_parts.specs.Parts.{AreNumbersOf, IsRestOf, features_with, no_rings}
use Rattle.loc_parts.proofs.Flagged.{chosen-all, chosen-map, chosen-rising}

-- those whose flag passes a test
pub rest_chosen : (layer : List Feature) (test : Bool → Bool) (flags : List Bool) (ns : List ℕ) (features : List Feature) (ks : List ℕ) (fs : List Feature) → IsRestOf layer ns features
    → ks ≡ chosen test flags ns → fs ≡ chosen test flags features → IsRestOf layer ks fs
rest_chosen layer test flags ns features ks fs rest own are = record {
  numbers = subst (AreNumbersOf layer) (sym own) (record {
    rise = chosen-rising nat_lt test flags ns rest.numbers.rise;
    of_layer = chosen-all (λ n. nat_lt n (length layer)) test flags ns rest.numbers.of_layer;
  });
  are = are ∙ (ap (chosen test flags) rest.are ∙ (chosen-map (λ n. get_or layer n no_rings) test flags ns ∙ ap (λ ms. features_with ms layer) (sym own)));
}
