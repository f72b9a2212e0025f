use Rattle.std.proofs.Common.{◌≡◌, length, true, false, ◌||◌, refl, sym, ◌∙◌, ap}
use Rattle.std.specs.Prelude.{◌==◌, codes}
use Rattle.std.specs.Str.{bytes_eq}
use Rattle.std.proofs.lemmas.Bool.{or_from, or_left, or_right, true≢false}
use Rattle.std.proofs.lemmas.List.{length-map}
use Rattle.loc_spec_text.specs.Bytes.{after_word, first_word}
use Rattle.loc_wkt.proofs.geometry.word_fault.Goals as goal
use Rattle.loc_wkt.proofs.geometry.word_fault.Goals.{then-is_this_word, else-is_this_word, then-is_this_word-2-via-then-is_this_word-2, then-is_this_word-2-via-else-is_this_word-2+then-is_this_word-3, then-is_this_word-2-via-else-is_this_word-2+else-is_this_word-3+then-is_this_word-4}

pub returns-then-is_this_word-2 : goal.returns-then-is_this_word-2
returns-then-is_this_word-2 c =
    let tag = c.first_word.ensures.word in
    let after = ap first_word (sym c.first_word.ensures.rest) ∙ c.first_word-2.ensures.word in
    let some : (length (first_word c.args.text.now) == 0) ≡ false = ap (λ l. length l == 0) tag ∙ (ap (λ n. n == 0) (length-map c.first_word.result.0.now _) ∙ (sym c.is_empty.ensures ∙ c.if-is_empty.false)) in
    let known : (bytes_eq (first_word c.args.text.now) (codes "POLYGON") || bytes_eq (first_word c.args.text.now) (codes "MULTIPOLYGON")) ≡ true = elim c.if-is_this_word.branch [
      | then-is_this_word v ↦ or_left _ _ (ap (λ l. bytes_eq l (codes "POLYGON")) tag ∙ (sym c.is_this_word.ensures.letters ∙ v.if-is_this_word.true))
      | else-is_this_word v ↦ or_right _ _ (ap (λ l. bytes_eq l (codes "MULTIPOLYGON")) tag ∙ (sym v.is_this_word-else-is_this_word.ensures.letters ∙ (sym v.value-is ∙ c.if-not-is_this_word.false)))
    ] in
    let wide : ((bytes_eq (first_word (after_word c.args.text.now)) (codes "Z") || bytes_eq (first_word (after_word c.args.text.now)) (codes "M")) || bytes_eq (first_word (after_word c.args.text.now)) (codes "ZM")) ≡ true = elim c.then-is_this_word-2.branch [
      | then-is_this_word-2-via-then-is_this_word-2 v ↦ or_left _ _ (or_left _ _ (ap (λ l. bytes_eq l (codes "Z")) after ∙ (sym c.is_this_word-2.ensures.letters ∙ v.if-is_this_word-2.true)))
      | then-is_this_word-2-via-else-is_this_word-2+then-is_this_word-3 v ↦ or_left _ _ (or_right _ _ (ap (λ l. bytes_eq l (codes "M")) after ∙ (sym v.is_this_word-else-is_this_word-2.ensures.letters ∙ v.if-is_this_word-3.true)))
      | then-is_this_word-2-via-else-is_this_word-2+else-is_this_word-3+then-is_this_word-4 v ↦ or_right _ _ (ap (λ l. bytes_eq l (codes "ZM")) after ∙ (sym v.is_this_word-else-is_this_word-3.ensures.letters ∙ v.if-is_this_word-4.true))
    ] in
    rw (some, known, wide) refl

pub returns : goal.returns
returns c =
    let tag = c.first_word.ensures.word in
    let after = ap first_word (sym c.first_word.ensures.rest) ∙ c.first_word-2.ensures.word in
    let some : (length (first_word c.args.text.now) == 0) ≡ false = ap (λ l. length l == 0) tag ∙ (ap (λ n. n == 0) (length-map c.first_word.result.0.now _) ∙ (sym c.is_empty.ensures ∙ c.if-is_empty.false)) in
    let known : (bytes_eq (first_word c.args.text.now) (codes "POLYGON") || bytes_eq (first_word c.args.text.now) (codes "MULTIPOLYGON")) ≡ true = elim c.if-is_this_word.branch [
      | then-is_this_word v ↦ or_left _ _ (ap (λ l. bytes_eq l (codes "POLYGON")) tag ∙ (sym c.is_this_word.ensures.letters ∙ v.if-is_this_word.true))
      | else-is_this_word v ↦ or_right _ _ (ap (λ l. bytes_eq l (codes "MULTIPOLYGON")) tag ∙ (sym v.is_this_word-else-is_this_word.ensures.letters ∙ (sym v.value-is ∙ c.if-not-is_this_word.false)))
    ] in
    let plain : ((bytes_eq (first_word (after_word c.args.text.now)) (codes "Z") || bytes_eq (first_word (after_word c.args.text.now)) (codes "M")) || bytes_eq (first_word (after_word c.args.text.now)) (codes "ZM")) ≡ false =
    or_from _ _ (or_from _ _ (ap (λ l. bytes_eq l (codes "Z")) after ∙ (sym c.is_this_word-2.ensures.letters ∙ c.if-is_this_word-2.false))
    (ap (λ l. bytes_eq l (codes "M")) after ∙ (sym c.is_this_word-else-is_this_word-2.ensures.letters ∙ c.if-is_this_word-3.false)))
    (ap (λ l. bytes_eq l (codes "ZM")) after ∙ (sym c.is_this_word-else-is_this_word-3.ensures.letters ∙ c.if-is_this_word-4.false)) in
    rw (some, known, plain) refl

pub returns-then-not-is_this_word : goal.returns-then-not-is_this_word
returns-then-not-is_this_word c = let tag = c.first_word.ensures.word in
    let some : (length (first_word c.args.text.now) == 0) ≡ false = ap (λ l. length l == 0) tag ∙ (ap (λ n. n == 0) (length-map c.first_word.result.0.now _) ∙ (sym c.is_empty.ensures ∙ c.if-is_empty.false)) in
    let other : (bytes_eq (first_word c.args.text.now) (codes "POLYGON") || bytes_eq (first_word c.args.text.now) (codes "MULTIPOLYGON")) ≡ false = elim c.if-is_this_word.branch [
      | then-is_this_word v ↦ absurd (true≢false (sym v.if-is_this_word.true ∙ (sym v.value-is ∙ c.if-not-is_this_word.true)))
      | else-is_this_word v ↦ or_from _ _ (ap (λ l. bytes_eq l (codes "POLYGON")) tag ∙ (sym c.is_this_word.ensures.letters ∙ v.if-is_this_word.false)) (ap (λ l. bytes_eq l (codes "MULTIPOLYGON")) tag ∙ (sym v.is_this_word-else-is_this_word.ensures.letters ∙ (sym v.value-is ∙ c.if-not-is_this_word.true)))
    ] in rw (some, other) refl
