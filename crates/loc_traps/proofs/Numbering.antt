-- The splits of the cut rows, one after another.
use Rattle.std.proofs.Common.{◌≡◌, ℕ, ◌+◌, Bool, List, [], ◌∷◌, ◌++◌, length, refl, sym, ◌∙◌, ap, subst, inl, inr, arith}
use Rattle.std.specs.Prelude.{Option, None, if◌then◌else◌}
use Rattle.std.specs.Bool.{then_some}
use Rattle.std.proofs.{Math.ListN.get_or-append, lemmas.List.length_push}
use Rattle.loc_spec_plane.specs.declared.Trap.{Trap}
use Rattle.loc_laws_traps.specs.Sets.{behind_left, before_right}
use Rattle.loc_traps.specs.{declared.map.Split.Split, declared.walk.Cut.Cut, Meaning.row_of, Splits.split_of}
use Rattle.loc_traps.specs.Walks.{cut_of, IsNumberedAt, IsNumbered}
use Rattle.loc_traps.proofs.Starts.{at_end, push_cases}

-- the split of one row, by the tests of its code
pub numbered_at : (rows : List Trap) (lo hi overs unders : ℕ) (has_before : Bool) (cut : Cut) (number_overs number_unders : ℕ) (begins ends starts : Bool) → number_overs ≡ overs → number_unders ≡ unders
    → begins ≡ behind_left (row_of rows cut.row).left lo → ends ≡ before_right (row_of rows cut.row).right hi → starts ≡ has_before
    → (before behind : Option ℕ) → before ≡ then_some begins (length rows + number_overs + number_unders) → behind ≡ then_some ends (length rows + number_overs + number_unders + (if starts then 1 else 0))
    → IsNumberedAt rows lo hi overs unders has_before cut (record { cut = cut.row; before = before; above = length rows + cut.over; below = length rows + number_overs + cut.under; behind = behind })
numbered_at rows lo hi overs unders has_before cut number_overs number_unders begins ends starts same_overs same_unders same_begins same_ends same_starts before behind is_before is_behind =
    let numbers : length rows + number_overs + number_unders ≡ length rows + overs + unders = omega arith in record {
      row = refl;
      before = is_before ∙ (ap (λ (b : Bool). then_some b (length rows + number_overs + number_unders)) same_begins ∙ ap (λ (n : ℕ). then_some (behind_left (row_of rows cut.row).left lo) n) numbers);
      above = refl;
      below = omega arith;
      behind = is_behind ∙ (ap (λ (b : Bool). then_some b (length rows + number_overs + number_unders + (if starts then 1 else 0))) same_ends ∙ (ap (λ (n : ℕ). then_some (before_right (row_of rows cut.row).right hi) (n + (if starts then 1 else 0))) numbers
          ∙ ap (λ (b : Bool). then_some (before_right (row_of rows cut.row).right hi) (length rows + overs + unders + (if b then 1 else 0))) same_starts));
    }

module _ (rows : List Trap) (lo hi overs unders : ℕ) (has_before : Bool) where
  pub numbered_none : (splits : List Split) → splits ≡ [] → IsNumbered rows lo hi overs unders has_before [] splits
  numbered_none splits none = subst (IsNumbered rows lo hi overs unders has_before []) (sym none) (record { many = omega arith; each = λ j less. absurd (omega arith) })

  -- one more
  pub numbered_more : (cuts cuts2 : List Cut) (splits splits2 : List Split) (cut : Cut) (split : Split) → cuts2 ≡ cuts ++ cut ∷ [] → splits2 ≡ splits ++ split ∷ [] → IsNumberedAt rows lo hi overs unders has_before cut split → IsNumbered rows lo hi overs unders has_before cuts splits → IsNumbered rows lo hi overs unders has_before cuts2 splits2
  numbered_more cuts cuts2 splits splits2 cut split more_cuts more_splits here so_far =
      subst (λ (c : List Cut). IsNumbered rows lo hi overs unders has_before c splits2) (sym more_cuts) (subst (λ (s : List Split). IsNumbered rows lo hi overs unders has_before (cuts ++ cut ∷ []) s) (sym more_splits) (record {
        many = (let a = length_push cuts cut in let b = length_push splits split in let m = so_far.many in omega arith);
        each = λ j less. elim (push_cases cuts cut j less) [
          | inl was ↦ subst (λ (c : Cut). IsNumberedAt rows lo hi overs unders has_before c (split_of (splits ++ split ∷ []) j)) (sym (get_or-append cuts (cut ∷ []) (record { row = 0; over = 0; under = 0 }) j was))
              (subst (λ (s : Split). IsNumberedAt rows lo hi overs unders has_before (cut_of cuts j) s) (sym (get_or-append splits (split ∷ []) (record { cut = 0; before = None; above = 0; below = 0; behind = None }) j (let m = so_far.many in omega arith))) (so_far.each j was))
          | inr at ↦ subst (λ (c : Cut). IsNumberedAt rows lo hi overs unders has_before c (split_of (splits ++ split ∷ []) j)) (sym (at_end cuts cut (record { row = 0; over = 0; under = 0 }) j at))
              (subst (λ (s : Split). IsNumberedAt rows lo hi overs unders has_before cut s) (sym (at_end splits split (record { cut = 0; before = None; above = 0; below = 0; behind = None }) j (let m = so_far.many in omega arith))) here)
        ];
      }))
