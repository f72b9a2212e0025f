-- Texts that are written one after the other, of a whole that is told beforehand.
use Rattle.std.proofs.Common.{◌≡◌, ℕ, ◌+◌, ◌<◌, ◌≤◌, List, [], ◌++◌, length, get_or, drop, Option, Some, None, refl, sym, ◌∙◌, ap, append_assoc, append-nil, subst}
use Rattle.std.proofs.lemmas.List.{at_drop_more, at_drop_all}
use Rattle.std.specs.{List.flat_map, Io.KnownBytes.Appends}
use Rattle.loc_io.specs.Reading.{WroteFront}
use Rattle.loc_io.proofs.Appending.{Appends-more, Wrote}

-- nothing was written
pub wrote_none : (o : Option (List ℕ)) (whole : List ℕ) → Wrote o o whole whole
wrote_none None whole = record { front = []; split = refl; bytes = tt }
wrote_none (Some x) whole = record { front = []; split = refl; bytes = sym (append-nil x) }

-- all was written
pub wrote_all : (a b : Option (List ℕ)) (whole rest : List ℕ) → rest ≡ [] → Wrote a b whole rest → Appends a b whole
wrote_all a b whole rest none so_far = subst (λ l. Appends a b l) (sym (so_far.split ∙ ap (λ l. so_far.front ++ l) none ∙ append-nil so_far.front)) so_far.bytes

-- Of a list's text, what is left from a member on was to come.
module _ {X : Type 0} (text : X → List ℕ) (xs : List X) (a b : Option (List ℕ)) (i : ℕ) (x : X)
    (less : i < length xs) (at : get_or xs i x ≡ x) (so_far : Wrote a b (flat_map text xs) (flat_map text (drop i xs))) where
  -- the text of a member, and what is left behind it
  split_is : flat_map text xs ≡ so_far.front ++ (text x ++ flat_map text (drop (i + 1) xs))
  split_is = so_far.split ∙ ap (λ l. so_far.front ++ l) (at_drop_more (flat_map text) xs i x less ∙ ap (λ y. text y ++ flat_map text (drop (i + 1) xs)) at)

  -- the text of that member was written
  pub wrote_member : (c : Option (List ℕ)) → Appends b c (text x) → Wrote a c (flat_map text xs) (flat_map text (drop (i + 1) xs))
  wrote_member c more = record {
    front = so_far.front ++ text x;
    split = split_is ∙ sym (append_assoc so_far.front (text x) (flat_map text (drop (i + 1) xs)));
    bytes = Appends-more a b c so_far.front (text x) so_far.bytes more;
  }

  -- a front of it was written
  pub wrote_front : (c : Option (List ℕ)) → WroteFront b c (text x) → WroteFront a c (flat_map text xs)
  wrote_front c (front, back, is, more) =
      let rest = flat_map text (drop (i + 1) xs) in (
        so_far.front ++ front,
        back ++ rest,
        split_is ∙ ap (λ l. so_far.front ++ (l ++ rest)) is ∙ ap (λ l. so_far.front ++ l) (append_assoc front back rest) ∙ sym (append_assoc so_far.front front (back ++ rest)),
        Appends-more a b c so_far.front front so_far.bytes more,
      )

-- nothing is left of a list's text
pub wrote_list : {X : Type 0} (text : X → List ℕ) (xs : List X) (a b : Option (List ℕ)) (i : ℕ) → length xs ≤ i → Wrote a b (flat_map text xs) (flat_map text (drop i xs)) → Appends a b (flat_map text xs)
wrote_list text xs a b i all so_far = wrote_all a b (flat_map text xs) (flat_map text (drop i xs)) (at_drop_all (flat_map text) xs i all) so_far
