-- How far a node follows a list, from how far its children do.
use Rattle.std.proofs.Common.{◌≡◌, ◌≢◌, ℕ, zero, suc, ◌+◌, ◌-◌, ◌≤◌, List, [], ◌∷◌, ◌++◌, length, drop, refl, sym, ◌∙◌, ap, subst, arith, length-append, append_assoc, add-one, Some}
use Rattle.std.specs.Prelude.{slice_get}
use Rattle.std.proofs.{Math.Seq.drop-cons, lemmas.Option.get_or_from_slice_get, lemmas.Option.slice_get_within}
use Rattle.loc_spec_index.specs.declared.NodeRow.{NodeRow}
use Rattle.loc_spec_index.specs.Nodes.{Side, Left, Right, Reads, nothing, node, child_of, led_to, row_of}
use Rattle.loc_laws_index.proofs.Reading.{parts, reads-unique}
use Rattle.loc_verify.specs.declared.reading.Followed.{Followed}
use Rattle.loc_verify.specs.declared.reading.Followed.TheVariants.{Past, Differs, TooDeep}
use Rattle.loc_verify.specs.Readings.{HasLongPath, IsFollowed, IsReadFrom, PartsFrom, StaysWithin}

-- a list from a place on begins with what stands there
drop_at : (xs : List ℕ) (i x : ℕ) → slice_get xs i ≡ Some x → drop i xs ≡ x ∷ drop (i + 1) xs
drop_at xs i x h = drop-cons xs i 0 (slice_get_within xs i x h) ∙ (ap (λ z. z ∷ drop (suc i) xs) (get_or_from_slice_get xs i x 0 h) ∙ ap (λ k. x ∷ drop k xs) (sym (add-one i)))

module _ (rows : List NodeRow) (version : ℕ) where
  -- no node
  pub leads_nowhere : (n : ℕ) → n ≡ 0 → (sides : List Side) → led_to rows version n sides ≡ 0
  leads_nowhere n none [] = none
  leads_nowhere zero none (side ∷ sides) = refl
  leads_nowhere (suc n) none (side ∷ sides) = absurd (omega (arith, none))

  pub followed_none : (n room : ℕ) (list : List ℕ) (read : ℕ) → n ≡ 0 → read ≤ length list → IsFollowed rows version n room list read (Past read)
  followed_none n room list read none within = (
    record { items = []; reads = subst (λ k. Reads rows version k []) (sym none) nothing; within = within; count = omega arith; goes_with = refl },
    λ sides some. absurd (some (leads_nowhere n none sides)),
  )

  -- a path through a child has one turn more
  pub led_by : (n : ℕ) → n ≢ 0 → (side : Side) (sides : List Side) → led_to rows version n (side ∷ sides) ≡ led_to rows version (child_of rows version n side) sides
  led_by zero some side sides = absurd (some refl)
  led_by (suc n) some side sides = refl

  module _ (n room : ℕ) (some : n ≢ 0) (within : n ≤ length rows) (more : room ≢ 0) (list : List ℕ) (read : ℕ) where
    abbrev item : ℕ
    item = (row_of rows n).item

    longer : (side : Side) → HasLongPath rows version (child_of rows version n side) (room - 1) → HasLongPath rows version n room
    longer side path = (side ∷ path.0, λ none. path.1 (sym (led_by n some side path.0) ∙ none), (let e = path.2 in omega (arith, more, e)))

    stays : StaysWithin rows version (child_of rows version n Left) (room - 1) → StaysWithin rows version (child_of rows version n Right) (room - 1) → StaysWithin rows version n room
    stays left right [] led = omega (arith, more)
    stays left right (Left ∷ sides) led = let l = left sides (λ none. led (led_by n some Left sides ∙ none)) in omega (arith, l)
    stays left right (Right ∷ sides) led = let r = right sides (λ none. led (led_by n some Right sides ∙ none)) in omega (arith, r)

    -- the left child stops
    pub stopped : (result : Followed) → ((next : ℕ) → result ≡ Past next → ⊥) → IsFollowed rows version (child_of rows version n Left) (room - 1) list read result → IsFollowed rows version n room list read result
    stopped (Past next) other left = absurd (other next refl)
    stopped TooDeep other left = longer Left left
    stopped (Differs next) other left = (
      left.0,
      λ items reads.
          (let h = parts rows version reads some in
          let p = left.1 h.before h.left in
          record {
            before = p.before;
            item = p.item;
            after = p.after ++ (item ∷ h.after);
            whole = h.whole ∙ (ap (λ xs. xs ++ (item ∷ h.after)) p.whole ∙ append_assoc p.before (p.item ∷ p.after) (item ∷ h.after));
            count = p.count;
            goes_with = p.goes_with;
            differs = p.differs;
          }),
    )

    module _ (next : ℕ) (left : IsReadFrom rows version (child_of rows version n Left) list read next) where
      -- the list has not the item of the node
      pub differs_here : (slice_get list next ≡ Some item → ⊥) → PartsFrom rows version n list read next
      differs_here other = (
        left.within,
        λ items reads.
            (let h = parts rows version reads some in
            record {
              before = left.items;
              item = item;
              after = h.after;
              whole = h.whole ∙ ap (λ xs. xs ++ (item ∷ h.after)) (reads-unique rows version h.left left.reads);
              count = left.count;
              goes_with = left.goes_with;
              differs = other;
            }),
      )

      -- it has, and the right child follows from the next position on
      module _ (same : slice_get list next ≡ Some item) where
        on : drop read list ≡ left.items ++ (item ∷ drop (next + 1) list)
        on = left.goes_with ∙ ap (λ xs. left.items ++ xs) (drop_at list next item same)

        further : (xs : List ℕ) (to : ℕ) → drop (next + 1) list ≡ xs ++ drop to list → drop read list ≡ (left.items ++ (item ∷ xs)) ++ drop to list
        further xs to e = on ∙ (ap (λ ys. left.items ++ (item ∷ ys)) e ∙ sym (append_assoc left.items (item ∷ xs) (drop to list)))

        pub goes_on : (result : Followed) → StaysWithin rows version (child_of rows version n Left) (room - 1) → IsFollowed rows version (child_of rows version n Right) (room - 1) list (next + 1) result → IsFollowed rows version n room list read result
        goes_on TooDeep short right = longer Right right
        goes_on (Past to) short right =
            let r = right.0 in (
              record {
                items = left.items ++ (item ∷ r.items);
                reads = node {n = n} {before = left.items} {after = r.items} {items = left.items ++ (item ∷ r.items)} some within left.reads r.reads refl;
                within = r.within;
                count = (let e = r.count in let f = left.count in let g = length-append left.items (item ∷ r.items) in omega (arith, e, f, g));
                goes_with = further r.items to r.goes_with;
              },
              stays short right.1,
            )
        goes_on (Differs to) short right = (
          right.0,
          λ items reads.
              (let h = parts rows version reads some in
              let p = right.1 h.after h.right in
              record {
                before = left.items ++ (item ∷ p.before);
                item = p.item;
                after = p.after;
                whole = h.whole ∙ (ap (λ xs. xs ++ (item ∷ h.after)) (reads-unique rows version h.left left.reads) ∙ (ap (λ xs. left.items ++ (item ∷ xs)) p.whole ∙ sym (append_assoc left.items (item ∷ p.before) (p.item ∷ p.after))));
                count = (let e = p.count in let f = left.count in let g = length-append left.items (item ∷ p.before) in omega (arith, e, f, g));
                goes_with = further p.before to p.goes_with;
                differs = p.differs;
              }),
        )
