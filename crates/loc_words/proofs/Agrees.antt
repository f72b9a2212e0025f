-- A walk over words agrees with what they give: it has no fault exactly where they give something with different names, and then it finds that.
use Rattle.std.proofs.Common.{◌≡◌, true, false, List, [], ◌∷◌, ◌++◌, map, fold, Option, Some, None, option_map, refl, sym, ◌∙◌, ap, subst, append_assoc, inl, inr}
use Rattle.std.proofs.{lemmas.Bool.cases_Bool, lemmas.List.map-append}
use Rattle.clap.specs.Walk.{Row, Walk, has_row, settled_rows, walked}
use Rattle.clap.specs.Faults.{repeat_fault, settle_fault, turn_fault, walk_fault}
use Rattle.clap.specs.{Kinds.Kinds, Kinds.or_else, Simple.Shape}
use Rattle.loc_spec_text.specs.Bytes.{Text}
use Rattle.loc_words.specs.Rows.{Entry, are_different}
use Rattle.loc_words.proofs.Distinct.{ids, absent, one_more}
use Rattle.loc_words.proofs.Walking.{row, used_once, added, walk_step, no_fault}

pub or_else-nil : (a : Kinds) → or_else a [] ≡ a
or_else-nil [] = refl
or_else-nil (k ∷ a) = refl

pub or_else-assoc : (a b c : Kinds) → or_else (or_else a b) c ≡ or_else a (or_else b c)
or_else-assoc [] b c = refl
or_else-assoc (k ∷ a) b c = refl

pub both_quiet : (a b : Kinds) → a ≡ [] → b ≡ [] → or_else a b ≡ []
both_quiet a b e f = rw e f

-- a use of an argument that was used already
abbrev pub repeated : Entry → List Row → Kinds
repeated e rows = or_else (repeat_fault false e.0 rows) []

fresh_of : (name : Text) (rows : List Row) → repeat_fault false name rows ≡ [] → has_row name rows ≡ false
fresh_of name rows h = elim (cases_Bool (has_row name rows)) [ inl is ↦ absurd (cc (simp is at h)) | inr other ↦ other ]

abbrev pub names : List Entry → List Text
names given = map (λ e. e.0) given

-- words that give something: q is the fault of the use before them, and these are the rows once it is settled
pub record Reads (q : Kinds) (rows : List Row) (given : List Entry) (fault : Kinds) (end : List Row) : Type 0 where
  pub settles : fault ≡ [] → q ≡ []
  pub reads : are_different (ids rows) ≡ true → fault ≡ [] → (are_different (ids rows ++ names given) ≡ true) × (end ≡ rows ++ map row given)
  pub goes : q ≡ [] → are_different (ids rows ++ names given) ≡ true → fault ≡ []

-- and words that give nothing have a fault
abbrev pub Agrees : Kinds → List Row → Option (List Entry) → Kinds → List Row → Type 0
Agrees q rows None fault end = fault ≡ [] → ⊥
Agrees q rows (Some given) fault end = Reads q rows given fault end

pub refused : (q : Kinds) (rows : List Row) (o : Option (List Entry)) (fault : Kinds) (end : List Row) → o ≡ None → (fault ≡ [] → ⊥) → Agrees q rows o fault end
refused q rows o fault end none not_quiet = subst (λ x. Agrees q rows x fault end) (sym none) not_quiet

-- a fault before the words
pub behind : (q : Kinds) (rows : List Row) (o : Option (List Entry)) (fault : Kinds) (end : List Row) → Agrees [] rows o fault end → Agrees q rows o (or_else q fault) end
behind q rows None fault end a = λ quiet. a (no_fault q fault quiet).1
behind q rows (Some given) fault end a = record {
  settles = λ quiet. (no_fault q fault quiet).0;
  reads = λ d quiet. a.reads d (no_fault q fault quiet).1;
  goes = λ settled d. both_quiet q fault settled (a.goes refl d);
}

shifted : (rows after : List Row) (e : Entry) (given : List Entry) → after ≡ rows ++ row e ∷ [] → ids after ++ names given ≡ ids rows ++ e.0 ∷ names given
shifted rows after e given is = ap (λ l. ids l ++ names given) is ∙ ap (λ l. l ++ names given) (map-append (λ (r : Row). r.id) rows (row e ∷ [])) ∙ append_assoc (ids rows) (e.0 ∷ []) (names given)

-- one use in front of the words
pub one_use : (q : Kinds) (rows : List Row) (e : Entry) (after : List Row) (o : Option (List Entry)) (fault : Kinds) (end : List Row) → after ≡ used_once e rows
    → Agrees (repeated e rows) after o fault end → Agrees q rows (option_map (λ given. e ∷ given) o) (or_else q fault) end
one_use q rows e after None fault end used a = λ quiet. a (no_fault q fault quiet).1
one_use q rows e after (Some given) fault end used a = record {
  settles = λ quiet. (no_fault q fault quiet).0;
  reads = λ d quiet.
      let t = (no_fault q fault quiet).1 in
      let fresh = fresh_of e.0 rows (no_fault (repeat_fault false e.0 rows) [] (a.settles t)).0 in
      let is = used ∙ added e rows fresh in
      let here : are_different (ids after) ≡ true = subst (λ l. are_different l ≡ true) (sym (ap ids is ∙ map-append (λ (r : Row). r.id) rows (row e ∷ []))) (one_more rows e.0 d fresh) in
      let r = a.reads here t in (
        subst (λ l. are_different l ≡ true) (shifted rows after e given is) r.0,
        r.1 ∙ ap (λ l. l ++ map row given) is ∙ append_assoc rows (row e ∷ []) (map row given),
      );
  goes = λ settled d.
      let fresh = absent rows e.0 (names given) d in
      let is = used ∙ added e rows fresh in
      let none : repeated e rows ≡ [] = simp fresh in
      both_quiet q fault settled (a.goes none (subst (λ l. are_different l ≡ true) (sym (shifted rows after e given is)) d));
}

abbrev pub words_after : Shape → Walk → List Text → Walk
words_after s w words = fold (walked s.rules []) w words

-- the faults of a walk and of the use that it ends with, and the rows that it ends with
abbrev pub walk_total : Shape → Walk → List Text → Kinds
walk_total s w words = or_else (walk_fault s [] w words) (settle_fault s.rules false (words_after s w words).held)

abbrev pub walk_end : Shape → Walk → List Text → List Row
walk_end s w words = settled_rows s.rules (words_after s w words).held.pending (words_after s w words).held.rows

-- one word in front of a walk
pub walk_on : (s : Shape) (w next : Walk) (word : Text) (words : List Text) (turn : Kinds) → turn_fault s [] w word ≡ turn → walked s.rules [] w word ≡ next
    → (walk_total s w (word ∷ words) ≡ or_else turn (walk_total s next words)) × (walk_end s w (word ∷ words) ≡ walk_end s next words)
walk_on s w next word words turn fault is = (
  ap (λ (k : Kinds). or_else k (settle_fault s.rules false (words_after s w (word ∷ words)).held)) (walk_step s w word words)
      ∙ or_else-assoc (turn_fault s [] w word) (walk_fault s [] (walked s.rules [] w word) words) (settle_fault s.rules false (words_after s w (word ∷ words)).held)
      ∙ ap (λ (k : Kinds). or_else k (walk_total s (walked s.rules [] w word) words)) fault
      ∙ ap (λ (z : Walk). or_else turn (walk_total s z words)) is,
  ap (λ (z : Walk). walk_end s z words) is,
)

-- a word with a fault
pub faulty : (s : Shape) (w : Walk) (word : Text) (words : List Text) → (turn_fault s [] w word ≡ [] → ⊥) → walk_total s w (word ∷ words) ≡ [] → ⊥
faulty s w word words fault quiet = fault (no_fault (turn_fault s [] w word) (walk_total s (walked s.rules [] w word) words) (sym (walk_on s w (walked s.rules [] w word) word words (turn_fault s [] w word) refl refl).0 ∙ quiet)).0

-- the walk goes on from the state behind the words of one use
pub agrees_as : (q : Kinds) (rows : List Row) (o p : Option (List Entry)) (fault as_fault : Kinds) (end as_end : List Row) → o ≡ p → fault ≡ as_fault → end ≡ as_end
    → Agrees q rows p as_fault as_end → Agrees q rows o fault end
agrees_as q rows o p fault as_fault end as_end e f g a =
    subst (λ x. Agrees q rows x fault end) (sym e) (subst (λ x. Agrees q rows p x end) (sym f) (subst (λ x. Agrees q rows p as_fault x) (sym g) a))
