-- The rows of a text, read one after another: what is wrong so far, and in which line each edge stands.
use Rattle.std.proofs.Common.{◌≡◌, ◌≢◌, ℕ, zero, suc, ◌+◌, ◌<◌, ◌≤◌, Bool, true, false, not, cond, List, [], ◌∷◌, ◌++◌, length, set, get_or, get_or-set_other, get_or-set_same, refl, sym, ◌∙◌, ap, subst, ◌⊎◌, inl, inr, arith}
use Rattle.std.specs.Prelude.{Option, Some, None, find, is_some, filter, map, nat_lt, ◌==◌, if◌then◌else◌, Ok, Err, option_map}
use Rattle.std.specs.List.{list_all, enumerate_from}
use Rattle.std.proofs.lemmas.Bool.{cases_Bool, cases_lt, cases_eq, and_parts, and_from, ltb-true, eq-eqb, ne_eqb, lt-ltb, le-ltb}
use Rattle.std.proofs.lemmas.List.{append_assoc, append-nil, length-set}
use Rattle.loc_spec_plane.specs.Lists.{is_in}
use Rattle.loc_spec_text.specs.Bytes.{is_blank, lines, or_else, ok_unless}
use Rattle.loc_trapdag.specs.declared.order.OrderFault.{OrderFault}
use Rattle.loc_trapdag.specs.declared.order.OrderFault.TheVariants.{OutOfRange, Twice, Missing}
use Rattle.loc_trapdag.specs.Orders.{IsOrder, Row, row_of, is_row, rows_from, has_number, number_fault, fault_behind, numbers_of, missing_edge, order_from, line_number}
use Rattle.loc_laws_traps.proofs.Numbers.{find_is_least, least-unique}
use Rattle.loc_trapdag.proofs.Counts.{one_of, many_of, many_push}

-- ---- rows one after another
abbrev pub row_at : ℕ → List ℕ → Row
row_at n line = record { line = n; number = line_number line }

abbrev rows_of_lines : ℕ → List (List ℕ) → List Row
rows_of_lines n ls = map row_of (filter is_row (enumerate_from n ls))

pub rows_blank : (n : ℕ) (text line more : List ℕ) → lines text ≡ line ∷ lines more → is_blank line ≡ true → rows_from n text ≡ rows_from (n + 1) more
rows_blank n text line more cut blank = ap (λ (ls : List (List ℕ)). rows_of_lines n ls) cut ∙ (rw blank refl)

pub rows_next : (n : ℕ) (text line more : List ℕ) → lines text ≡ line ∷ lines more → is_blank line ≡ false → rows_from n text ≡ row_at n line ∷ rows_from (n + 1) more
rows_next n text line more cut off = ap (λ (ls : List (List ℕ)). rows_of_lines n ls) cut ∙ (rw off refl)

-- ---- the line in which a number stands, or 0
abbrev pub line_in : Option Row → ℕ
line_in None = 0
line_in (Some row) = row.line

-- what is read so far
pub record IsRead (edges : ℕ) (all : List Row) (rest : List Row) (line_of order : List ℕ) : Type 0 where
  pub done : List Row
  pub whole : all ≡ done ++ rest
  pub fault : fault_behind edges [] all ≡ fault_behind edges done rest
  pub order_is : order ≡ numbers_of done
  pub many : length line_of ≡ edges
  pub stands : (e : ℕ) → e < edges → get_or line_of e 0 ≡ line_in (find (has_number e) done)
  pub positive : list_all (λ (row : Row). nat_lt 0 row.line) done ≡ true
  pub once : (e : ℕ) → many_of e order ≡ (if nat_lt e edges then (if 0 == line_in (find (has_number e) done) then 0 else 1) else 0)

-- ---- finding in a longer list
find_push : (e : ℕ) (rows : List Row) (row : Row) → line_in (find (has_number e) (rows ++ row ∷ [])) ≡ (if is_some (find (has_number e) rows) then line_in (find (has_number e) rows) else (if has_number e row then row.line else 0))
find_push e [] row = elim (cases_Bool (has_number e row)) [ inl passes ↦ rw passes refl | inr off ↦ rw off refl ]
find_push e (r ∷ rows) row = elim (cases_Bool (has_number e r)) [ inl passes ↦ rw passes refl | inr off ↦ rw off (find_push e rows row) ]

all_push : (p : Row → Bool) (rows : List Row) (row : Row) → list_all p rows ≡ true → p row ≡ true → list_all p (rows ++ row ∷ []) ≡ true
all_push p [] row h passes = and_from (p row) true passes refl
all_push p (r ∷ rows) row h passes = let parts = and_parts (p r) (list_all p rows) h in and_from (p r) (list_all p (rows ++ row ∷ [])) parts.0 (all_push p rows row parts.1 passes)

first_or_rest : (p q : Row → Bool) (r : Row) (rows : List Row) (row : Row) → p r ≡ true → (find q rows ≡ Some row → p row ≡ true) → (b : Bool) → (if b then Some r else find q rows) ≡ Some row → p row ≡ true
first_or_rest p q r rows row passes rest true g = let same : r ≡ row = cc in subst (λ (x : Row). p x ≡ true) same passes
first_or_rest p q r rows row passes rest false g = rest g

found_passes : (p q : Row → Bool) (rows : List Row) (row : Row) → list_all p rows ≡ true → find q rows ≡ Some row → p row ≡ true
found_passes p q [] row h found = absurd (cc)
found_passes p q (r ∷ rows) row h found = first_or_rest p q r rows row (and_parts (p r) (list_all p rows) h).0 (λ g. found_passes p q rows row (and_parts (p r) (list_all p rows) h).1 g) (q r) found

push_number : (o : Option ℕ) (l : ℕ) (rows more : List Row) (e : ℕ) → numbers_of more ≡ numbers_of rows ++ e ∷ [] → numbers_of (record { line = l; number = o } ∷ more) ≡ numbers_of (record { line = l; number = o } ∷ rows) ++ e ∷ []
push_number None l rows more e h = h
push_number (Some m) l rows more e h = ap (λ (xs : List ℕ). m ∷ xs) h

numbers_push : (rows : List Row) (line e : ℕ) → numbers_of (rows ++ record { line = line; number = Some e } ∷ []) ≡ numbers_of rows ++ e ∷ []
numbers_push [] line e = refl
numbers_push (r ∷ rows) line e = push_number r.number r.line rows (rows ++ record { line = line; number = Some e } ∷ []) e (numbers_push rows line e)

-- no row is found where the line is 0, since lines are numbered from 1
module _ (edges : ℕ) (all : List Row) (line_of order : List ℕ) where
  module _ (rest : List Row) (line : ℕ) (number : Option ℕ) (read : IsRead edges all (record { line = line; number = number } ∷ rest) line_of order) where
    faulty : (f : OrderFault) → number_fault edges read.done line number ≡ Some f → order_from edges all ≡ Err f
    faulty f h = ap (λ (o : Option OrderFault). ok_unless (or_else o (option_map (λ e. Missing e) (missing_edge edges all))) (numbers_of all)) (read.fault ∙ ap (λ (o : Option OrderFault). or_else o (fault_behind edges (read.done ++ record { line = line; number = number } ∷ []) rest)) h)

    module _ (e : ℕ) (is_e : number ≡ Some e) (real : e < edges) where
      abbrev this : Row
      this = record { line = line; number = number }

      fault_is : number_fault edges read.done line number ≡ option_map (λ (row : Row). Twice line row.line) (find (has_number e) read.done)
      fault_is = ap (number_fault edges read.done line) is_e ∙ ap (λ b. if b then option_map (λ (row : Row). Twice line row.line) (find (has_number e) read.done) else Some (OutOfRange line)) (lt-ltb e edges real)

      -- an earlier line has the edge
      pub twice : (earlier : ℕ) → earlier ≡ get_or line_of e 0 → (earlier ≡ 0 → ⊥) → order_from edges all ≡ Err (Twice line earlier)
      twice earlier is_earlier some = faulty (Twice line earlier) (fault_is ∙ at (find (has_number e) read.done) (is_earlier ∙ read.stands e real))
        where
          at : (o : Option Row) → earlier ≡ line_in o → option_map (λ (row : Row). Twice line row.line) o ≡ Some (Twice line earlier)
          at None h = absurd (some h)
          at (Some row) h = ap (λ n. Some (Twice line n)) (sym h)

      -- no earlier line has it, and it is read
      pub read_more : 0 < line → 0 ≡ get_or line_of e 0 → (order2 : List ℕ) → order2 ≡ order ++ e ∷ [] → IsRead edges all rest (set line_of e line) order2
      read_more some free order2 pushed = record {
        done = read.done ++ this ∷ [];
        whole = read.whole ∙ sym (append_assoc read.done (this ∷ []) rest);
        fault = read.fault ∙ ap (λ (o : Option OrderFault). or_else o (fault_behind edges (read.done ++ this ∷ []) rest)) (fault_is ∙ ap (option_map (λ (row : Row). Twice line row.line)) not_found);
        order_is = pushed ∙ (ap (λ (xs : List ℕ). xs ++ e ∷ []) read.order_is ∙ sym (ap (λ (o : Option ℕ). numbers_of (read.done ++ record { line = line; number = o } ∷ [])) is_e ∙ numbers_push read.done line e));
        many = length-set line_of e line ∙ read.many;
        stands = λ d less. stand d less;
        positive = all_push (λ (row : Row). nat_lt 0 row.line) read.done this read.positive (lt-ltb 0 line some);
        once = λ d. one_each d;
      }
        where
          not_found : find (has_number e) read.done ≡ None
          not_found = at (find (has_number e) read.done) refl
            where
              at : (o : Option Row) → find (has_number e) read.done ≡ o → o ≡ None
              at None h = refl
              at (Some row) h = absurd (let p = ltb-true 0 row.line (found_passes (λ (r : Row). nat_lt 0 r.line) (has_number e) read.done row read.positive h) in let z : 0 ≡ line_in (Some row) = free ∙ (read.stands e real ∙ ap line_in h) in omega arith)

          is_here : (d : ℕ) → has_number d this ≡ (e == d)
          is_here d = ap (λ (o : Option ℕ). has_number d (record { line = line; number = o })) is_e

          line_same : line_in (find (has_number e) (read.done ++ this ∷ [])) ≡ line
          line_same = find_push e read.done this ∙ (ap (λ (o : Option Row). if is_some o then line_in o else (if has_number e this then line else 0)) not_found ∙ ap (λ b. if b then line else 0) (is_here e ∙ eq-eqb e e refl))

          line_other : (d : ℕ) → (e ≡ d → ⊥) → line_in (find (has_number d) (read.done ++ this ∷ [])) ≡ line_in (find (has_number d) read.done)
          line_other d other = find_push d read.done this ∙ at (find (has_number d) read.done)
            where
              at : (o : Option Row) → (if is_some o then line_in o else (if has_number d this then line else 0)) ≡ line_in o
              at None = ap (λ b. if b then line else 0) (is_here d ∙ ne_eqb e d other)
              at (Some row) = refl

          stand : (d : ℕ) → d < edges → get_or (set line_of e line) d 0 ≡ line_in (find (has_number d) (read.done ++ this ∷ []))
          stand d less = elim (cases_eq e d) [
            | inl same ↦ subst (λ k. get_or (set line_of e line) k 0 ≡ line_in (find (has_number k) (read.done ++ this ∷ []))) same (get_or-set_same line_of e line 0 (let m = read.many in omega arith) ∙ sym line_same)
            | inr other ↦ (let off : d ≢ e = λ same. other (sym same) in rw get_or-set_other (read.stands d less ∙ sym (line_other d other)))
          ]

          one_each : (d : ℕ) → many_of d order2 ≡ (if nat_lt d edges then (if 0 == line_in (find (has_number d) (read.done ++ this ∷ [])) then 0 else 1) else 0)
          one_each d = ap (many_of d) pushed ∙ (many_push d order e ∙ elim (cases_eq e d) [
            | inl same ↦ subst (λ k. many_of k order + one_of k e ≡ (if nat_lt k edges then (if 0 == line_in (find (has_number k) (read.done ++ this ∷ [])) then 0 else 1) else 0)) same
                (ap (λ n. n + one_of e e) (read.once e ∙ (ap (λ b. if b then (if 0 == line_in (find (has_number e) read.done) then 0 else 1) else 0) (lt-ltb e edges real) ∙ ap (λ (o : Option Row). if 0 == line_in o then 0 else 1) not_found))
                ∙ (ap (λ b. 0 + cond b 1 0) (eq-eqb e e refl) ∙ (one_is ∙ sym (ap (λ b. if b then (if 0 == line_in (find (has_number e) (read.done ++ this ∷ [])) then 0 else 1) else 0) (lt-ltb e edges real) ∙ (ap (λ n. if 0 == n then 0 else 1) line_same ∙ ap (λ b. if b then 0 else 1) (ne_eqb 0 line (λ z. omega arith)))))))
            | inr other ↦ ap (λ b. many_of d order + cond b 1 0) (ne_eqb e d other) ∙ (plus_zero (many_of d order) ∙ (read.once d ∙ ap (λ n. if nat_lt d edges then (if 0 == n then 0 else 1) else 0) (sym (line_other d other))))
          ])
            where
              one_is : 0 + 1 ≡ suc zero
              one_is = omega arith

              plus_zero : (n : ℕ) → n + 0 ≡ n
              plus_zero n = omega arith

-- ---- all rows are read
any_of : (e : ℕ) (rows : List Row) → is_in e (numbers_of rows) ≡ is_some (find (has_number e) rows)
any_of e [] = refl
any_of e (r ∷ rows) = at r.number (any_of e rows)
  where
    at : (o : Option ℕ) → is_in e (numbers_of rows) ≡ is_some (find (has_number e) rows) → is_in e (numbers_of (record { line = r.line; number = o } ∷ rows)) ≡ is_some (find (has_number e) (record { line = r.line; number = o } ∷ rows))
    at None rest = rest
    at (Some m) rest = elim (cases_Bool (m == e)) [ inl same ↦ rw same refl | inr off ↦ rw off rest ]

module _ (edges : ℕ) (all : List Row) (line_of order : List ℕ) (read : IsRead edges all [] line_of order) where
  done_is : all ≡ read.done
  done_is = read.whole ∙ append-nil read.done

  no_fault : fault_behind edges [] all ≡ None
  no_fault = read.fault

  numbers_are : order ≡ numbers_of all
  numbers_are = read.order_is ∙ ap numbers_of (sym done_is)

  -- an edge is missing where its line is 0
  missing_test : (e : ℕ) → e < edges → get_or line_of e 0 ≡ 0 → is_in e (numbers_of all) ≡ false
  missing_test e less free = ap (λ (rows : List Row). is_in e (numbers_of rows)) done_is ∙ (any_of e read.done ∙ at (find (has_number e) read.done) refl)
    where
      at : (o : Option Row) → find (has_number e) read.done ≡ o → is_some o ≡ false
      at None h = refl
      at (Some row) h = absurd (let p = ltb-true 0 row.line (found_passes (λ (r : Row). nat_lt 0 r.line) (has_number e) read.done row read.positive h) in let z : 0 ≡ line_in (Some row) = sym free ∙ (read.stands e less ∙ ap line_in h) in omega arith)

  present_test : (e : ℕ) → e < edges → (get_or line_of e 0 ≡ 0 → ⊥) → is_in e (numbers_of all) ≡ true
  present_test e less some = ap (λ (rows : List Row). is_in e (numbers_of rows)) done_is ∙ (any_of e read.done ∙ at (find (has_number e) read.done) (read.stands e less))
    where
      at : (o : Option Row) → get_or line_of e 0 ≡ line_in o → is_some o ≡ true
      at None h = absurd (some h)
      at (Some row) h = refl

  abbrev is_missing : ℕ → Bool
  is_missing e = not (is_in e (numbers_of all))

  -- the least that is missing
  pub missing : (e : ℕ) → e < edges → get_or line_of e 0 ≡ 0 → ((d : ℕ) → d < e → get_or line_of d 0 ≡ 0 → ⊥) → order_from edges all ≡ Err (Missing e)
  missing e less free before =
      let found : missing_edge edges all ≡ Some e = least-unique is_missing edges (missing_edge edges all) (Some e) (find_is_least is_missing edges) (omega arith, less, ap not (missing_test e less free), λ d from early. ap not (present_test d (omega arith) (before d early))) in
      ap (λ (o : Option OrderFault). ok_unless (or_else o (option_map (λ d. Missing d) (missing_edge edges all))) (numbers_of all)) no_fault ∙ ap (λ (o : Option ℕ). ok_unless (or_else None (option_map (λ d. Missing d) o)) (numbers_of all)) found

  -- none is missing
  module _ (full : (d : ℕ) → d < edges → get_or line_of d 0 ≡ 0 → ⊥) where
    pub whole_order : order_from edges all ≡ Ok order
    whole_order =
        let none : missing_edge edges all ≡ None = least-unique is_missing edges (missing_edge edges all) None (find_is_least is_missing edges) (λ d from less. ap not (present_test d less (full d less))) in
        ap (λ (o : Option OrderFault). ok_unless (or_else o (option_map (λ d. Missing d) (missing_edge edges all))) (numbers_of all)) no_fault
        ∙ (ap (λ (o : Option ℕ). ok_unless (or_else None (option_map (λ d. Missing d) o)) (numbers_of all)) none ∙ ap (λ (xs : List ℕ). Ok xs) (sym numbers_are))

    pub is_order : IsOrder edges order
    is_order e = read.once e ∙ at (cases_lt e edges)
      where
        some_line : e < edges → zero ≡ line_in (find (has_number e) read.done) → ⊥
        some_line less z = full e less (read.stands e less ∙ sym z)

        at : (e < edges) ⊎ (edges ≤ e) → ◌≡◌ {A = ℕ} (if nat_lt e edges then (if 0 == line_in (find (has_number e) read.done) then 0 else 1) else 0) (if nat_lt e edges then 1 else 0)
        at (inl less) = ap (λ b. if nat_lt e edges then (if b then zero else suc zero) else zero) (ne_eqb 0 (line_in (find (has_number e) read.done)) (some_line less))
        at (inr le) = ap (λ b. if b then (if 0 == line_in (find (has_number e) read.done) then 0 else 1) else 0) (le-ltb e edges le) ∙ sym (ap (λ b. if b then 1 else 0) (le-ltb e edges le))
