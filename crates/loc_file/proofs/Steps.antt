-- How reading goes on: what was read is appended, and a fault behind what was read is a fault of the whole.
use Rattle.std.proofs.Common.{◌≡◌, ℕ, ◌+◌, List, [], ◌∷◌, ◌++◌, length, refl, sym, ◌∙◌, ap, subst, append_assoc, append-nil, arith, replicate}
use Rattle.std.specs.Prelude.{Result, Ok, Err, IfErr, IsErrAnd}
use Rattle.std.proofs.lemmas.List.{length-append, length-replicate}
use Rattle.loc_spec_index.specs.declared.IndexFault.{IndexFault}
use Rattle.loc_spec_index.specs.declared.IndexFault.TheVariants as fault
use Rattle.loc_spec_index.specs.IndexFile.{Field, spelled_all, rows_from}
use Rattle.loc_laws_index.proofs.Progress.{rows_from-append, spelled_all-append, are_right-append}
use Rattle.loc_file.specs.Readings.{Left, IsRead, IsWrong, IsFaultIn, IsStop, IsRowStop, IsRowsStop, stop, no_memory}

-- what `?` hands on
pub handed : {T E : Type 0} (r : Result T E) (e : E) (Q : E → Type 0) → IsErrAnd r (λ f. f ≡ e) → Q e → IfErr r Q
handed (Ok x) e Q h q = tt
handed (Err f) e Q h q = subst Q (sym h) q

pub read-none : (a : Left) → IsRead [] a a
read-none a = record { right = refl; spelled = refl; offset = omega arith }

pub read-append : (fs gs : List Field) {a b c : Left} → IsRead fs a b → IsRead gs b c → IsRead (fs ++ gs) a c
read-append fs gs {a} {b} {c} p q = record {
  right = are_right-append fs gs p.right q.right;
  spelled = p.spelled ∙ (ap (λ r. spelled_all fs ++ r) q.spelled ∙ (sym (append_assoc (spelled_all fs) (spelled_all gs) c.rest) ∙ ap (λ s. s ++ c.rest) (sym (spelled_all-append fs gs))));
  offset = (let l = ap length (spelled_all-append fs gs) ∙ length-append (spelled_all fs) (spelled_all gs) in let x = p.offset in let y = q.offset in omega (arith, l, x, y));
}

pub fault-first : (field : Field) (later : List Field) {a : Left} {f : IndexFault} → IsWrong field a f → IsFaultIn (field ∷ later) a f
fault-first field later {a} {f} w = record { earlier = []; field = field; later = later; here = a; stands = refl; read = read-none a; wrong = w }

pub fault-behind : (fs gs : List Field) {a b : Left} {f : IndexFault} → IsRead fs a b → IsFaultIn gs b f → IsFaultIn (fs ++ gs) a f
fault-behind fs gs p w = record {
  earlier = fs ++ w.earlier;
  field = w.field;
  later = w.later;
  here = w.here;
  stands = ap (λ l. fs ++ l) w.stands ∙ sym (append_assoc fs w.earlier (w.field ∷ w.later));
  read = read-append fs w.earlier p w.read;
  wrong = w.wrong;
}

pub fault-front : (fs gs : List Field) {a : Left} {f : IndexFault} → IsFaultIn fs a f → IsFaultIn (fs ++ gs) a f
fault-front fs gs w = record {
  earlier = w.earlier;
  field = w.field;
  later = w.later ++ gs;
  here = w.here;
  stands = ap (λ l. l ++ gs) w.stands ∙ append_assoc w.earlier (w.field ∷ w.later) gs;
  read = w.read;
  wrong = w.wrong;
}

-- field by field
pub read-next : (field : Field) (fs : List Field) {a b c : Left} → IsRead (field ∷ []) a b → IsRead fs b c → IsRead (field ∷ fs) a c
read-next field fs p q = read-append (field ∷ []) fs p q

pub fault-next : (field : Field) (fs : List Field) {a b : Left} {f : IndexFault} → IsRead (field ∷ []) a b → IsFaultIn fs b f → IsFaultIn (field ∷ fs) a f
fault-next field fs p w = fault-behind (field ∷ []) fs p w

-- a row that goes on behind what was wrong
pub front-stop : {X : Type 0} (row more : X → List Field) {a : Left} {f : IndexFault} → IsRowStop row a f → IsRowStop (λ x. row x ++ more x) a f
front-stop row more (stop x f u w) = stop x f u (fault-front (row x) (more x) w)
front-stop row more no_memory = no_memory

-- a part of a row that was wrong, behind fields that were read
pub stop-within : {X Y : Type 0} (row : X → List Field) (part : Y → List Field) (front : List Field) (of : Y → X) (more : Y → List Field) → ((y : Y) → row (of y) ≡ front ++ (part y ++ more y)) → {a b : Left} {f : IndexFault} → IsRead front a b → IsRowStop part b f → IsRowStop row a f
stop-within row part front of more is {a} {b} read (stop y f u w) = stop (of y) f tt (subst (λ fs. IsFaultIn fs a f) (sym (is y)) (fault-behind front (part y ++ more y) read (fault-front (part y) (more y) w)))
stop-within row part front of more is read no_memory = no_memory

-- a field that is known by other words
pub wrong-along : {A : Type 0} (field : A → Field) {x y : A} {a : Left} {f : IndexFault} → x ≡ y → IsWrong (field x) a f → IsWrong (field y) a f
wrong-along field {a = a} {f = f} e w = subst (λ z. IsWrong (field z) a f) e w

pub read-along : {A : Type 0} (field : A → Field) {x y : A} {a b : Left} → x ≡ y → IsRead (field x ∷ []) a b → IsRead (field y ∷ []) a b
read-along field {a = a} {b = b} e r = subst (λ z. IsRead (field z ∷ []) a b) e r

-- a row that is known by other words
pub stop-along : {A X : Type 0} (row : A → X → List Field) {x y : A} {a : Left} {f : IndexFault} → x ≡ y → IsRowStop (row x) a f → IsRowStop (row y) a f
stop-along row {a = a} {f = f} e w = subst (λ z. IsRowStop (row z) a f) e w

pub row-along : {A : Type 0} (row : A → List Field) {x y : A} {a b : Left} → x ≡ y → IsRead (row x) a b → IsRead (row y) a b
row-along row {a = a} {b = b} e r = subst (λ z. IsRead (row z) a b) e r

-- what `?` hands on where memory was wanting
pub unheld : {T X : Type 0} (P : X → Type 0) (fields_of : X → List Field) (a : Left) (r : Result T IndexFault) (e : IndexFault) → IsErrAnd r (λ f. f ≡ e) → e ≡ fault.NoMemory → IfErr r (IsStop P fields_of a)
unheld P fields_of a r e h is = handed r e (IsStop P fields_of a) h (subst (IsStop P fields_of a) (sym is) no_memory)

-- ---- rows

pub rows-none : {X : Type 0} (row : List X → X → List Field) (a : Left) → IsRead (rows_from row [] []) a a
rows-none row a = read-none a

-- one row more
pub rows-more : {X : Type 0} (row : List X → X → List Field) (xs : List X) (x : X) {a b c : Left} → IsRead (rows_from row [] xs) a b → IsRead (row xs x) b c → IsRead (rows_from row [] (xs ++ x ∷ [])) a c
rows-more row xs x {a} {b} {c} p q =
    let P : List Field → Type 0 = λ fs. IsRead fs a c in
    subst P (sym (rows_from-append row [] xs (x ∷ []) ∙ ap (λ l. rows_from row [] xs ++ l) (append-nil (row xs x)))) (read-append (rows_from row [] xs) (row xs x) p q)

-- the row under way is wrong: the rows behind it can be any
pub rows-stop : {X : Type 0} (row : List X → X → List Field) (xs : List X) (n : ℕ) {a b : Left} {f : IndexFault} → (k : ℕ) → length xs + 1 + k ≡ n → IsRead (rows_from row [] xs) a b → IsRowStop (row xs) b f → IsRowsStop row n a f
rows-stop row xs n {a} {b} k as_many p (stop x f u w) =
    let behind = rows_from row (xs ++ x ∷ []) (replicate k x) in
    let P : List Field → Type 0 = λ fs. IsFaultIn fs a f in
    stop (xs ++ x ∷ replicate k x) f (length-append xs (x ∷ replicate k x) ∙ (let l = length-replicate k x in omega (arith, l, as_many)))
    (subst P (sym (rows_from-append row [] xs (x ∷ replicate k x))) (fault-behind (rows_from row [] xs) (row xs x ++ behind) p (fault-front (row xs x) behind w)))
rows-stop row xs n k as_many p no_memory = no_memory
