-- A right field tells what it holds, and where that holds the field is right.
use Rattle.std.proofs.Common.{◌≡◌, ℕ, ◌+◌, ◌<◌, ◌^◌, Bool, true, false, List, [], ◌∷◌, ◌++◌, refl, sym, ◌∙◌}
use Rattle.std.specs.{Prelude.codes, Prelude.is_none, Prelude.unsigned_abs, List.flat_map, Str.bytes_eq}
use Rattle.std.proofs.lemmas.Bool.{and_from, and_parts, lt-ltb, ltb-true}
use Rattle.std.proofs.lemmas.List.Folds.{list_all-append}
use Rattle.loc_spec_index.specs.declared.IndexFault.{IndexFault}
use Rattle.loc_spec_index.specs.IndexFile.{Field, magic, version, number, coordinate, text, order, is_version, fault_at, is_right, are_right, unless}
use Rattle.loc_laws_index.proofs.{Agree.holds-unless, Progress.are_right-append}

pub unless-holds : (b : Bool) (f : IndexFault) → b ≡ true → is_none (unless b f) ≡ true
unless-holds true f e = refl
unless-holds false f e = cc

-- a field is right or wrong wherever it stands
pub right_anywhere : (offset : ℕ) (f : Field) → is_none (fault_at offset f) ≡ is_right f
right_anywhere offset f = by f
  where
    same : (b : Bool) (g k : IndexFault) → is_none (unless b g) ≡ is_none (unless b k)
    same true g k = refl
    same false g k = refl

    by : (f : Field) → is_none (fault_at offset f) ≡ is_right f
    by (magic letters) = same _ _ _
    by (version found) = same _ _ _
    by (number w bound value) = same _ _ _
    by (coordinate value) = same _ _ _
    by (text bytes) = refl
    by (order part row holds) = same _ _ _

-- what a right field says
abbrev pub Holds : Field → Type 0
Holds (magic letters) = bytes_eq letters (codes "LOCINDEX") ≡ true
Holds (version found) = is_version found ≡ true
Holds (number w bound value) = value < bound
Holds (coordinate value) = unsigned_abs value < 10 ^ 18 + 1
Holds (text bytes) = Unit {0}
Holds (order part row holds) = holds ≡ true

pub right-holds : (f : Field) → is_right f ≡ true → Holds f
right-holds (magic letters) r = holds-unless _ _ r
right-holds (version found) r = holds-unless _ _ r
right-holds (number w bound value) r = ltb-true value bound (holds-unless _ _ r)
right-holds (coordinate value) r = ltb-true (unsigned_abs value) (10 ^ 18 + 1) (holds-unless _ _ r)
right-holds (text bytes) r = tt
right-holds (order part row holds) r = holds-unless _ _ r

pub holds-right : (f : Field) → Holds f → is_right f ≡ true
holds-right (magic letters) h = unless-holds _ _ h
holds-right (version found) h = unless-holds _ _ h
holds-right (number w bound value) h = unless-holds _ _ (lt-ltb value bound h)
holds-right (coordinate value) h = unless-holds _ _ (lt-ltb (unsigned_abs value) (10 ^ 18 + 1) h)
holds-right (text bytes) h = refl
holds-right (order part row holds) h = unless-holds _ _ h

-- what right fields say
abbrev pub AllHold : List Field → Type 0
AllHold [] = Unit {0}
AllHold (f ∷ fs) = Holds f × AllHold fs

pub all-hold : (fs : List Field) → are_right fs ≡ true → AllHold fs
all-hold [] r = tt
all-hold (f ∷ fs) r = let p = and_parts (is_right f) (are_right fs) r in (right-holds f p.0, all-hold fs p.1)

pub all-right : (fs : List Field) → AllHold fs → are_right fs ≡ true
all-right [] h = refl
all-right (f ∷ fs) h = and_from (is_right f) (are_right fs) (holds-right f h.0) (all-right fs h.1)

-- both parts of right fields are right
pub right-parts : (fs gs : List Field) → are_right (fs ++ gs) ≡ true → (are_right fs ≡ true) × (are_right gs ≡ true)
right-parts fs gs h = and_parts (are_right fs) (are_right gs) (sym (list_all-append is_right fs gs) ∙ h)

-- the fields of each of some parts are right
abbrev pub EachRight : List (List Field) → Type 0
EachRight [] = Unit {0}
EachRight (fs ∷ parts) = (are_right fs ≡ true) × EachRight parts

pub each-right : (parts : List (List Field)) → are_right (flat_map (λ part. part) parts) ≡ true → EachRight parts
each-right [] r = tt
each-right (fs ∷ parts) r = let p = right-parts fs (flat_map (λ part. part) parts) r in (p.0, each-right parts p.1)

pub parts-right : (parts : List (List Field)) → EachRight parts → are_right (flat_map (λ part. part) parts) ≡ true
parts-right [] e = refl
parts-right (fs ∷ parts) e = are_right-append fs (flat_map (λ part. part) parts) e.0 (parts-right parts e.1)
