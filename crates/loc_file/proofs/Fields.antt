-- What a reader of one field finds: the field by its bytes, or what is wrong there.
use Rattle.std.proofs.Common.{◌≡◌, ℕ, ◌+◌, ◌<◌, ◌≤◌, ◌^◌, Bool, true, false, ◌&&◌, List, [], ◌∷◌, ◌++◌, length, get_or, ◌%◌, refl, sym, ◌∙◌, ap, subst, append-nil, arith, ℤ, pos, negsuc}
use Rattle.std.specs.Prelude.{Some, nat_lt, ◌==◌, codes, unsigned_abs, FitsSigned}
use Rattle.std.specs.Str.{bytes_eq}
use Rattle.std.specs.Int.{w8, w32, w64, to_be_bytes, from_be_bytes, cast_signed, cast_unsigned}
use Rattle.std.proofs.lemmas.Nat.{be_bytes_4, be_bytes_8}
use Rattle.byteorder.specs.{Endian.big_number, Numbers.big_from-lt}
use Rattle.std.proofs.lemmas.Bool.{le-ltb, lt-ltb, ne_eqb, or_from}
use Rattle.std.proofs.lemmas.Int.{of_z-to_z, to_z-of_z, ints}
use Rattle.loc_spec_index.specs.{declared.IndexFault.IndexFault, declared.Part.Part}
use Rattle.loc_spec_index.specs.declared.IndexFault.TheVariants as fault
use Rattle.loc_spec_index.specs.IndexFile.{Field, magic, version, is_version, number, coordinate, order, spelled, is_right, fault_at, with_bytes, unless}
use Rattle.loc_spec_plane.specs.Points.{OnGrid}
use Rattle.loc_laws_index.proofs.RightFields.{unless-holds}
use Rattle.loc_file.specs.Readings.{Left, IsTaken, IsShort, IsRead, IsWrong, short, wrong}

-- ---- any field

pub short-at : (field : Field) (count : ℕ) {a : Left} {f : IndexFault} → length (spelled field) ≡ count → IsShort count a f → IsWrong field a f
short-at field count {a} {f} as_long s =
    subst (λ g. IsWrong field a g) (ap (λ n. fault.Short (a.offset + n)) as_long ∙ sym s.need) (short (let few = s.few in omega (arith, few, as_long)))

pub wrong-at : (field : Field) (count : ℕ) (held : List ℕ) {a b : Left} (f : IndexFault) → length (spelled field) ≡ count → IsTaken count held a b → fault_at a.offset (with_bytes held field) ≡ Some f → IsWrong field a f
wrong-at field count held {a} {b} f as_long t is = wrong held b.rest f t.taken (t.as_many ∙ sym as_long) is

pub read-at : (field : Field) (count : ℕ) (held : List ℕ) {a b : Left} → IsTaken count held a b → spelled field ≡ held → is_right field ≡ true → IsRead (field ∷ []) a b
read-at field count held {a} {b} t is right = record {
  right = ap (λ r. r && true) right;
  spelled = t.taken ∙ ap (λ l. l ++ b.rest) (sym is ∙ sym (append-nil (spelled field)));
  offset = (let o = t.offset in let l = ap length (append-nil (spelled field) ∙ is) ∙ t.as_many in omega (arith, o, l));
}

fault-is : (holds : Bool) (f : IndexFault) → holds ≡ false → unless holds f ≡ Some f
fault-is true f e = cc
fault-is false f e = refl

-- ---- numbers

one : (held : List ℕ) (value : ℕ) → length held ≡ 1 → ((i : ℕ) → get_or held i 0 < 256) → value ≡ get_or held 0 0 → to_be_bytes w8 value ≡ held
one [] value l small is = absurd (omega (arith, l))
one (x ∷ []) value l small is = ap (λ v. v ∷ []) (ap (λ v. v % 256) is ∙ (let b = small 0 in omega (arith, b)))
one (x ∷ y ∷ ys) value l small is = absurd (omega (arith, l))

abbrev pub AreBytes : List ℕ → Type 0
AreBytes bs = (i : ℕ) → get_or bs i 0 < 256

-- the number of four bytes, and of eight, as std has it
pub word_is : (held : List ℕ) → big_number 4 held ≡ from_be_bytes w32 held
word_is held = omega arith

pub long_is : (held : List ℕ) → big_number 8 held ≡ from_be_bytes w64 held
long_is held = omega arith

pub number-read : (bound value : ℕ) (held : List ℕ) {a b : Left} → IsTaken 4 held a b → AreBytes held → value ≡ from_be_bytes w32 held → value < bound → IsRead (number w32 bound value ∷ []) a b
number-read bound value held t small is lt = read-at (number w32 bound value) 4 held t (be_bytes_4 held value t.as_many small is) (unless-holds _ _ (lt-ltb value bound lt))

pub number-wrong : (bound value n offset : ℕ) (held : List ℕ) {a b : Left} → offset ≡ a.offset → IsTaken 4 held a b → value ≡ from_be_bytes w32 held → bound ≤ value → IsWrong (number w32 bound n) a (fault.Field offset value bound)
number-wrong bound value n offset held {a} o t is le =
    wrong-at (number w32 bound n) 4 held (fault.Field offset value bound) refl t
    (ap (λ v. unless (nat_lt v bound) (fault.Field a.offset v bound)) (sym is) ∙ (fault-is _ _ (le-ltb value bound le) ∙ ap (λ k. Some (fault.Field k value bound)) (sym o)))

pub number-short : (bound n : ℕ) {a : Left} {f : IndexFault} → IsShort 4 a f → IsWrong (number w32 bound n) a f
number-short bound n s = short-at (number w32 bound n) 4 refl s

pub byte-short : (bound n : ℕ) {a : Left} {f : IndexFault} → IsShort 1 a f → IsWrong (number w8 bound n) a f
byte-short bound n s = short-at (number w8 bound n) 1 refl s

-- the one byte of a list of one
pub byte-wrong : (bound value n offset : ℕ) (held : List ℕ) {a b : Left} → offset ≡ a.offset → IsTaken 1 held a b → value ≡ get_or held 0 0 → bound ≤ value → IsWrong (number w8 bound n) a (fault.Field offset value bound)
byte-wrong bound value n offset held {a} o t is le =
    wrong-at (number w8 bound n) 1 held (fault.Field offset value bound) refl t
    (ap (λ v. unless (nat_lt v bound) (fault.Field a.offset v bound)) (sym is) ∙ (fault-is _ _ (le-ltb value bound le) ∙ ap (λ k. Some (fault.Field k value bound)) (sym o)))

-- ---- coordinates

pub coordinate-read : (x : ℤ) (raw : ℕ) (held : List ℕ) {a b : Left} → IsTaken 8 held a b → AreBytes held → raw ≡ from_be_bytes w64 held → raw < 2 ^ 64 → x ≡ cast_signed w64 raw → unsigned_abs x ≤ 10 ^ 18 → IsRead (coordinate x ∷ []) a b
coordinate-read x raw held t small is fits signed le = read-at (coordinate x) 8 held t
    (ap (λ z. to_be_bytes w64 (cast_unsigned w64 z)) signed ∙ (ap (to_be_bytes w64) (of_z-to_z w64 raw fits) ∙ be_bytes_8 held raw t.as_many small is))
    (unless-holds _ _ (lt-ltb (unsigned_abs x) (10 ^ 18 + 1) (omega (arith, le))))

pub coordinate-wrong : (x z : ℤ) (raw size offset : ℕ) (held : List ℕ) {a b : Left} → offset ≡ a.offset → IsTaken 8 held a b → raw ≡ from_be_bytes w64 held → x ≡ cast_signed w64 raw → size ≡ unsigned_abs x → 10 ^ 18 < size → IsWrong (coordinate z) a (fault.Field offset size (10 ^ 18 + 1))
coordinate-wrong x z raw size offset held {a} o t is signed sized lt =
    let e : unsigned_abs (cast_signed w64 (from_be_bytes w64 held)) ≡ size = ap (λ r. unsigned_abs (cast_signed w64 r)) (sym is) ∙ (ap unsigned_abs (sym signed) ∙ sym sized) in
    wrong-at (coordinate z) 8 held (fault.Field offset size (10 ^ 18 + 1)) refl t
    (ap (λ v. unless (nat_lt v (10 ^ 18 + 1)) (fault.Field a.offset v (10 ^ 18 + 1))) e ∙ (fault-is _ _ (le-ltb size (10 ^ 18 + 1) (omega (arith, lt))) ∙ ap (λ k. Some (fault.Field k size (10 ^ 18 + 1))) (sym o)))

-- a number that was cast and cast back
pub cast-back : (v : ℤ) (raw : ℕ) → v ≡ cast_signed w64 raw → raw < 2 ^ 64 → cast_signed w64 (cast_unsigned w64 v) ≡ cast_signed w64 raw
cast-back v raw e fits = ap (λ z. cast_signed w64 (cast_unsigned w64 z)) e ∙ ap (cast_signed w64) (of_z-to_z w64 raw fits)

-- eight bytes are a number below 2 ^ 64
pub below_64 : (held : List ℕ) → AreBytes held → from_be_bytes w64 held < 2 ^ 64
below_64 held small = subst (λ n. n < 2 ^ 64) (long_is held) (big_from-lt 0 8 held small)

pub coordinate-short : (x : ℤ) {a : Left} {f : IndexFault} → IsShort 8 a f → IsWrong (coordinate x) a f
coordinate-short x s = short-at (coordinate x) 8 refl s

pub order-wrong : (part : Part) (row : ℕ) (holds : Bool) (a : Left) → holds ≡ false → IsWrong (order part row holds) a (fault.NotSorted part row)
order-wrong part row holds a h = wrong [] a.rest (fault.NotSorted part row) refl refl (fault-is holds _ h)

-- ---- letters and versions

abbrev letters : List ℕ
letters = codes "LOCINDEX"

pub magic-wrong : (held : List ℕ) {a b : Left} → IsTaken 8 held a b → bytes_eq held (codes "LOCINDEX") ≡ false → IsWrong (magic (codes "LOCINDEX")) a fault.Magic
magic-wrong held t e = wrong-at (magic letters) 8 held fault.Magic refl t (fault-is _ _ e)

pub version-wrong : (v found : ℕ) (held : List ℕ) {a b : Left} → IsTaken 4 held a b → found ≡ from_be_bytes w32 held → (found ≡ 1 → ⊥) → (found ≡ 2 → ⊥) → IsWrong (version v) a (fault.Version found)
version-wrong v found held t is first second =
    wrong-at (version v) 4 held (fault.Version found) refl t (ap (λ n. unless (is_version n) (fault.Version n)) (sym is) ∙ fault-is _ _ (or_from (found == 1) (found == 2) (ne_eqb found 1 first) (ne_eqb found 2 second)))

-- ---- points

back : (x : ℤ) → OnGrid x → cast_signed w64 (cast_unsigned w64 x) ≡ x
back x on = to_z-of_z w64 x (fits x on)
  where
    fits : (x : ℤ) → OnGrid x → FitsSigned w64 x
    fits (pos n) on = let hi = on.1 in record { sfits = omega (arith, ints) }
    fits (negsuc n) on = let lo = on.0 in record { sfits = omega (arith, ints) }
