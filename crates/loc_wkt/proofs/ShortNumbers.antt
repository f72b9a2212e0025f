-- What the bytes of a short number tell: its parts, and that it is a whole symbol.
use Rattle.std.proofs.Common.{◌≡◌, ◌≢◌, ◌⊎◌, inl, inr, ℕ, zero, suc, ◌+◌, ◌-◌, ◌*◌, ◌^◌, ◌<◌, ◌≤◌, List, [], ◌∷◌, ◌++◌, Bool, true, false, not, ◌&&◌, ◌||◌, length, take, drop, get_or, Some, refl, sym, mul_assoc, mul-le-mul_left, mul-le-mul_right, ◌∙◌, ap, ap₂, subst, arith, ne_eqb, length-take}
use Rattle.std.specs.Prelude.{if◌then◌else◌, ◌==◌, slice_index}
use Rattle.std.specs.{Char.is_ascii_digit, Str.byte, Str.Parse.digits_value}
use Rattle.std.specs.List.{before_first, after_first, list_all, position_or_len}
use Rattle.std.proofs.{Math.Seq.take-append-add, lemmas.Nat.pow-add, lemmas.List.Folds.list_all-append}
use Rattle.std.proofs.lemmas.Bool.{and_parts, eqb-true, or_cases, or_parts}
use Rattle.std.proofs.lemmas.List.{length-append, take-append-drop, take-take, take_all}
use Rattle.loc_spec_text.specs.Bytes.{is_white}
use Rattle.loc_spec_text.specs.Geometry.{ends_symbol, is_break, is_mark, symbols}
use Rattle.loc_spec_text.specs.Number.{are_digits, exponent, fraction_digits, has_exponent, is_exponent_mark, is_number, is_point, is_sign, lowered, raised, significand, unsigned, whole_digits}
use Rattle.loc_spec_text.proofs.{NumberLaws.ten_pos, DigitLaws.digit_range, DigitLaws.no_point}
use Rattle.loc_spec_text.proofs.CutLaws.{cut as cut_at_first, first_behind, none_of, uncut}
use Rattle.loc_wkt.specs.{declared.grid_numbers.short.Front.Front, Fronts.number_at, ShortNumbers.IsFront}
use Rattle.loc_wkt.proofs.{FirstSymbol.plain_symbol, FrontLemmas.number_first}

-- digits and the point are no breaks and no marks of an exponent
abbrev in_short : ℕ → Bool
in_short b = is_ascii_digit b || is_point b

digit_or_point : (b : ℕ) → in_short b ≡ true → ((48 ≤ b) × (b ≤ 57)) ⊎ (b ≡ 46)
digit_or_point b h = elim (or_cases (is_ascii_digit b) (is_point b) h) [
  | inl d ↦ inl (digit_range b d)
  | inr e ↦ inr (eqb-true b 46 e)
]

within_short : (b : ℕ) → in_short b ≡ true → (46 ≤ b) × (b ≤ 57)
within_short b h = elim (digit_or_point b h) [
  | inl d ↦ (omega (arith, d.0), d.1)
  | inr e ↦ (omega (arith, e), omega (arith, e))
]

no_break : (b : ℕ) → in_short b ≡ true → is_break b ≡ false
no_break b h = let w = within_short b h in
    rw (
      ne_eqb b 32 (λ e. omega (arith, w.0, w.1, e)),
      ne_eqb b 9 (λ e. omega (arith, w.0, w.1, e)),
      ne_eqb b 13 (λ e. omega (arith, w.0, w.1, e)),
      ne_eqb b 10 (λ e. omega (arith, w.0, w.1, e)),
      ne_eqb b 40 (λ e. omega (arith, w.0, w.1, e)),
      ne_eqb b 41 (λ e. omega (arith, w.0, w.1, e)),
      ne_eqb b 44 (λ e. omega (arith, w.0, w.1, e)),
    ) refl

no_exponent_mark : (b : ℕ) → in_short b ≡ true → is_exponent_mark b ≡ false
no_exponent_mark b h = let w = within_short b h in rw (ne_eqb b 101 (λ e. omega (arith, w.0, w.1, e)), ne_eqb b 69 (λ e. omega (arith, w.0, w.1, e))) refl

sign_no_break : (b : ℕ) → is_sign b ≡ true → is_break b ≡ false
sign_no_break b h = elim (or_cases (b == byte "+") (b == byte "-") h) [
  | inl e ↦ rw (eqb-true b 43 e) refl
  | inr e ↦ rw (eqb-true b 45 e) refl
]

digits_in : (ds : List ℕ) → list_all is_ascii_digit ds ≡ true → list_all in_short ds ≡ true
digits_in [] h = refl
digits_in (d ∷ ds) h = let hs = and_parts (is_ascii_digit d) (list_all is_ascii_digit ds) h in rw (hs.0, digits_in ds hs.1) refl

-- a text of digits with or without a point
abbrev pub IsCut : List ℕ → List ℕ → List ℕ → Type 0
IsCut body whole fraction = (body ≡ whole ++ byte "." ∷ fraction) ⊎ ((body ≡ whole) × (fraction ≡ []))

digits_of : (whole fraction : List ℕ) → list_all is_ascii_digit (whole ++ fraction) ≡ true → (list_all is_ascii_digit whole ≡ true) × (list_all is_ascii_digit fraction ≡ true)
digits_of whole fraction h = and_parts (list_all is_ascii_digit whole) (list_all is_ascii_digit fraction) (sym (list_all-append is_ascii_digit whole fraction) ∙ h)

all_short : (body whole fraction : List ℕ) → IsCut body whole fraction → list_all is_ascii_digit (whole ++ fraction) ≡ true → list_all in_short body ≡ true
all_short body whole fraction (inl e) h = let ds = digits_of whole fraction h in
    ap (list_all in_short) e ∙ list_all-append in_short whole (46 ∷ fraction) ∙ ap₂ (λ a b. a && b) (digits_in whole ds.0) (digits_in fraction ds.1)
all_short body whole fraction (inr e) h = let ds = digits_of whole fraction h in ap (list_all in_short) e.0 ∙ digits_in whole ds.0

-- its parts round the point
cut_parts : (body whole fraction : List ℕ) → IsCut body whole fraction → list_all is_ascii_digit (whole ++ fraction) ≡ true → (before_first is_point body ≡ whole) × (after_first is_point body ≡ fraction)
cut_parts body whole fraction (inl e) h =
    let all = cut_at_first is_point whole 46 fraction (none_of is_point is_ascii_digit no_point whole (digits_of whole fraction h).0) refl in
    (ap (before_first is_point) e ∙ all.0, ap (after_first is_point) e ∙ all.1)
cut_parts body whole fraction (inr e) h =
    let all = uncut is_point whole (none_of is_point is_ascii_digit no_point whole (digits_of whole fraction h).0) in
    (ap (before_first is_point) e.0 ∙ all.0, ap (after_first is_point) e.0 ∙ all.1 ∙ sym e.1)

-- What such a text behind its sign tells of a number text.
pub record IsPlain (run whole fraction : List ℕ) : Type 0 where
  pub number : is_number run ≡ true
  pub value : significand run ≡ digits_value 10 (whole ++ fraction)
  pub places : fraction_digits run ≡ fraction
  pub raises : raised run ≡ 0
  pub lowers : lowered run ≡ 0

pub plain_number : (run whole fraction : List ℕ) → IsCut (unsigned run) whole fraction → 0 < length whole → list_all is_ascii_digit (whole ++ fraction) ≡ true → IsPlain run whole fraction
plain_number run whole fraction cut some all =
    let short = all_short (unsigned run) whole fraction cut all in
    let none : has_exponent run ≡ false = none_of is_exponent_mark in_short no_exponent_mark (unsigned run) short in
    let mantissa = uncut is_exponent_mark (unsigned run) none in
    let parts = cut_parts (unsigned run) whole fraction cut all in
    let w : whole_digits run ≡ whole = ap (before_first is_point) mantissa.0 ∙ parts.0 in
    let f : fraction_digits run ≡ fraction = ap (after_first is_point) mantissa.0 ∙ parts.1 in
    let e : exponent run ≡ [] = mantissa.1 in
    let long : length (whole ++ fraction) ≢ 0 = λ z. omega (arith, length-append whole fraction, some, z) in
    let digits : are_digits (whole ++ fraction) ≡ true = rw (ne_eqb (length (whole ++ fraction)) 0 long, all) refl in
    record {
      number = ap₂ (λ ds b. are_digits ds && (not b || are_digits (unsigned (exponent run)))) (ap₂ (λ a b. a ++ b) w f) none ∙ ap (λ b. b && true) digits;
      value = ap₂ (λ a b. digits_value 10 (a ++ b)) w f;
      places = f;
      raises = ap (λ x. if slice_index x 0 == byte "-" then 0 else digits_value 10 (unsigned x)) e;
      lowers = ap (λ x. if slice_index x 0 == byte "-" then digits_value 10 (unsigned x) else 0) e;
    }

-- a text is cut behind its sign where its unsigned text is cut
sign_cut : (text : List ℕ) (n k : ℕ) → 0 < n → k ≡ (length text - length (unsigned text)) + n → (unsigned (take k text) ≡ take n (unsigned text)) × (position_or_len is_break (unsigned text) ≡ n → position_or_len is_break text ≡ k)
sign_cut [] n k some e = let z : k ≡ n = omega (arith, e) in (ap (λ m. unsigned (take m [])) z ∙ ap unsigned (sym (empty n)) ∙ empty n, λ p. p ∙ sym z)
  where
    empty : (m : ℕ) → ◌≡◌ {A = List ℕ} [] (take m [])
    empty zero = refl
    empty (suc m) = refl
sign_cut (b ∷ text) n k some e = go (is_sign b) refl e
  where
    go : (t : Bool) → is_sign b ≡ t → k ≡ (suc (length text) - length (if t then text else b ∷ text)) + n
        → (unsigned (take k (b ∷ text)) ≡ take n (if t then text else b ∷ text)) × (position_or_len is_break (if t then text else b ∷ text) ≡ n → position_or_len is_break (b ∷ text) ≡ k)
    go true h f = let z : k ≡ suc n = omega (arith, f) in (
      ap (λ m. unsigned (take m (b ∷ text))) z ∙ ap (λ t. if t then take n text else b ∷ take n text) h,
      λ p. rw (sign_no_break b h) (omega (arith, p, z)),
    )
    go false h f = let z : k ≡ suc (n - 1) = omega (arith, f, some) in let y : suc (n - 1) ≡ n = omega (arith, some) in (
      ap (λ m. unsigned (take m (b ∷ text))) z ∙ ap (λ t. if t then take (n - 1) text else b ∷ take (n - 1) text) h ∙ ap (λ m. take m (b ∷ text)) y,
      λ p. p ∙ sym (z ∙ y),
    )

no_more : (rest : List ℕ) → ends_symbol rest ≡ true → position_or_len is_break rest ≡ 0
no_more [] h = refl
no_more (b ∷ rest) h = rw h refl

starts : (text : List ℕ) (k : ℕ) → 0 < k → position_or_len is_break text ≡ k → (0 < length text) × (is_break (get_or text 0 0) ≡ false)
starts [] k some e = absurd (omega (arith, some, e))
starts (b ∷ text) k some e = (omega arith, go (is_break b) refl)
  where
    go : (t : Bool) → is_break b ≡ t → t ≡ false
    go true h = absurd (let f : 0 ≡ k = sym (let g : position_or_len is_break (b ∷ text) ≡ 0 = rw h refl in g) ∙ e in omega (arith, some, f))
    go false h = refl

-- a front is a number, and a whole symbol where nothing goes on behind it
module _ (text : List ℕ) (front : Front) (is : IsFront front (unsigned text)) where
  size : 0 < front.length
  size = elim is.cut [
    | inl e ↦ omega (arith, ap length e, length-append is.whole (46 ∷ is.fraction), length-take front.length (unsigned text), is.some)
    | inr e ↦ omega (arith, ap length e.0, length-take front.length (unsigned text), is.some)
  ]

  module _ (k : ℕ) (place : k ≡ (length text - length (unsigned text)) + front.length) where
    pub front_number : IsPlain (take k text) is.whole is.fraction
    front_number = let cut = (sign_cut text front.length k size place).0 in
        plain_number (take k text) is.whole is.fraction (subst (λ t. IsCut t is.whole is.fraction) (sym cut) is.cut) is.some is.all

    pub front_symbol : ends_symbol (drop front.length (unsigned text)) ≡ true → number_at (symbols text) ≡ Some (take k text, symbols (drop k text))
    front_symbol ended =
        let body = unsigned text in
        let at : position_or_len is_break body ≡ front.length =
        ap (position_or_len is_break) (sym (take-append-drop front.length body))
        ∙ first_behind is_break (take front.length body) (drop front.length body) (none_of is_break in_short no_break (take front.length body) (all_short (take front.length body) is.whole is.fraction is.cut is.all))
        ∙ (let z = no_more (drop front.length body) ended in let l = length-take front.length body in omega (arith, z, l, is.within)) in
        let here = (sign_cut text front.length k size place).1 at in
        let start = starts text k (omega (arith, size, place)) here in
        let free = or_parts (is_white (get_or text 0 0)) (is_mark (get_or text 0 0)) start.1 in
        number_first (symbols text) (symbols (drop k text)) (take k text) (plain_symbol text k start.0 free.0 free.1 (sym here)).1 front_number.number

-- a front of a text that was cut is one of the whole text
pub front_widened : (body : List ℕ) (m : ℕ) (front : Front) → IsFront front (take m body) → IsFront front body
front_widened body m front is = let l = length-take m body in
    let same : take front.length (take m body) ≡ take front.length body = take-take front.length m body (omega (arith, l, is.within)) in
    record {
      whole = is.whole;
      fraction = is.fraction;
      cut = subst (λ t. IsCut t is.whole is.fraction) same is.cut;
      some = is.some;
      all = is.all;
      digits = is.digits;
      places = is.places;
      within = omega (arith, l, is.within);
    }

-- no more digits stand behind the point than the front has bytes
pub few_places : (text : List ℕ) (front : Front) → IsFront front text → front.fraction ≤ length text
few_places text front is = elim is.cut [
  | inl e ↦ omega (arith, ap length e, length-append is.whole (46 ∷ is.fraction), length-take front.length text, is.places)
  | inr e ↦ omega (arith, ap length e.1, is.places)
]

-- digits, a point and digits behind it are a front
pub point_front : (text : List ℕ) (k f : ℕ) (rest behind : List ℕ) → k ≤ length text → rest ≡ drop k text → 1 ≤ length rest → get_or rest 0 0 ≡ 46 → behind ≡ take (length rest - 1) (drop 1 rest)
    → take ((k + 1) + f) text ≡ take k text ++ 46 ∷ take f behind
point_front text k f [] behind h e some point b = absurd (omega (arith, some))
point_front text k f (x ∷ rest) behind h e some point b =
    let l : length (take k text) ≡ k = length-take k text ∙ omega (arith, h) in
    let n : (k + 1) + f ≡ length (take k text) + suc f = omega (arith, l) in
    ap (λ m. take m text) n ∙ ap (take (length (take k text) + suc f)) (sym (take-append-drop k text) ∙ ap (λ t. take k text ++ t) (sym e))
    ∙ take-append-add (take k text) (x ∷ rest) (suc f)
    ∙ ap (λ t. take k text ++ t) (ap (λ y. y ∷ take f rest) point ∙ ap (λ t. 46 ∷ take f t) (sym (b ∙ take_all (length (x ∷ rest) - 1) rest (omega arith))))

-- a digit more keeps the number below 10 ^ 19
pub room_more : (v c m n : ℕ) → c ≤ 9 → m ≡ 1 + n → (v + 1) * 10 ^ m ≤ 10 ^ 19 → ((v * 10 + c) + 1) * 10 ^ n ≤ 10 ^ 19
room_more v c m n small e room =
    let more : ((v * 10 + c) + 1) * 10 ^ n ≤ ((v + 1) * 10) * 10 ^ n = mul-le-mul_right (10 ^ n) (omega (arith, small)) in
    let same : (v + 1) * 10 ^ m ≡ ((v + 1) * 10) * 10 ^ n = ap (λ k. (v + 1) * 10 ^ k) e ∙ ap (λ p. (v + 1) * p) (pow-add 10 1 n) ∙ sym (mul_assoc (v + 1) 10 (10 ^ n)) in
    omega (arith, more, same, room)

pub room_now : (v m n : ℕ) → m ≡ 1 + n → (v + 1) * 10 ^ m ≤ 10 ^ 19 → v * 10 + 9 < 10 ^ 19
room_now v m n e room = let more = room_more v 9 m n (omega arith) e room in let one : ((v * 10 + 9) + 1) * 1 ≤ ((v * 10 + 9) + 1) * 10 ^ n = mul-le-mul_left ((v * 10 + 9) + 1) (ten_pos n) in omega (arith, more, one)

ten_mono : (m n : ℕ) → m ≤ n → 10 ^ m ≤ 10 ^ n
ten_mono m n le =
    let e : 10 ^ n ≡ 10 ^ m * 10 ^ (n - m) = ap (λ k. 10 ^ k) (let whole : n ≡ m + (n - m) = omega (arith, le) in whole) ∙ pow-add 10 m (n - m) in
    let one : 10 ^ m * 1 ≤ 10 ^ m * 10 ^ (n - m) = mul-le-mul_left (10 ^ m) (ten_pos (n - m)) in
    omega (arith, e, one)

-- fewer places need less room
pub room_less : (v m n : ℕ) → m ≤ n → (v + 1) * 10 ^ n ≤ 10 ^ 19 → (v + 1) * 10 ^ m ≤ 10 ^ 19
room_less v m n le room = let less : (v + 1) * 10 ^ m ≤ (v + 1) * 10 ^ n = mul-le-mul_left (v + 1) (ten_mono m n le) in omega (arith, less, room)
