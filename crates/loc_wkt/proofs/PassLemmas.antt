-- What is kept of numbers, points and rings as they are read.
use Rattle.std.proofs.Common.{◌≡◌, ℕ, ◌+◌, ◌-◌, ◌++◌, map, not, get_or, ltb, length-append, List, [], ◌∷◌, Bool, true, false, Option, Some, None, option_map, refl, sym, ◌∙◌, ap, ap₂, length, ◌<◌, ◌≤◌, ◌^◌, ℤ, subst, arith}
use Rattle.std.specs.Prelude.{if◌then◌else◌, is_none, is_err, IfErr, IfOk, IsErrAnd, OnOk, Result, Ok, Err}
use Rattle.std.specs.List.{fold}
use Rattle.std.proofs.{lemmas.Bool.le-ltb, lemmas.Bool.lt-ltb, lemmas.Bool.true≢false, lemmas.List.get_or_default}
use Rattle.std.proofs.{lemmas.Result.err_from_is_err_and, lemmas.Option.some_pair_parts}
use Rattle.loc_spec_plane.specs.Points.{Point, point_at, same_point}
use Rattle.loc_spec_text.specs.declared.TextFault.{TextFault}
use Rattle.loc_spec_text.specs.declared.TextFault.TheVariants.{RingOpen, RingShort}
use Rattle.loc_spec_text.specs.{Bytes.or_else, Reader.wide_more, Reader.wide_point_at}
use Rattle.loc_spec_text.specs.Geometry.{Symbol, number, Polygon, Ring, WidePoint, two, three, four}
use Rattle.loc_spec_text.specs.Reading.{Polygons, all_rings, ring_fault}
use Rattle.loc_rings.specs.Values.{with_ring}
use Rattle.loc_wkt.specs.{Fronts.number_at, Lists.IsFurther, Lists.IsUnread, declared.values.Counter.Counter}
use Rattle.loc_wkt.specs.Passes.{HasRoom, after_number, after_point, after_polygon, after_ring, counted, first_two, has_two, point_or_zero, value_or_zero, with_values}
use Rattle.loc_wkt.specs.declared.values.Values.{Values}

-- a number is at the front
pub number_front : (ps rest : List Symbol) (z : List ℕ) → number_at ps ≡ Some (z, rest) → ps ≡ number z ∷ rest
unfolding number_at
number_front (number w ∷ ps) rest z e = let p = some_pair_parts w z ps rest e in ap₂ (λ a b. number a ∷ b) p.0 p.1
number_front _ rest z e = absurd (cc)

-- no number stands behind the first two of a point
pub none_further : (ps : List Symbol) → number_at ps ≡ None → (x y : List ℕ) → wide_more x y ps ≡ Some (two x y, ps)
unfolding number_at
none_further (number w ∷ ps) e x y = absurd (cc)
none_further _ e x y = refl

third_last : (x y z : List ℕ) (qs : List Symbol) → number_at qs ≡ None → wide_more x y (number z ∷ qs) ≡ Some (three x y z, qs)
unfolding number_at
third_last x y z (number w ∷ qs) h = absurd (cc)
third_last x y z _ h = refl

-- one stands there
pub one_further : (ps rest : List Symbol) (z : List ℕ) → number_at ps ≡ Some (z, rest) → number_at rest ≡ None → (x y : List ℕ) → IsFurther x y ps rest
one_further ps rest z e f x y = record { member = three x y z; gives = ap (wide_more x y) (number_front ps rest z e) ∙ third_last x y z rest f; front = refl; further = refl }

-- two stand there
pub two_further : (ps rest behind : List Symbol) (z m : List ℕ) → number_at ps ≡ Some (z, rest) → number_at rest ≡ Some (m, behind) → (x y : List ℕ) → IsFurther x y ps behind
two_further ps rest behind z m e f x y = record {
  member = four x y z m;
  gives = ap (wide_more x y) (number_front ps rest z e ∙ ap (λ qs. number z ∷ qs) (number_front rest behind m f));
  front = refl;
  further = refl;
}

-- a point has a first number
pub no_first : (ps : List Symbol) → number_at ps ≡ None → wide_point_at ps ≡ None
unfolding number_at
no_first (number w ∷ ps) e = absurd (cc)
no_first _ e = refl

first_last : (x : List ℕ) (qs : List Symbol) → number_at qs ≡ None → wide_point_at (number x ∷ qs) ≡ None
unfolding number_at
first_last x (number w ∷ qs) h = absurd (cc)
first_last x _ h = refl

-- and a second
pub no_second : (ps rest : List Symbol) (x : List ℕ) → number_at ps ≡ Some (x, rest) → number_at rest ≡ None → wide_point_at ps ≡ None
no_second ps rest x e f = ap wide_point_at (number_front ps rest x e) ∙ first_last x rest f

-- with both, what follows them decides
pub both_numbers : (ps rest behind : List Symbol) (x y : List ℕ) → number_at ps ≡ Some (x, rest) → number_at rest ≡ Some (y, behind) → wide_point_at ps ≡ wide_more x y behind
both_numbers ps rest behind x y e f = ap wide_point_at (number_front ps rest x e ∙ ap (λ qs. number x ∷ qs) (number_front rest behind y f))

none_mapped : {X Y : Type 0} (f : X → Y) (o : Option X) → None ≡ option_map f o → o ≡ None
none_mapped f None h = refl
none_mapped f (Some x) h = absurd (cc)

-- a ring without fault is kept
pub kept_ring : (v : Values) (ring : Ring Point) (counter : Counter) (built : Polygons) → None ≡ option_map (λ (f : ℕ → TextFault). f (v.rings.count + 1)) (ring_fault ring)
    → counter ≡ record { count = v.rings.count + 1; fault = or_else v.rings.fault None } → built ≡ with_ring v.built ring
    → record v { rings = counter; built = built } ≡ with_values v ring
unfolding counted
kept_ring v ring counter built e f g = ap₂ (λ r b. record v { rings = r; built = b })
    (f ∙ ap (λ o. record { count = v.rings.count + 1; fault = or_else v.rings.fault o }) e)
    (g ∙ ap (λ b. if b then with_ring v.built ring else v.built) (sym (ap is_none (none_mapped _ (ring_fault ring) e))))

some_mapped : {X Y : Type 0} (f : X → Y) (y : Y) (o : Option X) → Some y ≡ option_map f o → is_none o ≡ false
some_mapped f y None h = absurd (cc)
some_mapped f y (Some x) h = refl

-- and one at fault is left out
pub lost_ring : (v : Values) (ring : Ring Point) (counter : Counter) (fault : TextFault) → Some fault ≡ option_map (λ (f : ℕ → TextFault). f (v.rings.count + 1)) (ring_fault ring)
    → counter ≡ record { count = v.rings.count + 1; fault = or_else v.rings.fault (Some fault) }
    → record v { rings = counter } ≡ with_values v ring
unfolding counted
lost_ring v ring counter fault e f = ap₂ (λ r b. record v { rings = r; built = b })
    (f ∙ ap (λ o. record { count = v.rings.count + 1; fault = or_else v.rings.fault o }) e)
    (ap (λ b. if b then with_ring v.built ring else v.built) (sym (some_mapped _ fault (ring_fault ring) e)))

-- from one fact on Ok to another
pub on_ok : {X F : Type 0} (r : Result X F) (P Q : Type 0) → (P → Q) → OnOk r P → OnOk r Q
on_ok (Ok x) P Q f h = f h
on_ok (Err e) P Q f h = tt

module _ (v next last : Values) (x y : List ℕ) (e : next ≡ after_number v x) (f : last ≡ after_number next y) where
  -- a point of two numbers has been read
  pub point_kept : last ≡ after_point v (two x y)
  unfolding after_point
  point_kept = f ∙ ap (λ n. after_number n y) e

  -- one of more has
  pub wide_point_kept : (p : WidePoint) → first_two p ≡ (x, y) → has_two p ≡ false → record last { is_wide = true } ≡ after_point v p
  unfolding after_point
  wide_point_kept p front wide = ap {A = Values} {B = Values} (λ n. record n { is_wide = true }) (f ∙ ap (λ n. after_number n y) e)
      ∙ ap₂ (λ q b. record (after_number (after_number v q.0) q.1) { is_wide = if b then v.is_wide else true }) (sym front) (sym wide)

  -- and there is room for more
  pub point_room : (text rest : List ℕ) → HasRoom v text → length rest + 2 ≤ length text → HasRoom last rest
  unfolding counted
  point_room text rest room shorter = subst (λ n. HasRoom n rest) (sym (f ∙ ap (λ n. after_number n y) e)) (record {
    scale = room.scale;
    numbers = omega (arith, room.numbers);
    rings = omega (arith, room.rings);
    kept = room.kept;
    polygons = omega (arith, room.polygons);
  })

  -- its values
  pub point_made : (point : Point) (p : WidePoint) (a b : ℤ) → point ≡ point_at a b → a ≡ value_or_zero v.scale x → b ≡ value_or_zero next.scale y → first_two p ≡ (x, y) → point ≡ point_or_zero v.scale p
  point_made point p a b made left right front = made ∙ ap₂ point_at left (right ∙ ap (λ n. value_or_zero n.scale y) e) ∙ ap (λ q. point_at (value_or_zero v.scale q.0) (value_or_zero v.scale q.1)) (sym front)

-- room for one number more
pub number_room : (v next : Values) (x text : List ℕ) → next ≡ after_number v x → HasRoom v text → 1 < length text → next.numbers.count < 2 ^ 28
unfolding counted
number_room v next x text e room some = omega (arith, room.numbers, ap (λ n. n.numbers.count) e)

-- a wide point changes no room
pub wide_room : (v : Values) (text rest : List ℕ) → HasRoom v text → length rest ≤ length text → HasRoom (record v { is_wide = true }) rest
wide_room v text rest room shorter = record { scale = room.scale; numbers = omega (arith, room.numbers); rings = omega (arith, room.rings); kept = room.kept; polygons = omega (arith, room.polygons) }

-- less text needs less room
pub less_room : (v : Values) (text rest : List ℕ) → HasRoom v text → length rest ≤ length text → HasRoom v rest
less_room v text rest room shorter = record { scale = room.scale; numbers = omega (arith, room.numbers); rings = omega (arith, room.rings); kept = room.kept; polygons = omega (arith, room.polygons) }

fault_by : (n : ℕ) (a b : Bool) → a ≡ false → b ≡ false → Some (RingOpen n) ≡ option_map (λ (f : ℕ → TextFault). f n) (if a then Some RingShort else if not b then Some RingOpen else None)
fault_by n true b h k = absurd (cc)
fault_by n false true h k = absurd (cc)
fault_by n false false h k = refl

-- four points or more, of which the last is not the first
pub ring_open : (n : ℕ) (points : List Point) (p q : Point) → 4 ≤ length points → p ≡ get_or points 0 p → q ≡ get_or points (length points - 1) q → same_point p q ≡ false
    → Some (RingOpen n) ≡ option_map (λ (f : ℕ → TextFault). f n) (ring_fault points)
ring_open n [] p q long e f g = absurd (omega arith)
ring_open n (x ∷ xs) p q long e f g =
    let last : get_or (x ∷ xs) (length (x ∷ xs) - 1) q ≡ get_or (x ∷ xs) (length xs) x = get_or_default (x ∷ xs) (length (x ∷ xs) - 1) q x (omega arith) ∙ ap (λ i. get_or (x ∷ xs) i x) (let i : length (x ∷ xs) - 1 ≡ length xs = omega arith in i) in
    fault_by n (ltb (length (x ∷ xs)) 4) (same_point x (get_or (x ∷ xs) (length xs) x)) (le-ltb (length (x ∷ xs)) 4 long) (ap₂ same_point (sym e) (sym (f ∙ last)) ∙ g)

short_by : (n : ℕ) (a b : Bool) → a ≡ true → Some (RingShort n) ≡ option_map (λ (f : ℕ → TextFault). f n) (if a then Some RingShort else if not b then Some RingOpen else None)
short_by n true b h = refl
short_by n false b h = absurd (cc)

-- fewer than four points
pub ring_short : (n : ℕ) (points : List Point) → length points < 4 → Some (RingShort n) ≡ option_map (λ (f : ℕ → TextFault). f n) (ring_fault points)
ring_short n [] few = refl
ring_short n (x ∷ xs) few = short_by n (ltb (length (x ∷ xs)) 4) _ (lt-ltb (length (x ∷ xs)) 4 few)

closed_by : (n : ℕ) (a b : Bool) → a ≡ false → b ≡ true → None ≡ option_map (λ (f : ℕ → TextFault). f n) (if a then Some RingShort else if not b then Some RingOpen else None)
closed_by n true b h k = absurd (cc)
closed_by n false false h k = absurd (cc)
closed_by n false true h k = refl

-- four points or more, of which the last is the first
pub ring_closed : (n : ℕ) (points : List Point) (p q : Point) → 4 ≤ length points → p ≡ get_or points 0 p → q ≡ get_or points (length points - 1) q → same_point p q ≡ true
    → None ≡ option_map (λ (f : ℕ → TextFault). f n) (ring_fault points)
ring_closed n [] p q long e f g = absurd (omega arith)
ring_closed n (x ∷ xs) p q long e f g =
    let last : get_or (x ∷ xs) (length (x ∷ xs) - 1) q ≡ get_or (x ∷ xs) (length xs) x = get_or_default (x ∷ xs) (length (x ∷ xs) - 1) q x (omega arith) ∙ ap (λ i. get_or (x ∷ xs) i x) (let i : length (x ∷ xs) - 1 ≡ length xs = omega arith in i) in
    closed_by n (ltb (length (x ∷ xs)) 4) (same_point x (get_or (x ∷ xs) (length xs) x)) (le-ltb (length (x ∷ xs)) 4 long) (ap₂ same_point (sym e) (sym (f ∙ last)) ∙ g)

rings-begun : (polygons : Polygons) → length (all_rings (polygons ++ [] ∷ [])) ≡ length (all_rings polygons)
rings-begun [] = refl
rings-begun (rings ∷ more) = length-append rings (all_rings (more ++ [] ∷ [])) ∙ (ap (λ n. length rings + n) (rings-begun more) ∙ sym (length-append rings (all_rings more)))

-- a further polygon has begun, and less text is left
pub begun_room : (v : Values) (built : Polygons) (text rest : List ℕ) → built ≡ v.built ++ [] ∷ [] → HasRoom v text → length rest < length text → HasRoom (record v { built = built }) rest
begun_room v built text rest is room shorter = record {
  scale = room.scale;
  numbers = omega (arith, room.numbers);
  rings = omega (arith, room.rings);
  kept = omega (arith, ap (λ (p : Polygons). length (all_rings p)) is, rings-begun v.built, room.kept);
  polygons = omega (arith, ap length is, length-append v.built ([] ∷ []), room.polygons);
}

-- so there is one
pub begun_some : (v : Values) (built : Polygons) → built ≡ v.built ++ [] ∷ [] → 0 < length built
begun_some v built is = omega (arith, ap length is, length-append v.built ([] ∷ []))

-- what a call says that did not fail
pub not_err : {X F : Type 0} (r : Result X F) (P : Type 0) → is_err r ≡ false → OnOk r P → P
not_err (Ok x) P fine h = h
not_err (Err e) P fine h = absurd (true≢false fine)

-- points leave the polygons as they are
pub points_keep : (v : Values) (points : List WidePoint) → (fold after_point v points).built ≡ v.built
unfolding after_point
points_keep v [] = refl
points_keep v (p ∷ points) = points_keep (after_point v p) points

-- and the rings
pub points_keep_rings : (v : Values) (points : List WidePoint) → (fold after_point v points).rings ≡ v.rings
unfolding after_point
points_keep_rings v [] = refl
points_keep_rings v (p ∷ points) = points_keep_rings (after_point v p) points

-- a ring makes no polygon
pub length-with_ring : (polygons : Polygons) (ring : Ring Point) → length (with_ring polygons ring) ≡ length polygons
length-with_ring [] ring = refl
length-with_ring (rings ∷ []) ring = refl
length-with_ring (rings ∷ more ∷ polygons) ring = omega (arith, length-with_ring (more ∷ polygons) ring)

-- and is one ring at most
pub rings-with_ring : (polygons : Polygons) (ring : Ring Point) → length (all_rings (with_ring polygons ring)) ≤ length (all_rings polygons) + 1
rings-with_ring [] ring = omega arith
rings-with_ring (rings ∷ []) ring = omega (arith, length-append (rings ++ ring ∷ []) [], length-append rings (ring ∷ []), length-append rings [])
rings-with_ring (rings ∷ more ∷ polygons) ring = omega (arith, rings-with_ring (more ∷ polygons) ring, length-append rings (all_rings (with_ring (more ∷ polygons) ring)), length-append rings (all_rings (more ∷ polygons)))

built_by : (b : Bool) (polygons : Polygons) (ring : Ring Point) → (length (if b then with_ring polygons ring else polygons) ≡ length polygons) × (length (all_rings (if b then with_ring polygons ring else polygons)) ≤ length (all_rings polygons) + 1)
built_by true polygons ring = (length-with_ring polygons ring, rings-with_ring polygons ring)
built_by false polygons ring = (refl, omega arith)

-- the polygons stay as many
pub ring_started : (v after : Values) (ring : Ring Point) → after ≡ with_values v ring → length after.built ≡ length v.built
ring_started v after ring e = ap (λ n. length n.built) e ∙ (built_by (is_none (ring_fault ring)) v.built ring).0

-- there is room for more behind a ring
pub ring_room : (v after : Values) (ring : Ring Point) (text rest : List ℕ) → after ≡ with_values v ring → HasRoom v rest → v.rings.count + length text < 2 ^ 28 → length rest < length text → HasRoom after rest
unfolding counted
ring_room v after ring text rest e room rings shorter = subst (λ n. HasRoom n rest) (sym e) (let b = built_by (is_none (ring_fault ring)) v.built ring in record {
  scale = room.scale;
  numbers = omega (arith, room.numbers);
  rings = omega (arith, rings);
  kept = omega (arith, room.kept, b.1);
  polygons = omega (arith, room.polygons, b.0);
})

-- a ring has been read whose points have been
pub ring_kept : (v between after : Values) (ring : Ring WidePoint) (points : Ring Point) → points ≡ map (point_or_zero v.scale) ring → between ≡ fold after_point v ring → after ≡ with_values between points → after ≡ after_ring v ring
unfolding after_ring
ring_kept v between after ring points e f g = g ∙ ap₂ with_values f e

-- a polygon has been read whose rings have been
pub polygon_kept : (v after : Values) (built : Polygons) (rings : Polygon WidePoint) → built ≡ v.built ++ [] ∷ [] → after ≡ fold after_ring (record v { built = built }) rings → after ≡ after_polygon v rings
unfolding after_polygon
polygon_kept v after built rings e f = f ∙ ap (λ ps. fold after_ring (record v { built = ps }) rings) e

-- one reading from another
pub if_ok : {X F : Type 0} (r : Result X F) (P Q : X → Type 0) → ((x : X) → P x → Q x) → IfOk r P → IfOk r Q
if_ok (Ok x) P Q f h = f x h
if_ok (Err e) P Q f h = tt

pub if_err : {X F : Type 0} (r : Result X F) (P Q : F → Type 0) → ((e : F) → P e → Q e) → IfErr r P → IfErr r Q
if_err (Ok x) P Q f h = tt
if_err (Err e) P Q f h = f e h

-- nothing is read where nothing else is
pub unread : {X Y : Type 0} (fault : TextFault) (o : Option X) (p : Option Y) → (o ≡ None → p ≡ None) → IsUnread fault o → IsUnread fault p
unread fault o p f h k = let u = h k in (u.0, f u.1)

-- the same where a `?` hands a fault on
pub unread_handed : {T X Y : Type 0} (r : Result T TextFault) (fault : TextFault) (o : Option X) (p : Option Y) → IsErrAnd r (λ e. e ≡ fault) → (o ≡ None → p ≡ None) → IsUnread fault o → IfErr r (λ e. IsUnread e p)
unread_handed r fault o p given f h = let q = err_from_is_err_and r given in rw (q.1, q.2) (unread fault o p f h)
