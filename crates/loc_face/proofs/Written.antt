-- The text of the face above a floor, as it is written, and the lines that refuse a point.
use Rattle.std.proofs.Common.{◌≡◌, ℕ, ◌+◌, ◌*◌, ◌<◌, ◌≤◌, Option, Some, None, Result, Ok, sym, ◌∙◌, ap, subst, arith}
use Rattle.loc_spec_text.specs.{Bytes.Text, Points.ended, Points.point_of}
use Rattle.loc_io.specs.{Meaning.Meaning, Streams.Stream}
use Rattle.loc_spec_plane.specs.{declared.Place.Place, Points.Point, Tables.Table, Faces.face_above, Faces.face_count}
use Rattle.loc_place.specs.{Found.place_at, Planar.IsPlanar, Steps.most_steps}
use Rattle.loc_half.specs.HalfEdgeLists.{HalfEdgeLists, AreHalfEdges, next_in}
use Rattle.loc_faces.specs.{FaceLists.FaceLists, FaceLists.AreFaces, FaceLists.face_in, FaceTexts.face_text}
use Rattle.loc_faces.specs.Subdivision.{next_at}
use Rattle.loc_faces.proofs.Computed.{face_same, next_same}
use Rattle.loc_course.specs.Courses.{Stopped, refused, refuses, searches}
use Rattle.loc_course.specs.Following.{Follows, moment, refuses_by, searches_by}
use Rattle.loc_course.specs.Outcomes.{exactly}
use Rattle.loc_course.proofs.Told.{exactly_it}
use Rattle.loc_face.specs.FaceCourses.{place_course, point_course, text_above}
use Rattle.std.specs.Prelude.{codes}

-- the face above a floor is one of the faces
pub above_below : (t : Table) (next : ℕ → ℕ) (lists : FaceLists) → AreFaces t next lists → (floor : Option ℕ) → face_above (face_in lists) floor < face_count t next
above_below t next lists faces None = omega arith
above_below t next lists faces (Some e) = let below = faces.within (2 * e) in let count = faces.count in omega (arith, below, count)

-- the text of a face by its lists is the text that is computed
pub text_is : (scale : ℕ) (t : Table) → IsPlanar t → (half : HalfEdgeLists) → AreHalfEdges t half → (lists : FaceLists) → AreFaces t (next_in half) lists → (floor : Option ℕ) (number : ℕ) → number ≡ face_above (face_in lists) floor
    → face_text scale t (next_in half) (face_in lists) number ≡ text_above scale t floor
unfolding text_above
text_is scale t planar half are lists faces floor number is =
    ap (face_text scale t (next_in half) (face_in lists)) is
    ∙ (ap (λ (next : ℕ → ℕ). face_text scale t next (face_in lists) (face_above (face_in lists) floor)) (next_same t planar half are)
    ∙ ap (λ (face : ℕ → ℕ). face_text scale t (next_at t) face (face_above face floor)) (face_same t planar half are lists faces))

-- what came, told twice
pub same_ok : {T E : Type 0} (r : Result T E) (x y : T) → r ≡ Ok x → r ≡ Ok y → x ≡ y
same_ok r x y first second = let both : Ok x ≡ Ok y = sym first ∙ second in cc

-- a place that was found by so many steps
pub sought : (scale : ℕ) (t : Table) (p : Point) (place : Place) (shelf : Meaning) (o m : Stream) (k l : ℕ) (end : Option Stopped) → place_at t p ≡ place → k ≤ l → l ≤ k + most_steps t
    → Follows (place_course scale t place) (moment shelf o l) (moment shelf m l) end → Follows (searches (most_steps t) (place_course scale t (place_at t p))) (moment shelf o k) (moment shelf m l) end
sought scale t p place shelf o m k l end is up within follows = searches_by l up within (subst (λ (q : Place). Follows (place_course scale t q) (moment shelf o l) (moment shelf m l) end) (sym is) follows)

-- a refusal by a line
pub refuses_it : (text line : Text) (shelf : Meaning) (o : Stream) (k : ℕ) → line ≡ text → Follows (refuses (exactly text)) (moment shelf o k) (moment shelf o k) (Some (refused line))
refuses_it text line shelf o k is = refuses_by line (exactly_it text line is)

-- a word that is no point is refused
pub unread_word : (scale : ℕ) (t : Table) (word line : Text) (shelf : Meaning) (o : Stream) (k : ℕ) → None ≡ point_of scale word → line ≡ ended (codes "point: unread")
    → Follows (point_course scale t (point_of scale word)) (moment shelf o k) (moment shelf o k) (Some (refused line))
unread_word scale t word line shelf o k none is =
    subst (λ (p : Option Point). Follows (point_course scale t p) (moment shelf o k) (moment shelf o k) (Some (refused line))) none (refuses_it (ended (codes "point: unread")) line shelf o k is)
