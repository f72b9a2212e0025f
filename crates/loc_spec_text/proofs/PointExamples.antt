-- Examples, computed: point lines, printed coordinates and answers.
use Rattle.std.proofs.Common.{◌≡◌, ℕ, List, [], ◌∷◌, refl, codes}
use Rattle.std.specs.Prelude.{negsuc, pos, Some, None, replicate}
use Rattle.std.specs.Fmt.{digits}
use Rattle.loc_spec_text.specs.Number.{scaled, unit}
use Rattle.loc_spec_plane.specs.Points.{Point, point_at}
use Rattle.loc_spec_text.specs.Points.{point_of, grid_text, answer_text, on_corner, on_border, in_face, output, Answer}

two_numbers : point_of 1 (codes "12.50 1.5e3") ≡ Some (point_at (pos 125) (pos 15000))
unfolding scaled unit
two_numbers = refl

with_word : point_of 0 (codes "  Point( -1   5 )\r") ≡ Some (point_at (negsuc 0) (pos 5))
unfolding scaled unit
with_word = refl

unread : (point_of 0 [] ≡ None) × (point_of 0 (codes "POINT EMPTY") ≡ None) × (point_of 0 (codes "1") ≡ None) × (point_of 0 (codes "1,2") ≡ None) × (point_of 0 (codes "1 2 3") ≡ None) × (point_of 0 (codes "POINTS (1 2)") ≡ None)
unfolding scaled unit
unread = (refl, refl, refl, refl, refl, refl)

too_fine : point_of 3 (codes "0.12345678901234567 1") ≡ None
unfolding scaled unit
too_fine = refl

too_long : point_of 3 (replicate 5000 97) ≡ None
unfolding scaled unit
too_long = refl

printed : (grid_text 1 (negsuc 4) ≡ codes "-0.5") × (grid_text 1 (pos 40) ≡ codes "4.0") × (grid_text 0 (pos 0) ≡ codes "0") × (grid_text 3 (pos 1005) ≡ codes "1.005")
unfolding digits
printed = (refl, refl, refl, refl)

printed_too : (grid_text 0 (negsuc 6) ≡ codes "-7") × (grid_text 3 (pos 0) ≡ codes "0.000") × (grid_text 15 (negsuc 0) ≡ codes "-0.000000000000001") × (grid_text 15 (pos 1000000000000000000) ≡ codes "1000.000000000000000") × (grid_text 0 (negsuc 999999999999999999) ≡ codes "-1000000000000000000")
unfolding digits
printed_too = (refl, refl, refl, refl, refl)

one : List ℕ
one = codes "1"

corner_answer : answer_text (on_corner 3 (codes "1" ∷ []) []) ≡ codes "corner 3 on \"1\" in"
unfolding digits
corner_answer = refl

border_answer : answer_text (on_border 3 (codes "1" ∷ codes "2" ∷ []) []) ≡ codes "border 3 on \"1\" \"2\" in"
unfolding digits
border_answer = refl

doubled_quotes : answer_text (in_face None (codes "Lot 7 \"east\"" ∷ [])) ≡ codes "face in \"Lot 7 \"\"east\"\"\""
doubled_quotes = refl

face_answer : answer_text (in_face (Some 2) []) ≡ codes "face 2 in"
unfolding digits
face_answer = refl

-- an empty layer: every point lies in the one face, which nothing covers
nowhere : Point → Answer
nowhere p = in_face None []

last_line_open : output (point_of 0) nowhere (codes "1 1\n2 2") ≡ codes "face in\nface in\n"
unfolding nowhere scaled unit
last_line_open = refl

unread_lines : output (point_of 3) nowhere (codes "2 2\n\n0.12345678901234567 1\naaaa\n2 2") ≡ codes "face in\nunread\nunread\nunread\nface in\n"
unfolding nowhere scaled unit
unread_lines = refl
