-- The lines of edges as they are put on a page.
use Rattle.std.proofs.Common.{◌≡◌, ℕ, ℤ, ◌+◌, ◌<◌, ◌≤◌, List, ◌++◌, length, get_or, drop, Result, Ok, ap, append_assoc, arith, codes, of_z, to_z, sym, ◌∙◌, refl}
use Rattle.std.specs.{Int.w64, Fmt.decimal, List.flat_map}
use Rattle.std.proofs.lemmas.List.FromFn.{get_or-range_with_len, length-range_with_len}
use Rattle.loc_io.specs.{Streams.Stream, declared.sink.WriteFault.WriteFault}
use Rattle.loc_page.specs.Puts.{PutsText}
use Rattle.loc_page.proofs.Pages.{Goes, goes_end, goes_next, put_same}
use Rattle.loc_spec_plane.specs.Points.{OnGrid}
use Rattle.loc_geom.proofs.Grid.{grid_back}
use Rattle.loc_spec_plane.specs.Tables.{Table, corner, edge_numbers, hi_of, lo_of, source_of}
use Rattle.loc_spec_text.specs.Points.{grid_text, position_text}
use Rattle.loc_upgrade.specs.EdgeTexts.{edge_line, edge_lines, ends_in, pair_text}

-- a coordinate that was put as 64 bits
pub same_value : (scale : ℕ) (v w : ℤ) {o m : Stream} {h k : List ℕ} {r : Result (Unit {0}) WriteFault} → OnGrid v → v ≡ w → PutsText (grid_text scale (to_z w64 (of_z w64 v))) o m h k r → PutsText (grid_text scale w) o m h k r
same_value scale v w on is put = put_same (ap (grid_text scale) (grid_back v on ∙ is)) put

-- two corners by their parts
pub pair_is : (scale : ℕ) (t : Table) (pair : ℕ × ℕ) → position_text scale (corner t pair.0) ++ (codes ", " ++ position_text scale (corner t pair.1)) ≡ pair_text scale t pair
pair_is scale t pair = sym (append_assoc (position_text scale (corner t pair.0)) (codes ", ") (position_text scale (corner t pair.1)))

-- the line of an edge by its parts
pub line_is : (scale : ℕ) (t : Table) (e : ℕ) → codes "edge " ++ (decimal e ++ (codes " " ++ (pair_text scale t (ends_in t e) ++ (codes " of " ++ (pair_text scale t (source_of t e) ++ codes "\n"))))) ≡ edge_line scale t e
line_is scale t e =
    let head = codes "edge " ++ decimal e in
    let ends = pair_text scale t (ends_in t e) in
    let from = pair_text scale t (source_of t e) in
    sym (append_assoc (head ++ codes " " ++ ends ++ codes " of ") from (codes "\n")
    ∙ (append_assoc (head ++ codes " " ++ ends) (codes " of ") (from ++ codes "\n")
    ∙ (append_assoc (head ++ codes " ") ends (codes " of " ++ (from ++ codes "\n"))
    ∙ (append_assoc head (codes " ") (ends ++ (codes " of " ++ (from ++ codes "\n")))
    ∙ append_assoc (codes "edge ") (decimal e) (codes " " ++ (ends ++ (codes " of " ++ (from ++ codes "\n"))))))))

-- the ends of an edge, and its source, by their numbers
pub ends_are : (scale : ℕ) (t : Table) (e : ℕ) (pair : ℕ × ℕ) → pair.0 ≡ lo_of t e → pair.1 ≡ hi_of t e → pair_text scale t pair ≡ pair_text scale t (ends_in t e)
ends_are scale t e pair lower upper = ap (λ (n : ℕ). pair_text scale t (n, pair.1)) lower ∙ ap (λ (n : ℕ). pair_text scale t (lo_of t e, n)) upper

pub source_is : (scale : ℕ) (t : Table) (e : ℕ) (pair : ℕ × ℕ) → pair ≡ source_of t e → pair_text scale t pair ≡ pair_text scale t (source_of t e)
source_is scale t e pair is = ap (pair_text scale t) is

-- what is left to be put: the lines of the edges from a number on
abbrev pub lines_from : ℕ → Table → ℕ → List ℕ
lines_from scale t e = flat_map (edge_line scale t) (drop e (edge_numbers t))

module _ (scale : ℕ) (t : Table) (o : Stream) (h : List ℕ) where
  -- at the beginning all lines are left
  pub all_left : (n : Stream) (k : List ℕ) (r : Result (Unit {0}) WriteFault) → PutsText (lines_from scale t 0) o n h k r → PutsText (edge_lines scale t) o n h k r
  unfolding edge_lines
  all_left n k r put = put

  -- one edge more
  pub next_left : (m : Stream) (k : List ℕ) (e : ℕ) → e < length t.ends → Goes (edge_lines scale t) (lines_from scale t e) o m h k → Goes (edge_lines scale t) (edge_line scale t e ++ lines_from scale t (e + 1)) o m h k
  next_left m k e less goes =
      let there : e < length (edge_numbers t) = (let many = length-range_with_len 0 (length t.ends) in omega (arith, less, many)) in
      let is : get_or (edge_numbers t) e 0 ≡ e = (let at = get_or-range_with_len 0 (length t.ends) e 0 less in omega (arith, at)) in
      goes_next (λ es. flat_map (edge_line scale t) es) (edge_numbers t) e 0 (edge_line scale t e) (edge_lines scale t) o m h k there (ap (λ n. edge_line scale t n ++ lines_from scale t (e + 1)) is) goes

  -- no edge more
  pub none_left : (m : Stream) (k : List ℕ) (e : ℕ) (x : Unit {0}) → length t.ends ≤ e → Goes (edge_lines scale t) (lines_from scale t e) o m h k → PutsText {T = Unit {0}} {E = WriteFault} (edge_lines scale t) o m h k (Ok x)
  none_left m k e x past goes =
      let over : length (edge_numbers t) ≤ e = (let many = length-range_with_len 0 (length t.ends) in omega (arith, past, many)) in
      goes_end (λ es. flat_map (edge_line scale t) es) (edge_numbers t) e (edge_lines scale t) o m h k x over refl goes
