-- What holds on each turn of the readers of lists.
use Rattle.std.proofs.Common.{◌≡◌, ℕ, ◌≤◌, List, [], ◌∷◌, ◌++◌, map, length, true, false, Some, None, refl, sym, ◌∙◌, ap, ap₂, arith}
use Rattle.std.specs.List.{fold}
use Rattle.std.proofs.lemmas.List.{map-append}
use Rattle.loc_spec_plane.specs.Points.{Point}
use Rattle.loc_spec_text.specs.{Geometry.WidePoint, Geometry.symbols, Reader.Reader, Reader.wide_point_at}
use Rattle.loc_wkt.specs.{declared.values.Values.Values, Fronts.goes_on_at, Lists.IsRead, Lists.listed_at}
use Rattle.loc_wkt.specs.Passes.{HasRoom, after_point, point_or_zero}
use Rattle.loc_wkt.proofs.MemberLemmas.{IsSoFar}
use Rattle.loc_wkt.proofs.ListLemmas.{TakesSymbols, begin, ends, goes_on, kept_more, no_end, no_member, point_takes}

-- Members of the list that starts there have been read, and their values are kept.
pub record IsListSoFar {X : Type 0} (read : Reader X) (step : Values → X → Values) (before now : Values) (start rest : List ℕ) : Type 0 where
  pub members : List X
  pub so_far : IsSoFar read (symbols start) members (symbols rest)
  pub kept : now ≡ fold step before members
  pub room : HasRoom now rest
  pub shorter : length rest ≤ length start

module _ {X : Type 0} (read : Reader X) (step : Values → X → Values) (before now : Values) (start rest : List ℕ) where
  -- nothing has been read
  pub list_begins : HasRoom before start → IsListSoFar read step before before start start
  list_begins room = record { members = []; so_far = begin read (symbols start); kept = refl; room = room; shorter = omega arith }

  module _ (h : IsListSoFar read step before now start rest) where
    -- no member follows
    pub list_stops : read (symbols rest) ≡ None → listed_at read (symbols start) ≡ None
    list_stops e = no_member read (symbols start) h.members (symbols rest) h.so_far e

    module _ (after : Values) (more : List ℕ) (r : IsRead read rest more (λ x. after ≡ step now x)) where
      -- neither a comma nor a close mark follows
      pub list_breaks : goes_on_at (symbols more) ≡ None → listed_at read (symbols start) ≡ None
      list_breaks f = no_end read (symbols start) h.members (symbols rest) h.so_far r.member (symbols more) r.gives f

      -- a comma follows
      pub list_goes_on : TakesSymbols read → (behind : List ℕ) → goes_on_at (symbols more) ≡ Some (true, symbols behind) → HasRoom after behind → length behind ≤ length rest → IsListSoFar read step before after start behind
      list_goes_on takes behind f room shorter = record {
        members = h.members ++ r.member ∷ [];
        so_far = goes_on read (symbols start) h.members (symbols rest) h.so_far r.member (symbols more) r.gives takes (symbols behind) f;
        kept = kept_more step before now after h.members r.member h.kept r.meaning;
        room = room;
        shorter = omega (arith, h.shorter);
      }

      -- a close mark follows
      pub list_ends : TakesSymbols read → (behind : List ℕ) → goes_on_at (symbols more) ≡ Some (false, symbols behind) → IsRead (listed_at read) start behind (λ xs. after ≡ fold step before xs)
      list_ends takes behind f = record {
        member = h.members ++ r.member ∷ [];
        gives = ends read (symbols start) h.members (symbols rest) h.so_far r.member (symbols more) r.gives takes (symbols behind) f;
        meaning = kept_more step before now after h.members r.member h.kept r.meaning;
      }

-- The same of a list of points, which are kept beside.
pub record ArePointsSoFar (before now : Values) (start rest : List ℕ) (kept : List Point) : Type 0 where
  pub list : IsListSoFar wide_point_at after_point before now start rest
  pub points : kept ≡ map (point_or_zero before.scale) list.members
  pub scale : now.scale ≡ before.scale

-- nothing has been read
pub points_begin : (before : Values) (start : List ℕ) → HasRoom before start → ArePointsSoFar before before start start []
unfolding list_begins
points_begin before start room = record { list = list_begins wide_point_at after_point before before start start room; points = refl; scale = refl }

same_scale : (v w : Values) (p : WidePoint) → w ≡ after_point v p → w.scale ≡ v.scale
unfolding after_point
same_scale v w p e = ap (λ u. u.scale) e

module _ (before now after : Values) (start rest more : List ℕ) (points : List Point) (x : Point) (h : ArePointsSoFar before now start rest points)
    (r : IsRead wide_point_at rest more (λ p. (x ≡ point_or_zero now.scale p) × (after ≡ after_point now p))) where
  read_point : IsRead wide_point_at rest more (λ p. after ≡ after_point now p)
  read_point = record { member = r.member; gives = r.gives; meaning = r.meaning.1 }

  more_points : points ++ x ∷ [] ≡ map (point_or_zero before.scale) (h.list.members ++ r.member ∷ [])
  more_points = ap₂ (λ ps p. ps ++ p ∷ []) h.points (r.meaning.0 ∙ ap (λ scale. point_or_zero scale r.member) h.scale) ∙ sym (map-append (point_or_zero before.scale) h.list.members (r.member ∷ []))

  -- neither a comma nor a close mark follows
  pub points_break : goes_on_at (symbols more) ≡ None → listed_at wide_point_at (symbols start) ≡ None
  points_break f = list_breaks wide_point_at after_point before now start rest h.list after more read_point f

  -- a comma follows
  pub points_go_on : (behind : List ℕ) → goes_on_at (symbols more) ≡ Some (true, symbols behind) → HasRoom after behind → length behind ≤ length rest → ArePointsSoFar before after start behind (points ++ x ∷ [])
  unfolding list_goes_on read_point
  points_go_on behind f room shorter = record {
    list = list_goes_on wide_point_at after_point before now start rest h.list after more read_point point_takes behind f room shorter;
    points = more_points;
    scale = same_scale now after r.member r.meaning.1 ∙ h.scale;
  }

  -- a close mark follows
  pub points_end : (behind : List ℕ) → goes_on_at (symbols more) ≡ Some (false, symbols behind)
      → IsRead (listed_at wide_point_at) start behind (λ ps. (points ++ x ∷ [] ≡ map (point_or_zero before.scale) ps) × (after ≡ fold after_point before ps))
  unfolding list_ends read_point
  points_end behind f = record {
    member = h.list.members ++ r.member ∷ [];
    gives = (list_ends wide_point_at after_point before now start rest h.list after more read_point point_takes behind f).gives;
    meaning = (more_points, kept_more after_point before now after h.list.members r.member h.list.kept r.meaning.1);
  }
