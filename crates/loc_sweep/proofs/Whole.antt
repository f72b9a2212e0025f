-- What follows at the end of a sweep from what was kept corner by corner, and how that is kept.
use Rattle.std.proofs.Common.{◌≡◌, ℕ, ◌+◌, ◌-◌, ◌<◌, ◌≤◌, false, not, ◌&&◌, List, [], ◌∷◌, ◌++◌, length, get_or, option_map, refl, sym, ◌∙◌, ap, subst, inl, inr, arith}
use Rattle.std.specs.Prelude.{Option, Some, None, IfSome, ◌==◌, nat_lt}
use Rattle.std.proofs.lemmas.Bool.{cases_eq, cases_lt, and_left, and_right, or_left, true≢false, not_from_true, eq-eqb, lt-ltb, le-ltb}
use Rattle.std.proofs.lemmas.List.{length_push, get_or_push, get_or_append_left}
use Rattle.std.proofs.lemmas.Option.{IfSome_then}
use Rattle.loc_spec_plane.specs.{Lists.is_in, Points.before, Points.is_above}
use Rattle.loc_spec_plane.specs.Tables.{Table, IsTable, NoConflict, corner, edge, lo_of, hi_of}
use Rattle.loc_spec_plane.specs.Places.{alive_at, is_edge, IsFloor}
use Rattle.loc_laws_order.specs.Laws.{last_that}
use Rattle.loc_laws_order.proofs.{Floors.floor_of_list, ListLaws.list_from_chain, SweepLaw.sweep_law}
use Rattle.loc_status.specs.{Lists.IsNextBelow, Meaning.StatusMeaning, Meaning.IsFresh, Meaning.Seals}
use Rattle.loc_sweep.specs.Course.{AreNextBelow, IsBefore, IsNoted, HasSealed}
use Rattle.loc_sweep.specs.{Line.IsChainOf, Line.IsBegun, Line.reaches, Swept.IsSwept}
use Rattle.loc_edges.specs.Floors.{AreFloors}
use Rattle.loc_status.specs.Versions.{AreVersions}
use Rattle.loc_status.proofs.AtCorner.{alive_at_corner}
use Rattle.loc_sweep.proofs.JustBelow.{just_below}

-- ---- the line from one corner to the next
-- the edges alive at a corner are those that reach the next
pub reaches_next : (t : Table) → IsTable t → (c : ℕ) → c < length t.corners → (n : ℕ) → alive_at t (corner t c) n ≡ reaches t (c + 1) n
reaches_next t ok c fits n = alive_at_corner t ok c fits n

-- the status behind a corner is the one before the next
pub before_next : (t : Table) → IsTable t → (c : ℕ) → c < length t.corners → (m : StatusMeaning) → IsChainOf t c (alive_at t (corner t c)) m.list → IsBegun t (c + 1) m.inserted → m.inserted ≡ m.removed + length m.list → m.past_greatest ≤ length t.ends → IsBefore t (c + 1) m
before_next t ok c fits m list begun balance in_range =
    let back : c + 1 - 1 ≡ c = omega arith in
    record {
      list = subst (λ k. IsChainOf t k (reaches t (c + 1)) m.list) (sym back) (record { chain = list.chain; exact = λ n. list.exact n ∙ reaches_next t ok c fits n });
      begun = begun;
      balance = balance;
      in_range = in_range;
    }

-- a status to which nothing was done is the one before the first corner
pub before_first : (t : Table) (m : StatusMeaning) → IsFresh m → IsBefore t 0 m × HasSealed m []
before_first t m fresh = (
  record {
    list = subst (λ es. IsChainOf t (0 - 1) (reaches t 0) es) (sym fresh.list) (record { chain = refl; exact = λ n. sym (and_right (is_edge t n) (nat_lt (lo_of t n) 0 && not (nat_lt (hi_of t n) 0)) (and_left (nat_lt (lo_of t n) 0) (not (nat_lt (hi_of t n) 0)) (le-ltb (lo_of t n) 0 (omega arith)))) });
    begun = record { within = omega (arith, fresh.inserted); exact = λ n fits. (λ h. absurd (omega (arith, h)), λ h. absurd (omega (arith, h, fresh.inserted))) };
    balance = (let none : length m.list ≡ 0 = ap length fresh.list in omega (arith, none, fresh.inserted, fresh.removed));
    in_range = omega (arith, fresh.past_greatest);
  },
  record { count = fresh.sealed; told = fresh.sealed_lists; is_changed = fresh.is_changed },
)

-- a seal adds the list to those sealed
pub sealed_more : (old new : StatusMeaning) (lists : List (List ℕ)) → Seals old new → old.sealed ≡ length lists → IfSome old.sealed_lists (λ sealed. sealed ≡ lists) → HasSealed new (lists ++ old.list ∷ [])
sealed_more old new lists seals count told = record {
  count = seals.sealed ∙ (ap (λ n. n + 1) count ∙ sym (length_push lists old.list));
  told = subst (λ sealed. IfSome sealed (λ ls. ls ≡ lists ++ old.list ∷ [])) (sym seals.sealed_lists) (with_one old.sealed_lists told);
  is_changed = seals.is_changed;
}
  where
    with_one : (sealed : Option (List (List ℕ))) → IfSome sealed (λ ls. ls ≡ lists) → IfSome (option_map (λ ls. ls ++ old.list ∷ []) sealed) (λ ls. ls ≡ lists ++ old.list ∷ [])
    with_one None told = tt
    with_one (Some sealed) told = ap (λ ls. ls ++ old.list ∷ []) told

-- ---- what was noted, corner by corner
-- before the first corner nothing was noted
pub noted_none : (t : Table) (of_edge : List (Option ℕ)) → length of_edge ≡ length t.ends → IsNoted t 0 [] [] of_edge
noted_none t of_edge as_many = record {
  as_many_lists = refl;
  lists_are = λ i less. absurd (omega (arith, less));
  as_many_corners = refl;
  corners_are = λ i less. absurd (omega (arith, less));
  as_many_edges = as_many;
  edges_are = λ e fits less. absurd (omega (arith, less));
}

module _ (t : Table) (c : ℕ) (lists : List (List ℕ)) (of_corner of_edge of_edge' : List (Option ℕ)) (list : List ℕ) (noted : IsNoted t c lists of_corner of_edge) where
  -- the lists before, and the new one
  old_list : (i : ℕ) → i < c → get_or (lists ++ list ∷ []) i [] ≡ get_or lists i []
  old_list i less = get_or_append_left lists (list ∷ []) [] i (omega (arith, noted.as_many_lists))

  new_list : get_or (lists ++ list ∷ []) c [] ≡ list
  new_list = get_or_push lists list [] c noted.as_many_lists

  -- the list and the floor of one more corner, and the edges just below those that begin there
  pub noted_more : (floor : Option ℕ) → IsChainOf t c (alive_at t (corner t c)) list → floor ≡ last_that (λ e. is_above (edge t e) (corner t c)) list → AreNextBelow t c list of_edge of_edge' → IsNoted t (c + 1) (lists ++ list ∷ []) (of_corner ++ floor ∷ []) of_edge'
  noted_more floor chain floor_is below = record {
    as_many_lists = length_push lists list ∙ ap (λ n. n + 1) noted.as_many_lists;
    lists_are = λ i less. elim (cases_eq i c) [
      | inl same ↦ subst (λ j. IsChainOf t j (alive_at t (corner t j)) (get_or (lists ++ list ∷ []) j [])) (sym same) (subst (λ es. IsChainOf t c (alive_at t (corner t c)) es) (sym new_list) chain)
      | inr other ↦ subst (λ es. IsChainOf t i (alive_at t (corner t i)) es) (sym (old_list i (omega arith))) (noted.lists_are i (omega arith))
    ];
    as_many_corners = length_push of_corner floor ∙ ap (λ n. n + 1) noted.as_many_corners;
    corners_are = λ i less. elim (cases_eq i c) [
      | inl same ↦ subst (λ j. get_or (of_corner ++ floor ∷ []) j None ≡ last_that (λ e. is_above (edge t e) (corner t j)) (get_or (lists ++ list ∷ []) j [])) (sym same)
          (get_or_push of_corner floor None c noted.as_many_corners ∙ (floor_is ∙ ap (λ es. last_that (λ e. is_above (edge t e) (corner t c)) es) (sym new_list)))
      | inr other ↦ get_or_append_left of_corner (floor ∷ []) None i (omega (arith, noted.as_many_corners)) ∙ (noted.corners_are i (omega arith) ∙ ap (λ es. last_that (λ e. is_above (edge t e) (corner t i)) es) (sym (old_list i (omega arith))))
    ];
    as_many_edges = below.as_many ∙ noted.as_many_edges;
    edges_are = λ e fits less. elim (cases_lt (lo_of t e) c) [
      | inl earlier ↦ subst (λ es. IsNextBelow e es (get_or of_edge' e None)) (sym (old_list (lo_of t e) earlier))
          (subst (λ o. IsNextBelow e (get_or lists (lo_of t e) []) o) (sym (below.others e (λ same. omega arith))) (noted.edges_are e fits earlier))
      | inr later ↦ (let here : lo_of t e ≡ c = omega arith in
          subst (λ es. IsNextBelow e es (get_or of_edge' e None)) (sym (ap (λ j. get_or (lists ++ list ∷ []) j []) here ∙ new_list)) (below.are e fits here))
    ];
  }

-- ---- the end, where this was noted of all corners
-- all edges begin before the last corner, since each ends at a later one than it begins at
all_begun : (t : Table) → IsTable t → (k : ℕ) → IsBegun t (length t.corners) k → k ≡ length t.ends
all_begun t ok k begun = elim (cases_lt k (length t.ends)) [
  | inl less ↦ (let up = ok.goes_up k less in absurd (let began = (begun.exact k less).0 (omega arith) in omega arith))
  | inr more ↦ omega (arith, begun.within)
]

-- a list without members is empty
no_members : (es : List ℕ) → ((n : ℕ) → is_in n es ≡ false) → es ≡ []
no_members [] none = refl
no_members (e ∷ es) none = absurd (true≢false (sym (or_left (e == e) (is_in e es) (eq-eqb e e refl)) ∙ none e))

module _ (t : Table) (ok : IsTable t) where
  -- no edge reaches behind the last corner
  none_reaches : (n : ℕ) → reaches t (length t.corners) n ≡ false
  none_reaches n = elim (cases_lt n (length t.ends)) [
    | inr past ↦ and_left (is_edge t n) (nat_lt (lo_of t n) (length t.corners) && not (nat_lt (hi_of t n) (length t.corners))) (le-ltb n (length t.ends) past)
    | inl less ↦ (let up = ok.goes_up n less in
        and_right (is_edge t n) (nat_lt (lo_of t n) (length t.corners) && not (nat_lt (hi_of t n) (length t.corners)))
        (and_right (nat_lt (lo_of t n) (length t.corners)) (not (nat_lt (hi_of t n) (length t.corners))) (not_from_true (nat_lt (hi_of t n) (length t.corners)) (lt-ltb (hi_of t n) (length t.corners) up.1))))
  ]

  module _ (lists : List (List ℕ)) (of_corner of_edge : List (Option ℕ)) (noted : IsNoted t (length t.corners) lists of_corner of_edge) where
    -- no two edges conflict
    pub no_conflict : NoConflict t
    no_conflict = sweep_law t ok (λ i. get_or lists i []) (record {
      chains = λ i fits. (noted.lists_are i fits).chain;
      exact = λ i n fits. (noted.lists_are i fits).exact n;
    })

    -- so the lists are the versions
    versions : AreVersions t lists
    versions = record {
      as_many = noted.as_many_lists;
      are = λ i fits. (let chain = noted.lists_are i fits in list_from_chain t no_conflict (corner t i) (get_or lists i []) chain.chain chain.exact);
    }

    -- the floors are those of the corners, and the edges just below are those of all edges
    pub are_floors : AreFloors t (record { of_corner = of_corner; of_edge = of_edge })
    are_floors = record {
      as_many_corners = noted.as_many_corners;
      as_many_edges = noted.as_many_edges;
      of_corner = λ c fits. subst (λ o. IsFloor t (corner t c) o) (sym (noted.corners_are c fits)) (floor_of_list t (corner t c) (get_or lists c []) (versions.are c fits));
      of_edge = λ e fits. (let up = ok.goes_up e fits in
          let within : lo_of t e < length t.corners = omega (arith, up.0, up.1) in
          just_below t e (get_or lists (lo_of t e) []) (versions.are (lo_of t e) within) (get_or of_edge e None) (noted.edges_are e fits within));
    }

    -- the lists sealed are the versions, and each edge was inserted and removed
    pub is_swept : (m : StatusMeaning) → IsBefore t (length t.corners) m → HasSealed m lists → IsSwept t m
    is_swept m before sealed =
        let all : m.inserted ≡ length t.ends = all_begun t ok m.inserted before.begun in
        let empty : length m.list ≡ 0 = ap length (no_members m.list (λ n. before.list.exact n ∙ none_reaches n)) in
        record {
          sealed = sealed.count ∙ noted.as_many_lists;
          versions = IfSome_then m.sealed_lists sealed.told (λ ls same. subst (AreVersions t) (sym same) versions);
          inserted = all;
          removed = omega (arith, before.balance);
          in_range = before.in_range;
          is_changed = sealed.is_changed;
        }
