-- A tree that stands in the rows in a version stands in their table by number: it is read there as its items, and no path is longer than it is deep.
use Rattle.std.proofs.Common.{◌≡◌, ◌≢◌, ℕ, zero, suc, ◌+◌, ◌-◌, ◌*◌, ◌^◌, ◌<◌, ◌≤◌, Bool, true, false, cond, ◌&&◌, List, [], ◌∷◌, ◌++◌, length, refl, sym, ◌∙◌, ap, subst, arith}
use Rattle.std.specs.Prelude.{Option, Some, None, slice_get, get_or, nat_le, ◌==◌}
use Rattle.std.proofs.{lemmas.Bool.le-ltb, lemmas.Bool.not_from_false, Math.Pow.pow_mono}
use Rattle.std.proofs.lemmas.Option.{slice_get_within}
use Rattle.loc_pool.proofs.{Maps.length-links, Same.some-link}
use Rattle.loc_pool.specs.{declared.Link.Link, declared.Extra.Extra, declared.Turn.Turn}
use Rattle.loc_pool.specs.{declared.Turn.TheVariants.Left, declared.Turn.TheVariants.Right, Maps.Map, Maps.links}
use Rattle.loc_pool.specs.Rows.{Row, row, child_at, child_by, plain_child, IsPlace}
use Rattle.loc_rb.specs.Trees.{Tree, leaf, node, top, items}
use Rattle.loc_rb.specs.Balance.{depth}
use Rattle.loc_spec_index.specs.declared.NodeRow.{NodeRow}
use Rattle.loc_spec_index.specs.Nodes as nodes
use Rattle.loc_persist.specs.{Reading.IsThere, ByNumber.AreRowsByNumber, ByNumber.RowsByNumberRead}
use Rattle.loc_persist.specs.Numbered.{IsNumber, IsNodeRow, side_of, stamp_of, to_of, turn_number}

-- a turn as a side
abbrev side : Turn → nodes.Side
side Left = nodes.Left
side Right = nodes.Right

module _ (rows : Map Row) where
  plain-number : (x : Row) (n : NodeRow) (turn : Turn) → IsNodeRow rows x n → IsNumber rows (plain_child turn x) (nodes.plain n (side turn))
  plain-number x n Left is = is.left
  plain-number x n Right is = is.right

  -- the child in a version, by number, by cases of the extra
  by-extra : (n : NodeRow) (turn : Turn) (version : ℕ) (plain : Option Link) (extra : Option Extra) → IsNumber rows plain (nodes.plain n (side turn)) → n.side ≡ side_of extra → n.stamp ≡ stamp_of extra → IsNumber rows (to_of extra) n.extra → IsNumber rows (child_by version turn plain extra) (nodes.child n (side turn) version)
  by-extra n Left version plain None p s t e = subst (λ k. IsNumber rows plain (cond ((k == 1) && nat_le n.stamp version) n.extra n.left)) (sym s) p
  by-extra n Right version plain None p s t e = subst (λ k. IsNumber rows plain (cond ((k == 2) && nat_le n.stamp version) n.extra n.right)) (sym s) p
  by-extra n turn version plain (Some x) p s t e = subst (λ k. IsNumber rows (child_by version turn plain (Some x)) (cond ((k == nodes.side_number (side turn)) && nat_le n.stamp version) n.extra (nodes.plain n (side turn)))) (sym s) (subst (λ k. IsNumber rows (child_by version turn plain (Some x)) (cond ((turn_number x.turn == nodes.side_number (side turn)) && nat_le k version) n.extra (nodes.plain n (side turn)))) (sym t) (sides x.turn turn p))
    where
      test : (b : Bool) (number : ℕ) → IsNumber rows plain number → IsNumber rows (cond b x.to plain) (cond b n.extra number)
      test true number q = e
      test false number q = q

      sides : (s t : Turn) → IsNumber rows plain (nodes.plain n (side t)) → IsNumber rows (child_by version t plain (Some (record { turn = s; version = x.version; to = x.to }))) (cond ((turn_number s == nodes.side_number (side t)) && nat_le x.version version) n.extra (nodes.plain n (side t)))
      sides Left Left q = test (nat_le x.version version) n.left q
      sides Left Right q = q
      sides Right Left q = q
      sides Right Right q = test (nat_le x.version version) n.right q

  child-number : (x : Row) (n : NodeRow) (turn : Turn) (version : ℕ) → IsNodeRow rows x n → IsNumber rows (child_at version turn x) (nodes.child n (side turn) version)
  child-number x n turn version is = by-extra n turn version (plain_child turn x) x.extra (plain-number x n turn is) is.side is.stamp is.extra

pub place-within : (rows : Map Row) (link : Link) (i : ℕ) → slice_get (links rows) i ≡ Some link → i < length rows
place-within rows link i e = let h = slice_get_within (links rows) i link e in let l = length-links rows in omega (arith, h, l)

module _ (rows : Map Row) (numbered : List NodeRow) (are : AreRowsByNumber rows numbered) (version : ℕ) where
  -- the row of a link by its number
  row-at : (link : Link) (n : ℕ) → IsPlace (links rows) link n → IsNodeRow rows (row rows link) (nodes.row_of numbered n)
  row-at link n place =
      let within = place-within rows link (n - 1) place.1 in
      let one = place.0 in
      let found = are.each n place.0 (omega (arith, within, one)) in
      subst (λ l. IsNodeRow rows (row rows l) (nodes.row_of numbered n)) (some-link found.0 link (sym found.1.1 ∙ place.1)) found.2

  pub reads-by-number : (t : Tree) (n : ℕ) → IsThere version rows t → IsNumber rows (top t) n → nodes.Reads numbered version n (items t)
  reads-by-number leaf n there number = subst (λ k. nodes.Reads numbered version k []) (sym number) nodes.nothing
  reads-by-number (node link left item colour right) n there place =
      let is = row-at link n place in
      let within = place-within rows link (n - 1) place.1 in
      let one = place.0 in
      let many = are.as_many in
      let on_left = subst (λ to. IsNumber rows to (nodes.child_of numbered version n nodes.Left)) there.2 (child-number rows (row rows link) (nodes.row_of numbered n) Left version is) in
      let on_right = subst (λ to. IsNumber rows to (nodes.child_of numbered version n nodes.Right)) there.3 (child-number rows (row rows link) (nodes.row_of numbered n) Right version is) in
      nodes.node {before = items left} {after = items right} (λ zero_is. omega (arith, one, zero_is)) (omega (arith, within, one, many))
      (reads-by-number left _ there.4 on_left) (reads-by-number right _ there.5 on_right) (ap (λ x. items left ++ (x ∷ items right)) (sym (is.item ∙ there.1)))

  -- a path that leads to a node has no more nodes than the tree is deep
  led-by-number : (t : Tree) (n : ℕ) (sides : List nodes.Side) → IsThere version rows t → IsNumber rows (top t) n → nodes.led_to numbered version n sides ≢ 0 → length sides + 1 ≤ depth t
  led-by-number leaf n [] there number led = absurd (led number)
  led-by-number leaf zero (s ∷ sides) there number led = absurd (led refl)
  led-by-number leaf (suc n) (s ∷ sides) there number led = absurd cc
  led-by-number (node link left item colour right) n [] there place led = omega arith
  led-by-number (node link left item colour right) zero (s ∷ sides) there place led = absurd (led refl)
  led-by-number (node link left item colour right) (suc n) (nodes.Left ∷ sides) there place led =
      let is = row-at link (suc n) place in
      let on_left = subst (λ to. IsNumber rows to (nodes.child_of numbered version (suc n) nodes.Left)) there.2 (child-number rows (row rows link) (nodes.row_of numbered (suc n)) Left version is) in
      let shorter : length sides + 1 ≤ depth left = led-by-number left _ sides there.4 on_left led in omega arith
  led-by-number (node link left item colour right) (suc n) (nodes.Right ∷ sides) there place led =
      let is = row-at link (suc n) place in
      let on_right = subst (λ to. IsNumber rows to (nodes.child_of numbered version (suc n) nodes.Right)) there.3 (child-number rows (row rows link) (nodes.row_of numbered (suc n)) Right version is) in
      let shorter : length sides + 1 ≤ depth right = led-by-number right _ sides there.5 on_right led in omega arith

pub rows_by_number_read : RowsByNumberRead
rows_by_number_read m numbered roots is are at version root root_is =
    let s = is.sealed version root root_is in
    let r = s.reads in
    let here = subst (λ to. IsNumber m.rows to (get_or roots version 0)) r.here (at version root root_is) in (
      s.list,
      s.sealed,
      subst (λ xs. nodes.Reads numbered version (get_or roots version 0) xs) r.whole (reads-by-number m.rows numbered are version r.tree _ r.there here),
      λ sides led. (let shorter : length sides + 1 ≤ depth r.tree = led-by-number m.rows numbered are version r.tree _ sides r.there here led in
          let mono : 2 ^ (length sides + 1) ≤ 2 ^ depth r.tree = pow_mono shorter in
          let shallow = r.shallow in
          not_from_false _ (le-ltb ((length s.list + 1) * (length s.list + 1)) (2 ^ (length sides + 1)) (omega (arith, mono, shallow)))),
    )
