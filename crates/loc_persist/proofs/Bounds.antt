-- The rows of versions by number are within their bounds.
use Rattle.std.proofs.Common.{◌≡◌, ◌≤◌, ◌<◌, ℕ, true, false, refl, length, ◌∙◌, ap, sym, subst, arith}
use Rattle.std.specs.Prelude.{Option, Some, None}
use Rattle.loc_pool.specs.{declared.Link.Link, declared.Extra.Extra, declared.Turn.Turn}
use Rattle.loc_pool.specs.{declared.Turn.TheVariants.Left, declared.Turn.TheVariants.Right, Maps.Map, Maps.has}
use Rattle.loc_pool.specs.Rows.{Row, row}
use Rattle.loc_spec_index.specs.declared.NodeRow.{NodeRow}
use Rattle.loc_persist.specs.Meaning.{VersionsMeaning, IsMeaning}
use Rattle.loc_persist.specs.Numbered.{IsNumber, IsNodeRow, IsWithin, turn_number, side_of, stamp_of, to_of}
use Rattle.loc_persist.proofs.ByNumber.{place-within}

pub number-within : (rows : Map Row) (to : Option Link) (number : ℕ) → IsNumber rows to number → number ≤ length rows
number-within rows None number is = omega (arith, is)
number-within rows (Some link) number is = let h = place-within rows link _ is.1 in omega (arith, h, is.0)

turn-within : (turn : Turn) → (0 < turn_number turn) × (turn_number turn ≤ 2)
turn-within Left = (omega arith, omega arith)
turn-within Right = (omega arith, omega arith)

-- what is said of an extra by number, where versions hold it
module _ (m : VersionsMeaning) (is : IsMeaning m) (link : Link) (held : has m.rows link ≡ true) (x : NodeRow) (node : IsNodeRow m.rows (row m.rows link) x) where
  with-extra : (extra : Option Extra) → (row m.rows link).extra ≡ extra → IsWithin m.past_greatest (length m.roots) (length m.rows) m.is_changed x
  with-extra extra here = record {
    item = subst (λ n. n < m.past_greatest) (sym node.item) (is.items link held);
    left = number-within m.rows _ _ node.left;
    right = number-within m.rows _ _ node.right;
    side = side extra here;
    stamp = stamp extra here;
    extra = number-within m.rows _ _ node.extra;
    settled = settled extra here;
    no_stamp = λ none. (no extra here none).0;
    no_extra = λ none. (no extra here none).1;
  }
    where
      sides : (e : Option Extra) → (row m.rows link).extra ≡ e → x.side ≡ side_of e
      sides e h = node.side ∙ ap side_of h

      stamps : (e : Option Extra) → (row m.rows link).extra ≡ e → x.stamp ≡ stamp_of e
      stamps e h = node.stamp ∙ ap stamp_of h

      side : (e : Option Extra) → (row m.rows link).extra ≡ e → x.side ≤ 2
      side None h = omega (arith, sides None h)
      side (Some e) h = omega (arith, sides (Some e) h, turn-within e.turn)

      stamp : (e : Option Extra) → (row m.rows link).extra ≡ e → x.stamp ≤ length m.roots
      stamp None h = omega (arith, stamps None h)
      stamp (Some e) h = omega (arith, stamps (Some e) h, is.stamps link e held h)

      settled : (e : Option Extra) → (row m.rows link).extra ≡ e → m.is_changed ≡ false → 0 < x.side → x.stamp < length m.roots
      settled None h quiet some = absurd (omega (arith, sides None h, some))
      settled (Some e) h quiet some = omega (arith, stamps (Some e) h, is.settled quiet link e held h)

      no : (e : Option Extra) → (row m.rows link).extra ≡ e → x.side ≡ 0 → (x.stamp ≡ 0) × (x.extra ≡ 0)
      no None h none = (stamps None h, subst (λ e. IsNumber m.rows (to_of e) x.extra) h node.extra)
      no (Some e) h none = absurd (omega (arith, sides (Some e) h, turn-within e.turn, none))

  pub row-within : IsWithin m.past_greatest (length m.roots) (length m.rows) m.is_changed x
  row-within = with-extra (row m.rows link).extra refl
