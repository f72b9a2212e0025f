use Rattle.std.proofs.Common.{rules, arith, ◌≡◌, ◌∙◌, ◌+◌, ◌∷◌, ℕ, List, sym, ap, length, get_or, true, false}
use Rattle.loc_spec_text.specs.Number.{is_number}
use Rattle.loc_wkt.specs.{TokenList.longest_to, TokenList.longest, TokenParts.completes}
use Rattle.loc_wkt.proofs.TokenLongest.{IsRead, read_next, scan_stops, read_whole, longest_to-next}
use Rattle.loc_wkt.proofs.tokens.lengths.number_length.Goals as goal
use Rattle.loc_wkt.proofs.tokens.lengths.number_length.Goals.{then-may_end, else-may_end}

pub returns-in-None : goal.returns-in-None
returns-in-None c = scan_stops c.args.text.now c.loop-i.i c.loop-i.part (omega arith) c.loop-i.invariant.part (search rules) c.loop-i.length c.loop-i.invariant.length

pub loop-i-preserved : goal.loop-i-preserved
loop-i-preserved c =
    let goes_on : (more : List ℕ) → completes c.loop-i.part (get_or c.args.text.now c.loop-i.i 0 ∷ more) ≡ completes c.in-Some.next more = search rules in
    let read : IsRead c.args.text.now (c.loop-i.i + 1) c.in-Some.next = read_next c.args.text.now c.loop-i.i c.loop-i.part (omega arith) c.loop-i.invariant.part c.in-Some.next goes_on in
    let whole = read_whole c.args.text.now (c.loop-i.i + 1) c.in-Some.next read ∙ sym c.may_end.ensures in
    record {
      part = read;
      length = elim c.if-may_end.branch [
        | then-may_end w ↦ w.length-is ∙ longest_to-next is_number c.args.text.now c.loop-i.i c.loop-i.length true (whole ∙ w.if-may_end.true) c.loop-i.invariant.length
        | else-may_end w ↦ w.length-is ∙ longest_to-next is_number c.args.text.now c.loop-i.i c.loop-i.length false (whole ∙ w.if-may_end.false) c.loop-i.invariant.length
      ];
    }

pub returns : goal.returns
unfolding longest
returns c = let e : c.loop-i.i ≡ length c.args.text.now = omega arith in c.loop-i.invariant.length ∙ ap (λ n. longest_to is_number n c.args.text.now) e
