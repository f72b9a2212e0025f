use Rattle.std.proofs.Common.{◌≡◌, ◌<◌, true, false, length, not, ◌&&◌, ◌∙◌, ap, arith}
use Rattle.std.proofs.lemmas.List.{length-set}
use Rattle.loc_traps.specs.{Meaning.live_of, Splits.split_of}
use Rattle.loc_traps.proofs.Burying.{count_less, bury_more, not_before}
use Rattle.loc_traps.proofs.map.bury.Goals as goal

pub loop-split-preserved : goal.loop-split-preserved
loop-split-preserved c =
    let j = c.loop-split.split-index in
    let splits = c.args.splits.now in
    let less : j < length splits = c.loop-split-test.true in
    let now = c.loop-split.is_live in
    let cut = (split_of splits j).cut in
    let here = c.requires.cut_rows j less in
    let same_length = c.loop-split.invariant.same_length in
    let real : cut < length now = omega arith in
    let off = not_before splits j (omega arith) cut (λ k early same. (let at = c.requires.apart k j (omega arith) less same in absurd (omega arith))) in
    let live : live_of now cut ≡ true = c.loop-split.invariant.rows cut ∙ (ap (λ b. live_of c.args.is_live.now cut && not b) off ∙ ap (λ b. b && true) (c.requires.live_rows j less)) in
    let fewer = count_less now cut real live in
    let count = c.loop-split.invariant.count in
    record {
      rows = bury_more c.args.is_live.now splits j less now real c.loop-split.invariant.rows;
      count = omega arith;
      same_length = length-set now cut false ∙ same_length;
    }
