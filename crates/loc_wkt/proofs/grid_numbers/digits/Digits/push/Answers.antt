use Rattle.std.proofs.Common.{◌≡◌, ◌+◌, ◌^◌, rules, arith, inl, inr, sym, ◌∙◌, ap, true≢false, not}
use Rattle.loc_wkt.proofs.DigitLemmas.{zero_more, long_more, short_more, full_more, head_small}
use Rattle.loc_wkt.proofs.grid_numbers.digits.Digits.push.Goals as goal
use Rattle.loc_wkt.proofs.grid_numbers.digits.Digits.push.Goals.{else-self-eq0-via-then-self-eq0+else-not-self, else-self-eq0-via-else-self-eq0, then-self-via-then-self, then-self-via-else-self+then-self-gt18, then-self-via-else-self+else-self-gt18+then-self-ge-HEAD_LIMIT}

pub returns-then-digit-eq0-clause-value : goal.returns-then-digit-eq0-clause-value
returns-then-digit-eq0-clause-value c v r = rw c.if-digit-eq0.true (zero_more c.args.self v r (elim c.else-self-eq0.branch [
  | else-self-eq0-via-then-self-eq0+else-not-self w ↦ λ h. true≢false (ap not (sym h.1) ∙ w.if-not-self.false)
  | else-self-eq0-via-else-self-eq0 w ↦ λ h. w.if-self-eq0.false h.0
]))

pub returns-then-self-clause-value : goal.returns-then-self-clause-value
returns-then-self-clause-value c v r = elim c.then-self.branch [
  | then-self-via-then-self w ↦ long_more c.args.self v c.args.digit r (omega arith) (omega arith) (inl (search rules))
  | then-self-via-else-self+then-self-gt18 w ↦ long_more c.args.self v c.args.digit r (omega arith) (omega arith) (inr (search rules))
  | then-self-via-else-self+else-self-gt18+then-self-ge-HEAD_LIMIT w ↦ absurd (head_small c.args.self v r (search rules) (search rules))
]

pub returns-then-head-clause-value : goal.returns-then-head-clause-value
returns-then-head-clause-value c v r = let p : c.pow.result ≡ 10 ^ (c.args.self.zeros + 1) = search rules in
    full_more c.args.self v c.args.digit r (omega arith) (omega arith) (search rules) (rw (← p) (search rules))

pub returns-clause-value : goal.returns-clause-value
returns-clause-value c v r = let p : c.pow.result ≡ 10 ^ (c.args.self.zeros + 1) = search rules in
    rw p (short_more c.args.self v c.args.digit r (omega arith) (omega arith) (search rules) (rw (← p) (search rules)))
