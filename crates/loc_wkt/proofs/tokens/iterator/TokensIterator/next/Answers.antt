use Rattle.std.proofs.Common.{arith, length, refl, ap}
use Rattle.loc_wkt.proofs.TokenTurns.{turn_ends, turn_starts, turn_steps}
use Rattle.loc_wkt.proofs.tokens.iterator.TokensIterator.next.Goals as goal

pub returns-then-white-self-clause-steps : goal.returns-then-white-self-clause-steps
returns-then-white-self-clause-steps c = let none = turn_ends c.args.self.now.left.now c.white_length-white.result c.white_length-white.ensures.front c.args.self.now.start (omega arith) in (none, none)

pub token_length-length-requires-clause-no_white : goal.token_length-length-requires-clause-no_white
token_length-length-requires-clause-no_white c = turn_starts c.args.self.now.left.now c.white_length-white.result c.white_length-white.ensures.front (omega arith) _ refl

pub returns-clause-steps : goal.returns-clause-steps
returns-clause-steps c = turn_steps c.args.self.now.left.now c.white_length-white.result c.white_length-white.ensures.front (omega arith) _ refl c.token_length-length.result c.token_length-length.ensures.longest c.args.self.now.start

pub returns-clause-goes : goal.returns-clause-goes
returns-clause-goes c =
    let step = turn_steps c.args.self.now.left.now c.white_length-white.result c.white_length-white.ensures.front (omega arith) _ refl c.token_length-length.result c.token_length-length.ensures.longest c.args.self.now.start in
    record { on = λ _. (tt, tt, omega (arith, ap length step)); keeps = tt; rests = λ _. tt }
