-- Texts of whose lines none is refused.
use Rattle.std.proofs.Common.{◌≡◌, List, [], ◌∷◌, ◌++◌, map, None, Ok, refl, ap}
use Rattle.std.specs.List.{flat_map}
use Rattle.loc_spec_text.specs.{Answered.Answered, Answered.answered, Answered.with_answer, Bytes.Text}

-- where no line is refused, each is answered
abbrev pub all_of : (Text → Text) → List Text → Answered Text Text
all_of f ls = record { answers = map f ls; refusal = None }

pub all_answered : (f : Text → Text) (ls : List Text) → answered {R = Text} (λ line. Ok (f line)) ls ≡ all_of f ls
all_answered f [] = refl
all_answered f (line ∷ ls) = ap (with_answer (Ok (f line))) (all_answered f ls)

-- the answers, one behind the other
pub joined : (f : Text → Text) (ls : List Text) → flat_map (λ line. line) (map f ls) ≡ flat_map f ls
joined f [] = refl
joined f (line ∷ ls) = ap (λ text. f line ++ text) (joined f ls)
