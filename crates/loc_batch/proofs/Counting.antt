-- How many lines read as points, and the steps that these take.
use Rattle.std.proofs.Common.{◌≡◌, ℕ, ◌+◌, ◌*◌, ◌<◌, ◌≤◌, List, [], ◌∷◌, ◌++◌, cond, count_by, get_or, length, map, take, Option, Some, None, refl, sym, ◌∙◌, ap, arith}
use Rattle.std.specs.{Prelude.option_map, Option.is_some}
use Rattle.std.proofs.Math.Nat.{add-mul, mul-add, mul-le-mul_right}
use Rattle.std.proofs.lemmas.List.Sums.{count_by_more_no, count_by_more_yes, sum_by-append, sum_by-cons, sum_by-take-le}
use Rattle.loc_spec_plane.specs.Points.{Point}
use Rattle.loc_spec_text.specs.Points.{point_of}
use Rattle.loc_batch.specs.PointLines.{point_count}

-- one, where there is something
abbrev one_if_some : {X : Type 0} → Option X → ℕ
one_if_some x = cond (is_some x) 1 0

-- the lines that read as points are as many as the points
pub count-points : (scale : ℕ) (lines : List (List ℕ)) → count_by is_some (map (point_of scale) lines) ≡ point_count scale lines
count-points scale [] = refl
count-points scale (line ∷ lines) = sum_by-cons one_if_some (point_of scale line) (map (point_of scale) lines)
    ∙ (ap (λ (n : ℕ). one_if_some (point_of scale line) + n) (count-points scale lines) ∙ sym (sum_by-cons (λ l. one_if_some (point_of scale l)) line lines))

-- something is found for each point, and for nothing else
pub count-found : {F : Type 0} (finds : Point → F) (points : List (Option Point)) → count_by is_some (map (option_map finds) points) ≡ count_by is_some points
count-found finds [] = refl
count-found finds (p ∷ points) = sum_by-cons one_if_some (option_map finds p) (map (option_map finds) points)
    ∙ (ap (λ (n : ℕ). one_if_some (option_map finds p) + n) (count-found finds points) ∙ (ap (λ (n : ℕ). n + count_by is_some points) (one p) ∙ sym (sum_by-cons one_if_some p points)))
  where
    one : (p : Option Point) → one_if_some (option_map finds p) ≡ one_if_some p
    one None = refl
    one (Some p) = refl

-- lines that read as the same points are as many
pub first_counts : (scale : ℕ) (a b : List ℕ) (lines : List (List ℕ)) → point_of scale a ≡ point_of scale b → point_count scale (a ∷ lines) ≡ point_count scale (b ∷ lines)
first_counts scale a b lines same = sum_by-cons (λ l. one_if_some (point_of scale l)) a lines
    ∙ (ap (λ (p : Option Point). one_if_some p + point_count scale lines) same ∙ sym (sum_by-cons (λ l. one_if_some (point_of scale l)) b lines))

-- the steps of lines, one list behind the other
pub counts_both : (scale each : ℕ) (ls ms : List (List ℕ)) → point_count scale (ls ++ ms) * each ≡ point_count scale ls * each + point_count scale ms * each
counts_both scale each ls ms = ap (λ (n : ℕ). n * each) (sum_by-append (λ l. one_if_some (point_of scale l)) ls ms) ∙ add-mul (point_count scale ls) (point_count scale ms) each

-- so many lines less are left
pub fewer : (steps steps' most bound scale : ℕ) (now lines more : List (List ℕ)) → now ≡ lines ++ more → steps' ≤ steps + point_count scale lines * most → steps + point_count scale now * most ≤ bound → steps' + point_count scale more * most ≤ bound
fewer steps steps' most bound scale now lines more cut within so_far =
    omega (arith, within, so_far, ap (λ (ls : List (List ℕ)). point_count scale ls * most) cut ∙ counts_both scale most lines more)

-- one line more was answered
pub next_few : {F : Type 0} (found : List (Option F)) (i : ℕ) (f : Option F) (steps before after most : ℕ) → i < length found → f ≡ get_or found i None
    → before ≤ steps + count_by is_some (take i found) * most → (f ≡ None → after ≡ before) → after ≤ before + most → after ≤ steps + count_by is_some (take (i + 1) found) * most
next_few found i None steps before after most less is few same within =
    let more : count_by is_some (take (i + 1) found) * most ≡ count_by is_some (take i found) * most = ap (λ (n : ℕ). n * most) (count_by_more_no is_some found i None less (ap is_some (sym is))) in
    omega (arith, few, same refl, more)
next_few found i (Some f) steps before after most less is few same within =
    let more : count_by is_some (take (i + 1) found) * most ≡ (count_by is_some (take i found) + 1) * most = ap (λ (n : ℕ). n * most) (count_by_more_yes is_some found i None less (ap is_some (sym is))) in
    omega (arith, few, within, more, add-mul (count_by is_some (take i found)) 1 most)

-- and no more lines are
pub no_more_few : {F : Type 0} (found : List (Option F)) (i steps after most : ℕ) → after ≤ steps + count_by is_some (take i found) * most → after ≤ steps + count_by is_some found * most
no_more_few found i steps after most few = omega (arith, few, mul-le-mul_right most (sum_by-take-le one_if_some found i))

-- the points of a block of lines were sought, and then the answers were put
pub sought_and_put : {F : Type 0} (scale steps mid after queries most more : ℕ) (finds : Point → F) (lines : List (List ℕ)) (found : List (Option F)) → mid ≤ steps + queries * most → queries ≤ count_by is_some (map (point_of scale) lines)
    → after ≤ mid + count_by is_some found * more → found ≡ map (option_map finds) (map (point_of scale) lines) → after ≤ steps + point_count scale lines * (most + more)
sought_and_put scale steps mid after queries most more finds lines found sought few put is =
    let points = point_count scale lines in
    let asked : queries ≤ points = omega (arith, few, count-points scale lines) in
    let answered : count_by is_some found ≡ points = ap (count_by is_some) is ∙ (count-found finds (map (point_of scale) lines) ∙ count-points scale lines) in
    omega (arith, sought, mul-le-mul_right most asked, put, ap (λ (n : ℕ). n * more) answered, mul-add points most more)
