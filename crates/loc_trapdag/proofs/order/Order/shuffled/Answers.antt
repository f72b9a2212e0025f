use Rattle.std.proofs.Common.{◌≡◌, ℕ, ◌++◌, List, length, take, drop, sym, ◌∙◌, ap, subst, arith}
use Rattle.std.proofs.Math.Seq.{take-append_seam}
use Rattle.rand.specs.Shuffle.{shuffled}
use Rattle.rand_core.specs.{Stream.Stream, Steps.stream_of, Steps.steps_u32}
use Rattle.rand_pcg.specs.{Lcg.Lcg, Pcg.pcg32}
use Rattle.loc_spec_plane.specs.Lists.{numbers}
use Rattle.loc_trapdag.specs.Orders.{IsOrder}
use Rattle.loc_trapdag.proofs.Counts.{order_shuffled}
use Rattle.loc_trapdag.proofs.order.Order.shuffled.Goals as goal

-- what is written back is the list itself
back : (n : ℕ) (xs rest : List ℕ) → length xs ≡ n → take n (xs ++ drop (length xs) rest) ≡ xs
back n xs rest many = subst (λ k. take k (xs ++ drop (length xs) rest) ≡ xs) many (take-append_seam xs (drop (length xs) rest))

pub returns-clause-value : goal.returns-clause-value
returns-clause-value c =
    let are = c.deref_mut.ensures.value ∙ c.in_ok-order.ensures in
    back c.in_ok-order.order.len c.shuffle.new.self c.in_ok-order.order.items (let a = c.shuffle.auto.self in let b = ap length c.deref_mut.ensures.value in omega arith)
    ∙ (ap (λ (pair : List ℕ × Stream). pair.0) c.shuffle.ensures.drawn
    ∙ (ap (λ (xs : List ℕ). (shuffled xs 0 (stream_of (steps_u32 pcg32) c.seed_from_u64.result)).0) are ∙ ap (λ (s : Lcg). (shuffled (numbers c.args.edges) 0 (stream_of (steps_u32 pcg32) s)).0) c.seed_from_u64.ensures))

pub returns-clause-permutation : goal.returns-clause-permutation
returns-clause-permutation c =
    let are = c.deref_mut.ensures.value ∙ c.in_ok-order.ensures in
    subst (λ (xs : List ℕ). IsOrder c.args.edges xs) (sym (back c.in_ok-order.order.len c.shuffle.new.self c.in_ok-order.order.items (let a = c.shuffle.auto.self in let b = ap length c.deref_mut.ensures.value in omega arith)))
    (order_shuffled c.args.edges c.deref_mut.result.now c.shuffle.new.self are c.shuffle.ensures.permutation)
