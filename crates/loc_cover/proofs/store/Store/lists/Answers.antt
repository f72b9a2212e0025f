use Rattle.std.proofs.Common.{ℕ, ◌++◌, ◌∷◌, [], Bor, List, append_assoc, append-nil, map, sym, ◌∙◌, ap}
use Rattle.loc_cover.specs.Stores.{StoreRows}
use Rattle.loc_cover.proofs.Stored.{map-map}
use Rattle.loc_cover.proofs.store.Store.lists.Goals as goal

pub loop-list-init : goal.loop-list-init
loop-list-init c =
    let left = c.into_iter-list-iterator.ensures.into_iter_gives in
    let all = ap (λ (s : StoreRows). s.lists) c.self.view_is in
    ap (λ xs. xs ++ map (λ list. list.now) c.into_iter-list-iterator.result) c.new-lists.ensures ∙ (ap (map (λ list. list.now)) (left ∙ c.keys-list-items.ensures.rest) ∙ (map-map (λ e. e.0) (λ list. list.now) c.self.inside.numbers.entries ∙ all))

pub loop-list-preserved : goal.loop-list-preserved
loop-list-preserved c =
    let lists = c.loop-list.lists in
    let left : List (Bor (List ℕ)) = c.next.new.self in
    let list : List ℕ = c.in-Some.list.now.now in
    ap (λ xs. xs ++ map (λ list. list.now) left) c.in_ok-push.ensures ∙ (append_assoc lists (list ∷ []) (map (λ list. list.now) left) ∙ (ap (λ (ls : List (Bor (List ℕ))). lists ++ map (λ list. list.now) ls) (sym c.in-Some.ensures.steps) ∙ c.loop-list.invariant))

pub returns : goal.returns
returns c =
    let lists = c.loop-list.lists in
    sym (append-nil lists) ∙ (ap (λ (ls : List (Bor (List ℕ))). lists ++ map (λ list. list.now) ls) (sym c.in-None.ensures.steps.0) ∙ (c.loop-list.invariant ∙ c.requires.stands.named))
