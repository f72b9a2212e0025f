use Rattle.std.proofs.Common.{◌≡◌, ℕ, ◌+◌, ◌<◌, List, [], ◌∷◌, ◌++◌, length, get_or, map, take, sym, ◌∙◌, ap}
use Rattle.std.proofs.lemmas.List.{map_more, take_all}
use Rattle.loc_file.specs.{declared.edges.EdgeOf.EdgeOf, Told.told_source}
use Rattle.loc_file.proofs.held.sources_of.Goals as goal

-- the source of one edge more behind those of the edges before it
one-more : (f : EdgeOf → ℕ × ℕ) (es : List EdgeOf) (i : ℕ) (d : EdgeOf) (xs ys : List (ℕ × ℕ)) (x : ℕ × ℕ) → i < length es → xs ≡ map f (take i es) → ys ≡ xs ++ x ∷ [] → x ≡ f (get_or es i d) → ys ≡ map f (take (i + 1) es)
one-more f es i d xs ys x lt are pushed is = pushed ∙ (ap (λ l. l ++ x ∷ []) are ∙ (ap (λ y. map f (take i es) ++ y ∷ []) is ∙ sym (map_more f es i d lt)))

pub loop-edge-init : goal.loop-edge-init
loop-edge-init c = c.in_ok-sources.ensures.items

pub loop-edge-preserved : goal.loop-edge-preserved
loop-edge-preserved c = one-more (told_source c.args.version) c.args.edges.now c.loop-edge.edge-index _ _ _ _ c.loop-edge-test.true c.loop-edge.invariant c.in_ok-push.ensures.items c.source_of.ensures

pub returns : goal.returns
returns c = c.loop-edge.invariant ∙ ap (map (told_source c.args.version)) (take_all c.loop-edge.edge-index c.args.edges.now c.loop-edge-test.false)
