use Rattle.std.proofs.Common.{◌++◌, ◌∷◌, [], map, sym, ◌∙◌, ap, append_assoc, arith}
use Rattle.std.proofs.lemmas.List.{map-append}
use Rattle.loc_spec_plane.specs.Lists.{numbers}
use Rattle.loc_half.proofs.Corners.{range_more}
use Rattle.loc_valid.proofs.homes.put_home.Goals as goal

pub loop-ring-preserved : goal.loop-ring-preserved
loop-ring-preserved c =
    let old = c.args.homes.now.items in
    let n = c.loop-ring._ring in
    let m = c.args.polygon in
    c.in_ok-push.ensures.items
    ∙ (ap (λ hs. hs ++ m ∷ []) c.loop-ring.invariant
    ∙ (append_assoc old (map (λ _. m) (numbers n)) (m ∷ [])
    ∙ ap (λ hs. old ++ hs) (sym (map-append (λ _. m) (numbers n) (n ∷ [])) ∙ ap (map (λ _. m)) (sym (range_more 0 n n (omega arith))))))
