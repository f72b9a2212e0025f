use Rattle.std.proofs.Common.{◌-◌, ◌<◌, ◌∙◌, ap, sym, subst, length, slice_get}
use Rattle.std.specs.List.{All}
use Rattle.loc_spec_plane.specs.{Points.is_above, Tables.corner, Tables.edge}
use Rattle.loc_status.specs.{declared.targets.Target.TheVariants.Corner, Meaning.StatusMeaning}
use Rattle.loc_status.specs.Targets.{is_passed, IsSearchEnd}
use Rattle.loc_status.proofs.{Ends.last_found, Standing.chain_in_range, Standing.none_above_later}
use Rattle.loc_status.proofs.vec_status.VecStatusStatus.floor.Goals as goal

pub search-requires-clause-in_range : goal.search-requires-clause-in_range
search-requires-clause-in_range c =
    let t = c.args.ranks.now in
    subst (λ es. All (λ e. e < length t.ends) es) (sym (c.deref-2.ensures.value ∙ ap (λ (m : StatusMeaning). m.list) c.self.view_is)) (chain_in_range t (corner t c.args.corner) c.args.self.now.list c.requires.chain)

pub returns : goal.returns
returns c =
    let t = c.args.ranks.now in
    let es = c.args.self.now.list in
    let list_is = ap (λ (m : StatusMeaning). m.list) c.self.view_is in
    let end = subst (λ es. IsSearchEnd (is_passed t (Corner c.args.corner)) es c.search.result) (c.deref-2.ensures.value ∙ list_is) c.search.ensures in
    last_found (λ e. is_above (edge t e) (corner t c.args.corner)) es c.search.result c.before-2.result end
    (none_above_later t c.args.corner es c.requires.chain c.search.result end)
    c.before-2.ensures.first
    (λ more. c.before-2.ensures.later more ∙ ap (λ es. slice_get es (c.search.result - 1)) (c.deref.ensures.value ∙ list_is))
