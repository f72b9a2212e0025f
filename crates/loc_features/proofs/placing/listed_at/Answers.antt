use Rattle.std.proofs.Common.{◌≡◌, filter, not, sym, ◌∙◌, subst}
use Rattle.loc_spec_plane.specs.Lists.{is_in}
use Rattle.loc_cover.specs.Legends.{covering, touching}
use Rattle.loc_features.proofs.Placed.{none_left_out}
use Rattle.loc_features.proofs.placing.listed_at.Goals as goal

pub returns-in-Area-clause-value : goal.returns-in-Area-clause-value
returns-in-Area-clause-value c =
    let rows = c.args.legend.now in
    subst (λ place. filter (λ f. not (is_in f (touching rows place))) c.list_of.result.now ≡ covering rows place) (sym c.in-Area.is) (none_left_out c.list_of.result.now ∙ c.list_of.ensures.value)
