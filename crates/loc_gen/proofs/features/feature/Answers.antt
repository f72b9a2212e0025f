use Rattle.std.proofs.Common.{◌≡◌, ◌<◌, get_or, sym, ◌∙◌, subst}
use Rattle.loc_gen.specs.declared.kinds.Kind.TheVariants.{Grid, Nest, Strips}
use Rattle.loc_gen.specs.Layers.{feature_count, features}
use Rattle.loc_gen.proofs.Numbered.{grid_at, nest_at, strip_at}
use Rattle.loc_gen.proofs.features.feature.Goals as goal

pub returns-in-Grid : goal.returns-in-Grid
returns-in-Grid c =
    let member : c.args.number < feature_count Grid c.args.n = subst (λ k. c.args.number < feature_count k c.args.n) c.in-Grid.is c.requires.member in
    subst (λ k. get_or (features k c.args.n c.args.start) c.args.number c.square.result ≡ c.square.result) (sym c.in-Grid.is)
    (grid_at c.args.n c.args.start c.args.number c.square.result member ∙ sym c.square.ensures)

pub returns-in-Nest : goal.returns-in-Nest
returns-in-Nest c =
    let member : c.args.number < feature_count Nest c.args.n = subst (λ k. c.args.number < feature_count k c.args.n) c.in-Nest.is c.requires.member in
    subst (λ k. get_or (features k c.args.n c.args.start) c.args.number c.nested.result ≡ c.nested.result) (sym c.in-Nest.is)
    (nest_at c.args.n c.args.start c.args.number c.nested.result member ∙ sym c.nested.ensures)

pub returns-in-Strips : goal.returns-in-Strips
returns-in-Strips c =
    let member : c.args.number < feature_count Strips c.args.n = subst (λ k. c.args.number < feature_count k c.args.n) c.in-Strips.is c.requires.member in
    subst (λ k. get_or (features k c.args.n c.args.start) c.args.number c.strip.result ≡ c.strip.result) (sym c.in-Strips.is)
    (strip_at c.args.n c.args.start c.args.number c.strip.result member ∙ sym c.strip.ensures)
