use Rattle.std.proofs.Common.{◌≡◌, ◌+◌, ◌≤◌, Ok, sym, ◌∙◌, ap, subst}
use Rattle.std.specs.Prelude.{codes}
use Rattle.loc_spec_plane.specs.declared.Place.TheVariants.{Corner, Border, Area}
use Rattle.loc_place.specs.{Found.place_at, Steps.most_steps}
use Rattle.loc_face.specs.FaceCourses.{line_at}
use Rattle.loc_face.proofs.Written.{refuses_it, same_ok, sought}
use Rattle.loc_face.proofs.seeking.write_at.Goals as goal

pub returns-in-Ok-Corner : goal.returns-in-Ok-Corner
returns-in-Ok-Corner g c = λ shelf.
    let is : place_at c.args.plane.now.table c.args.point ≡ Corner c.in-Ok-Corner.n =
    sym (ap (λ t. place_at t c.args.point) c.views.ensures) ∙ same_ok c.locate.result (place_at c.views.result c.args.point) (Corner c.in-Ok-Corner.n) c.locate.ensures.found (c.in-Ok-Corner.is ∙ ap Ok c.in-Ok-Corner.field-0-is) in
    sought c.args.scale c.args.plane.now.table c.args.point (Corner c.in-Ok-Corner.n) shelf _ _ _ _ _ is c.locate.ensures.counted (subst (λ t. c.locate.new.steps ≤ c.args.steps.now + most_steps t) c.views.ensures c.locate.ensures.within)
    (refuses_it (line_at (codes "point: corner ") c.in-Ok-Corner.n) _ shelf _ _ c.numbered_line.ensures)

pub returns-in-Ok-Border : goal.returns-in-Ok-Border
returns-in-Ok-Border g c = λ shelf.
    let is : place_at c.args.plane.now.table c.args.point ≡ Border c.in-Ok-Border.e =
    sym (ap (λ t. place_at t c.args.point) c.views.ensures) ∙ same_ok c.locate.result (place_at c.views.result c.args.point) (Border c.in-Ok-Border.e) c.locate.ensures.found (c.in-Ok-Border.is ∙ ap Ok c.in-Ok-Border.field-0-is) in
    sought c.args.scale c.args.plane.now.table c.args.point (Border c.in-Ok-Border.e) shelf _ _ _ _ _ is c.locate.ensures.counted (subst (λ t. c.locate.new.steps ≤ c.args.steps.now + most_steps t) c.views.ensures c.locate.ensures.within)
    (refuses_it (line_at (codes "point: border ") c.in-Ok-Border.e) _ shelf _ _ c.numbered_line-in-Ok-Border.ensures)

pub returns-in-Ok-Area : goal.returns-in-Ok-Area
returns-in-Ok-Area g c = λ shelf.
    let is : place_at c.args.plane.now.table c.args.point ≡ Area c.in-Ok-Area.floor =
    sym (ap (λ t. place_at t c.args.point) c.views.ensures) ∙ same_ok c.locate.result (place_at c.views.result c.args.point) (Area c.in-Ok-Area.floor) c.locate.ensures.found (c.in-Ok-Area.is ∙ ap Ok c.in-Ok-Area.field-0-is) in
    sought c.args.scale c.args.plane.now.table c.args.point (Area c.in-Ok-Area.floor) shelf _ _ _ _ _ is c.locate.ensures.counted (subst (λ t. c.locate.new.steps ≤ c.args.steps.now + most_steps t) c.views.ensures c.locate.ensures.within) (c.write_above.ensures shelf _)
