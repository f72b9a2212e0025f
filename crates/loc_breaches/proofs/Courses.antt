-- How far judging the features of a layer comes along a course.
use Rattle.std.proofs.Common.{◌≡◌, ℕ, ◌+◌, ◌<◌, List, ◌∷◌, ◌++◌, length, get_or, take, drop, Option, Some, None, refl, sym, ◌∙◌, ap, subst}
use Rattle.std.proofs.lemmas.List.{at_drop_more, take-append-drop}
use Rattle.loc_spec_text.specs.{Bytes.Text, Points.ended}
use Rattle.loc_rings.specs.Values.{Feature}
use Rattle.loc_course.specs.Courses.{Stopped, no_memory, refused, unread, unwritten, writes}
use Rattle.loc_course.specs.Following.{Follows, Moment, lacks, refuses_by}
use Rattle.loc_course.proofs.Told.{exactly_it}
use Rattle.loc_breaches.specs.BreachCourses.{IsRefusedBy, are_lines, first_refusal, judged_course, refusal_of, refused_or}
use Rattle.loc_breaches.proofs.Refusals.{refused_first}

-- and one of which a feature is, when those before it are not
pub on_refused : (scale : ℕ) (layer before behind : List Feature) (feature : Feature) (stop : Stopped) (m : Moment) → layer ≡ before ++ feature ∷ behind → first_refusal before ≡ None → IsRefusedBy (refusal_of feature.polygons) stop
    → Follows (judged_course scale layer) m m (Some stop)
on_refused scale layer before behind feature no_memory m is none by = lacks
on_refused scale layer before behind feature (refused line) m is none (text, own, same) =
    let first = ap first_refusal is in
    let found = refused_first before behind feature text none own in
    subst (λ (r : Option Text). Follows (refused_or r (writes (are_lines scale layer))) m m (Some (refused line))) (sym (first ∙ found))
    (subst (λ (l : Text). Follows (refused_or (Some text) (writes (are_lines scale layer))) m m (Some (refused l))) (sym same) (refuses_by (ended text) (exactly_it (ended text) (ended text) refl)))
on_refused scale layer before behind feature unread m is none by = absurd by
on_refused scale layer before behind feature unwritten m is none by = absurd by

-- the feature at a place of the layer, with those before and behind it
pub at_place : (items : List Feature) (i : ℕ) (feature : Feature) → i < length items → feature ≡ get_or items i feature → items ≡ take i items ++ feature ∷ drop (i + 1) items
at_place items i feature fits is = sym (take-append-drop i items) ∙ ap (λ (l : List Feature). take i items ++ l) (at_drop_more (λ (l : List Feature). l) items i feature fits ∙ ap (λ (f : Feature). f ∷ drop (i + 1) items) (sym is))

-- a layer is refused by one of its features, when those before it are not
pub refused_at : (scale : ℕ) (layer items : List Feature) (i : ℕ) (feature : Feature) (stop : Stopped) (m : Moment) → items ≡ layer → i < length items → feature ≡ get_or items i feature → first_refusal (take i items) ≡ None
    → IsRefusedBy (refusal_of feature.polygons) stop → Follows (judged_course scale layer) m m (Some stop)
refused_at scale layer items i feature stop m same fits is none by = on_refused scale layer (take i items) (drop (i + 1) items) feature stop m (sym same ∙ at_place items i feature fits is) none by
