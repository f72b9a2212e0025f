use Rattle.std.proofs.Common.{◌≡◌, ℕ, ◌-◌, ◌<◌, length, refl, subst, true, false, List, [], ◌∷◌, ◌++◌, ap, ◌∙◌, sym}
use Rattle.loc_spec_plane.specs.{declared.Trap.Trap, Tables.hi_of}
use Rattle.std.specs.Prelude.{None, Result, Ok, Err, OnOk}
use Rattle.loc_traps.specs.{declared.walk.Start.Start, declared.walk.Cut.Cut, Meaning.row_of, Walks.IsWalk}
use Rattle.loc_traps.proofs.Walking.{Walking, left_number}
use Rattle.loc_traps.proofs.Going.{starts_there, ends_there, corner_there, is_named, found, falls, is_below_there, goes_there}
use Rattle.loc_traps.proofs.walk.Walk.follow.Goals as goal

-- a walk that reads the same
same_walk : (P : ℕ → List Start → List Start → List Cut → Type 0) (row row2 : ℕ) (overs overs2 unders unders2 : List Start) (cuts cuts2 : List Cut) → row2 ≡ row → overs2 ≡ overs → unders2 ≡ unders → cuts2 ≡ cuts → P row overs unders cuts → P row2 overs2 unders2 cuts2
same_walk P row row2 overs overs2 unders unders2 cuts cuts2 same_row same_overs same_unders same_cuts h =
    subst (λ n. P n overs2 unders2 cuts2) (sym same_row) (subst (λ o. P row o unders2 cuts2) (sym same_overs) (subst (λ u. P row overs u cuts2) (sym same_unders) (subst (λ q. P row overs unders q) (sym same_cuts) h)))

-- four facts of a success
on_ok : {A B P Q R S T : Type 0} (r : Result A B) → OnOk r P → OnOk r Q → OnOk r R → OnOk r S → (P → Q → R → S → T) → OnOk r T
on_ok (Ok x) p q r s f = f p q r s
on_ok (Err e) p q r s f = tt

pub along-init : goal.along-init
along-init c = λ set fresh.
    subst (λ n. Walking c.args.ranks.now c.args.traps.now.added c.args.edge set fresh c.args.traps.now.rows c.args.traps.now.is_live n c.start.new.self.overs.items c.start.new.self.unders.items c.start.new.self.cuts.items) (sym c.in_ok-start.ensures.row)
    (starts_there c.args.ranks.now c.args.traps.now c.requires.is_map c.args.edge set fresh c.args.self.now.last c.requires.row c.requires.is_live c.requires.begins c.trap-first.result c.trap-first.ensures c.ends-lo.result.0 c.ends-lo.ensures.lower
    c.start.new.self.overs.items (c.in_ok-start.ensures.overs ∙ ap (λ (xs : List Start). xs ++ record { bound = c.trap-first.result.top; left = c.ends-lo.result.0 } ∷ []) c.requires.no_overs)
    c.start.new.self.unders.items (c.in_ok-start.ensures.unders ∙ ap (λ (xs : List Start). xs ++ record { bound = c.trap-first.result.bottom; left = c.ends-lo.result.0 } ∷ []) c.requires.no_unders)
    c.start.new.self.cuts.items (c.in_ok-start.ensures.cuts ∙ c.requires.no_cuts))

pub trap-requires : goal.trap-requires
trap-requires c = (c.along.invariant c.requires.calm c.requires.is_new).real

pub cut-requires-clause-over : goal.cut-requires-clause-over
cut-requires-clause-over c = (c.along.invariant c.requires.calm c.requires.is_new).some true

pub cut-requires-clause-under : goal.cut-requires-clause-under
cut-requires-clause-under c = (c.along.invariant c.requires.calm c.requires.is_new).some false

pub cut-requires-2-clause-over : goal.cut-requires-2-clause-over
cut-requires-2-clause-over c = (c.along.invariant c.requires.calm c.requires.is_new).some true

pub cut-requires-2-clause-under : goal.cut-requires-2-clause-under
cut-requires-2-clause-under c = (c.along.invariant c.requires.calm c.requires.is_new).some false

pub has_above-requires-clause-corner_in_range : goal.has_above-requires-clause-corner_in_range
has_above-requires-clause-corner_in_range c = corner_there c.args.ranks.now c.args.traps.now c.requires.is_map c.args.edge c.requires.calm c.requires.is_new c.along.self.last c.along.self.overs.items c.along.self.unders.items c.along.self.cuts.items (c.along.invariant c.requires.calm c.requires.is_new) c.trap.result c.trap.ensures c.ends-lo.result.1 c.ends-lo.ensures.upper c.in-Some.left c.in-Some.ensures

pub lowest_at-row-requires : goal.lowest_at-row-requires
lowest_at-row-requires c = is_named c.args.ranks.now c.args.traps.now c.requires.is_map c.args.edge c.requires.calm c.requires.is_new c.along.self.last c.along.self.overs.items c.along.self.unders.items c.along.self.cuts.items (c.along.invariant c.requires.calm c.requires.is_new) c.trap.result c.trap.ensures c.ends-lo.result.1 c.ends-lo.ensures.upper c.in-Some.left c.in-Some.ensures true

pub highest_at-row-requires : goal.highest_at-row-requires
highest_at-row-requires c = is_named c.args.ranks.now c.args.traps.now c.requires.is_map c.args.edge c.requires.calm c.requires.is_new c.along.self.last c.along.self.overs.items c.along.self.unders.items c.along.self.cuts.items (c.along.invariant c.requires.calm c.requires.is_new) c.trap.result c.trap.ensures c.ends-lo.result.1 c.ends-lo.ensures.upper c.in-Some.left c.in-Some.ensures false

pub trap-bound-requires : goal.trap-bound-requires
trap-bound-requires c = (found c.args.ranks.now c.args.traps.now c.requires.is_map c.args.edge c.requires.calm c.requires.is_new c.along.self.last c.along.self.overs.items c.along.self.unders.items c.along.self.cuts.items (c.along.invariant c.requires.calm c.requires.is_new) c.trap.result c.trap.ensures c.ends-lo.result.1 c.ends-lo.ensures.upper c.in-Some.left c.in-Some.ensures true c.lowest_at-row.result c.lowest_at-row.ensures).0

pub trap-bound-requires-else-has_above : goal.trap-bound-requires-else-has_above
trap-bound-requires-else-has_above c = (found c.args.ranks.now c.args.traps.now c.requires.is_map c.args.edge c.requires.calm c.requires.is_new c.along.self.last c.along.self.overs.items c.along.self.unders.items c.along.self.cuts.items (c.along.invariant c.requires.calm c.requires.is_new) c.trap.result c.trap.ensures c.ends-lo.result.1 c.ends-lo.ensures.upper c.in-Some.left c.in-Some.ensures false c.highest_at-row.result c.highest_at-row.ensures).0

pub along-smaller-in-Continue-branch-3 : goal.along-smaller-in-Continue-branch-3
along-smaller-in-Continue-branch-3 c = subst (λ n. hi_of c.args.ranks.now c.args.edge - left_number (row_of c.args.traps.now.rows n).left < hi_of c.args.ranks.now c.args.edge - left_number (row_of c.args.traps.now.rows c.along.self.last).left) (sym c.in_ok-go_over.ensures.row) (falls c.args.ranks.now c.args.traps.now c.requires.is_map c.args.edge c.requires.calm c.requires.is_new c.along.self.last c.along.self.overs.items c.along.self.unders.items c.along.self.cuts.items (c.along.invariant c.requires.calm c.requires.is_new) c.trap.result c.trap.ensures c.ends-lo.result.1 c.ends-lo.ensures.upper c.in-Some.left c.in-Some.ensures true c.lowest_at-row.result c.lowest_at-row.ensures)

pub along-smaller : goal.along-smaller
along-smaller c = subst (λ n. hi_of c.args.ranks.now c.args.edge - left_number (row_of c.args.traps.now.rows n).left < hi_of c.args.ranks.now c.args.edge - left_number (row_of c.args.traps.now.rows c.along.self.last).left) (sym c.in_ok-go_under.ensures.row) (falls c.args.ranks.now c.args.traps.now c.requires.is_map c.args.edge c.requires.calm c.requires.is_new c.along.self.last c.along.self.overs.items c.along.self.unders.items c.along.self.cuts.items (c.along.invariant c.requires.calm c.requires.is_new) c.trap.result c.trap.ensures c.ends-lo.result.1 c.ends-lo.ensures.upper c.in-Some.left c.in-Some.ensures false c.highest_at-row.result c.highest_at-row.ensures)

pub along-preserved-in-Continue-branch-3 : goal.along-preserved-in-Continue-branch-3
along-preserved-in-Continue-branch-3 c = λ set fresh.
    same_walk (Walking c.args.ranks.now c.args.traps.now.added c.args.edge set fresh c.args.traps.now.rows c.args.traps.now.is_live)
    c.lowest_at-row.result c.go_over.new.self.last c.go_over.new.self.overs.items c.go_over.new.self.overs.items c.along.self.unders.items c.go_over.new.self.unders.items c.cut.new.self.cuts.items c.go_over.new.self.cuts.items
    c.in_ok-go_over.ensures.row refl (c.in_ok-go_over.ensures.unders ∙ c.in_ok-cut.ensures.unders) c.in_ok-go_over.ensures.cuts
    (goes_there c.args.ranks.now c.args.traps.now c.requires.is_map c.args.edge set fresh c.along.self.last c.along.self.overs.items c.along.self.unders.items c.along.self.cuts.items (c.along.invariant set fresh) c.trap.result c.trap.ensures c.ends-lo.result.1 c.ends-lo.ensures.upper c.in-Some.left c.in-Some.ensures
    c.cut.new.self.cuts.items (length c.along.self.overs.items - 1) (length c.along.self.unders.items - 1) refl refl c.in_ok-cut.ensures.cuts
    true c.lowest_at-row.result c.trap-bound.result.top c.lowest_at-row.ensures (sym c.has_above.ensures ∙ c.if-has_above.true) (ap (λ (x : Trap). x.top) c.trap-bound.ensures) c.go_over.new.self.overs.items
    (c.in_ok-go_over.ensures.overs ∙ ap (λ (xs : List Start). xs ++ record { bound = c.trap-bound.result.top; left = c.in-Some.left } ∷ []) c.in_ok-cut.ensures.overs))

pub along-preserved : goal.along-preserved
along-preserved c = λ set fresh.
    same_walk (Walking c.args.ranks.now c.args.traps.now.added c.args.edge set fresh c.args.traps.now.rows c.args.traps.now.is_live)
    c.highest_at-row.result c.go_under.new.self.last c.along.self.overs.items c.go_under.new.self.overs.items c.go_under.new.self.unders.items c.go_under.new.self.unders.items c.cut.new.self.cuts.items c.go_under.new.self.cuts.items
    c.in_ok-go_under.ensures.row (c.in_ok-go_under.ensures.overs ∙ c.in_ok-cut.ensures.overs) refl c.in_ok-go_under.ensures.cuts
    (goes_there c.args.ranks.now c.args.traps.now c.requires.is_map c.args.edge set fresh c.along.self.last c.along.self.overs.items c.along.self.unders.items c.along.self.cuts.items (c.along.invariant set fresh) c.trap.result c.trap.ensures c.ends-lo.result.1 c.ends-lo.ensures.upper c.in-Some.left c.in-Some.ensures
    c.cut.new.self.cuts.items (length c.along.self.overs.items - 1) (length c.along.self.unders.items - 1) refl refl c.in_ok-cut.ensures.cuts
    false c.highest_at-row.result c.trap-bound-else-has_above.result.bottom c.highest_at-row.ensures (is_below_there c.args.ranks.now c.args.traps.now c.requires.is_map c.args.edge set fresh c.along.self.last c.along.self.overs.items c.along.self.unders.items c.along.self.cuts.items (c.along.invariant set fresh) c.trap.result c.trap.ensures c.ends-lo.result.1 c.ends-lo.ensures.upper c.in-Some.left c.in-Some.ensures (sym c.has_above.ensures ∙ c.if-has_above.false))
    (ap (λ (x : Trap). x.bottom) c.trap-bound-else-has_above.ensures) c.go_under.new.self.unders.items
    (c.in_ok-go_under.ensures.unders ∙ ap (λ (xs : List Start). xs ++ record { bound = c.trap-bound-else-has_above.result.bottom; left = c.in-Some.left } ∷ []) c.in_ok-cut.ensures.unders))

pub returns : goal.returns
returns c =
    on_ok c.end.result c.end.ensures.overs c.end.ensures.unders c.end.ensures.cuts c.end.ensures.row (λ overs unders cuts row.
    subst (λ n. IsWalk c.args.ranks.now c.args.traps.now.added c.args.traps.now.rows c.args.traps.now.is_live c.args.edge c.args.self.now.last n c.end.new.self.overs.items c.end.new.self.unders.items c.end.new.self.cuts.items) (sym (row ∙ c.in_ok-cut-2.ensures.row))
    (ends_there c.args.ranks.now c.args.traps.now c.requires.is_map c.args.edge c.requires.calm c.requires.is_new c.along.self.last c.along.self.overs.items c.along.self.unders.items c.along.self.cuts.items (c.along.invariant c.requires.calm c.requires.is_new) c.trap.result c.trap.ensures c.ends-lo.result.1 c.ends-lo.ensures.upper c.in_default.ensures c.args.self.now.last c.requires.row c.requires.is_live c.requires.begins
    (length c.along.self.overs.items - 1) (length c.along.self.unders.items - 1) refl refl c.end.new.self.cuts.items (cuts ∙ c.in_ok-cut-2.ensures.cuts)
    c.end.new.self.overs.items (overs ∙ ap (λ (xs : List Start). xs ++ record { bound = None; left = c.ends-lo.result.1 } ∷ []) c.in_ok-cut-2.ensures.overs)
    c.end.new.self.unders.items (unders ∙ ap (λ (xs : List Start). xs ++ record { bound = None; left = c.ends-lo.result.1 } ∷ []) c.in_ok-cut-2.ensures.unders)))
