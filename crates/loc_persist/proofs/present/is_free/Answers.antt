-- The extra has this side and version, or there is none.
use Rattle.std.proofs.Common.{◌≡◌, ℕ, Some, sym, ◌∙◌, inr}
use Rattle.std.proofs.lemmas.Bool.{false≢true}
use Rattle.loc_pool.specs.declared.Extra.{Extra}
use Rattle.loc_persist.proofs.Places.{same-turn}
use Rattle.loc_persist.proofs.present.is_free.Goals as goal

pub returns-then-extra-version-clause-free : goal.returns-then-extra-version-clause-free
returns-then-extra-version-clause-free c t =
    let x : Extra = c.in-Some.extra in let s = same-turn x.turn c.args.turn (sym c.is_side.ensures ∙ t) in let v : ◌≡◌ {A = ℕ} x.version c.args.version = c.if-extra-version.true in
    inr (x.to, sym c.extra.ensures ∙ c.in-Some.is ∙ (λ i. Some (record { turn = s i; version = v i; to = x.to })))

pub returns-in-None-clause-used : goal.returns-in-None-clause-used
returns-in-None-clause-used c h = absurd (false≢true h)
