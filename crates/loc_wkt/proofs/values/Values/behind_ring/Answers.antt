use Rattle.std.proofs.Common.{◌∙◌, refl, arith, ap, length, sym}
use Rattle.loc_spec_text.specs.{Geometry.symbols, Reader.wide_point_at}
use Rattle.loc_wkt.specs.Lists.{listed_at, wide_ring_at}
use Rattle.loc_wkt.proofs.ListLemmas.{enclosed_none, enclosed_open}
use Rattle.loc_wkt.proofs.PassLemmas.{points_keep, points_keep_rings, ring_kept, ring_room, ring_started, unread_handed, not_err}
use Rattle.loc_wkt.proofs.values.Values.behind_ring.Goals as goal

pub returns-in_default-clause-err : goal.returns-in_default-clause-err
returns-in_default-clause-err c = λ h. (refl, enclosed_none wide_point_at (symbols c.args.text.now) c.in_default.ensures.found)

pub returns-in_err-points-clause-err : goal.returns-in_err-points-clause-err
returns-in_err-points-clause-err c = unread_handed c.from_residual.result c.in_err-points.field-0.0 (listed_at wide_point_at (symbols c.in-Some.inside.now)) (wide_ring_at (symbols c.args.text.now))
    c.from_residual.ensures.1 (λ none. enclosed_open wide_point_at (symbols c.args.text.now) (symbols c.in-Some.inside.now) c.in-Some.ensures.found ∙ none) c.in_err-points.ensures.err

pub keep-requires-clause-started : goal.keep-requires-clause-started
keep-requires-clause-started c = let read = c.in_ok-points.ensures.ok in
    omega (arith, c.requires.started, ap (λ v. length v.built) read.meaning.1, ap length (points_keep c.args.self.now read.member))

pub returns-clause-ok : goal.returns-clause-ok
returns-clause-ok c = let read = c.in_ok-points.ensures.ok in record {
  member = read.member;
  gives = enclosed_open wide_point_at (symbols c.args.text.now) (symbols c.in-Some.inside.now) c.in-Some.ensures.found ∙ read.gives;
  meaning = ring_kept c.args.self.now c.points.new.self c.keep.new.self read.member c.in_ok-points.points.items read.meaning.0 read.meaning.1 (not_err c.keep.result _ (sym c.is_err.ensures.value ∙ c.if-is_err.false) c.keep.ensures.ok);
}

pub returns-clause-room : goal.returns-clause-room
returns-clause-room c = let read = c.in_ok-points.ensures.ok in
    ring_room c.points.new.self c.keep.new.self c.in_ok-points.points.items c.args.text.now c.in_ok-points.rest.now (not_err c.keep.result _ (sym c.is_err.ensures.value ∙ c.if-is_err.false) c.keep.ensures.ok) c.in_ok-points.ensures.room
    (omega (arith, c.requires.room.rings, ap (λ v. v.rings.count) read.meaning.1, ap (λ rings. rings.count) (points_keep_rings c.args.self.now read.member)))
    (omega (arith, c.in_ok-points.ensures.shorter, c.in-Some.ensures.shorter))

pub returns-clause-started : goal.returns-clause-started
returns-clause-started c = let read = c.in_ok-points.ensures.ok in
    omega (
      arith,
      c.requires.started,
      ring_started c.points.new.self c.keep.new.self c.in_ok-points.points.items (not_err c.keep.result _ (sym c.is_err.ensures.value ∙ c.if-is_err.false) c.keep.ensures.ok),
      ap (λ v. length v.built) read.meaning.1,
      ap length (points_keep c.args.self.now read.member),
    )
