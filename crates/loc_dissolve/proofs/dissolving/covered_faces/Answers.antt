use Rattle.std.proofs.Common.{◌≡◌, ℕ, ◌*◌, true, false, length, get_or, set, sym, ◌∙◌, ap, arith, length-set}
use Rattle.loc_faces.specs.FaceLists.{face_in}
use Rattle.loc_spec_groups.specs.Groups.{covers_upper}
use Rattle.loc_dissolve.specs.Grouping.{in_group}
use Rattle.loc_dissolve.proofs.Covered.{marks_none, marks_one}
use Rattle.loc_dissolve.proofs.dissolving.covered_faces.Goals as goal
use Rattle.loc_dissolve.proofs.dissolving.covered_faces.Goals.{then-is_covered, else-is_covered}

pub overflow_cast-n : goal.overflow_cast-n
overflow_cast-n c = omega (arith, c.requires.few, c.loop-n-test.true)

pub overflow_mul-n : goal.overflow_mul-n
overflow_mul-n c = omega (arith, c.requires.few, c.loop-n-test.true)

pub loop-n-preserved : goal.loop-n-preserved
loop-n-preserved c =
    let face = face_in c.args.faces.now in
    let n = c.loop-n.n in
    let upper = λ (k : ℕ). covers_upper c.args.table.now (in_group c.args.groups.now c.args.group) (get_or c.args.kept.now k 0) in
    elim c.if-is_covered.branch [
      | then-is_covered w ↦
          (let is : c.if-is_covered.covered.items ≡ set c.loop-n.covered.items (face_in c.args.faces.now (2 * c.loop-n.n)) true = ap (λ v. v.items) w.covered-is ∙ ap (λ k. set c.loop-n.covered.items k true) w.face_of.ensures in
          let inside = c.requires.within (2 * n) in
          let many = c.loop-n.invariant.as_many in
          record {
            as_many = ap length is ∙ (length-set c.loop-n.covered.items (face (2 * n)) true ∙ many);
            each = marks_one face upper n c.loop-n.covered.items c.if-is_covered.covered.items (sym w.if-is_covered.ensures) (omega (arith, inside, many)) is c.loop-n.invariant.each;
          })
      | else-is_covered w ↦ record {
        as_many = ap (λ v. length v.items) w.covered-is ∙ c.loop-n.invariant.as_many;
        each = λ f. ap (λ v. get_or v.items f false) w.covered-is ∙ marks_none face upper n c.loop-n.covered.items (sym w.if-is_covered.ensures) c.loop-n.invariant.each f;
      }
    ]
