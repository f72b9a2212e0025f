use Rattle.std.proofs.Common.{◌≡◌, ℕ, ◌+◌, ◌<◌, ◌≤◌, true, false, List, length, get_or, map, sym, ◌∙◌, ap, subst, arith}
use Rattle.loc_spec_plane.specs.{Lists.numbers, HalfEdges.half_edge_count, Faces.hangs}
use Rattle.loc_half.specs.HalfEdgeLists.{next_in}
use Rattle.loc_faces.specs.{Boundaries.inner_leaders, FaceLists.AreFaces}
use Rattle.loc_faces.specs.Cycles.{AreHanging, AreLeast, AreNumbered, face_by}
use Rattle.loc_faces.proofs.{Nested.face_over, Numbering.listed_few, Made.faces_are, Made.faces_below}
use Rattle.loc_faces.proofs.faces.Faces.make.Goals as goal

pub overflow_cast-count : goal.overflow_cast-count
overflow_cast-count c =
    omega (arith, listed_few c.args.table.now c.args.half.now c.requires.half c.in_ok-outers.outers.items c.in_ok-outers.of_cycle.items _ c.in_ok-outers.ensures, c.law.ensures.small.few_edges, c.in_ok-outers.outers.ok.0, c.len.ensures)

pub overflow_add-count : goal.overflow_add-count
overflow_add-count c =
    omega (arith, listed_few c.args.table.now c.args.half.now c.requires.half c.in_ok-outers.outers.items c.in_ok-outers.of_cycle.items _ c.in_ok-outers.ensures, c.law.ensures.small.few_edges, c.in_ok-outers.outers.ok.0, c.len.ensures)

pub hanging_rows-requires-clause-within : goal.hanging_rows-requires-clause-within
hanging_rows-requires-clause-within c =
    let numbered : AreNumbered c.args.table.now c.args.half.now c.in_ok-outers.outers.items c.in_ok-outers.of_cycle.items (half_edge_count c.args.table.now) = c.in_ok-outers.ensures in
    let within : (most : ℕ) → ((l : ℕ) → get_or c.in_ok-outers.of_cycle.items l 0 ≤ most) → (l : ℕ) → get_or c.number_hanging-of_cycle.result.items l 0 ≤ most = c.number_hanging-of_cycle.ensures.within in
    let each : (h : ℕ) → h < half_edge_count c.args.table.now → get_or c.in_ok-of_half.of_half.items h 0 ≡ face_by c.args.half.now c.number_hanging-of_cycle.result.items h = λ h lt. c.in_ok-of_half.ensures.each h lt ∙ ap (λ (l : List ℕ). face_by c.args.half.now l h) c.deref-5.ensures.value in
    let many : c.len.result ≡ length c.in_ok-outers.outers.items = (let held = c.in_ok-outers.outers.ok.0 in omega (arith, held, c.len.ensures)) in
    let below : (h : ℕ) → get_or c.in_ok-of_half.of_half.items h 0 < c.len.result + 1 = subst (λ n. (h : ℕ) → get_or c.in_ok-of_half.of_half.items h 0 < n + 1) (sym many)
    (faces_below c.args.table.now c.args.half.now (length c.in_ok-outers.outers.items) c.number_hanging-of_cycle.result.items c.in_ok-of_half.of_half.items c.in_ok-of_half.ensures.as_many each (within (length c.in_ok-outers.outers.items) numbered.within)) in
    λ h _. subst (λ (l : List ℕ). get_or l h 0 < c.len.result + 1) (sym c.deref-7.ensures.value) (below h)

pub returns : goal.returns
returns c =
    let hung : AreHanging c.args.table.now c.args.half.now c.in_ok-hanging.hanging.items = c.in_ok-hanging.ensures in
    let numbered : AreNumbered c.args.table.now c.args.half.now c.in_ok-outers.outers.items c.in_ok-outers.of_cycle.items (half_edge_count c.args.table.now) = c.in_ok-outers.ensures in
    let outer : (h : ℕ) → h < half_edge_count c.args.table.now → hangs c.args.table.now (next_in c.args.half.now) h ≡ false → face_by c.args.half.now c.number_hanging-of_cycle.result.items h ≡ face_by c.args.half.now c.in_ok-outers.of_cycle.items h = c.number_hanging-of_cycle.ensures.outer in
    let nested : (h : ℕ) → h < half_edge_count c.args.table.now → hangs c.args.table.now (next_in c.args.half.now) h ≡ true → face_by c.args.half.now c.number_hanging-of_cycle.result.items h ≡ face_over c.args.table.now c.args.half.now c.args.floors.now c.number_hanging-of_cycle.result.items h = c.number_hanging-of_cycle.ensures.hanging in
    let within : (most : ℕ) → ((l : ℕ) → get_or c.in_ok-outers.of_cycle.items l 0 ≤ most) → (l : ℕ) → get_or c.number_hanging-of_cycle.result.items l 0 ≤ most = c.number_hanging-of_cycle.ensures.within in
    let size : length c.in_ok-of_half.of_half.items ≡ half_edge_count c.args.table.now = c.in_ok-of_half.ensures.as_many in
    let each : (h : ℕ) → h < half_edge_count c.args.table.now → get_or c.in_ok-of_half.of_half.items h 0 ≡ face_by c.args.half.now c.number_hanging-of_cycle.result.items h = λ h lt. c.in_ok-of_half.ensures.each h lt ∙ ap (λ (l : List ℕ). face_by c.args.half.now l h) c.deref-5.ensures.value in
    let many : c.len.result ≡ length c.in_ok-outers.outers.items = (let held = c.in_ok-outers.outers.ok.0 in omega (arith, held, c.len.ensures)) in
    let rows : c.in_ok-inner.inner ≡ map (inner_leaders c.args.table.now (next_in c.args.half.now) (λ h. get_or c.in_ok-of_half.of_half.items h 0)) (numbers (length c.in_ok-outers.outers.items + 1)) =
    c.in_ok-inner.ensures ∙ (ap (λ (l : List ℕ). map (inner_leaders c.args.table.now (next_in c.args.half.now) (λ h. get_or l h 0)) (numbers (c.len.result + 1))) c.deref-7.ensures.value
    ∙ ap (λ n. map (inner_leaders c.args.table.now (next_in c.args.half.now) (λ h. get_or c.in_ok-of_half.of_half.items h 0)) (numbers (n + 1))) many) in
    let made = faces_are c.args.table.now c.law.ensures.in_order c.args.half.now c.requires.half c.args.floors.now c.requires.floors c.in_ok-hanging.hanging.items hung c.in_ok-outers.outers.items c.in_ok-outers.of_cycle.items c.number_hanging-of_cycle.result.items c.in_ok-of_half.of_half.items numbered outer nested within size each c.in_ok-inner.inner rows in
    subst (λ n. AreFaces c.args.table.now (next_in c.args.half.now) (record { count = n + 1; of_half = c.in_ok-of_half.of_half.items; outers = c.in_ok-outers.outers.items; inner = c.in_ok-inner.inner })) (sym many) made

pub least_corners-requires : goal.least_corners-requires
least_corners-requires c = record { half = c.requires.half }

pub hanging_cycles-requires-clause-half : goal.hanging_cycles-requires-clause-half
hanging_cycles-requires-clause-half c = c.requires.half

pub hanging_cycles-requires-clause-least : goal.hanging_cycles-requires-clause-least
hanging_cycles-requires-clause-least c = subst (AreLeast c.args.table.now c.args.half.now) (sym c.deref.ensures.value) c.in_ok-least.ensures

pub number_outer-requires-clause-half : goal.number_outer-requires-clause-half
number_outer-requires-clause-half c = c.requires.half

pub number_outer-requires-clause-hanging : goal.number_outer-requires-clause-hanging
number_outer-requires-clause-hanging c = subst (AreHanging c.args.table.now c.args.half.now) (sym c.deref-2.ensures.value) c.in_ok-hanging.ensures

pub number_hanging-of_cycle-requires-clause-half : goal.number_hanging-of_cycle-requires-clause-half
number_hanging-of_cycle-requires-clause-half c = c.requires.half

pub number_hanging-of_cycle-requires-clause-floors : goal.number_hanging-of_cycle-requires-clause-floors
number_hanging-of_cycle-requires-clause-floors c = c.requires.floors

pub number_hanging-of_cycle-requires-clause-least : goal.number_hanging-of_cycle-requires-clause-least
number_hanging-of_cycle-requires-clause-least c = subst (AreLeast c.args.table.now c.args.half.now) (sym c.deref-3.ensures.value) c.in_ok-least.ensures

pub number_hanging-of_cycle-requires-clause-hanging : goal.number_hanging-of_cycle-requires-clause-hanging
number_hanging-of_cycle-requires-clause-hanging c = subst (AreHanging c.args.table.now c.args.half.now) (sym c.deref-4.ensures.value) c.in_ok-hanging.ensures

pub number_hanging-of_cycle-requires-clause-as_many : goal.number_hanging-of_cycle-requires-clause-as_many
number_hanging-of_cycle-requires-clause-as_many c = c.in_ok-outers.ensures.as_many

pub face_of_each-requires-clause-half : goal.face_of_each-requires-clause-half
face_of_each-requires-clause-half c = c.requires.half

pub face_of_each-requires-clause-as_many : goal.face_of_each-requires-clause-as_many
face_of_each-requires-clause-as_many c = ap length c.deref-5.ensures.value ∙ c.number_hanging-of_cycle.ensures.as_many

pub hanging_rows-requires-clause-half : goal.hanging_rows-requires-clause-half
hanging_rows-requires-clause-half c = c.requires.half

pub hanging_rows-requires-clause-hanging : goal.hanging_rows-requires-clause-hanging
hanging_rows-requires-clause-hanging c = subst (AreHanging c.args.table.now c.args.half.now) (sym c.deref-6.ensures.value) c.in_ok-hanging.ensures

pub hanging_rows-requires-clause-as_many : goal.hanging_rows-requires-clause-as_many
hanging_rows-requires-clause-as_many c = ap length c.deref-7.ensures.value ∙ c.in_ok-of_half.ensures.as_many
