use Rattle.std.proofs.Common.{◌≡◌, ◌-◌, ◌+◌, ◌∙◌, ap, subst, sym, arith, [], ◌≤◌, length}
use Rattle.std.specs.Prelude.{Some}
use Rattle.std.proofs.{lemmas.Option.slice_get_within, lemmas.Bool.both_ways}
use Rattle.loc_spec_index.specs.declared.NodeRow.{NodeRow}
use Rattle.loc_spec_index.specs.Nodes.{Left, Right, child, child_of}
use Rattle.loc_file.proofs.Walked.{child-within}
use Rattle.loc_verify.specs.{Readings.IsFollowed, declared.reading.Followed.TheVariants.Past}
use Rattle.loc_verify.proofs.Following.{differs_here, followed_none, goes_on, stopped}
use Rattle.loc_verify.proofs.reading.+follow.Goals as goal

pub returns-then-node-eq0 : goal.returns-then-node-eq0
returns-then-node-eq0 t c = followed_none c.args.held.now.content.nodes c.args.version c.args.node c.args.room c.args.list.now c.args.read c.if-node-eq0.true c.requires.within

pub returns-then-not-has_at : goal.returns-then-not-has_at
returns-then-not-has_at t c =
    let rows = c.args.held.now.content.nodes in
    let left : c.left_of.result ≡ child_of rows c.args.version c.args.node Left = c.left_of.ensures ∙ ap (λ (row : NodeRow). child row Left c.args.version) c.row-row.ensures.value in
    let followed = subst (λ n. IsFollowed rows c.args.version n (c.args.room - 1) c.args.list.now c.args.read (Past c.in-Past.next)) left (subst (λ r. IsFollowed rows c.args.version c.left_of.result (c.args.room - 1) c.args.list.now c.args.read r) c.in-Past.is c.follow.ensures) in
    differs_here rows c.args.version c.args.node c.args.room c.if-node-eq0.false c.requires.node c.if-room-eq0.false c.args.list.now c.args.read c.in-Past.next followed.0
    (λ same. both_ways c.has_at.result c.if-not-has_at.true (c.has_at.ensures.1 (same ∙ ap (λ (row : NodeRow). Some row.item) (sym c.row-row.ensures.value))))

pub returns-else-not-has_at : goal.returns-else-not-has_at
returns-else-not-has_at t c =
    let rows = c.args.held.now.content.nodes in
    let left : c.left_of.result ≡ child_of rows c.args.version c.args.node Left = c.left_of.ensures ∙ ap (λ (row : NodeRow). child row Left c.args.version) c.row-row.ensures.value in
    let right : c.right_of.result ≡ child_of rows c.args.version c.args.node Right = c.right_of.ensures ∙ ap (λ (row : NodeRow). child row Right c.args.version) c.row-row.ensures.value in
    let followed = subst (λ n. IsFollowed rows c.args.version n (c.args.room - 1) c.args.list.now c.args.read (Past c.in-Past.next)) left (subst (λ r. IsFollowed rows c.args.version c.left_of.result (c.args.room - 1) c.args.list.now c.args.read r) c.in-Past.is c.follow.ensures) in
    goes_on rows c.args.version c.args.node c.args.room c.if-node-eq0.false c.requires.node c.if-room-eq0.false c.args.list.now c.args.read c.in-Past.next followed.0
    (c.has_at.ensures.0 c.if-not-has_at.false ∙ ap (λ (row : NodeRow). Some row.item) c.row-row.ensures.value) c.follow-in-Past.result followed.1
    (subst (λ n. IsFollowed rows c.args.version n (c.args.room - 1) c.args.list.now (c.in-Past.next + 1) c.follow-in-Past.result) right c.follow-in-Past.ensures)

pub returns-in_default : goal.returns-in_default
returns-in_default t c =
    let rows = c.args.held.now.content.nodes in
    let left : c.left_of.result ≡ child_of rows c.args.version c.args.node Left = c.left_of.ensures ∙ ap (λ (row : NodeRow). child row Left c.args.version) c.row-row.ensures.value in
    stopped rows c.args.version c.args.node c.args.room c.if-node-eq0.false c.requires.node c.if-room-eq0.false c.args.list.now c.args.read c.follow.result c.in_default.not-Past
    (subst (λ n. IsFollowed rows c.args.version n (c.args.room - 1) c.args.list.now c.args.read c.follow.result) left c.follow.ensures)

pub returns-then-room-eq0 : goal.returns-then-room-eq0
returns-then-room-eq0 t c = ([], c.if-node-eq0.false, sym c.if-room-eq0.true)

pub row-row-requires : goal.row-row-requires
row-row-requires t c = (omega (arith, c.if-node-eq0.false), c.requires.node)

pub overflow_sub-room : goal.overflow_sub-room
overflow_sub-room t c = omega (arith, c.if-room-eq0.false)

pub overflow_sub-room-in-Past : goal.overflow_sub-room-in-Past
overflow_sub-room-in-Past t c = omega (arith, c.if-room-eq0.false)

pub overflow_add-next : goal.overflow_add-next
overflow_add-next t c = let read = subst (λ r. IsFollowed c.args.held.now.content.nodes c.args.version c.left_of.result (c.args.room - 1) c.args.list.now c.args.read r) c.in-Past.is c.follow.ensures in record { fits = omega (arith, read.0.within, c.requires.few) }

pub follow-requires : goal.follow-requires
follow-requires t c =
    let rows = c.args.held.now.content.nodes in
    (omega (arith, c.if-room-eq0.false), (subst (λ n. n ≤ length rows) (sym c.left_of.ensures) (child-within (length c.args.held.now.content.edges) (length rows) c.row-row.result Left c.args.version c.row-row.ensures.within), (c.requires.within, c.requires.few)))

pub follow-requires-in-Past : goal.follow-requires-in-Past
follow-requires-in-Past t c =
    let rows = c.args.held.now.content.nodes in
    let there = slice_get_within c.args.list.now c.in-Past.next c.row-row.result.item (c.has_at.ensures.0 c.if-not-has_at.false) in
    (omega (arith, c.if-room-eq0.false), (subst (λ n. n ≤ length rows) (sym c.right_of.ensures) (child-within (length c.args.held.now.content.edges) (length rows) c.row-row.result Right c.args.version c.row-row.ensures.within), (omega (arith, there), c.requires.few)))
