use Rattle.std.proofs.Common.{◌≤◌, length, refl, subst}
use Rattle.std.proofs.lemmas.Bool.{both_ways}
use Rattle.loc_verify.specs.Readings.{IsFollowed}
use Rattle.loc_verify.specs.declared.reading.Followed.TheVariants.{Differs, Past, TooDeep}
use Rattle.loc_verify.proofs.VersionLaws.{deep_there, differs_there, short_there, true_there}
use Rattle.loc_verify.proofs.versions.judge_version.Goals as goal

pub returns-in-Past-clause-ok : goal.returns-in-Past-clause-ok
returns-in-Past-clause-ok c =
    let h = c.args.held.now.content in
    let followed = subst (λ n. IsFollowed h.nodes c.args.version n c.most_nodes-room.result c.args.list.now 0 (Past c.in-Past.read)) c.root.ensures.value (subst (IsFollowed h.nodes c.args.version c.root.result c.most_nodes-room.result c.args.list.now 0) c.in-Past.is c.follow.ensures) in
    true_there h _ c.law.ensures c.args.version c.args.list.now c.requires.list c.most_nodes-room.result c.most_nodes-room.ensures.within c.most_nodes-room.ensures.past c.in-Past.read c.if-read-list.true followed.0 followed.1

pub returns-in-Past-2-clause-fault : goal.returns-in-Past-2-clause-fault
returns-in-Past-2-clause-fault c =
    let h = c.args.held.now.content in
    let followed = subst (λ n. IsFollowed h.nodes c.args.version n c.most_nodes-room.result c.args.list.now 0 (Past c.in-Past.read)) c.root.ensures.value (subst (IsFollowed h.nodes c.args.version c.root.result c.most_nodes-room.result c.args.list.now 0) c.in-Past.is c.follow.ensures) in
    (refl, short_there h _ c.law.ensures c.args.version c.args.list.now c.requires.list c.most_nodes-room.result c.most_nodes-room.ensures.within c.most_nodes-room.ensures.past c.in-Past.read c.if-read-list.false followed.0 followed.1)

pub returns-in-TooDeep-clause-fault : goal.returns-in-TooDeep-clause-fault
returns-in-TooDeep-clause-fault c =
    let h = c.args.held.now.content in
    let followed = subst (λ n. IsFollowed h.nodes c.args.version n c.most_nodes-room.result c.args.list.now 0 TooDeep) c.root.ensures.value (subst (IsFollowed h.nodes c.args.version c.root.result c.most_nodes-room.result c.args.list.now 0) c.in-TooDeep.is c.follow.ensures) in
    (refl, deep_there h _ c.law.ensures c.args.version c.args.list.now c.requires.list c.most_nodes-room.result c.most_nodes-room.ensures.within c.most_nodes-room.ensures.past followed)

pub returns-then-branch-clause-fault : goal.returns-then-branch-clause-fault
returns-then-branch-clause-fault c =
    let h = c.args.held.now.content in
    (refl, deep_there h _ c.law.ensures c.args.version c.args.list.now c.requires.list c.most_nodes-room.result c.most_nodes-room.ensures.within c.most_nodes-room.ensures.past (c.in_ok-has_path-in-Differs.ensures.0 c.if-branch.true))

pub returns-else-branch-clause-fault : goal.returns-else-branch-clause-fault
returns-else-branch-clause-fault c =
    let h = c.args.held.now.content in
    let followed = subst (λ n. IsFollowed h.nodes c.args.version n c.most_nodes-room.result c.args.list.now 0 (Differs c.in-Differs.position)) c.root.ensures.value (subst (IsFollowed h.nodes c.args.version c.root.result c.most_nodes-room.result c.args.list.now 0) c.in-Differs.is c.follow.ensures) in (
      refl,
      differs_there h _ c.law.ensures c.args.version c.args.list.now c.requires.list c.most_nodes-room.result c.most_nodes-room.ensures.within c.most_nodes-room.ensures.past (subst (λ n. n ≤ length h.nodes) c.root.ensures.value c.root.ensures.within) c.in-Differs.position followed
          (λ path. both_ways c.in_ok-has_path-in-Differs.field-0 c.if-branch.false (c.in_ok-has_path-in-Differs.ensures.1 path)),
    )

pub root-requires : goal.root-requires
root-requires c = c.requires.in_range

pub most_nodes-room-requires : goal.most_nodes-room-requires
most_nodes-room-requires c = c.requires.few

pub follow-requires-clause-node : goal.follow-requires-clause-node
follow-requires-clause-node c = c.root.ensures.within

pub follow-requires-clause-few : goal.follow-requires-clause-few
follow-requires-clause-few c = c.requires.few

pub has_path-requires : goal.has_path-requires
has_path-requires c = c.requires.in_range
