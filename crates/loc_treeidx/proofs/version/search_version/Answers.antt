use Rattle.std.proofs.Common.{[], get_or, subst, sym}
use Rattle.std.proofs.lemmas.Option.{get_or_from_slice_get}
use Rattle.loc_persist.specs.Meaning.{Reads}
use Rattle.loc_treeidx.proofs.Searching.{search-start, search-few, search-area, search-more-few, search-edge, search-border, search-left, search-right}
use Rattle.loc_treeidx.proofs.version.search_version.Goals as goal

pub down-init : goal.down-init
down-init g c =
    let m = c.args.versions.now in
    let version = c.args.version in
    let sealed = c.sealed-sealed.ensures.facts.sealed version c.root-next.result c.root-next.ensures in
    search-start c.args.views.now c.args.p m version (get_or m.sealed_lists version []) c.args.steps.now c.root-next.result
    (subst (λ list. Reads version m.rows c.root-next.result list) (sym (get_or_from_slice_get m.sealed_lists version sealed.list [] sealed.sealed)) sealed.reads)

pub side-requires : goal.side-requires
side-requires g c =
    let m = c.args.versions.now in
    let version = c.args.version in
    record { in_range = (search-edge c.args.views.now c.args.p m version (get_or m.sealed_lists version []) c.args.steps.now c.down.steps c.down.next c.down.floor c.down.invariant c.in-Some.at c.in-Some.is c.item-edge.result c.item-edge.ensures c.requires.alive).0 }

pub down-preserved-in-Below : goal.down-preserved-in-Below
down-preserved-in-Below g c =
    let m = c.args.versions.now in
    let version = c.args.version in
    search-left c.args.views.now c.args.p m version (get_or m.sealed_lists version []) c.args.steps.now c.down.steps c.down.next c.down.floor c.down.invariant c.in-Some.at c.in-Some.is c.item-edge.result c.item-edge.ensures _ c.child-next.result c.side.ensures.counted c.child-next.ensures c.in-Below.ensures.value

pub returns-in-On-clause-place : goal.returns-in-On-clause-place
returns-in-On-clause-place g c =
    let m = c.args.versions.now in
    let version = c.args.version in
    search-border c.args.views.now c.args.p m version (get_or m.sealed_lists version []) c.args.steps.now c.down.steps c.down.next c.down.floor c.down.invariant c.in-Some.at c.in-Some.is c.item-edge.result c.item-edge.ensures c.requires.alive c.requires.planar c.requires.cornerless c.in-On.ensures.value

pub returns-in-On-clause-few : goal.returns-in-On-clause-few
returns-in-On-clause-few g c =
    let m = c.args.versions.now in
    let version = c.args.version in
    search-more-few c.args.views.now c.args.p m version (get_or m.sealed_lists version []) c.args.steps.now c.down.steps c.down.next c.down.floor c.down.invariant c.in-Some.at c.in-Some.is _ c.side.ensures.counted

pub down-preserved : goal.down-preserved
down-preserved g c =
    let m = c.args.versions.now in
    let version = c.args.version in
    search-right c.args.views.now c.args.p m version (get_or m.sealed_lists version []) c.args.steps.now c.down.steps c.down.next c.down.floor c.down.invariant c.in-Some.at c.in-Some.is c.item-edge.result c.item-edge.ensures _ c.child-next-in-Above.result c.side.ensures.counted c.child-next-in-Above.ensures c.in-Above.ensures.value

pub returns-clause-place : goal.returns-clause-place
returns-clause-place g c =
    let m = c.args.versions.now in
    let version = c.args.version in
    search-area c.args.views.now c.args.p m version (get_or m.sealed_lists version []) c.args.steps.now c.down.steps c.down.next c.down.floor c.down.invariant c.in_default.is c.requires.alive c.requires.planar c.requires.cornerless

pub returns-clause-few : goal.returns-clause-few
returns-clause-few g c =
    let m = c.args.versions.now in
    let version = c.args.version in
    search-few c.args.views.now c.args.p m version (get_or m.sealed_lists version []) c.args.steps.now c.down.steps c.down.next c.down.floor c.down.invariant
