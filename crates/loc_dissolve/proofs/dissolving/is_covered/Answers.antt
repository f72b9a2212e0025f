use Rattle.std.proofs.Common.{◌∙◌, ap, sym}
use Rattle.std.specs.Prelude.{nat_lt}
use Rattle.loc_dissolve.proofs.Crossed.{row_is, upper_is}
use Rattle.loc_dissolve.proofs.dissolving.is_covered.Goals as goal

pub occurrences-requires : goal.occurrences-requires
occurrences-requires c = record {
  in_order = (row_is c.args.table.now c.args.groups.now c.args.legend.now c.args.members.now c.requires.is_true c.requires.members c.args.edge c.cover_of.result c.requires.in_range c.cover_of.ensures.value c.cover_of.ensures.in_range c.row.result.now c.row.ensures).in_order;
}

pub returns : goal.returns
returns c = ap (nat_lt 0) (c.occurrences.ensures
    ∙ (row_is c.args.table.now c.args.groups.now c.args.legend.now c.args.members.now c.requires.is_true c.requires.members c.args.edge c.cover_of.result c.requires.in_range c.cover_of.ensures.value c.cover_of.ensures.in_range c.row.result.now c.row.ensures).counted c.args.group)
    ∙ sym (upper_is c.args.table.now c.law.ensures.in_order c.args.edge c.args.groups.now c.requires.features c.args.group)
