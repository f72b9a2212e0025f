-- The laws of groups.
use Rattle.std.proofs.Common.{get_or, ◌∙◌}
use Rattle.loc_spec_groups.specs.Groups.{is_kept, kept_edges}
use Rattle.loc_laws_dissolve.specs.Laws.{UpperByKept, KeptAreEven, KeptCover, GroupTableStands, GroupTableCovers, GroupUpper}
use Rattle.loc_laws_dissolve.proofs.Chosen.{chosen_is_table, chosen_ended, chosen_even, chosen_apart, chosen_covers, chosen_over, old_is}
use Rattle.loc_laws_dissolve.proofs.{Covering.kept_cover, Covering.off_edge, Evenness.kept_even, Upward.kept_under}

pub upper_law : UpperByKept
upper_law t ok ended even apart member e lt = kept_under t ok ended even apart member e lt

pub even_law : KeptAreEven
even_law t ok ended even apart member c lt = kept_even t ok ended even apart member c lt

pub cover_law : KeptCover
cover_law t ok ended even apart member p clear = kept_cover t ok ended even apart member p clear

pub table_law : GroupTableStands
table_law t ok ended even apart member = (chosen_is_table t ok (is_kept t member), chosen_ended t ok (is_kept t member), chosen_even t ok (is_kept t member) (kept_even t ok ended even apart member), chosen_apart t ok (is_kept t member) apart)

pub table_cover_law : GroupTableCovers
table_cover_law t ok ended even apart member p clear = chosen_covers t ok (is_kept t member) p (off_edge t p clear) ∙ kept_cover t ok ended even apart member p clear

pub group_upper_law : GroupUpper
group_upper_law t ok ended even apart member k lt = chosen_over t ok (is_kept t member) k lt ∙ kept_under t ok ended even apart member (get_or (kept_edges t member) k 0) (old_is t ok (is_kept t member) k lt).0
