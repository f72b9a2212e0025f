-- Number texts as they have been read. The words: `text_of`.
use Rattle.std.specs.Prelude.{ℕ, List}
use Rattle.loc_wkt.specs.declared.grid_numbers.NumberText.{NumberText}
use Rattle.loc_wkt.specs.declared.grid_numbers.NumberText.TheVariants.{Short, Long}

-- the text of a number that has been read
abbrev pub text_of : NumberText → List ℕ
text_of (Short number) = number.text.now
text_of (Long number) = number.text.now
