-- What is written where words are no command. The word: `usage_text`.
use Rattle.std.specs.Prelude.{List, ℕ, [], ◌∷◌, ◌++◌, codes}

-- the usage text, a line for each command
abbrev pub usage_text : List ℕ
usage_text = codes "usage: locate query LAYER POINTS --scale K [--form lines|csv] [--index scan|tree|trap] [--order FILE | --shuffle N] [--faces]" ++ 10 ∷ []
    ++ codes "       locate features LAYER POINTS --scale K [--form lines|csv]" ++ 10 ∷ []
    ++ codes "       locate check LAYER --scale K [--form lines|csv]" ++ 10 ∷ []
    ++ codes "       locate build LAYER INDEX --scale K [--form lines|csv]" ++ 10 ∷ []
    ++ codes "       locate ask INDEX POINTS" ++ 10 ∷ []
    ++ codes "       locate verify INDEX" ++ 10 ∷ []
    ++ codes "       locate face LAYER POINT --scale K [--form lines|csv]" ++ 10 ∷ []
    ++ codes "       locate gen KIND N SHIFT" ++ 10 ∷ []
    ++ codes "       locate trial KIND N SHIFT [--index scan|tree|trap]" ++ 10 ∷ []
    ++ codes "       locate upgrade OLD NEW" ++ 10 ∷ []
    ++ codes "       locate edges INDEX" ++ 10 ∷ []
    ++ codes "       locate stab LAYER SPANS --scale K [--form lines|csv]" ++ 10 ∷ []
    ++ codes "       locate valid LAYER --scale K [--form lines|csv]" ++ 10 ∷ []
    ++ codes "       locate dissolve LAYER --scale K [--form lines|csv]" ++ 10 ∷ []
