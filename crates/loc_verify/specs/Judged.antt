-- What a judge says of an index. The words:
--   IsJudged         a fault is the first flaw of the index, and of two edges that conflict it says how they meet; want of memory says nothing
--   IsVersionFault   a fault is what is wrong with one version
--   kind_of, IsLeastOf, IsFaultOf  the kinds by their order, and the least flaw of a kind
use Rattle.std.specs.Prelude.{◌≡◌, ℕ, true}
use Rattle.loc_spec_plane.specs.{Tables.edge, Covers.list_before}
use Rattle.loc_geom.specs.Answers.{IsMeeting}
use Rattle.loc_spec_index.specs.Content.{Content, table_in}
use Rattle.loc_spec_index.specs.Flaws.{Flaw, HasFlaw, rank, IsDeepIn, IsFirst, IsMisread, lone, bare, uneven, conflicting, wrong_floor, wrong_cover, spare_cover, wrong_source, deep, wrong_list}
use Rattle.loc_verify.specs.declared.fault.VerifyFault.{VerifyFault}
use Rattle.loc_verify.specs.declared.fault.VerifyFault.TheVariants.{Lone, Bare, Uneven, Conflict, WrongFloor, WrongCover, SpareCover, WrongSource, Deep, WrongList, NoMemory}

-- the fault is the first flaw of the index, and of two edges that conflict it says how they meet; want of memory may come at any time
abbrev pub IsJudged : Content → VerifyFault → Type 0
IsJudged c (Lone n) = IsFirst c (lone n)
IsJudged c (Bare e) = IsFirst c (bare e)
IsJudged c (Uneven n f) = IsFirst c (uneven n f)
IsJudged c (Conflict a b meeting) = IsFirst c (conflicting a b) × IsMeeting (edge (table_in c) a) (edge (table_in c) b) meeting
IsJudged c (WrongFloor n) = IsFirst c (wrong_floor n)
IsJudged c (WrongCover e) = IsFirst c (wrong_cover e)
IsJudged c (SpareCover n) = IsFirst c (spare_cover n)
IsJudged c (WrongSource e) = IsFirst c (wrong_source e)
IsJudged c (Deep i) = IsFirst c (deep i)
IsJudged c (WrongList i p) = IsFirst c (wrong_list i p)
IsJudged c NoMemory = Unit {0}

-- the place of a kind in the order of judging
abbrev pub kind_of : Flaw → ℕ
kind_of (lone n) = 0
kind_of (bare e) = 1
kind_of (uneven n f) = 2
kind_of (conflicting a b) = 3
kind_of (wrong_floor n) = 4
kind_of (wrong_cover e) = 5
kind_of (spare_cover n) = 6
kind_of (wrong_source e) = 7
kind_of (deep i) = 8
kind_of (wrong_list i p) = 8

-- the flaw is there, it is of the kind, and none of the kind comes before it
pub record IsLeastOf (c : Content) (kind : ℕ) (flaw : Flaw) : Type 0 where
  pub is_of : kind_of flaw ≡ kind
  pub there : HasFlaw c flaw
  pub least : (other : Flaw) → HasFlaw c other → kind_of other ≡ kind → list_before (rank other) (rank flaw) ≡ true → ⊥

-- the fault is the least flaw of the kind; want of memory may come at any time
abbrev pub IsFaultOf : Content → ℕ → VerifyFault → Type 0
IsFaultOf c kind (Lone n) = IsLeastOf c kind (lone n)
IsFaultOf c kind (Bare e) = IsLeastOf c kind (bare e)
IsFaultOf c kind (Uneven n f) = IsLeastOf c kind (uneven n f)
IsFaultOf c kind (Conflict a b meeting) = IsLeastOf c kind (conflicting a b) × IsMeeting (edge (table_in c) a) (edge (table_in c) b) meeting
IsFaultOf c kind (WrongFloor n) = IsLeastOf c kind (wrong_floor n)
IsFaultOf c kind (WrongCover e) = IsLeastOf c kind (wrong_cover e)
IsFaultOf c kind (SpareCover n) = IsLeastOf c kind (spare_cover n)
IsFaultOf c kind (WrongSource e) = IsLeastOf c kind (wrong_source e)
IsFaultOf c kind (Deep i) = IsLeastOf c kind (deep i)
IsFaultOf c kind (WrongList i p) = IsLeastOf c kind (wrong_list i p)
IsFaultOf c kind NoMemory = Unit {0}

-- version i has a path that is too long, or it has none and is read otherwise than its list; want of memory may come at any time
abbrev pub IsVersionFault : Content → ℕ → VerifyFault → Type 0
IsVersionFault c i (Deep j) = (j ≡ i) × IsDeepIn c i
IsVersionFault c i (WrongList j p) = (j ≡ i) × IsMisread c i p
IsVersionFault c i NoMemory = Unit {0}
IsVersionFault c i _ = ⊥
