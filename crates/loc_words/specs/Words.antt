-- The command that a list of words is: the rows of the commands, what each makes of the words that are given for its row, and
-- `command_of` for the whole list.
use Rattle.std.specs.Prelude.{ℕ, ◌≤◌, ◌^◌, ◌&&◌, Bool, List, [], ◌∷◌, ◌++◌, length, codes, map, nat_lt, nat_le, if◌then◌else◌, Option, Some, None, option_map, option_and_then, find, ⊤}
use Rattle.std.specs.{Char.is_ascii_digit, List.list_all, Str.bytes_eq, Str.Parse.digits_value}
use Rattle.loc_spec_text.specs.{Bytes.Text, declared.Form.Form}
use Rattle.loc_spec_asked.specs.declared.Index.{Index}
use Rattle.loc_spec_asked.specs.declared.Index.TheVariants.{Scan, Tree, Trap}
use Rattle.loc_spec_asked.specs.Orders.{AskedOrder, asked_order, in_file, shuffled_from}
use Rattle.loc_spec_text.specs.declared.Form.TheVariants.{Lines, Csv}
use Rattle.loc_gen.specs.declared.kinds.Kind.{Kind}
use Rattle.loc_gen.specs.declared.kinds.Kind.TheVariants.{Grid, Nest, Strips}
use Rattle.loc_words.specs.Rows.{CommandRow, OptionRow, Entry, given_of, stands, value_in}
use Rattle.loc_words.specs.declared.row.OptionKind.TheVariants.{Required, Optional, Flag}
use Rattle.loc_words.specs.declared.row.CommandRow.{CommandRow as Row}
use Rattle.loc_words.specs.declared.row.OptionRow.{OptionRow as Declared}
use Rattle.loc_words.specs.{declared.command.Command.Command, declared.command.LayerFile.LayerFile}
use Rattle.loc_words.specs.declared.command.Command.TheVariants.{Query, Features, Check, Build, Ask, Verify, Face, Gen, Trial, Upgrade, Edges, Stab, Valid, Dissolve}

-- what a command says of its layer's file
pub record AskedLayer : Type 0 where
  pub name : Text
  pub scale : ℕ
  pub form : Form

-- what a query says
pub record AskedQuery : Type 0 where
  pub layer : AskedLayer
  pub points : Text
  pub index : Index
  pub order : AskedOrder
  pub faces : Bool

-- what a question for the features at points says
pub record AskedFeatures : Type 0 where
  pub layer : AskedLayer
  pub points : Text

-- of which layer an index file is made
pub record AskedBuild : Type 0 where
  pub layer : AskedLayer
  pub index : Text

-- what is asked, and of which index
pub record AskedAsk : Type 0 where
  pub index : Text
  pub points : Text

-- which index file is judged
pub record AskedVerify : Type 0 where
  pub index : Text

-- what a question for a face says
pub record AskedFace : Type 0 where
  pub layer : AskedLayer
  pub point : Text

-- what is said of a layer to be generated: its kind, its size and its shift
pub record AskedGen : Type 0 where
  pub kind : Kind
  pub n : ℕ
  pub shift : ℕ

-- what a trial says
pub record AskedTrial : Type 0 where
  pub kind : Kind
  pub n : ℕ
  pub shift : ℕ
  pub index : Index

-- which index file is upgraded, and the name of the new one
pub record AskedUpgrade : Type 0 where
  pub old : Text
  pub new : Text

-- which index file's edges are listed
pub record AskedEdges : Type 0 where
  pub index : Text

-- what a question for the edges on spans says
pub record AskedStab : Type 0 where
  pub layer : AskedLayer
  pub spans : Text

-- a command with its values
pub data Asked : Type 0 where
  query : AskedQuery → Asked
  features : AskedFeatures → Asked
  check : AskedLayer → Asked
  build : AskedBuild → Asked
  ask : AskedAsk → Asked
  verify : AskedVerify → Asked
  face : AskedFace → Asked
  gen : AskedGen → Asked
  trial : AskedTrial → Asked
  upgrade : AskedUpgrade → Asked
  edges : AskedEdges → Asked
  stab : AskedStab → Asked
  valid : AskedLayer → Asked
  dissolve : AskedLayer → Asked

-- what a layer's file is
abbrev pub layer_by : LayerFile → AskedLayer
layer_by file = record { name = file.name.now; scale = file.scale; form = file.form }

-- what a command says
abbrev pub asked_by : Command → Asked
asked_by (Query q) = query (record { layer = layer_by q.layer; points = q.points.now; index = q.index; order = asked_order q.order; faces = q.faces })
asked_by (Features f) = features (record { layer = layer_by f.layer; points = f.points.now })
asked_by (Check layer) = check (layer_by layer)
asked_by (Build b) = build (record { layer = layer_by b.layer; index = b.index.now })
asked_by (Ask a) = ask (record { index = a.index.now; points = a.points.now })
asked_by (Verify v) = verify (record { index = v.index.now })
asked_by (Face f) = face (record { layer = layer_by f.layer; point = f.point.now })
asked_by (Gen g) = gen (record { kind = g.kind; n = g.n; shift = g.shift })
asked_by (Trial t) = trial (record { kind = t.kind; n = t.n; shift = t.shift; index = t.index })
asked_by (Upgrade u) = upgrade (record { old = u.old.now; new = u.new.now })
asked_by (Edges e) = edges (record { index = e.index.now })
asked_by (Stab s) = stab (record { layer = layer_by s.layer; spans = s.spans.now })
asked_by (Valid layer) = valid (layer_by layer)
asked_by (Dissolve layer) = dissolve (layer_by layer)

-- the scale of a command that has one is one that coordinates can have
abbrev pub HasScale : Command → Type 0
HasScale (Query q) = q.layer.scale ≤ 15
HasScale (Features f) = f.layer.scale ≤ 15
HasScale (Check layer) = layer.scale ≤ 15
HasScale (Build b) = b.layer.scale ≤ 15
HasScale (Face f) = f.layer.scale ≤ 15
HasScale (Stab s) = s.layer.scale ≤ 15
HasScale (Valid layer) = layer.scale ≤ 15
HasScale (Dissolve layer) = layer.scale ≤ 15
HasScale other = ⊤

-- an option as the program has it
abbrev pub option_of : Declared → OptionRow
option_of o = record { name = o.name.now; kind = o.kind }

-- a row as the program has it
abbrev pub row_of : Row → CommandRow
row_of r = record { name = r.name.now; places = map (λ place. place.now) r.places.now; options = map option_of r.options.now }

-- a number: 1 to 20 ASCII digits with a value below 2 ^ 64
abbrev pub number_word : Text → Option ℕ
number_word word = if nat_lt 0 (length word) && nat_le (length word) 20 && list_all is_ascii_digit word && nat_lt (digits_value 10 word) (2 ^ 64)
    then Some (digits_value 10 word) else None

-- a scale: a number of at most 15
abbrev pub scale_word : Text → Option ℕ
scale_word word = option_and_then (λ number. if nat_le number 15 then Some number else None) (number_word word)

-- a form by its name
abbrev pub form_word : Text → Option Form
form_word word = if bytes_eq word (codes "lines") then Some Lines else if bytes_eq word (codes "csv") then Some Csv else None

-- the form by its word, lines where it is left out
abbrev pub form_or_lines : Option Text → Option Form
form_or_lines None = Some Lines
form_or_lines (Some word) = form_word word

-- the scale, which is required, and the form, of their words
abbrev pub scale_and_form : Option Text → Option Text → Option (ℕ × Form)
scale_and_form scale form = option_and_then (λ number. option_map (λ kind. (number, kind)) (form_or_lines form)) (option_and_then scale_word scale)

-- an index by its name
abbrev pub index_word : Text → Option Index
index_word word = if bytes_eq word (codes "scan") then Some Scan else if bytes_eq word (codes "tree") then Some Tree else if bytes_eq word (codes "trap") then Some Trap else None

-- the index by its word, tree where it is left out
abbrev pub index_or_tree : Option Text → Option Index
index_or_tree None = Some Tree
index_or_tree (Some word) = index_word word

-- the order of the edges, by its words: they stand only beside trap, and not together; it is shuffled from 1 where it is left out
abbrev pub order_by_words : Index → Option Text → Option Text → Option AskedOrder
order_by_words index None None = Some (shuffled_from 1)
order_by_words Trap (Some name) None = Some (in_file name)
order_by_words Trap None (Some number) = option_map shuffled_from (number_word number)
order_by_words index order shuffle = None

-- a kind of generated layer by its name
abbrev pub kind_word : Text → Option Kind
kind_word word = if bytes_eq word (codes "grid") then Some Grid else if bytes_eq word (codes "nest") then Some Nest else if bytes_eq word (codes "strips") then Some Strips else None

-- the options of a command on a layer
abbrev pub layer_options : List OptionRow
layer_options = record { name = codes "scale"; kind = Required } ∷ record { name = codes "form"; kind = Optional } ∷ []

-- the options of a query
abbrev pub query_options : List OptionRow
query_options = layer_options ++ record { name = codes "index"; kind = Optional } ∷ record { name = codes "order"; kind = Optional } ∷ record { name = codes "shuffle"; kind = Optional } ∷ record { name = codes "faces"; kind = Flag } ∷ []

-- query LAYER POINTS
abbrev pub query_row : CommandRow
query_row = record { name = codes "query"; places = codes "layer" ∷ codes "points" ∷ []; options = query_options }

-- features LAYER POINTS
abbrev pub features_row : CommandRow
features_row = record { name = codes "features"; places = codes "layer" ∷ codes "points" ∷ []; options = layer_options }

-- check LAYER
abbrev pub check_row : CommandRow
check_row = record { name = codes "check"; places = codes "layer" ∷ []; options = layer_options }

-- build LAYER INDEX
abbrev pub build_row : CommandRow
build_row = record { name = codes "build"; places = codes "layer" ∷ codes "index" ∷ []; options = layer_options }

-- ask INDEX POINTS
abbrev pub ask_row : CommandRow
ask_row = record { name = codes "ask"; places = codes "index" ∷ codes "points" ∷ []; options = [] }

-- verify INDEX
abbrev pub verify_row : CommandRow
verify_row = record { name = codes "verify"; places = codes "index" ∷ []; options = [] }

-- face LAYER POINT
abbrev pub face_row : CommandRow
face_row = record { name = codes "face"; places = codes "layer" ∷ codes "point" ∷ []; options = layer_options }

-- gen KIND N SHIFT
abbrev pub gen_row : CommandRow
gen_row = record { name = codes "gen"; places = codes "kind" ∷ codes "n" ∷ codes "shift" ∷ []; options = [] }

-- trial KIND N SHIFT
abbrev pub trial_row : CommandRow
trial_row = record gen_row { name = codes "trial"; options = record { name = codes "index"; kind = Optional } ∷ [] }

-- upgrade OLD NEW
abbrev pub upgrade_row : CommandRow
upgrade_row = record { name = codes "upgrade"; places = codes "old" ∷ codes "new" ∷ []; options = [] }

-- edges INDEX
abbrev pub edges_row : CommandRow
edges_row = record { name = codes "edges"; places = codes "index" ∷ []; options = [] }

-- stab LAYER SPANS
abbrev pub stab_row : CommandRow
stab_row = record { name = codes "stab"; places = codes "layer" ∷ codes "spans" ∷ []; options = layer_options }

-- valid LAYER
abbrev pub valid_row : CommandRow
valid_row = record { name = codes "valid"; places = codes "layer" ∷ []; options = layer_options }

-- dissolve LAYER
abbrev pub dissolve_row : CommandRow
dissolve_row = record { name = codes "dissolve"; places = codes "layer" ∷ []; options = layer_options }

-- the layer's file, of what was given
abbrev pub layer_given : List Entry → Option AskedLayer
layer_given given = option_and_then (λ name. option_map (λ values. record { name = name; scale = values.0; form = values.1 }) (scale_and_form (value_in given (codes "scale")) (value_in given (codes "form"))))
    (value_in given (codes "layer"))

-- the kind, the size and the shift of a generated layer, of what was given
abbrev pub generated_given : List Entry → Option (Kind × ℕ × ℕ)
generated_given given = option_and_then (λ kind. option_and_then (λ n. option_map (λ shift. (kind, n, shift)) (option_and_then number_word (value_in given (codes "shift"))))
    (option_and_then number_word (value_in given (codes "n")))) (option_and_then kind_word (value_in given (codes "kind")))

-- the index of what was given
abbrev pub index_given : List Entry → Option Index
index_given given = index_or_tree (value_in given (codes "index"))

-- the index and the order of the edges, of what was given
abbrev pub order_given : List Entry → Option (Index × AskedOrder)
order_given given = option_and_then (λ index. option_map (λ order. (index, order)) (order_by_words index (value_in given (codes "order")) (value_in given (codes "shuffle")))) (index_given given)

-- the query of what was given
abbrev pub query_from : List Entry → Option Asked
query_from given = option_and_then (λ layer. option_and_then (λ points. option_map (λ by. query (record { layer = layer; points = points; index = by.0; order = by.1; faces = stands given (codes "faces") }))
    (order_given given)) (value_in given (codes "points"))) (layer_given given)

-- the question for the features at points of what was given
abbrev pub features_from : List Entry → Option Asked
features_from given = option_and_then (λ layer. option_map (λ points. features (record { layer = layer; points = points })) (value_in given (codes "points"))) (layer_given given)

-- the check of what was given
abbrev pub check_from : List Entry → Option Asked
check_from given = option_map check (layer_given given)

-- the layer and the index file of what was given
abbrev pub build_from : List Entry → Option Asked
build_from given = option_and_then (λ layer. option_map (λ index. build (record { layer = layer; index = index })) (value_in given (codes "index"))) (layer_given given)

-- the index and the points of what was given
abbrev pub ask_from : List Entry → Option Asked
ask_from given = option_and_then (λ index. option_map (λ points. ask (record { index = index; points = points })) (value_in given (codes "points"))) (value_in given (codes "index"))

-- the index file to be judged, of what was given
abbrev pub verify_from : List Entry → Option Asked
verify_from given = option_map (λ index. verify (record { index = index })) (value_in given (codes "index"))

-- the question for a face of what was given
abbrev pub face_from : List Entry → Option Asked
face_from given = option_and_then (λ layer. option_map (λ point. face (record { layer = layer; point = point })) (value_in given (codes "point"))) (layer_given given)

-- the generated layer of what was given
abbrev pub gen_from : List Entry → Option Asked
gen_from given = option_map (λ of. gen (record { kind = of.0; n = of.1; shift = of.2 })) (generated_given given)

-- the trial of what was given
abbrev pub trial_from : List Entry → Option Asked
trial_from given = option_and_then (λ of. option_map (λ index. trial (record { kind = of.0; n = of.1; shift = of.2; index = index })) (index_given given)) (generated_given given)

-- the index file to be upgraded and the new one, of what was given
abbrev pub upgrade_from : List Entry → Option Asked
upgrade_from given = option_and_then (λ old. option_map (λ new. upgrade (record { old = old; new = new })) (value_in given (codes "new"))) (value_in given (codes "old"))

-- the index file whose edges are listed, of what was given
abbrev pub edges_from : List Entry → Option Asked
edges_from given = option_map (λ index. edges (record { index = index })) (value_in given (codes "index"))

-- the question for the edges on spans of what was given
abbrev pub stab_from : List Entry → Option Asked
stab_from given = option_and_then (λ layer. option_map (λ spans. stab (record { layer = layer; spans = spans })) (value_in given (codes "spans"))) (layer_given given)

-- the layer whose features are to be judged, of what was given
abbrev pub valid_from : List Entry → Option Asked
valid_from given = option_map valid (layer_given given)

-- the layer to be dissolved, of what was given
abbrev pub dissolve_from : List Entry → Option Asked
dissolve_from given = option_map dissolve (layer_given given)

-- a command: its row, and what is made of what is given for the row
abbrev pub Making : Type 0
Making = CommandRow × (List Entry → Option Asked)

-- all commands
abbrev pub commands : List Making
commands = (query_row, query_from) ∷ (features_row, features_from) ∷ (check_row, check_from) ∷ (build_row, build_from) ∷ (ask_row, ask_from) ∷ (verify_row, verify_from) ∷ (face_row, face_from) ∷ (gen_row, gen_from) ∷ (trial_row, trial_from) ∷ (upgrade_row, upgrade_from) ∷ (edges_row, edges_from) ∷ (stab_row, stab_from) ∷ (valid_row, valid_from) ∷ (dissolve_row, dissolve_from) ∷ []

-- the row of the command of this name
abbrev pub row_in : List Making → Text → Option CommandRow
row_in all name = find (λ row. bytes_eq name row.name) (map (λ by. by.0) all)

-- what the command of this name makes of what is given
abbrev pub made_in : List Making → Text → List Entry → Option Asked
made_in [] name given = None
made_in (by ∷ all) name given = if bytes_eq name by.0.name then by.1 given else made_in all name given

-- the command of this name that the words behind it are, if they are one
abbrev pub named_in : List Making → Text → List Text → Option Asked
named_in [] name words = None
named_in (by ∷ all) name words = if bytes_eq name by.0.name then option_and_then by.1 (given_of by.0 words) else named_in all name words

-- the command that the words are, if they are one: the first word names it
unfoldable pub command_of : List Text → Option Asked
command_of [] = None
command_of (name ∷ words) = named_in commands name words
