use Rattle.std.proofs.Common.{◌≡◌, ℕ, ◌<◌, ◌≤◌, [], length, get_or, sym, ◌∙◌, ap, subst, Result, Ok, Err}
use Rattle.std.specs.Prelude.{All, IfOk, IfErr, IsTrue, not}
use Rattle.std.proofs.{lemmas.Bool.not_from_false, lemmas.List.length-map, lemmas.Result.IfOk-weaker}
use Rattle.loc_spec_plane.specs.{Points.Point, Points.touch, Covers.feature_count, Rings.touches, Rings.covers}
use Rattle.loc_spec_plane.specs.Tables.{IsTable, AllEnds, AllEven, cut_at, edge, layer_corners, noded_table_of, piece_count, touches_by_marks, covers_by_marks}
use Rattle.loc_laws_repeats.specs.Repeats.{IsFirstTwice}
use Rattle.loc_laws_noding.proofs.Noded.{cutting_noded, never_touch}
use Rattle.loc_laws_noding.proofs.Tables as laws
use Rattle.loc_rings.specs.Values.{IsRing, rings_of}
use Rattle.loc_edges.specs.Layers.{layer_rings}
use Rattle.loc_edges.proofs.Even.{closed_even}
use Rattle.loc_node.specs.Pieces.{IsRefused, layer_pieces}
use Rattle.loc_spec_text.specs.Limits.{most_pieces}
use Rattle.loc_node.proofs.noding.node_and_repeat.Goals as goal
use Rattle.loc_node.proofs.noding.node_and_repeat.Goals.{After-noded_table}

-- what is made is the noded table
is_noded : (c : After-noded_table) → IfOk c.noded_table.result (λ made. made.0 ≡ noded_table_of (layer_rings c.args.layer.now))
is_noded c = IfOk-weaker c.noded_table.result _ (λ made. made.0 ≡ noded_table_of (layer_rings c.args.layer.now)) (λ made is. is ∙ ap (λ features. noded_table_of (layer_rings features)) c.features.ensures.value) c.noded_table.ensures.ok

pub returns-clause-ok : goal.returns-clause-ok
returns-clause-ok c = is_noded c

pub returns-clause-few : goal.returns-clause-few
returns-clause-few c = subst (λ features. IfOk c.noded_table.result (λ _. piece_count (layer_rings features) ≤ most_pieces)) c.features.ensures.value c.noded_table.ensures.few

pub returns-clause-repeat : goal.returns-clause-repeat
returns-clause-repeat c = subst (λ features. IfOk c.noded_table.result (λ made. IsFirstTwice (layer_pieces (layer_rings features)) made.1)) c.features.ensures.value c.noded_table.ensures.repeat

pub returns-clause-refused : goal.returns-clause-refused
returns-clause-refused c = subst (λ features. IfErr c.noded_table.result (IsRefused (piece_count (layer_rings features)))) c.features.ensures.value c.noded_table.ensures.refused

pub returns-clause-in_order : goal.returns-clause-in_order
returns-clause-in_order c = let layer = layer_rings c.args.layer.now in IfOk-weaker c.noded_table.result _ (λ made. IsTable made.0) (λ made is. subst IsTable (sym is) (laws.is_table (cut_at (layer_corners layer)) layer (cutting_noded layer))) (is_noded c)

pub returns-clause-all_ends : goal.returns-clause-all_ends
returns-clause-all_ends c = let layer = layer_rings c.args.layer.now in IfOk-weaker c.noded_table.result _ (λ made. AllEnds made.0) (λ made is. subst AllEnds (sym is) (laws.all_ends (cut_at (layer_corners layer)) layer (cutting_noded layer))) (is_noded c)

-- the rings of the layer are closed
closed : (c : After-noded_table) → IfOk c.noded_table.result (λ _. All (All IsRing) (layer_rings c.args.layer.now))
closed c = subst (λ features. IfOk c.noded_table.result (λ _. All (All IsRing) (layer_rings features))) c.features.ensures.value c.noded_table.ensures.closed

-- two facts of the value in an `Ok`
both : {A E : Type 0} {P Q S : A → Type 0} (r : Result A E) → ((a : A) → P a → Q a → S a) → IfOk r P → IfOk r Q → IfOk r S
both (Ok a) f p q = f a p q
both (Err e) f p q = tt

pub returns-clause-all_even : goal.returns-clause-all_even
returns-clause-all_even c = let layer = layer_rings c.args.layer.now in both c.noded_table.result (λ t is rings. subst AllEven (sym is) (laws.all_even (cut_at (layer_corners layer)) layer (cutting_noded layer) (closed_even layer rings))) (is_noded c) (closed c)

pub returns-clause-never_touch : goal.returns-clause-never_touch
returns-clause-never_touch c =
    let layer = layer_rings c.args.layer.now in
    IfOk-weaker c.noded_table.result _ (λ made. (a b : ℕ) → a < length made.0.ends → b < length made.0.ends → IsTrue (not (touch (edge made.0 a) (edge made.0 b))))
    (λ t is. subst (λ s. (a b : ℕ) → a < length s.ends → b < length s.ends → IsTrue (not (touch (edge s a) (edge s b)))) (sym is) (λ a b la lb. not_from_false _ (never_touch layer a b la lb))) (is_noded c)

pub returns-clause-features : goal.returns-clause-features
returns-clause-features c =
    let layer = layer_rings c.args.layer.now in
    let few = subst (λ n. feature_count (noded_table_of layer) ≤ n) (length-map c.args.layer.now rings_of) (laws.few_features (cut_at (layer_corners layer)) layer) in
    IfOk-weaker c.noded_table.result _ (λ made. feature_count made.0 ≤ length c.args.layer.now) (λ made is. subst (λ s. feature_count s ≤ length c.args.layer.now) (sym is) few) (is_noded c)

pub returns-clause-touching : goal.returns-clause-touching
returns-clause-touching c =
    let layer = layer_rings c.args.layer.now in
    IfOk-weaker c.noded_table.result _ (λ made. (f : ℕ) (p : Point) → touches_by_marks made.0 f p ≡ touches (get_or layer f []) p) (λ t is f p. ap (λ s. touches_by_marks s f p) is ∙ laws.touches_is (cut_at (layer_corners layer)) layer (cutting_noded layer) f p) (is_noded c)

pub returns-clause-covering : goal.returns-clause-covering
returns-clause-covering c =
    let layer = layer_rings c.args.layer.now in
    IfOk-weaker c.noded_table.result _ (λ made. (f : ℕ) (p : Point) → covers_by_marks made.0 f p ≡ covers (get_or layer f []) p) (λ t is f p. ap (λ s. covers_by_marks s f p) is ∙ laws.covers_is (cut_at (layer_corners layer)) layer (cutting_noded layer) f p) (is_noded c)
