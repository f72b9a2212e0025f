use Rattle.std.proofs.Common.{◌≡◌, ℕ, ◌+◌, ◌<◌, ◌++◌, ◌∷◌, List, [], length, get_or, Option, Some, None, sym, ◌∙◌, ap, subst, arith, BTreeMap, Bor}
use Rattle.std.specs.Prelude.{if◌then◌else◌}
use Rattle.std.specs.{BTreeMap.get_by, Cmp.Lexicographic.slice_cmp, Ordering.nat_cmp, Str.bytes_eq}
use Rattle.std.proofs.{lemmas.List.get_or-map, lemmas.List.length-map, lemmas.Map.Text.btree_map_updates_str}
use Rattle.loc_spec_text.specs.Bytes.{Text}
use Rattle.loc_dissolve.specs.Grouping.{ids_of}
use Rattle.loc_dissolve.proofs.Names.{AreNumbered, IsKnown, all_numbered, known_none, known_one}
use Rattle.loc_dissolve.proofs.ids.group_ids.Goals as goal
use Rattle.loc_dissolve.proofs.ids.group_ids.Goals.{in-Some, in-None, then-group-len+in_ok-push+in_ok-insert, else-group-len}

-- what a map says of an id
abbrev said : BTreeMap (Bor (List ℕ)) ℕ → Text → Option ℕ
said known q = get_by (λ k. slice_cmp nat_cmp q k.now) known

pub loop-n-preserved : goal.loop-n-preserved
loop-n-preserved c =
    let ids = ids_of c.args.features.now in
    let n = c.loop-n.n in
    let firsts = c.loop-n.firsts.items in
    let groups = c.loop-n.groups.items in
    let lt : c.loop-n.n < length (ids_of c.args.features.now) = omega (arith, c.loop-n-test.true, length-map c.args.features.now (λ f. f.id)) in
    let id_is : c.id.result.now ≡ get_or (ids_of c.args.features.now) c.loop-n.n [] = c.id.ensures.value ∙ (ap (λ f. f.id) c.index-features-n.is ∙ sym (get_or-map (λ f. f.id) c.args.features.now c.loop-n.n _ [] (omega (arith, c.loop-n-test.true)))) in
    elim c.match-get.branch [
      | in-Some w ↦
          (let found : said c.loop-n.known (get_or (ids_of c.args.features.now) c.loop-n.n []) ≡ Some c.match-get.group = ap (said c.loop-n.known) (sym id_is) ∙ (sym w.in-Some.ensures.value ∙ ap (λ g. Some g) (sym w.group-is)) in
          elim c.if-group-len.branch [
            | then-group-len+in_ok-push+in_ok-insert v ↦
                (let known : IsKnown (ids_of c.args.features.now) c.loop-n.firsts.items (get_or (ids_of c.args.features.now) c.loop-n.n []) (Some c.match-get.group) = subst (IsKnown ids firsts (get_or ids n [])) found (c.loop-n.invariant.are_known (get_or ids n [])) in
                absurd (omega (arith, known.0, v.if-group-len.true, c.len-in-loop-n.ensures, c.loop-n.firsts.ok)))
            | else-group-len v ↦ subst (λ (fs : List ℕ). AreNumbered ids fs c.push-in-loop-n.new.self.items (said c.if-group-len.known) (n + 1)) (sym (ap (λ l. l.items) v.firsts-is))
                (subst (λ (m : BTreeMap (Bor (List ℕ)) ℕ). AreNumbered ids firsts c.push-in-loop-n.new.self.items (said m) (n + 1)) (sym v.known-is)
                (known_one ids firsts groups (said c.loop-n.known) n lt c.loop-n.invariant c.match-get.group found c.push-in-loop-n.new.self.items c.in_ok-push-2.ensures.items))
          ])
      | in-None w ↦ elim c.if-group-len.branch [
        | then-group-len+in_ok-push+in_ok-insert v ↦
            (let none : said c.loop-n.known (get_or (ids_of c.args.features.now) c.loop-n.n []) ≡ None = ap (said c.loop-n.known) (sym id_is) ∙ sym w.in-None.ensures.value in
            let many : c.match-get.group ≡ length c.loop-n.firsts.items = omega (arith, w.group-is, w.len.ensures, c.loop-n.firsts.ok) in
            let key : v.id-then-group-len.result.now ≡ get_or (ids_of c.args.features.now) c.loop-n.n [] = v.id-then-group-len.ensures.value ∙ (sym c.id.ensures.value ∙ id_is) in
            known_none ids firsts groups (said c.loop-n.known) n lt c.loop-n.invariant none c.if-group-len.firsts.items c.push-in-loop-n.new.self.items (ap (λ l. l.items) v.firsts-is ∙ v.in_ok-push.ensures.items)
            (c.in_ok-push-2.ensures.items ∙ ap (λ g. c.loop-n.groups.items ++ g ∷ []) many) (said c.if-group-len.known)
            (λ p. ap (λ (m : BTreeMap (Bor (List ℕ)) ℕ). said m p) v.known-is ∙ (btree_map_updates_str v.id-then-group-len.result.now c.loop-n.known v.insert.new.self _ v.in_ok-insert.ensures.updates p
            ∙ (ap (λ b. if bytes_eq b p then Some c.match-get.group else said c.loop-n.known p) key ∙ ap (λ g. if bytes_eq (get_or ids n []) p then Some g else said c.loop-n.known p) many))))
        | else-group-len v ↦ absurd (v.if-group-len.false (w.group-is ∙ (w.len.ensures ∙ sym c.len-in-loop-n.ensures)))
      ]
    ]

pub returns : goal.returns
returns c = all_numbered (ids_of c.args.features.now) c.loop-n.firsts.items c.loop-n.groups.items _ c.loop-n.n (omega (arith, c.loop-n-test.false, c.loop-n.auto.n-end, length-map c.args.features.now (λ f. f.id))) c.loop-n.invariant
