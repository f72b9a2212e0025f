use Rattle.std.proofs.Common.{◌≡◌, ℕ, ◌+◌, List, [], ◌∷◌, ◌++◌, refl, arith, codes}
use Rattle.loc_spec_text.specs.Limits.{most_features, most_points}
use Rattle.loc_spec_index.specs.IndexFile.{Field, magic, version, most_edges}
use Rattle.loc_file.specs.{declared.header.Header.Header, Told.header_row}
use Rattle.loc_file.specs.Readings.{Left, IsRead, stop, two, three}
use Rattle.loc_laws_index.proofs.RightFields.{all-hold}
use Rattle.loc_file.proofs.Steps.{handed, stop-within, stop-along, row-along, read-append, read-next, fault-behind, fault-first, fault-next}
use Rattle.loc_file.proofs.header.read_header.Goals as goal

-- a header of a version, with these numbers
abbrev header : (v : ℕ) → ℕ × ℕ × ℕ → ℕ × ℕ → (covers nodes : ℕ) → Header
header v ns ms covers nodes = record { version = v; scale = ns.0; features = ns.1; corners = ns.2; edges = ms.0; marks = ms.1; covers = covers; nodes = nodes }

-- the fields in front of the numbers, and those in front of the number of cover lists
abbrev start : ℕ → List Field
start v = magic (codes "LOCINDEX") ∷ version v ∷ []

abbrev firsts : ℕ × ℕ × ℕ → List Field
firsts ns = three 16 (most_features + 1) (most_points + 1) ns

abbrev counts : ℕ → ℕ × ℕ → List Field
counts v ms = two (most_edges v + 1) (most_edges v + 1) ms

-- the fields that were read in front of the counts, and those with them
begun : (v : ℕ) (ns : ℕ × ℕ × ℕ) {a b c d : Left} → IsRead (magic (codes "LOCINDEX") ∷ []) a b → IsRead (version v ∷ []) b c → IsRead (firsts ns) c d → IsRead (start v ++ firsts ns) a d
begun v ns letters known read = read-append (start v) (firsts ns) (read-next _ _ letters known) read

with_counts : (v most : ℕ) (ns : ℕ × ℕ × ℕ) (ms : ℕ × ℕ) {a d e : Left} → most ≡ most_edges v → IsRead (start v ++ firsts ns) a d → IsRead (two (most + 1) (most + 1) ms) d e → IsRead ((start v ++ firsts ns) ++ counts v ms) a e
with_counts v most ns ms is read counted = read-append (start v ++ firsts ns) (counts v ms) read (row-along (λ n. two (n + 1) (n + 1) ms) is counted)

pub returns-in_err-read_magic-clause-err : goal.returns-in_err-read_magic-clause-err
returns-in_err-read_magic-clause-err c = handed c.from_residual.result _ _ c.from_residual.ensures.1 (stop (header 1 (0, 0, 0) (0, 0) 0 0) _ tt (fault-first _ _ c.in_err-read_magic.ensures.err))

pub returns-in_err-version-clause-err : goal.returns-in_err-version-clause-err
returns-in_err-version-clause-err c = handed c.from_residual-in_err-version.result _ _ c.from_residual-in_err-version.ensures.1 (stop (header 1 (0, 0, 0) (0, 0) 0 0) _ tt (fault-next _ _ c.in_ok-read_magic.ensures.ok (fault-first _ _ (c.in_err-version.ensures.err 1))))

pub returns-in_err-scale-clause-err : goal.returns-in_err-scale-clause-err
returns-in_err-scale-clause-err c =
    let v = c.in_ok-version.version in
    handed c.from_residual-in_err-scale.result _ _ c.from_residual-in_err-scale.ensures.1
    (stop-within header_row (three 16 (most_features + 1) (most_points + 1)) (start v) (λ ns. header v ns (0, 0) 0 0) _ (λ ns. refl) (read-next _ _ c.in_ok-read_magic.ensures.ok c.in_ok-version.ensures.ok) c.in_err-scale.ensures.err)

pub returns-in_err-edges-clause-err : goal.returns-in_err-edges-clause-err
returns-in_err-edges-clause-err c =
    let v = c.in_ok-version.version in
    let ns : ℕ × ℕ × ℕ = (c.in_ok-scale.scale, c.in_ok-scale.features, c.in_ok-scale.corners) in
    handed c.from_residual-in_err-edges.result _ _ c.from_residual-in_err-edges.ensures.1
    (stop-within header_row (two (most_edges v + 1) (most_edges v + 1)) (start v ++ firsts ns) (λ ms. header v ns ms 0 0) _ (λ ms. refl)
    (begun v ns c.in_ok-read_magic.ensures.ok c.in_ok-version.ensures.ok c.in_ok-scale.ensures.ok)
    (stop-along (λ n. two (n + 1) (n + 1)) c.most_rows-most.ensures.value c.in_err-edges.ensures.err))

pub overflow_add-edges : goal.overflow_add-edges
overflow_add-edges c = let few = (all-hold (two (c.most_rows-most.result + 1) (c.most_rows-most.result + 1) (c.in_ok-edges.edges, c.in_ok-edges.marks)) c.in_ok-edges.ensures.ok.right).0 in let most = c.most_rows-most.ensures.within in record { fits = omega (arith, few, most) }

pub overflow_mul-edges : goal.overflow_mul-edges
overflow_mul-edges c = let few = (all-hold (two (c.most_rows-most.result + 1) (c.most_rows-most.result + 1) (c.in_ok-edges.edges, c.in_ok-edges.marks)) c.in_ok-edges.ensures.ok.right).0 in let most = c.most_rows-most.ensures.within in record { fits = omega (arith, few, most) }

pub overflow_add-edges-2 : goal.overflow_add-edges-2
overflow_add-edges-2 c = let few = (all-hold (two (c.most_rows-most.result + 1) (c.most_rows-most.result + 1) (c.in_ok-edges.edges, c.in_ok-edges.marks)) c.in_ok-edges.ensures.ok.right).0 in let most = c.most_rows-most.ensures.within in record { fits = omega (arith, few, most) }

pub returns-in_err-covers-clause-err : goal.returns-in_err-covers-clause-err
returns-in_err-covers-clause-err c =
    let v = c.in_ok-version.version in
    let ns : ℕ × ℕ × ℕ = (c.in_ok-scale.scale, c.in_ok-scale.features, c.in_ok-scale.corners) in
    let ms : ℕ × ℕ = (c.in_ok-edges.edges, c.in_ok-edges.marks) in
    handed c.from_residual-in_err-covers.result _ _ c.from_residual-in_err-covers.ensures.1
    (stop (header v ns ms 0 0) _ tt (fault-behind ((start v ++ firsts ns) ++ counts v ms) _
    (with_counts v _ ns ms c.most_rows-most.ensures.value (begun v ns c.in_ok-read_magic.ensures.ok c.in_ok-version.ensures.ok c.in_ok-scale.ensures.ok) c.in_ok-edges.ensures.ok)
    (fault-first _ _ (c.in_err-covers.ensures.err 0))))

pub returns-in_err-nodes-clause-err : goal.returns-in_err-nodes-clause-err
returns-in_err-nodes-clause-err c =
    let v = c.in_ok-version.version in
    let ns : ℕ × ℕ × ℕ = (c.in_ok-scale.scale, c.in_ok-scale.features, c.in_ok-scale.corners) in
    let ms : ℕ × ℕ = (c.in_ok-edges.edges, c.in_ok-edges.marks) in
    handed c.from_residual-in_err-nodes.result _ _ c.from_residual-in_err-nodes.ensures.1
    (stop (header v ns ms c.in_ok-covers.covers 0) _ tt (fault-behind ((start v ++ firsts ns) ++ counts v ms) _
    (with_counts v _ ns ms c.most_rows-most.ensures.value (begun v ns c.in_ok-read_magic.ensures.ok c.in_ok-version.ensures.ok c.in_ok-scale.ensures.ok) c.in_ok-edges.ensures.ok)
    (fault-next _ _ c.in_ok-covers.ensures.ok (fault-first _ _ (c.in_err-nodes.ensures.err 0)))))

pub returns-clause-ok : goal.returns-clause-ok
returns-clause-ok c =
    let v = c.in_ok-version.version in
    let ns : ℕ × ℕ × ℕ = (c.in_ok-scale.scale, c.in_ok-scale.features, c.in_ok-scale.corners) in
    let ms : ℕ × ℕ = (c.in_ok-edges.edges, c.in_ok-edges.marks) in
    read-append ((start v ++ firsts ns) ++ counts v ms) _
    (with_counts v _ ns ms c.most_rows-most.ensures.value (begun v ns c.in_ok-read_magic.ensures.ok c.in_ok-version.ensures.ok c.in_ok-scale.ensures.ok) c.in_ok-edges.ensures.ok)
    (read-next _ _ c.in_ok-covers.ensures.ok c.in_ok-nodes.ensures.ok)
