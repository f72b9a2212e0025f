use Rattle.std.proofs.Common.{ℕ, [], sym, subst, refl}
use Rattle.std.specs.Prelude.{Option}
use Rattle.loc_spec_index.specs.{declared.IndexFault.IndexFault, declared.Part.TheVariants.Edges}
use Rattle.loc_spec_index.specs.IndexFile.{order, source_fields}
use Rattle.loc_file.specs.{declared.edges.EdgeOf.EdgeOf, Told.told_row, Told.told_source}
use Rattle.loc_file.specs.Readings.{Left, IsFaultIn, IsRead, IsRowStop, stop, no_memory, three}
use Rattle.loc_file.proofs.ToldEdges.{told-source}
use Rattle.loc_file.proofs.Steps.{handed, stop-within, read-along, read-none, read-append, wrong-along, fault-behind, fault-first, fault-front}
use Rattle.loc_file.proofs.edges.next_edge.Goals as goal

-- a source that is wrong, in front of what comes behind it
source-stop : (v corners : ℕ) {a : Left} {f : IndexFault} (ends : ℕ × ℕ) (covers cover row : ℕ) (last : Option EdgeOf) {start : Left} → IsRead (three corners corners covers (ends.0, ends.1, cover)) start a → IsRowStop (source_fields v corners) a f → IsRowStop (told_row v corners covers row last) start f
source-stop v corners {a} ends covers cover row last read (stop source f u w) =
    let e : EdgeOf = record { ends = ends; cover = cover; source = source } in
    stop e f tt (fault-behind (three corners corners covers (ends.0, ends.1, cover)) _ read (fault-front (source_fields v corners (told_source v e)) _ (subst (λ fs. IsFaultIn fs a f) (sym (told-source v corners e)) w)))
source-stop v corners ends covers cover row last read no_memory = no_memory

-- a source that was read, as the one that is told
told-read : (v corners : ℕ) (e : EdgeOf) {a b : Left} → IsRead (source_fields v corners e.source) a b → IsRead (source_fields v corners (told_source v e)) a b
told-read v corners e {a} {b} read = subst (λ fs. IsRead fs a b) (sym (told-source v corners e)) read

pub returns-in_err-lower-clause-err : goal.returns-in_err-lower-clause-err
returns-in_err-lower-clause-err c =
    handed c.from_residual.result _ _ c.from_residual.ensures.1
    (stop-within (told_row c.args.version c.args.corners c.args.covers c.args.row c.args.last) (three c.args.corners c.args.corners c.args.covers) [] (λ ns. record { ends = (ns.0, ns.1); cover = ns.2; source = (0, 0) }) _ (λ ns. refl) (read-none _) c.in_err-lower.ensures.err)

pub returns-in_err-source-clause-err : goal.returns-in_err-source-clause-err
returns-in_err-source-clause-err c = handed c.from_residual-in_err-source.result _ _ c.from_residual-in_err-source.ensures.1 (source-stop c.args.version c.args.corners (c.in_ok-lower.lower, c.in_ok-lower.upper) c.args.covers c.in_ok-lower.cover c.args.row c.args.last c.in_ok-lower.ensures.ok c.in_err-source.ensures.err)

pub returns-in_err-in_order-clause-err : goal.returns-in_err-in_order-clause-err
returns-in_err-in_order-clause-err c =
    let e : EdgeOf = record { ends = (c.in_ok-lower.lower, c.in_ok-lower.upper); cover = c.in_ok-lower.cover; source = c.in_ok-source.source } in
    handed c.from_residual-in_err-in_order.result _ _ c.from_residual-in_err-in_order.ensures.1
    (stop e _ tt (fault-behind (three c.args.corners c.args.corners c.args.covers (c.in_ok-lower.lower, c.in_ok-lower.upper, c.in_ok-lower.cover)) _ c.in_ok-lower.ensures.ok
    (fault-behind (source_fields c.args.version c.args.corners (told_source c.args.version e)) _ (told-read _ _ e c.in_ok-source.ensures.ok) (fault-first _ _ (wrong-along (order Edges c.args.row) c.is_in_order.ensures c.in_err-in_order.ensures.err)))))

pub returns-clause-ok : goal.returns-clause-ok
returns-clause-ok c =
    let e : EdgeOf = record { ends = (c.in_ok-lower.lower, c.in_ok-lower.upper); cover = c.in_ok-lower.cover; source = c.in_ok-source.source } in
    read-append (three c.args.corners c.args.corners c.args.covers (c.in_ok-lower.lower, c.in_ok-lower.upper, c.in_ok-lower.cover)) _ c.in_ok-lower.ensures.ok
    (read-append (source_fields c.args.version c.args.corners (told_source c.args.version e)) _ (told-read _ _ e c.in_ok-source.ensures.ok) (read-along (order Edges c.args.row) c.is_in_order.ensures c.in_ok-in_order.ensures.ok))
