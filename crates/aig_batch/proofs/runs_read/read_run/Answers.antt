use Rattle.std.proofs.Common.{◌≡◌, ◌∙◌, ◌+◌, List, Some, ℕ, ap, arith, bytes_eq, codes, drop, length, subst, sym, take}
use Rattle.std.specs.List.{All}
use Rattle.aig_circuit.specs.declared.value.Val.{Val}
use Rattle.aig_step.specs.Stimulus.{without_return}
use Rattle.aig_step.specs.Parts.Lines.{vector_in}
use Rattle.aig_batch.specs.Parts.RunsRead.{HasNoBadLine, SaysEntries, entries_of_run}
use Rattle.aig_lanes.specs.Parts.Vectors.{vectors_in}
use Rattle.aig_batch.proofs.Side.RunsRead.{good_line, is_step, one_step, rest_more, run_ends, vectors_are, vectors_more}
use Rattle.aig_lanes.proofs.Side.Sheets.{vectors_fit}
use Rattle.aig_batch.proofs.runs_read.read_run.Goals as goal

pub returns-then-is_stop-clause-says : goal.returns-then-is_stop-clause-says
returns-then-is_stop-clause-says c =
    let bytes = c.args.bytes.now in
    let before = c.loop-next.rest.now in
    let more = c.split_at-in-Some.result.1.now in
    let text : c.without_return.result.now ≡ without_return (take c.in-Some.next before) =
    c.without_return.ensures ∙ ap without_return c.split_at.ensures.front in
    subst
    (λ (vs : List (List Val)). SaysEntries c.args.inputs bytes (entries_of_run (record { steps = vs })) more)
    (sym c.new.ensures)
    (run_ends c.args.inputs bytes
    (vectors_in c.args.inputs c.first_line_len-stride.result c.loop-next.steps bytes) before more c.in-Some.next
    c.loop-next.invariant.says c.in-Some.ensures
    (c.split_at-in-Some.ensures.back ∙ ap (λ (r : List ℕ). drop 1 r) c.split_at.ensures.back)
    (ap (λ (t : List ℕ). bytes_eq t (codes ".")) (sym text) ∙ sym c.is_stop.ensures ∙ c.if-is_stop.true))

pub returns-then-is_stop-clause-fits : goal.returns-then-is_stop-clause-fits
returns-then-is_stop-clause-fits c =
    subst (λ (vs : List (List Val)). All (λ (v : List Val). length v ≡ c.args.inputs) vs) (sym c.new.ensures)
    (vectors_fit c.args.inputs c.first_line_len-stride.result c.loop-next.steps c.args.bytes.now
    c.loop-next.invariant.are)

pub returns-then-is_stop-clause-good : goal.returns-then-is_stop-clause-good
returns-then-is_stop-clause-good c =
    let before = c.loop-next.rest.now in
    subst (HasNoBadLine c.args.inputs)
    (sym (c.split_at-in-Some.ensures.back ∙ ap (λ (r : List ℕ). drop 1 r) c.split_at.ensures.back))
    (good_line c.args.inputs before c.in-Some.next c.in-Some.ensures c.loop-next.invariant.good).1

pub loop-next-preserved : goal.loop-next-preserved
loop-next-preserved c =
    let inputs = c.args.inputs in
    let bytes = c.args.bytes.now in
    let stride = c.first_line_len-stride.result in
    let steps = c.loop-next.steps in
    let before = c.loop-next.rest.now in
    let next = c.in-Some.next in
    let text = c.without_return.result.now in
    let line : text ≡ without_return (take next before) =
    c.without_return.ensures ∙ ap without_return c.split_at.ensures.front in
    let entry = (good_line inputs before next c.in-Some.ensures c.loop-next.invariant.good).0 in
    let one = is_step inputs (without_return (take next before)) entry.0 entry.1
    (ap (λ (t : List ℕ). bytes_eq t (codes ".")) (sym line) ∙ sym c.is_stop.ensures ∙ c.if-is_stop.false) in
    let vector = one.0 in
    let here : vector_in inputs (without_return (take next before)) ≡ Some vector = one.1 in
    let behind = c.split_at-in-Some.ensures.back ∙ ap (λ (r : List ℕ). drop 1 r) c.split_at.ensures.back in
    record {
      says = one_step inputs bytes (vectors_in inputs stride steps bytes) before c.split_at-in-Some.result.1.now next
          c.loop-next.invariant.says c.in-Some.ensures behind vector (vectors_in inputs stride (steps + 1) bytes)
          (vectors_are inputs stride steps next bytes before vector c.loop-next.invariant.are
          c.loop-next.invariant.rest_is c.in-Some.ensures c.if-next-stride.false here) here;
      good = subst (HasNoBadLine inputs) (sym behind)
          (good_line inputs before next c.in-Some.ensures c.loop-next.invariant.good).1;
      shorter =
          omega (
            arith,
            c.loop-next.invariant.shorter,
            c.split_at.ensures.back_len,
            c.split_at-in-Some.ensures.back_len,
          );
      are = vectors_more inputs stride steps next bytes before vector c.loop-next.invariant.are
          c.loop-next.invariant.rest_is c.in-Some.ensures c.if-next-stride.false here;
      rest_is = behind
          ∙ rest_more inputs stride steps next bytes before vector c.loop-next.invariant.are
          c.loop-next.invariant.rest_is c.in-Some.ensures c.if-next-stride.false here;
    }
