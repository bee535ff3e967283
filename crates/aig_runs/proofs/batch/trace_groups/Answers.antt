use Rattle.std.proofs.Common.{◌≡◌, ◌+◌, ◌-◌, ◌≤◌, ◌++◌, ◌∙◌, ℕ, List, take, drop, ap, sym, subst, arith, take-add}
use Rattle.std.specs.List.{AllZip}
use Rattle.aig_rows.proofs.Grammar.Entries.{zips_joined}
use Rattle.aig_lanes.specs.declared.run.Run.{Run}
use Rattle.aig_lanes.specs.declared.run.Trace.{Trace}
use Rattle.aig_lanes.specs.Runs.{IsTraceOf}
use Rattle.aig_runs.proofs.batch.trace_groups.Goals as goal

-- the runs of one more group
taken_on : (a b : ℕ) (runs : List Run) → a ≤ b → take a runs ++ take (b - a) (drop a runs) ≡ take b runs
taken_on a b runs more =
    let sum : a + (b - a) ≡ b = omega arith in sym (take-add a (b - a) runs) ∙ ap (λ n. take n runs) sum

pub loop-done-preserved : goal.loop-done-preserved
loop-done-preserved c =
    let runs = c.args.runs.now in
    let done = c.loop-done.done in
    let end = c.min-end.result in
    let more : done ≤ end = omega (arith, c.loop-done-test.true, c.min-end.ensures) in
    let traced : AllZip (IsTraceOf c.args.machine.now) (take done runs ++ take (end - done) (drop done runs))
    (c.loop-done.traces.items ++ c.in_ok-more.more.items) =
    zips_joined (IsTraceOf c.args.machine.now) (take done runs) (take (end - done) (drop done runs))
    c.loop-done.traces.items c.in_ok-more.more.items c.loop-done.invariant.traced
    c.in_ok-more.ensures in
    record {
      within = omega (arith, c.min-end.ensures);
      traced =
          subst (λ (ts : List Trace). AllZip (IsTraceOf c.args.machine.now) (take end runs) ts)
          (sym c.in_ok-append.ensures)
          (subst (λ (rs : List Run).
          AllZip (IsTraceOf c.args.machine.now) rs (c.loop-done.traces.items ++ c.in_ok-more.more.items))
          (taken_on done end runs more) traced);
    }
