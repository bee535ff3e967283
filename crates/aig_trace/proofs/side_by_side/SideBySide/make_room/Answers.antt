use Rattle.std.proofs.Common.{◌∙◌, [], append-nil, ap, refl, sym, List, ◌++◌}
use Rattle.aig_step.specs.Stimulus.{Entry}
use Rattle.aig_trace.specs.Parts.Waits.{entries_of}
use Rattle.aig_trace.proofs.Traced.{did_nothing}
use Rattle.aig_trace.proofs.side_by_side.SideBySide.make_room.Goals as goal

pub returns-then-not-is_full-clause-moved : goal.returns-then-not-is_full-clause-moved
returns-then-not-is_full-clause-moved g c =
    record { done = []; did = did_nothing c.args.self.now.tracer c.args.output.now; left = refl }

pub returns-clause-moved : goal.returns-clause-moved
returns-clause-moved g c =
    let es = entries_of c.args.self.now.waiting in
    record {
      done = es;
      did = c.settle.ensures.did;
      left = sym (append-nil es) ∙ ap (λ (fs : List Entry). es ++ fs) (sym c.settle.ensures.none);
    }
