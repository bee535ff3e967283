use Rattle.aig_trace.proofs.Waits.{stop_added, stop_waits}
use Rattle.aig_trace.proofs.waiting.Waiting.push_stop.Goals as goal

pub invariant_of-self : goal.invariant_of-self
invariant_of-self c =
    let w = c.args.self.now in
    record {
      is = stop_waits w.inputs w.steps w.count w.texts.items w.texts.items w.texts.items w.lines.items w.is
          c.requires.lines;
    }

pub returns-clause-adds : goal.returns-clause-adds
returns-clause-adds c =
    let w = c.args.self.now in
    stop_added w.inputs w.steps w.count w.texts.items w.texts.items w.texts.items w.lines.items w.is c.requires.lines
