use Rattle.std.proofs.Common.{List, Result, ℕ}
use Rattle.aig_commands.specs.Jobs.{CanDo, sources_left}
use Rattle.aig_fault.specs.declared.fault.Fault.{Fault}
use Rattle.aig_library.specs.Memory.{Comes, HasNoSteps}
use Rattle.aig_library.proofs.memory.run_in_memory.Given as goal

-- what the rest comes to, the job does
abbrev pub invariant-loop-job : goal.invariant-loop-job
invariant-loop-job l = record {
  can_do : CanDo l.job;
  no_steps : HasNoSteps l.job;
  rest : (answer : Result (List ℕ) Fault) → Comes l.fn.inputs l.job answer → Comes l.fn.inputs l.fn.job answer;
}

abbrev pub decreases-loop-job : goal.decreases-loop-job
decreases-loop-job l = sources_left l.job
