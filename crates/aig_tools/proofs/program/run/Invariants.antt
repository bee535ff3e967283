use Rattle.std.proofs.Common.{ℕ}
use Rattle.aig_tools.specs.Ends.{Ends}
use Rattle.aig_commands.specs.Jobs.{CanDo, sources_left}
use Rattle.aig_tools.specs.Worlds.{IsIdle, World}
use Rattle.aig_tools.proofs.program.run.Given as goal

-- as what is left to do ends from here, so the job ends
abbrev pub invariant-loop-job : goal.invariant-loop-job
invariant-loop-job g l = record {
  ready : IsIdle l.world;
  can_do : CanDo l.job;
  rest : (after : World) (status : ℕ) → Ends l.fn.names l.job l.world after status
      → Ends l.fn.names l.fn.job l.fn.world after status;
}

abbrev pub decreases-loop-job : goal.decreases-loop-job
decreases-loop-job g l = sources_left l.job
