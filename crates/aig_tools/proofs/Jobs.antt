-- A job as what it is.
use Rattle.std.proofs.Common.{◌≡◌, ℕ, subst, sym}
use Rattle.aig_command.specs.declared.request.Names.{Names}
use Rattle.aig_commands.specs.declared.job.Job.{Job}
use Rattle.aig_tools.specs.Ends.{Ends}
use Rattle.aig_tools.specs.Worlds.{World}

-- a job ends as what it is
pub as_is : (names : Names) (job same : Job) (before after : World) (status : ℕ) → job ≡ same
    → Ends names same before after status → Ends names job before after status
as_is names job same before after status is ends = subst (λ j. Ends names j before after status) (sym is) ends
