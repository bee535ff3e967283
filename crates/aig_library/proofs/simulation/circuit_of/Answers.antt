use Rattle.std.proofs.Common.{ℕ, List}
use Rattle.aig_circuit.specs.declared.circuit.Circuit.{Circuit}
use Rattle.aig_commands.specs.File.{IsFileOf}
use Rattle.aig_commands.specs.Reading.{AtItsEnd, IsUnreadable}
use Rattle.aig_library.proofs.Lents.{at_its_end, stopped, whole}
use Rattle.aig_library.proofs.simulation.circuit_of.Goals as goal

pub returns-clause-ok : goal.returns-clause-ok
returns-clause-ok c =
    whole c.args.model.now _ c.gives_its_bytes.ensures
    (λ (found : Circuit) (bytes : List ℕ). IsFileOf bytes c.args.max_var found)
    (AtItsEnd (IsUnreadable c.args.max_var)) c.read_source-read.result
    (rw c.in_ok-source.ensures at c.read_source-read.ensures)

pub returns-clause-err : goal.returns-clause-err
returns-clause-err c =
    stopped c.args.model.now _ c.gives_its_bytes.ensures
    (λ (found : Circuit) (bytes : List ℕ). IsFileOf bytes c.args.max_var found)
    (AtItsEnd (IsUnreadable c.args.max_var)) (λ fault. IsUnreadable c.args.max_var fault c.args.model.now)
    c.read_source-read.result
    (at_its_end c.args.model.now _ c.gives_its_bytes.ensures (IsUnreadable c.args.max_var))
    (rw c.in_ok-source.ensures at c.read_source-read.ensures)
