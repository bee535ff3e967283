use Rattle.std.proofs.Common.{take}
use Rattle.std.specs.List.{flat_map}
use Rattle.aig_io.specs.Output.{Appended}
use Rattle.aig_cnf.specs.ClauseText.{gate_clauses_text}
use Rattle.aig_cnf.proofs.writer.put_gates_clauses.Given as goal

abbrev pub invariant-loop-gate : goal.invariant-loop-gate
invariant-loop-gate g l = Appended l.fn.output l.output (flat_map gate_clauses_text (take l.gate-index l.gates))
