use Rattle.aig_circuit.proofs.Checking.{none_among}
use Rattle.aig_circuit.proofs.form.is_one_line.Goals as goal

pub returns : goal.returns
returns c = none_among 10 c.args.name.now c.contains.result c.contains.ensures.value
