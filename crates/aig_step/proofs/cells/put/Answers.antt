use Rattle.aig_step.proofs.cells.put.Goals as goal

pub returns : goal.returns
returns c = c.put_bytes.ensures c.args.value c.bytes.ensures
