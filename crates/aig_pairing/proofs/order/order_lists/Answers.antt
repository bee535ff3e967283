use Rattle.std.proofs.Common.{ap, arith, length, length-append}
use Rattle.aig_pairing.proofs.Naming.{length-compared_names}
use Rattle.aig_pairing.proofs.order.order_lists.Goals as goal

pub split_at-requires : goal.split_at-requires
split_at-requires c =
    let a = c.args.first.now.circuit.now in
    omega (
      arith,
      ap length c.requires.first.compared,
      length-compared_names a,
      length-append a.outputs a.bad,
      ap length c.names.ensures,
      c.len.ensures,
    )
