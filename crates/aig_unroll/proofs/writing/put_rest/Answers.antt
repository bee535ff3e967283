use Rattle.std.proofs.Common.{◌≡◌, ◌-◌, ◌++◌, List, drop, rules, subst, take, flat_map, length-take-le, take_all}
use Rattle.std.proofs.lemmas.List.{take-append-le}
use Rattle.aig_circuit.specs.declared.circuit.Gate.{Gate}
use Rattle.aig_io.specs.Output.{Appended}
use Rattle.aig_unroll.specs.Unrolled.{gates_at}
use Rattle.aig_unroll.proofs.writing.put_rest.Goals as goal

pub returns : goal.returns
returns g c =
    let f = c.args.copies.now in
    let count = c.count_gates.result - c.args.at in
    let made : take count (c.put_gates_from.new.out ++ drop count c.args.room.now)
    ≡ drop c.args.at (gates_at f.circuit f.frames f.frame) = search (rules, length-take-le, take-append-le, take_all) in
    subst (λ (xs : List Gate). Appended c.args.output.now c.put_some.new.output (flat_map g.F.GateText.one xs)) made
    c.put_some.ensures
