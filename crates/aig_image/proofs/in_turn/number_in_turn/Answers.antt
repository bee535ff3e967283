use Rattle.std.proofs.Common.{arith}
use Rattle.aig_meaning.proofs.Related.{distinct_front}
use Rattle.aig_topo.proofs.Ordering.Ranked.{variables}
use Rattle.aig_image.proofs.Numbering.Kept.{none_made, room_left, none_yet, one_made, all_made}
use Rattle.aig_image.proofs.in_turn.number_in_turn.Goals as goal

pub loop-at-init : goal.loop-at-init
loop-at-init g c =
    none_made (g.F.FirstVariables.variables c.args.first.now) c.args.gates.now c.in_ok-numbers.numbers
    c.in_ok-numbers.ensures

pub numbers-requires : goal.numbers-requires
numbers-requires g c = record {
  few = omega (arith, c.requires.few);
  once = distinct_front (g.F.FirstVariables.variables c.args.first.now) (variables c.args.gates.now) c.requires.once;
}

pub next_gate-requires : goal.next_gate-requires
next_gate-requires g c =
    let room =
    room_left (g.F.FirstVariables.variables c.args.first.now) c.args.gates.now c.loop-at.gates c.loop-at.numbers
    c.loop-at.at c.loop-at.invariant c.loop-at-test.true c.requires.few in
    record {
      room = room.0;
      small = room.1;
      none = none_yet (g.F.FirstVariables.variables c.args.first.now) c.args.gates.now c.loop-at.gates c.loop-at.numbers
          c.loop-at.at c.loop-at.invariant c.loop-at-test.true c.index-gates-at.result c.requires.once
          c.index-gates-at.is;
    }

pub loop-at-preserved : goal.loop-at-preserved
loop-at-preserved g c =
    let known = rw c.in-Some.is at c.in_ok-gate.ensures.known in
    one_made (g.F.FirstVariables.variables c.args.first.now) c.args.gates.now c.loop-at.gates c.loop-at.numbers
    c.loop-at.at c.loop-at.invariant c.loop-at-test.true c.next_gate.new.numbers c.index-gates-at.result c.in-Some.gate
    c.requires.once c.requires.some c.index-gates-at.is known.0 known.1
    (rw c.in-Some.is at c.in_ok-gate.ensures.gate) (rw c.in-Some.is at c.in_ok-gate.ensures.count)
    (rw c.in-Some.is at c.in_ok-gate.ensures.numbers)

pub returns : goal.returns
returns g c =
    all_made (g.F.FirstVariables.variables c.args.first.now) c.args.gates.now c.loop-at.gates c.loop-at.numbers
    c.loop-at.at c.loop-at.invariant c.loop-at-test.false
