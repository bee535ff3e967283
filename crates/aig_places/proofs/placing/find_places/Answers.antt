use Rattle.std.proofs.Common.{◌≡◌, ◌+◌, ◌≤◌, ap, arith, length, refl, rules, subst, ℕ}
use Rattle.aig_step.specs.Parts.Machines.{first_gate}
use Rattle.aig_step.proofs.Running.Machines.{pairs_below}
use Rattle.aig_places.specs.Places.{ArePlaced}
use Rattle.aig_places.proofs.Side.Places.{found_places, found_stand}
use Rattle.aig_places.proofs.placing.find_places.Goals as goal

pub last_readers-requires-clause-pairs : goal.last_readers-requires-clause-pairs
last_readers-requires-clause-pairs c =
    let can = c.pairs-pairs.ensures.runs in
    pairs_below (first_gate c.args.machine.now) (1 + c.parts-parts.result.now.max_var) c.pairs-pairs.result.now
    (omega (arith, can.size, c.parts-parts.ensures.max_var)) can.gates

pub place_gates-requires-clause-below : goal.place_gates-requires-clause-below
place_gates-requires-clause-below c =
    let can = c.pairs-pairs.ensures.runs in
    pairs_below (first_gate c.args.machine.now) (length c.in_ok-placing.placing.places.items) c.pairs-pairs.result.now
    (omega (arith, can.size, c.in_ok-placing.ensures.places, c.in_ok-last.ensures, c.parts-parts.ensures.max_var))
    can.gates

few : (c : goal.After-drop-placing-5) → length c.place_gates.new.self.holders.items ≤ 1 + c.args.machine.now.max_var
few c =
    let placing = c.place_gates.new.self in
    omega (
      arith,
      placing.few,
      placing.small,
      c.place_gates.ensures.places,
      c.in_ok-placing.ensures.places,
      c.in_ok-last.ensures,
      c.parts-parts.ensures.max_var,
    )

start : (c : goal.After-drop-placing-5)
    → 1 + c.len.result + c.len-2.result ≡ first_gate c.args.machine.now
start c =
    omega (
      arith,
      c.len.ensures,
      c.len-2.ensures,
      ap length c.parts-parts.ensures.inputs,
      ap length c.parts-parts.ensures.latches,
    )

placed : (c : goal.After-drop-placing-5)
    → ArePlaced (first_gate c.args.machine.now) c.pairs-pairs.result.now c.in_ok-placing.placing.holders.items
    c.place_gates.new.self.holders.items c.in_ok-gates.gates.items
placed c =
    subst
    (λ (n : ℕ). ArePlaced n c.pairs-pairs.result.now c.in_ok-placing.placing.holders.items
    c.place_gates.new.self.holders.items c.in_ok-gates.gates.items)
    (start c) c.in_ok-gates.ensures.placed

pub returns-clause-places : goal.returns-clause-places
returns-clause-places c =
    found_places c.args.machine.now c.pairs-pairs.result.now c.pairs-pairs.ensures.runs c.pairs-pairs.ensures.is _
    c.in_ok-gates.gates.items c.in_ok-placing.placing.holders.items c.place_gates.new.self.holders.items refl
    (search rules) (few c) (omega (arith, c.in_ok-placing.ensures.count, start c))
    (λ p below. c.in_ok-placing.ensures.own p (omega (arith, below, start c)))
    (placed c) (λ e. cc)

pub returns-clause-stand : goal.returns-clause-stand
returns-clause-stand c =
    found_stand c.args.machine.now c.pairs-pairs.result.now c.pairs-pairs.ensures.runs c.pairs-pairs.ensures.is _
    c.in_ok-gates.gates.items c.in_ok-placing.placing.holders.items c.place_gates.new.self.holders.items refl
    (search rules) (few c) (omega (arith, c.in_ok-placing.ensures.count, start c))
    (λ p below. c.in_ok-placing.ensures.own p (omega (arith, below, start c)))
    (placed c) c.args.literals.now c.in_ok-seen.seen.items c.in_ok-seen.ensures.count
    c.in_ok-seen.ensures.stand
