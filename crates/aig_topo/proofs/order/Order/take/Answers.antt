use Rattle.std.proofs.Common.{◌≡◌, ◌<◌, ◌∙◌, ◌+◌, ◌++◌, ◌∷◌, rules, [], ap, ap₂, length, take, arith, List, ℕ}
use Rattle.std.proofs.Math.ListN.{set as put}
use Rattle.aig_circuit.specs.Wellformed.{IsAmong}
use Rattle.aig_topo.specs.Progress.{Progress, IsCounted}
use Rattle.aig_topo.proofs.Ordering.Counted.{room_left, takes, one_more}
use Rattle.aig_topo.proofs.order.Order.take.Goals as goal

-- what is asked of a gate, by what is kept
module _ (positions marks waiting : List ℕ) (taken counted gate : ℕ) (p : Progress)
    (is : record { list = take taken positions; waiting = waiting; steps = taken + counted } ≡ p)
    (there : gate < length p.waiting) (left : ¬ IsAmong gate p.list)
    (kept : IsCounted positions taken marks waiting counted) where
  pub below : gate < length waiting
  below = omega (arith, there, ap (λ (q : Progress). length q.waiting) is)

  pub new : ¬ IsAmong gate (take taken positions)
  new = rw (← is) at left

  pub room : taken < length positions
  room = room_left positions taken marks waiting counted gate kept below new

  pub view_then : record {
    list = take (taken + 1) (put positions taken gate);
    waiting = waiting;
    steps = taken + 1 + counted;
  } ≡ record p { list = p.list ++ gate ∷ []; steps = p.steps + 1 }
  view_then =
      ap₂ (λ l n. record { list = l; waiting = waiting; steps = n })
      (one_more positions taken marks waiting counted gate kept below new) (omega arith)
      ∙ ap (λ (q : Progress). record q { list = q.list ++ gate ∷ []; steps = q.steps + 1 }) is

pub index_mut-requires : goal.index_mut-requires
index_mut-requires c =
    omega (
      arith,
      room c.self.inside.positions.items c.self.inside.marks.items c.self.inside.waiting.items c.self.inside.taken
          c.self.inside.counted c.args.gate c.args.self.now c.self.view_is c.requires.there c.requires.left
          c.self.invariant,
      c.self.inside.positions.ok.0,
    )

pub invariant_of-self : goal.invariant_of-self
invariant_of-self c = search (rules, takes, below, new)

pub returns : goal.returns
returns c = search (rules, view_then)
