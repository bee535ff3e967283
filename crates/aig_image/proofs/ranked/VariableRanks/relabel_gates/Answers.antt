use Rattle.std.proofs.Common.{◌≡◌, ◌++◌, ◌+◌, ◌∙◌, map, take, drop, set, subst, sym, ap, arith, Bool, leb}
use Rattle.std.proofs.lemmas.Bool.{leb-true}
use Rattle.std.proofs.lemmas.List.Edits.{map_over_more}
use Rattle.aig_circuit.specs.declared.circuit.Gate.{Gate}
use Rattle.aig_topo.proofs.Ordering.Cyclic.{and_left, and_right}
use Rattle.aig_image.specs.Parts.Ranked.{rank_label, HasRank}
use Rattle.aig_image.specs.Relabelled.{relabelled_gate}
use Rattle.aig_image.proofs.Numbering.Kept.{stands_ahead}
use Rattle.aig_image.proofs.Numbering.Ranked.{names_fit, all_more}
use Rattle.aig_image.proofs.ranked.VariableRanks.relabel_gates.Goals as goal

pub relabel-gate-requires : goal.relabel-gate-requires
relabel-gate-requires c = names_fit c.args.self.now

pub loop-at-preserved : goal.loop-at-preserved
loop-at-preserved c =
    let old = c.args.gates.now in
    let at = c.loop-at.at in
    let gate = c.index-gates-at.result in
    let f : Gate → Gate = relabelled_gate (rank_label c.args.self.now.ranks) in
    record {
      gates =
          subst (λ g. set c.loop-at.gates at g ≡ map f (take (at + 1) old) ++ drop (at + 1) old)
          (sym c.relabel-gate.ensures)
          (map_over_more f old c.loop-at.gates at gate c.loop-at-test.true c.loop-at.invariant.gates
          c.index-gates-at.is);
      all = λ t.
          let stands =
          stands_ahead old c.loop-at.gates f at gate c.loop-at-test.true c.loop-at.invariant.gates
          c.index-gates-at.is in
          let named = ap (λ (g : Gate). g.var) (c.gate.view_is ∙ c.relabel-gate.ensures) in
          let within : Bool = leb c.gate.inside.0.0.0 c.count.result in
          let fits = leb-true c.gate.inside.0.0.0 c.count.result (and_right c.loop-at.all within t) in
          all_more (λ (g : Gate). HasRank c.args.self.now.ranks g.var) old at gate c.loop-at-test.true stands
          (c.loop-at.invariant.all (and_left c.loop-at.all within t)) (omega (arith, named, fits, c.count.ensures));
    }
