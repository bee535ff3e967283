-- The plan by which each gate has its own clauses is right.
use Rattle.std.proofs.Common.{◌≡◌, ◌∙◌, ℕ, List, get_or, length, replicate, subst, sym}
use Rattle.std.specs.List.{Contains, zip}
use Rattle.std.proofs.lemmas.List.{get_or-replicate, length-replicate}
use Rattle.aig_circuit.specs.declared.circuit.Circuit.{Circuit}
use Rattle.aig_circuit.specs.declared.circuit.Gate.{Gate}
use Rattle.aig_circuit.specs.Literal.{variable_of}
use Rattle.aig_cuts.specs.declared.cut.Cut.{Cut}
use Rattle.aig_cuts.specs.declared.cut.Cut.TheVariants.{Plain, Inner}
use Rattle.aig_cuts.specs.Cuts.{IsCutOf, IsKept, IsRightAs}
use Rattle.aig_cuts.proofs.Looking.{at_where}

module _ (c : Circuit) where
  abbrev plan : List Cut
  plan = replicate (length c.gates) Plain

  each_plain : (g : Gate) (cut : Cut) → Contains (zip c.gates plan) (g, cut) → Plain ≡ cut
  each_plain g cut g_in =
      let there = at_where c.gates plan g cut g_in in
      sym (get_or-replicate (length c.gates) there.at Plain cut there.gate_below) ∙ there.cut_is

  all_kept : (v : ℕ) → IsKept (zip c.gates plan) v
  all_kept v h h_in = let no : Plain ≡ Inner = each_plain h Inner h_in in cc

  pub plain_is_right : IsCutOf plan c
  plain_is_right = record {
    many = length-replicate (length c.gates) Plain;
    gates = λ g cut g_in.
        subst (IsRightAs (zip c.gates plan) g) (each_plain g cut g_in)
        (all_kept (variable_of g.left), all_kept (variable_of g.right));
    bad = λ k l below. all_kept (variable_of (get_or c.bad k l));
  }
