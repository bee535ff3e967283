-- How many gates are left.
use Rattle.std.proofs.Common.{◌≡◌, ◌≤◌, ◌∙◌, List, arith, ap, length}
use Rattle.std.proofs.lemmas.List.{length-map}
use Rattle.std.proofs.lemmas.List.Sums.{count_by-le-length, length-filter}
use Rattle.aig_circuit.specs.declared.circuit.Latch.{Latch}
use Rattle.aig_circuit.specs.declared.circuit.Gate.{Gate}
use Rattle.aig_circuit.specs.declared.circuit.Circuit.{Circuit}
use Rattle.aig_circuit.specs.Wellformed.{IsWellFormed}
use Rattle.aig_image.specs.Image.{IsBinaryImage}
use Rattle.aig_image.specs.Relabelled.{relabelled_latch}
use Rattle.aig_image.specs.Renumbering.{in_new_order, renumbered}
use Rattle.aig_image.proofs.Imaging.InTurn.{many}
use Rattle.aig_image.proofs.Imaging.Ordered.{image_is_ordered}
use Rattle.aig_simplify.specs.Folded.{IsFolded, folded_gate}
use Rattle.aig_simplify.specs.Swept.{IsSwept}

pub image_gates : (c image : Circuit) → IsWellFormed c → IsBinaryImage c image
    → length image.gates ≡ length c.gates
image_gates c image good (order, least, is) =
    let vs = in_new_order c order in
    let ordered = (image_is_ordered c image good (order, least, is)).1 in
    omega (
      arith,
      ordered.all,
      ap (λ (d : Circuit). d.max_var) is,
      many c order good least,
      ap (λ (d : Circuit). length d.inputs) is ∙ length-map c.inputs (renumbered vs),
      ap (λ (d : Circuit). length d.latches) is ∙ length-map c.latches (relabelled_latch (renumbered vs)),
    )

pub folded_gates : (c d : Circuit) → IsFolded c d → length d.gates ≡ length c.gates
folded_gates c d (f, is) =
    ap (λ (e : Circuit). length e.gates) is.same ∙ length-map c.gates (folded_gate f)

pub swept_gates : (c d : Circuit) → IsSwept c d → length d.gates ≤ length c.gates
swept_gates c d is =
    omega (
      arith,
      ap (λ (gs : List Gate). length gs) is.gates,
      length-filter is.keeps c.gates,
      count_by-le-length is.keeps c.gates,
    )
