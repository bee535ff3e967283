use Rattle.std.proofs.Common.{◌≡◌, inl, inr, rules, true, false}
use Rattle.std.specs.Prelude.{slice_index, slice_index_or}
use Rattle.aig_circuit.specs.Literal.{negation_of}
use Rattle.aig_refute.proofs.words.find_free.Goals as goal
use Rattle.aig_refute.proofs.words.find_free.Goals.{then-not-is_marked+else-literal+else-literal-other, else-not-is_marked}
use Rattle.aig_refute.proofs.Readings.{read_more, marked_live}

pub loop-k-preserved : goal.loop-k-preserved
loop-k-preserved c =
    read_more c.args.words.now c.args.marks.now c.args.from c.loop-k.k c.args.other c.loop-k.invariant
    (elim c.if-not-is_marked.branch [
      | then-not-is_marked+else-literal+else-literal-other w ↦ (search rules, inl (search rules))
      | else-not-is_marked w ↦
          let marked : slice_index_or c.args.marks.now (negation_of (slice_index c.args.words.now c.loop-k.k)) false
          ≡ true = search (rules, w) in
          (marked_live c.args.marks.now _ c.requires marked, inr marked)
    ])
