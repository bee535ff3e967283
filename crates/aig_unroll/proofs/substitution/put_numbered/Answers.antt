use Rattle.std.proofs.Common.{◌+◌, ◌*◌, ◌∙◌, ◌++◌, ◌∷◌, [], ap₂, arith, sym}
use Rattle.std.proofs.lemmas.List.{length-set, take_more_set}
use Rattle.std.proofs.lemmas.List.FromFn.{map-range_with_len_more}
use Rattle.aig_circuit.specs.Literal.{literal_of}
use Rattle.aig_unroll.proofs.substitution.put_numbered.Goals as goal

pub loop-i-preserved : goal.loop-i-preserved
loop-i-preserved c =
    let i = c.loop-i.i in
    let literal = 2 * c.loop-i.variable in (
      take_more_set c.loop-i.out i literal (omega arith)
          ∙ ap₂ (λ xs v. xs ++ 2 * v ∷ []) c.loop-i.invariant.0 c.loop-i.invariant.2
          ∙ sym (map-range_with_len_more literal_of c.args.first i (c.args.first + i) (omega arith)),
      length-set c.loop-i.out i literal ∙ c.loop-i.invariant.1,
      omega arith,
    )
