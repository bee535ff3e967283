use Rattle.std.proofs.Common.{◌≡◌, rules}
use Rattle.aig_circuit.specs.declared.circuit.Symbol.{Symbol}
use Rattle.aig_arrays.proofs.Placing.{names_long, names_on}
use Rattle.aig_arrays.proofs.put.put_names.Goals as goal

pub loop-symbol-preserved : goal.loop-symbol-preserved
loop-symbol-preserved c =
    let s : Symbol = c.in-Some.symbol in
    let same : c.symbol.inside.name.now ≡ s.name = search rules in
    rw same (
    record {
      bytes =
          names_on s _ _ c.in-Some.ensures.steps _ _ _ c.loop-symbol.invariant.bytes _ (rw same at c.put_text.ensures);
      end = names_long s _ _ c.in-Some.ensures.steps _ _ c.loop-symbol.invariant.end;
    }
    )
