use Rattle.std.proofs.Common.{◌≡◌, ◌∙◌, arith, rules, sym}
use Rattle.aig_circuit.specs.declared.circuit.Symbol.{Symbol}
use Rattle.aig_arrays.proofs.Placing.{names_long, symbols_done, symbols_long, symbols_on}
use Rattle.aig_arrays.proofs.put.put_symbols.Goals as goal

pub put_symbol-requires-clause-room : goal.put_symbol-requires-clause-room
put_symbol-requires-clause-room c =
    let long =
    symbols_long c.loop-symbol.start c.in-Some.symbol _ _ c.in-Some.ensures.steps _ _ c.loop-symbol.invariant.end in
    omega (arith, long, c.requires.room)

pub loop-symbol-preserved : goal.loop-symbol-preserved
loop-symbol-preserved c =
    let start = c.loop-symbol.start in
    let s : Symbol = c.in-Some.symbol in
    let same : c.symbol.inside.name.now ≡ s.name = search rules in
    rw same (
    record {
      words = symbols_on start s _ _ c.in-Some.ensures.steps _ _ _ c.loop-symbol.invariant.words _ c.put_symbol.ensures;
      end = symbols_long start s _ _ c.in-Some.ensures.steps _ _ c.loop-symbol.invariant.end;
      names = names_long s _ _ c.in-Some.ensures.steps _ _ c.loop-symbol.invariant.names;
    }
    )

pub returns : goal.returns
returns c =
    sym (symbols_done c.loop-symbol.at c.loop-symbol.start c.loop-symbol.symbol-iterator c.loop-symbol.words
    c.in-None.ensures.steps.0)
    ∙ c.loop-symbol.invariant.words
