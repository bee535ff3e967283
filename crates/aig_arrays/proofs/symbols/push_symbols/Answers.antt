use Rattle.std.proofs.Common.{◌+◌, ◌≤◌, List, ap, arith, length, refl, subst, sym}
use Rattle.std.proofs.lemmas.Result.{err_from_is_err_and}
use Rattle.aig_circuit.specs.declared.circuit.Symbol.{Symbol}
use Rattle.aig_arrays.specs.Decoded.{header_of}
use Rattle.aig_arrays.proofs.Whole.{all_symbols, more_symbols, wrong_symbols}
use Rattle.aig_arrays.proofs.symbols.push_symbols.Goals as goal

pub returns-in_err-symbol : goal.returns-in_err-symbol
returns-in_err-symbol c =
    let h = err_from_is_err_and c.from_residual.result c.from_residual.ensures.1 in
    rw (h.1, h.2)
    (wrong_symbols (header_of c.args.counts.now) c.args.names.now c.loop-left.named c.loop-left.start c.loop-left.left
    c.loop-left.from c.loop-left.circuit _ c.loop-left.invariant.tells c.in_err-symbol.field-0.0 c.loop-left-test.true
    c.in_err-symbol.ensures.symbol)

pub loop-left-preserved : goal.loop-left-preserved
loop-left-preserved c =
    let circuit = c.loop-left.circuit in
    record {
      tells =
          more_symbols (header_of c.args.counts.now) c.args.names.now c.loop-left.named c.loop-left.start
          c.loop-left.left c.loop-left.from circuit _ c.loop-left.invariant.tells _ c.in_ok-symbol.symbol
          c.read_symbol.new.from c.read_symbol.new.named _ _ c.loop-left-test.true refl c.in_ok-symbol.ensures.symbol
          c.in_ok-symbol.ensures.named
          (ap (λ (ss : List Symbol). record circuit { symbols = ss }) c.in_ok-push.ensures.ok)
          (ap (λ (s : Symbol). c.loop-left.start + length s.name) c.symbol.view_is);
      within =
          subst (λ (s : Symbol). c.loop-left.start + length s.name ≤ length c.args.names.now) (sym c.symbol.view_is)
          c.in_ok-symbol.ensures.fits;
    }

pub returns : goal.returns
returns c =
    all_symbols (header_of c.args.counts.now) c.args.names.now c.loop-left.named c.loop-left.start c.loop-left.left
    c.loop-left.from c.loop-left.circuit _ c.loop-left.invariant.tells (omega (arith, c.loop-left-test.false))
