use Rattle.std.proofs.Common.{refl}
use Rattle.aig_core.specs.Names.{nothing_named}
use Rattle.aig_arrays.specs.Decoded.{header_of}
use Rattle.aig_arrays.proofs.Whole.{all_symbols}
use Rattle.aig_arrays.proofs.symbols.read_symbols.Goals as goal

pub returns-then-counts-eq0 : goal.returns-then-counts-eq0
returns-then-counts-eq0 c =
    all_symbols (header_of c.args.counts.now) c.args.names.now nothing_named 0 c.args.counts.now.symbols
    c.args.from.now c.args.circuit.now _ refl c.if-counts-eq0.true
