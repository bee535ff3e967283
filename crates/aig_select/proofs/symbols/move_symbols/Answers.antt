use Rattle.aig_select.specs.Parts.Places.{place_by}
use Rattle.aig_select.proofs.Moving.{moved_on}
use Rattle.aig_select.proofs.symbols.move_symbols.Goals as goal

pub loop-symbol-preserved : goal.loop-symbol-preserved
loop-symbol-preserved c =
    moved_on (place_by c.args.places.now) c.in-Some.symbol c.loop-symbol.symbol-iterator c.next.new.self
    c.loop-symbol.moved c.push_moved.new.moved _ c.in-Some.ensures.steps c.loop-symbol.invariant
    c.in_ok-push_moved.ensures
