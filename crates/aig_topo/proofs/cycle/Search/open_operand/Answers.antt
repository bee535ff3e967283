use Rattle.std.proofs.Common.{◌<◌, ◌∙◌, ap, sym, get_or, length, arith}
use Rattle.std.proofs.lemmas.List.{get_or_default}
use Rattle.aig_topo.specs.declared.cycle.Pair.{Pair}
use Rattle.aig_topo.specs.Cycle.{pair_at}
use Rattle.aig_topo.proofs.Ordering.DepthFirst.{both_done}
use Rattle.aig_topo.proofs.cycle.Search.open_operand.Goals as goal

pub returns-clause-none : goal.returns-clause-none
returns-clause-none c =
    let pairs = c.args.self.now.operands.items in
    let states = c.args.self.now.states.items in
    let pair : Pair = pair_at pairs c.args.gate in
    let read = c.index-pair.ensures
    ∙ get_or_default pairs c.args.gate c.index-pair.result.now (record { left = 0; right = 0 }) c.requires.there in
    let within = c.requires.search.within c.args.gate in
    let left_there : pair.left < length states = omega (arith, within.0, c.requires.search.searching.as_many) in
    let right_there : pair.right < length states = omega (arith, within.1, c.requires.search.searching.as_many) in
    let left = sym (c.index.ensures ∙ ap (λ (p : Pair). get_or states p.left c.index.result.now) read
    ∙ get_or_default states pair.left c.index.result.now 0 left_there) ∙ c.if-index-ne-DONE.false in
    let right = sym (c.index-2.ensures ∙ ap (λ (p : Pair). get_or states p.right c.index-2.result.now) read
    ∙ get_or_default states pair.right c.index-2.result.now 0 right_there) ∙ c.if-index-ne-DONE-2.false in
    both_done pairs states c.args.gate c.requires.there left right
