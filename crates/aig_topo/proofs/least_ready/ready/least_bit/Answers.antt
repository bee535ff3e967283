use Rattle.std.proofs.Common.{◌<◌, ◌≡◌, ◌+◌, ◌*◌, rules, arith, refl, get_or, subst}
use Rattle.std.proofs.lemmas.Grind.{common_steps}
use Rattle.std.proofs.Math.Facts.{Fits-lt-pow}
use Rattle.std.specs.Int.{w64, trailing_zeros}
use Rattle.aig_topo.specs.Ready.{first_bit}
use Rattle.aig_topo.proofs.Ordering.Trees.{IsLeastAt, at_top, there_below, found_fits, one_down, at_end}
use Rattle.aig_topo.proofs.least_ready.ready.least_bit.Goals as goal

pub loop-init : goal.loop-init
loop-init c = at_top c.args.words.now (first_bit c.args.levels) c.args.levels c.requires.tree
    (λ i. Fits-lt-pow (c.type_inv.words i)) c.requires.some _ refl

pub overflow_add-below : goal.overflow_add-below
overflow_add-below c = grind (arith, common_steps, there_below)

pub bounds-words-below : goal.bounds-words-below
bounds-words-below c = search (rules, there_below)

pub overflow_add-bit : goal.overflow_add-bit
overflow_add-bit c =
    let few : 64 * (c.loop.bit + 1) + trailing_zeros w64 (get_or c.args.words.now (c.loop.bit + 1) 0) < 2199023255552 =
    found_fits c.args.words.now (first_bit c.args.levels) c.args.levels c.requires.tree
    (λ i. Fits-lt-pow (c.type_inv.words i)) c.loop.counter c.loop.bit c.loop-test.true c.loop.invariant in
    omega (arith, few)

pub loop-preserved : goal.loop-preserved
loop-preserved c = one_down c.args.words.now (first_bit c.args.levels) c.args.levels c.requires.tree
    (λ i. Fits-lt-pow (c.type_inv.words i)) c.loop.counter c.loop.bit c.loop-test.true c.loop.invariant _ refl

pub returns-clause-there : goal.returns-clause-there
returns-clause-there c = search rules

pub returns-clause-least : goal.returns-clause-least
returns-clause-least c = λ b.
    let all : c.loop.counter ≡ c.args.levels = omega (arith, c.loop-test.false, c.loop.auto.counter-end) in
    at_end c.args.words.now (first_bit c.args.levels) c.args.levels c.requires.tree
    (λ i. Fits-lt-pow (c.type_inv.words i)) c.loop.bit b
    (subst (λ n. IsLeastAt c.args.words.now (first_bit c.args.levels) c.args.levels n c.loop.bit) all
    c.loop.invariant)
