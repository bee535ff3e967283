use Rattle.std.proofs.Common.{rules}
use Rattle.aig_meaning.proofs.Related.{distinct_apart, distinct_front}
use Rattle.aig_topo.proofs.Ordering.Ranked.{distinct_back, variables}
use Rattle.aig_image.specs.Parts.Numbers.{first_variables}
use Rattle.aig_image.proofs.Numbering.Kept.{no_number}
use Rattle.aig_image.proofs.numbers.Numbers.new.Goals as goal

pub of_first-requires-clause-once : goal.of_first-requires-clause-once
of_first-requires-clause-once c =
    distinct_front (first_variables c.args.circuit.now) (variables c.args.taken.now) c.requires.once

pub note_all-requires-clause-once : goal.note_all-requires-clause-once
note_all-requires-clause-once c =
    distinct_back (first_variables c.args.circuit.now) (variables c.args.taken.now) c.requires.once

pub note_all-requires-clause-none : goal.note_all-requires-clause-none
note_all-requires-clause-none c = λ v a.
    let first = first_variables c.args.circuit.now in
    c.in_ok-numbers.ensures.numbers.others v
    (no_number v first (λ b. distinct_apart first (variables c.args.taken.now) c.requires.once v b a))

pub returns-clause-numbers : goal.returns-clause-numbers
returns-clause-numbers c = c.in_ok-note_all.ensures.numbers _ c.in_ok-numbers.ensures.numbers

pub returns-clause-small : goal.returns-clause-small
returns-clause-small c = search rules
