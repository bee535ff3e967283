use Rattle.aig_image.specs.Parts.Ranked.{rank_label, HasRank}
use Rattle.aig_image.proofs.Numbering.Ranked.{first_ranks, first_have}
use Rattle.aig_image.proofs.ranked.VariableRanks.of_first.Goals as goal

pub returns-then-have_latches-clause-ranks : goal.returns-then-have_latches-clause-ranks
returns-then-have_latches-clause-ranks c =
    rw (← c.as_slice.ensures, ← c.as_slice-2.ensures) (first_ranks (rank_label c.args.self.now.ranks)
    c.as_slice.result.now c.as_slice-2.result.now c.new-ranks.result.items c.add_ranks.new.ranks.items
    c.add_ranks-2.new.ranks.items c.new-ranks.ensures.items c.in_ok-have_inputs.ensures.ranks
    c.in_ok-have_latches.ensures.ranks)

pub returns-then-have_latches-clause-all : goal.returns-then-have_latches-clause-all
returns-then-have_latches-clause-all c =
    rw (← c.as_slice.ensures, ← c.as_slice-2.ensures) (first_have (HasRank c.args.self.now.ranks)
    c.as_slice.result.now c.as_slice-2.result.now
    (c.in_ok-have_inputs.ensures.all c.if-have_inputs.true) (c.in_ok-have_latches.ensures.all c.if-have_latches.true))
