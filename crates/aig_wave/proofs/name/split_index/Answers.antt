use Rattle.std.proofs.Common.{◌∙◌, ap, sym, drop}
use Rattle.aig_wave.specs.Names.{index_in}
use Rattle.aig_wave.proofs.Grouped.{index_good, index_large, index_more, index_no_front, indexed_is, not_indexed}
use Rattle.aig_wave.proofs.name.split_index.Goals as goal

pub returns-in_err-at : goal.returns-in_err-at
returns-in_err-at c = rw c.from_residual.ensures (not_indexed _ c.in_err-at.ensures)

pub returns-in_err-index : goal.returns-in_err-index
returns-in_err-index c =
    rw c.from_residual-in_err-index.ensures
    (indexed_is c.args.name.now c.split_at.result.0.now c.split_at-2.result.1.now c.in_ok-at.at c.in_ok-at.ensures
    c.split_at.ensures.front (c.split_at-2.ensures.back ∙ ap (drop 1) c.split_at.ensures.back)
    ∙ ap (index_in c.split_at.result.0.now) c.in_err-index.ensures)

pub returns-then-is_empty : goal.returns-then-is_empty
returns-then-is_empty c =
    indexed_is c.args.name.now c.split_at.result.0.now c.split_at-2.result.1.now c.in_ok-at.at c.in_ok-at.ensures
    c.split_at.ensures.front (c.split_at-2.ensures.back ∙ ap (drop 1) c.split_at.ensures.back)
    ∙ ap (index_in c.split_at.result.0.now) c.in_ok-index.ensures
    ∙ index_no_front _ _ _ (sym c.if-is_empty.ensures)

pub returns-then-not-is_empty : goal.returns-then-not-is_empty
returns-then-not-is_empty c =
    indexed_is c.args.name.now c.split_at.result.0.now c.split_at-2.result.1.now c.in_ok-at.at c.in_ok-at.ensures
    c.split_at.ensures.front (c.split_at-2.ensures.back ∙ ap (drop 1) c.split_at.ensures.back)
    ∙ ap (index_in c.split_at.result.0.now) c.in_ok-index.ensures
    ∙ index_more _ _ _ (sym c.if-not-is_empty.ensures)

pub returns-then-index-ge-INDEX_END : goal.returns-then-index-ge-INDEX_END
returns-then-index-ge-INDEX_END c =
    indexed_is c.args.name.now c.split_at.result.0.now c.split_at-2.result.1.now c.in_ok-at.at c.in_ok-at.ensures
    c.split_at.ensures.front (c.split_at-2.ensures.back ∙ ap (drop 1) c.split_at.ensures.back)
    ∙ ap (index_in c.split_at.result.0.now) c.in_ok-index.ensures
    ∙ index_large c.split_at.result.0.now c.in_ok-index.after.now _ c.if-index-ge-INDEX_END.true

pub returns : goal.returns
returns c = (
  indexed_is c.args.name.now c.split_at.result.0.now c.split_at-2.result.1.now c.in_ok-at.at c.in_ok-at.ensures
      c.split_at.ensures.front (c.split_at-2.ensures.back ∙ ap (drop 1) c.split_at.ensures.back)
      ∙ ap (index_in c.split_at.result.0.now) c.in_ok-index.ensures
      ∙ index_good _ _ _ (sym c.if-is_empty.ensures) (sym c.if-not-is_empty.ensures) c.if-index-ge-INDEX_END.false,
  c.if-index-ge-INDEX_END.false,
)
