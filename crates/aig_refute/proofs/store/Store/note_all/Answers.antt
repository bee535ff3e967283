use Rattle.std.proofs.Common.{◌<◌, ◌+◌, ◌∙◌, ℕ, ap, arith, sym}
use Rattle.aig_refute.proofs.Spans.{noted_more}
use Rattle.aig_refute.proofs.store.Store.note_all.Goals as goal

pub loop-k-preserved : goal.loop-k-preserved
loop-k-preserved c =
    let some : 0 < c.args.end = omega arith in (
      c.note.ensures.words ∙ c.loop-k.invariant.0,
      c.note.ensures.base ∙ c.loop-k.invariant.1,
      noted_more c.args.self.now.base c.args.clause.now c.loop-k.k c.args.end c.loop-k.self.firsts.items
          c.loop-k.self.lasts.items c.note.new.self.firsts.items c.note.new.self.lasts.items some
          c.loop-k.invariant.2 c.note.ensures.wider
          (λ i is. c.note.ensures.noted c.if-not-note.false i (is ∙ ap (λ (b : ℕ). b + i) (sym c.loop-k.invariant.1))),
    )
