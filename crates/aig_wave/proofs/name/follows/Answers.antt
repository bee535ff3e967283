use Rattle.std.proofs.Common.{◌∙◌, ◌==◌, ◌+◌, ◌&&◌, ap, ap₂, sym}
use Rattle.aig_wave.specs.Names.{follows, indexed, is_next}
use Rattle.aig_wave.proofs.name.follows.Goals as goal

pub returns-in_default : goal.returns-in_default
unfolding follows
returns-in_default c = sym (ap (λ i. is_next i (indexed c.args.next.now)) c.in_default.ensures)

pub returns-in_default-split_index : goal.returns-in_default-split_index
unfolding follows
returns-in_default-split_index c = sym (ap₂ is_next c.in-Some.ensures.0 c.in_default-split_index.ensures)

pub returns-then-eq : goal.returns-then-eq
unfolding follows
returns-then-eq c =
    ap (λ same. same && (c.in-Some.index + 1 == c.in-Some-split_index.following)) c.if-eq.ensures
    ∙ sym (ap₂ is_next c.in-Some.ensures.0 c.in-Some-split_index.ensures.0)

pub returns-else-eq : goal.returns-else-eq
unfolding follows
returns-else-eq c =
    c.if-eq.false ∙ ap (λ same. same && (c.in-Some.index + 1 == c.in-Some-split_index.following)) c.if-eq.ensures
    ∙ sym (ap₂ is_next c.in-Some.ensures.0 c.in-Some-split_index.ensures.0)
