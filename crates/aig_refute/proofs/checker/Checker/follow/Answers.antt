use Rattle.std.proofs.Common.{rules, ◌≡◌, ◌<◌, ◌+◌, ◌++◌, [], ◌∷◌, ◌∙◌, arith, false, fold, length, List, ℕ, subst}
use Rattle.std.proofs.Common.{sym, take}
use Rattle.std.specs.Prelude.{slice_index}
use Rattle.std.proofs.lemmas.Grind.{common_steps}
use Rattle.std.proofs.lemmas.List.Sums.{fold_more}
use Rattle.aig_refute.specs.Refuted.{AreInLines, Followed, HaveCome, followed, is_refuted}
use Rattle.aig_refute.proofs.Followed.{in_lines_more}
use Rattle.aig_refute.proofs.Kept.{keeps_both}
use Rattle.aig_refute.proofs.Taken.{wrong_piece}
use Rattle.aig_refute.proofs.checker.Checker.follow.Goals as goal

pub returns-in_err-follow_byte-clause-err : goal.returns-in_err-follow_byte-clause-err
returns-in_err-follow_byte-clause-err c =
    let still : is_refuted c.args.self.now ≡ false = sym c.is_refuted.ensures.is ∙ c.if-is_refuted.false in
    let wrong = wrong_piece c.args.piece.now c.loop-k.k c.args.reader.now c.loop-k.reader c.args.self.now c.loop-k.self
    c.in_err-follow_byte.field-0.0 (omega arith) still (λ given f come. (c.loop-k.invariant.2 given f come).1)
    c.in_err-follow_byte.ensures.err in
    search (rules, wrong)

pub loop-k-preserved : goal.loop-k-preserved
loop-k-preserved c = (
  keeps_both _ _ _ c.loop-k.invariant.0 c.in_ok-follow_byte.ensures.keeps,
  sym c.is_refuted-in-loop-k.ensures.is ∙ c.if-is_refuted-2.false,
  λ given f come.
      let piece : List ℕ = c.args.piece.now in
      let k : ℕ = c.loop-k.k in
      let byte : ℕ = slice_index piece k in
      let inside : k < length piece = omega arith in
      let before = c.loop-k.invariant.2 given f come in
      let step = c.in_ok-follow_byte.ensures.followed given (fold followed f (take k piece)) before.1 in
      let more : take (k + 1) piece ≡ take k piece ++ byte ∷ [] = grind (arith, common_steps) in (
        in_lines_more f piece k byte before.0 step.0 more,
        subst (λ (g : Followed). HaveCome given g c.follow_byte.new.reader c.follow_byte.new.self)
            (sym (fold_more followed f piece k 0 inside)) step.1,
      ),
)

pub returns-clause-followed : goal.returns-clause-followed
returns-clause-followed c = λ still given f come.
    let piece : List ℕ = c.args.piece.now in
    let all : take c.loop-k.k piece ≡ piece = grind (arith, common_steps) in
    subst (λ (bytes : List ℕ). AreInLines f bytes × HaveCome given (fold followed f bytes) c.loop-k.reader
    c.loop-k.self)
    all (c.loop-k.invariant.2 given f come)
