use Rattle.std.proofs.Common.{◌≡◌, ◌+◌, ◌*◌, ◌/◌, ◌%◌, ◌^◌, ◌-◌, ◌<◌, ◌∙◌, ℕ, ap, arith, inl, inr}
use Rattle.std.proofs.lemmas.Bool.{cases_lt}
use Rattle.aig_lanes.specs.Parts.InputBits.{word_at}
use Rattle.aig_lanes.proofs.input_planes.put_squares.Goals as goal

pub loop-eight-preserved : goal.loop-eight-preserved
loop-eight-preserved c =
    let first = 8 * c.loop-eight.eight in
    let word_of = λ (n : ℕ). word_at n c.args.step c.args.bits.now in
    record {
      bytes = λ k less. elim (cases_lt k first) [
        | inl before ↦
            let was = c.loop-eight.invariant.bytes k before in
            record {
              one = λ i in_word. c.put_square.ensures.lanes i k before ∙ was.one i in_word;
              zero = λ i in_word. c.put_square-in-loop-eight.ensures.lanes i k before ∙ was.zero i in_word;
            }
        | inr behind ↦
            let r = k - first in
            let row : r < 8 = omega (arith, behind, less) in
            let to : k < first + 8 = omega (arith, less) in
            let at : first + r ≡ k = omega (arith, behind) in
            record {
              one = λ i in_word.
                  c.put_square.ensures.own i k in_word behind to
                  ∙ ap (λ (n : ℕ). n / 256 ^ i % 256)
                  (c.rows_at.ensures.ones r row ∙ ap (λ (n : ℕ). (word_of n).one) at);
              zero = λ i in_word.
                  c.put_square-in-loop-eight.ensures.own i k in_word behind to
                  ∙ ap (λ (n : ℕ). n / 256 ^ i % 256)
                  (c.rows_at.ensures.zeros r row ∙ ap (λ (n : ℕ). (word_of n).zero) at);
            }
      ];
      ones = c.put_square.ensures.size;
      zeros = c.put_square-in-loop-eight.ensures.size;
    }
