use Rattle.std.proofs.Common.{◌*◌, ◌++◌, ◌∙◌, ap, List, ℕ}
use Rattle.aig_array_steps.specs.Parts.Words.{AreAsLong, SectionWords}
use Rattle.aig_array_steps.proofs.BySection.{begin_with, rejoined}
use Rattle.aig_array_steps.proofs.sections.cut.Goals as goal

pub returns-clause-sections : goal.returns-clause-sections
returns-clause-sections c =
    let n = c.args.counts.now in
    let s : SectionWords = record {
      inputs = c.split_at.result.0.now;
      latches = c.split_at-2.result.0.now;
      shown = c.split_at-3.result.0.now;
      sizes = c.split_at-4.result.0.now;
      unshown = c.split_at-5.result.0.now;
      gates = c.split_at-6.result.0.now;
    } in
    let long : AreAsLong n s = record {
      inputs = c.split_at.ensures.front_len;
      latches = c.split_at-2.ensures.front_len;
      shown = c.split_at-3.ensures.front_len ∙ c.shown_length.ensures;
      sizes = c.split_at-4.ensures.front_len;
      unshown = c.split_at-5.ensures.front_len ∙ c.unshown_length.ensures;
      gates = c.split_at-6.ensures.front_len;
    } in
    let one = rejoined n.inputs c.args.words.now s.inputs c.split_at.result.1.now c.split_at.ensures.front
    c.split_at.ensures.back in
    let two = rejoined (3 * n.latches) c.split_at.result.1.now s.latches c.split_at-2.result.1.now
    c.split_at-2.ensures.front c.split_at-2.ensures.back in
    let three = rejoined c.shown_length.result c.split_at-2.result.1.now s.shown c.split_at-3.result.1.now
    c.split_at-3.ensures.front c.split_at-3.ensures.back in
    let four = rejoined n.justice c.split_at-3.result.1.now s.sizes c.split_at-4.result.1.now c.split_at-4.ensures.front
    c.split_at-4.ensures.back in
    let five = rejoined c.unshown_length.result c.split_at-4.result.1.now s.unshown c.split_at-5.result.1.now
    c.split_at-5.ensures.front c.split_at-5.ensures.back in
    let six = rejoined (3 * n.gates) c.split_at-5.result.1.now s.gates c.split_at-6.result.1.now
    c.split_at-6.ensures.front c.split_at-6.ensures.back in
    record {
      long = long;
      words_are = begin_with n s c.args.words.now c.split_at-6.result.1.now long (
          one ∙ ap (λ (ws : List ℕ). s.inputs ++ ws) (two ∙ ap (λ (ws : List ℕ). s.latches ++ ws) (three
          ∙ ap (λ (ws : List ℕ). s.shown ++ ws) (four ∙ ap (λ (ws : List ℕ). s.sizes ++ ws) (five
          ∙ ap (λ (ws : List ℕ). s.unshown ++ ws) six))))
          );
    }
