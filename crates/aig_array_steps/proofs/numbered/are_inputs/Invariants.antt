use Rattle.std.proofs.Common.{◌≡◌, ◌↔◌, ◌+◌, drop}
use Rattle.aig_checked.specs.Parts.Numbered.{AreNumbered}
use Rattle.aig_array_steps.specs.Parts.Words.{IsInputWord}
use Rattle.aig_array_steps.proofs.numbered.are_inputs.Given as goal

abbrev pub invariant-loop-word : goal.invariant-loop-word
invariant-loop-word l = record {
  place : l.variable ≡ 1 + l.word-index;
  left : AreNumbered IsInputWord l.variable (drop l.word-index l.words) ↔ AreNumbered IsInputWord 1 l.words;
}
