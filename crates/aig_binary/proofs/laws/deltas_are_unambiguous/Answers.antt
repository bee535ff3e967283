use Rattle.std.proofs.Common.{◌≡◌, ◌++◌, ◌∙◌, ℕ, List, sym, ap}
use Rattle.std.proofs.lemmas.List.{append_cancel_right}
use Rattle.aig_binary.specs.Delta.{delta_at}
use Rattle.aig_binary.proofs.Deltas.Reading.{delta_read}
use Rattle.aig_binary.proofs.laws.deltas_are_unambiguous.Goals as goal

pub returns : goal.returns
returns c = λ a b rest others value other h k e.
    let p = sym (delta_read a rest value h) ∙ ap delta_at e ∙ delta_read b others other k in
    let q : (value, rest) ≡ (other, others) = cc in (
      append_cancel_right a b rest (e ∙ ap (λ (r : List ℕ). b ++ r) (sym (ap (λ (t : ℕ × List ℕ). t.1) q))),
      ap (λ (t : ℕ × List ℕ). t.0) q,
    )
