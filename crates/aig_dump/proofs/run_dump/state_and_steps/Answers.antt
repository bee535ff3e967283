use Rattle.std.proofs.Common.{◌∷◌}
use Rattle.aig_dump.proofs.run_dump.state_and_steps.Goals as goal

pub returns : goal.returns
returns c = λ one two three ls is.
    let behind = c.first_text.ensures one (two ∷ three ∷ ls) is in
    let behind_two = c.first_text-2.ensures two (three ∷ ls) behind.1 in
    c.first_text-3.ensures three ls behind_two.1
