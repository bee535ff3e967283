-- What is read at once, in place of byte by byte.
use Rattle.std.specs.Prelude.{◌==◌, ℕ, List, [], ◌∷◌, Bool, Some, false, if◌then◌else◌}
use Rattle.aig_answer.specs.declared.reader.Reader.{Reader}
use Rattle.aig_answer.specs.declared.reader.Spot.TheVariants.{Space}
use Rattle.aig_answer.specs.declared.reader.Status.TheVariants.{Satisfiable}
use Rattle.aig_answer.specs.Answer.{on_next_line, standing_at}

-- after a space in this line, where a number may begin
abbrev pub awaiting : ℕ → Reader
awaiting line = record { spot = Space; status = Some Satisfiable; ended = false; line = line }

-- behind a value and the space or line feed after it
abbrev pub behind_value : Reader → ℕ → Reader
behind_value r stop = if stop == 10 then on_next_line r else standing_at r Space

abbrev pub begins_with_minus : List ℕ → Bool
begins_with_minus [] = false
begins_with_minus (b ∷ bytes) = b == 45
