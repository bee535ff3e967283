use Rattle.std.proofs.Common.{◌≡◌, take, true}
use Rattle.std.specs.List.{list_all}
use Rattle.aig_rows.specs.Spelling.{is_digit, value_of}
use Rattle.aig_witness.proofs.witness_line.digits_below.Given as goal

abbrev pub invariant-loop-digit : goal.invariant-loop-digit
invariant-loop-digit l =
    (list_all is_digit (take l.digit-index l.text) ≡ true) × (l.value ≡ value_of (take l.digit-index l.text))
