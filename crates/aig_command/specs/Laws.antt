-- What the definitions of this crate say of one another.
use Rattle.std.specs.Prelude.{List, IfSome}
use Rattle.clap.specs.Words.{Text}
use Rattle.aig_command.specs.Asked.{AsksWithinLimits, command_of}

-- where `clap` finds nothing wrong with the arguments, the numbers that they ask for are within their limits
abbrev pub NumbersAreWithinLimits : Type 0
NumbersAreWithinLimits = (words : List Text) → IfSome (command_of words) AsksWithinLimits
