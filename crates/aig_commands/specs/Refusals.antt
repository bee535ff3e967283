-- Why what the arguments speak of cannot be had of a circuit that was read, in words (this project's profile).
use Rattle.std.specs.Prelude.{◌++◌, ℕ, List, codes, decimal}
use Rattle.aig_circuit.specs.declared.circuit.Kind.{Kind}
use Rattle.aig_circuit.specs.declared.circuit.Kind.TheVariants as kinds
use Rattle.aig_commands.specs.declared.refusal.Refusal.{Refusal}
use Rattle.aig_commands.specs.declared.refusal.Refusal.TheVariants as refusals

-- the words before the position of what is not there
abbrev pub missing_words : Kind → List ℕ
missing_words kinds.Input = codes "no input "
missing_words kinds.Latch = codes "no latch "
missing_words kinds.Output = codes "no output "
missing_words kinds.Bad = codes "no bad state "
missing_words kinds.Constraint = codes "no constraint "
missing_words kinds.Justice = codes "no justice property "
missing_words kinds.Fairness = codes "no fairness constraint "

abbrev pub refusal_text : Refusal → List ℕ
refusal_text (refusals.NotThere kind position) = missing_words kind ++ decimal position
refusal_text (refusals.TooManyGates gates) =
    decimal gates ++ codes " gates, more than --gates; draw less with --cone, or raise --gates"
