-- What is counted of a circuit.
use Rattle.std.specs.Prelude.{◌≡◌, ℕ, List, Bool, true, false, Option, None, Some, count_by, length}
use Rattle.std.specs.List.{concat}
use Rattle.std.specs.Ordering.{nat_cmp}
use Rattle.std.specs.FinSet as set
use Rattle.aig_circuit.specs.declared.circuit.Latch.{Latch}
use Rattle.aig_circuit.specs.declared.circuit.Circuit.{Circuit}
use Rattle.aig_circuit.specs.declared.circuit.Reset.{Reset}
use Rattle.aig_circuit.specs.declared.circuit.Reset.TheVariants.{Zero, One, Uninit}
use Rattle.aig_circuit.specs.Wellformed.{literal_lists}
use Rattle.aig_cone.specs.Cone.{IsConeOf}
use Rattle.aig_cone.specs.Counts.{gates_in, inputs_in, latches_in}
use Rattle.aig_cone.specs.declared.search.Reach.TheVariants.{AllSteps}
use Rattle.aig_info.specs.declared.info.Info.{Info}
use Rattle.aig_info.specs.declared.info.Sizes.{Sizes}
use Rattle.aig_info.specs.declared.info.Used.{Used}
use Rattle.aig_info.specs.Depth.{IsDepth}

-- the numbers of a file's header, in its order
abbrev pub sizes_of : Circuit → Sizes
sizes_of c = record {
  max_var = c.max_var;
  inputs = length c.inputs;
  latches = length c.latches;
  outputs = length c.outputs;
  gates = length c.gates;
  bad = length c.bad;
  constraints = length c.constraints;
  justice = length c.justice.sizes;
  fairness = length c.fairness;
}

abbrev pub is_one : Reset → Bool
is_one Zero = false
is_one One = true
is_one Uninit = false

abbrev pub is_uninitialised : Reset → Bool
is_uninitialised Zero = false
is_uninitialised One = false
is_uninitialised Uninit = true

-- how many latches start so
abbrev pub latches_starting : (Reset → Bool) → Circuit → ℕ
latches_starting so c = count_by (λ (l : Latch). so l.reset) c.latches

-- how many bytes the comment has: none where there is no comment
abbrev pub comment_size : Option (List ℕ) → ℕ
comment_size None = 0
comment_size (Some bytes) = length bytes

-- how many inputs, latches and gates the set has
abbrev pub counts_in : set.FinSet nat_cmp → Circuit → Used
counts_in variables c = record {
  inputs = inputs_in variables c.inputs;
  latches = latches_in variables c.latches;
  gates = gates_in variables c.gates;
}

-- Of those, how many are used: an output, a bad state, a constraint, a justice property or a fairness constraint
-- depends on them, in some step.
abbrev pub IsUsedOf : Circuit → Used → Type 0
IsUsedOf c used = (cone : set.FinSet nat_cmp) × IsConeOf AllSteps c (concat (literal_lists c)) cone
    × (used ≡ counts_in cone c)

-- what is counted of the circuit, where it has so many levels and these are used
abbrev pub info_with : Circuit → ℕ → Used → Info
info_with c levels used = record {
  sizes = sizes_of c;
  ones = latches_starting is_one c;
  uninitialised = latches_starting is_uninitialised c;
  symbols = length c.symbols;
  comment = comment_size c.comment;
  levels = levels;
  used = used;
}

-- the numbers are those of the circuit
abbrev pub IsInfoOf : Circuit → Info → Type 0
IsInfoOf c info = (levels : ℕ) × (used : Used) × IsDepth c levels × IsUsedOf c used × (info ≡ info_with c levels used)
