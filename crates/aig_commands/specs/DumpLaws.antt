-- What the definitions of dumps say of one another.
use Rattle.std.specs.Prelude.{◌≡◌, ◌↔◌, ◌≤◌, ◌^◌, ℕ, List, Bool, false, length}
use Rattle.aig_circuit.specs.declared.circuit.Circuit.{Circuit}
use Rattle.aig_circuit.specs.declared.circuit.TheConstants.{LARGEST}
use Rattle.aig_command.specs.declared.request.Sim.{Sim}
use Rattle.aig_command.specs.declared.request.BadStates.TheVariants.{Kept}
use Rattle.aig_command.specs.declared.request.ToAig.{ToAig}
use Rattle.aig_wave.specs.Wave.{wave_text}
use Rattle.aig_commands.specs.Conversion.{IsConversionText}
use Rattle.aig_commands.specs.File.{IsFileOf}
use Rattle.aig_commands.specs.Simulation.{IsDumpText}

-- A file and its conversion have one dump of each trace text, of a whole one and of one that was cut short: whatever
-- the conversion is, at the default limit, to ASCII or to binary, with the map or without, also one that undoes a map.
-- It only has to keep the symbols, and the outputs outputs.
abbrev pub ConversionsAreDumpedAlike : Type 0
ConversionsAreDumpedAlike = (request : ToAig) → request.bad_states ≡ Kept → request.strip ≡ false
    → request.max_var ≡ LARGEST
    → (file converted : List ℕ) → IsConversionText request file converted
    → (c d : Circuit) → IsFileOf file LARGEST c → IsFileOf converted LARGEST d
    → (text : List ℕ) (done : Bool) → wave_text d text done ≡ wave_text c text done

-- a model and a stimulus have one dump at most
abbrev pub DumpsAreUnambiguous : Type 0
DumpsAreUnambiguous = (request : Sim) (model stimulus dump other : List ℕ)
    → IsDumpText request model stimulus dump → IsDumpText request model stimulus other → dump ≡ other

-- A file and its conversion have the same dump of every stimulus, where either has one. So the same dump is written for
-- a file, for what it is converted to, and for what is undone from that.
abbrev pub DumpsAreKept : Type 0
DumpsAreKept = (request : ToAig) (before after : Sim) → request.bad_states ≡ Kept
    → request.strip ≡ false → request.max_var ≡ LARGEST
    → before.max_var ≡ LARGEST → after.max_var ≡ LARGEST
    → (file converted stimulus dump : List ℕ) → IsConversionText request file converted
    → IsDumpText before file stimulus dump ↔ IsDumpText after converted stimulus dump

-- A dump tells its trace: two stimuli of a model with one dump have one trace with the properties. No source gives a
-- longer stimulus.
abbrev pub DumpsTellTraces : Type 0
DumpsTellTraces = (request : Sim) (model stimulus other dump : List ℕ) (p : IsDumpText request model stimulus dump)
    (q : IsDumpText request model other dump) → length stimulus ≤ 2 ^ 62 → length other ≤ 2 ^ 62
    → p.trace ≡ q.trace
