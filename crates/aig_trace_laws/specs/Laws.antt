-- What the definitions of a trace's text say of one another.
use Rattle.std.specs.Prelude.{◌≡◌, ◌≢◌, ◌⊎◌, ◌↔◌, ℕ, List, Bool}
use Rattle.std.specs.List.{AllZip}
use Rattle.aig_circuit.specs.declared.circuit.Circuit.{Circuit}
use Rattle.aig_circuit.specs.Wellformed.{IsWellFormed}
use Rattle.aig_meaning.specs.Meaning.{MeansTheSame}
use Rattle.aig_step.specs.declared.trace.Columns.{Columns}
use Rattle.aig_step.specs.Outcome.{first_bad_line}
use Rattle.aig_step.specs.TraceText.{IsTraceText}

-- a stimulus has exactly one trace text over a well-formed circuit, whatever its bytes are
abbrev pub OneTraceText : Type 0
OneTraceText = (c : Circuit) (columns : Columns) (bytes : List ℕ) (ended : Bool) → IsWellFormed c
    → (text : List ℕ) × IsTraceText c columns bytes ended text
    × ((other : List ℕ) → IsTraceText c columns bytes ended other → other ≡ text)

-- circuits that mean the same have the same trace texts, and find the same lines bad
abbrev pub SameMeaningSameText : Type 0
SameMeaningSameText = (c d : Circuit) → MeansTheSame c d
    → (columns : Columns) (bytes : List ℕ) (ended : Bool)
    → (first_bad_line d bytes ended ≡ first_bad_line c bytes ended)
    × ((text : List ℕ) → IsTraceText c columns bytes ended text ↔ IsTraceText d columns bytes ended text)

-- the same character, or 0 or 1 in the place of x
abbrev pub IsAsKnown : ℕ → ℕ → Type 0
IsAsKnown before after = (after ≡ before) ⊎ ((before ≡ 120) × ((after ≡ 48) ⊎ (after ≡ 49)))

-- where characters x of a stimulus become 0 or 1, the same line is bad, and each character of the trace text that is
-- not x stays
abbrev pub KnownCharactersStay : Type 0
KnownCharactersStay = (c : Circuit) (columns : Columns) (bytes known : List ℕ) (ended : Bool) → IsWellFormed c
    → AllZip IsAsKnown bytes known
    → (first_bad_line c known ended ≡ first_bad_line c bytes ended)
    × ((text other : List ℕ) → IsTraceText c columns bytes ended text → IsTraceText c columns known ended other
    → AllZip (λ (before after : ℕ). before ≢ 120 → after ≡ before) text other)
