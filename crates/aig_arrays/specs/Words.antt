-- A circuit as words of 32 bits and as bytes (this project's interface for C): its entries as rows of an ASCII file,
-- then its symbols; and the bytes of their names, then of the comment.
use Rattle.std.specs.Prelude.{◌+◌, ◌*◌, ◌++◌, ◌<◌, ◌^◌, ℕ, List, [], ◌∷◌, length, if◌then◌else◌}
use Rattle.std.specs.List.{concat, flat_map}
use Rattle.std.specs.Option.{is_some, unwrap_or}
use Rattle.aig_circuit.specs.declared.circuit.Circuit.{Circuit}
use Rattle.aig_circuit.specs.declared.circuit.Kind.{Kind}
use Rattle.aig_circuit.specs.declared.circuit.Kind.TheVariants as kinds
use Rattle.aig_circuit.specs.declared.circuit.Symbol.{Symbol}
use Rattle.aig_text.specs.Sections.{in_ascii, sections}
use Rattle.aig_text.specs.declared.section.Section.{Section}
pub use Rattle.aig_arrays.specs.declared.counts.Counts.{Counts}

-- the words of sections: each entry as its row in an ASCII file, where no number is left out
abbrev pub words_in : List Section → Circuit → List ℕ
words_in ss c = flat_map (λ s. concat ((in_ascii s).rows c)) ss

-- the words of all sections, in the order of an ASCII file
abbrev pub section_words : Circuit → List ℕ
section_words c = words_in sections c

-- what a symbol names, by the order of an ASCII file
abbrev pub kind_word : Kind → ℕ
kind_word kinds.Input = 0
kind_word kinds.Latch = 1
kind_word kinds.Output = 2
kind_word kinds.Bad = 3
kind_word kinds.Constraint = 4
kind_word kinds.Justice = 5
kind_word kinds.Fairness = 6

-- four words for a symbol: its kind, its position, where its name begins among the names, and how long that is
abbrev pub symbol_row : ℕ → Symbol → List ℕ
symbol_row start s = kind_word s.kind ∷ s.position ∷ start ∷ length s.name ∷ []

-- the words of symbols whose names stand end to end, the first one here
unfoldable pub symbol_words : ℕ → List Symbol → List ℕ
symbol_words start [] = []
symbol_words start (s ∷ ss) = symbol_row start s ++ symbol_words (start + length s.name) ss

abbrev pub circuit_words : Circuit → List ℕ
circuit_words c = section_words c ++ symbol_words 0 c.symbols

-- the bytes of all names
abbrev pub names_of : Circuit → List ℕ
names_of c = flat_map (λ (s : Symbol). s.name) c.symbols

-- the bytes of the comment, where there is one
abbrev pub comment_of : Circuit → List ℕ
comment_of c = unwrap_or c.comment []

abbrev pub circuit_bytes : Circuit → List ℕ
circuit_bytes c = names_of c ++ comment_of c

-- how many of each there are
abbrev pub counts_of : Circuit → Counts
counts_of c = record {
  max_var = c.max_var;
  inputs = length c.inputs;
  latches = length c.latches;
  outputs = length c.outputs;
  bad = length c.bad;
  constraints = length c.constraints;
  justice = length c.justice.sizes;
  justice_literals = length c.justice.literals;
  fairness = length c.fairness;
  gates = length c.gates;
  symbols = length c.symbols;
  has_comment = if is_some c.comment then 1 else 0;
  name_bytes = length (names_of c);
  comment_bytes = length (comment_of c);
}

-- how many words the sections have by these counts, and all with the symbols; and how many bytes there are
abbrev pub section_length : Counts → ℕ
section_length n =
    n.inputs + 3 * n.latches + n.outputs + n.bad + n.constraints + n.justice + n.justice_literals + n.fairness
    + 3 * n.gates

abbrev pub words_length : Counts → ℕ
words_length n = section_length n + 4 * n.symbols

abbrev pub bytes_length : Counts → ℕ
bytes_length n = n.name_bytes + n.comment_bytes

-- the symbols can be counted, and the places of their names told, in words of 32 bits
abbrev pub HasWords : Circuit → Type 0
HasWords c = (length c.symbols < 2 ^ 32) × (length (names_of c) < 2 ^ 32)
