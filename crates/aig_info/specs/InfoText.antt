-- The text of what is counted of a circuit: a line for each number, with its name (this project's profile), or a JSON
-- object (RFC 8259) with a field for each.
use Rattle.std.specs.Prelude.{◌-◌, ℕ, List, [], ◌∷◌, ◌++◌, codes, decimal}
use Rattle.std.specs.List.{flat_map}
use Rattle.aig_info.specs.declared.info.Info.{Info}
use Rattle.aig_info.specs.declared.info.Sizes.{Sizes}
use Rattle.aig_info.specs.declared.info.Used.{Used}
use Rattle.aig_info.specs.declared.writer.Form.{Form}
use Rattle.aig_info.specs.declared.writer.Form.TheVariants.{Lines, Json}

-- the numbers of the header after the first, each with its name
abbrev pub size_rows : Sizes → List (List ℕ × ℕ)
size_rows s = (codes "inputs", s.inputs) ∷ (codes "latches", s.latches) ∷ (codes "outputs", s.outputs)
    ∷ (codes "gates", s.gates) ∷ (codes "bad", s.bad) ∷ (codes "constraints", s.constraints)
    ∷ (codes "justice", s.justice) ∷ (codes "fairness", s.fairness) ∷ []

-- the numbers that no header has
abbrev pub other_rows : Info → List (List ℕ × ℕ)
other_rows i = (codes "latches_at_one", i.ones) ∷ (codes "uninitialised_latches", i.uninitialised)
    ∷ (codes "symbols", i.symbols) ∷ (codes "comment_bytes", i.comment) ∷ (codes "levels", i.levels) ∷ []

-- what is used, and what is not
abbrev pub use_rows : Sizes → Used → List (List ℕ × ℕ)
use_rows s u = (codes "used_inputs", u.inputs) ∷ (codes "used_latches", u.latches) ∷ (codes "used_gates", u.gates)
    ∷ (codes "unused_inputs", s.inputs - u.inputs) ∷ (codes "unused_latches", s.latches - u.latches)
    ∷ (codes "unused_gates", s.gates - u.gates) ∷ []

-- the first number: as a line, and as the first field of an object
abbrev pub head_line : ℕ → List ℕ
head_line number = codes "max_var " ++ (decimal number ++ codes "\n")

abbrev pub head_field : ℕ → List ℕ
head_field number = codes "{\"max_var\":" ++ decimal number

abbrev pub head_text : Form → ℕ → List ℕ
head_text Lines number = head_line number
head_text Json number = head_field number

-- each other
abbrev pub line_text : List ℕ → ℕ → List ℕ
line_text name number = name ++ (codes " " ++ (decimal number ++ codes "\n"))

abbrev pub field_text : List ℕ → ℕ → List ℕ
field_text name number = codes ",\"" ++ (name ++ (codes "\":" ++ decimal number))

abbrev pub row_text : Form → List ℕ × ℕ → List ℕ
row_text Lines row = line_text row.0 row.1
row_text Json row = field_text row.0 row.1

abbrev pub rows_text : Form → List (List ℕ × ℕ) → List ℕ
rows_text form rows = flat_map (row_text form) rows

abbrev pub end_text : Form → List ℕ
end_text Lines = []
end_text Json = codes "}\n"

-- the whole
unfoldable pub info_text : Form → Info → List ℕ
info_text form i = head_text form i.sizes.max_var ++ (rows_text form (size_rows i.sizes)
    ++ (rows_text form (other_rows i) ++ (rows_text form (use_rows i.sizes i.used) ++ end_text form)))
