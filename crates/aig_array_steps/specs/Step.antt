-- One step of a circuit whose words are in order, over the bytes of its values (this project's interface for C; what a
-- step is stands in `Meaning`).
use Rattle.std.specs.Prelude.{◌≡◌, ◌⊎◌, ◌+◌, ◌<◌, ◌≤◌, ◌++◌, ℕ, List, [], None, length, map, take, drop, slice_index}
use Rattle.std.specs.Prelude.{true}
use Rattle.std.specs.List.{range_with_len}
use Rattle.aig_arrays.specs.Decoded.{are_in_range}
use Rattle.aig_arrays.specs.Words.{counts_of, section_length, section_words}
use Rattle.aig_arrays.specs.declared.counts.Counts.{Counts}
use Rattle.aig_checked.specs.BinaryOrder.{IsNumberedInOrder}
use Rattle.aig_circuit.specs.Wellformed.{IsWellFormed}
use Rattle.aig_circuit.specs.declared.circuit.Circuit.{Circuit}
use Rattle.aig_circuit.specs.declared.value.Val.{Val}
use Rattle.aig_circuit.specs.declared.value.Val.TheVariants.{Zero, One, X}
use Rattle.aig_fault.specs.Stopping.{fault_at}
use Rattle.aig_fault.specs.declared.fault.Fault.{Fault}
use Rattle.aig_fault.specs.declared.fault.Place.TheVariants.{Value, Whole}
use Rattle.aig_fault.specs.declared.kind.Kind.TheVariants as kinds
use Rattle.aig_meaning.specs.Meaning.{IsStepAssignment, literal_value, next_literals}

-- the byte of a value
abbrev pub value_byte : Val → ℕ
value_byte Zero = 0
value_byte One = 1
value_byte X = 2

-- The words begin with those of the sections of a circuit whose variables are numbered in order, and which has these
-- counts, but for symbols and a comment: these are not looked at.
pub record TellsNumbered (n : Counts) (words : List ℕ) (c : Circuit) : Type 0 where
  pub well_formed : IsWellFormed c
  pub numbered : IsNumberedInOrder c
  pub bare : (c.symbols ≡ []) × (c.comment ≡ None)
  pub counts : record n { symbols = 0; has_comment = 0; name_bytes = 0; comment_bytes = 0 } ≡ counts_of c
  pub words_are : take (section_length n) words ≡ section_words c

-- how many values are given, and how many bytes of values there are: of the constant and each variable, then of
-- outputs, bad states, constraints and the next state
abbrev pub given_length : Counts → ℕ
given_length n = n.inputs + n.latches

abbrev pub values_length : Counts → ℕ
values_length n = 1 + n.max_var + n.outputs + n.bad + n.constraints + n.latches

-- the bytes of all values, where variables have these
abbrev pub value_bytes : Circuit → (ℕ → Val) → List ℕ
value_bytes c a =
    map value_byte (map a (range_with_len 0 (1 + c.max_var))
    ++ map (literal_value a) (c.outputs ++ c.bad ++ c.constraints ++ next_literals c))

-- The bytes of inputs and state stand after the first, and all bytes are now those of a step from there.
pub record IsStepped (c : Circuit) (before after : List ℕ) : Type 0 where
  pub a : ℕ → Val
  pub given : List Val
  pub state : List Val
  pub assigned : IsStepAssignment c state given a
  pub was : take (length c.inputs + length c.latches) (drop 1 before) ≡ map value_byte (given ++ state)
  pub is : after ≡ value_bytes c a ++ drop (length (value_bytes c a)) before

-- the counts are in range, and there are as many words as they say of the sections
abbrev pub HasSections : Counts → List ℕ → Type 0
HasSections n words = (are_in_range n ≡ true) × (section_length n ≤ length words)

-- the first given byte that is none of a value
pub record IsBadValue (n : Counts) (values : List ℕ) (place : ℕ) : Type 0 where
  pub given : (1 ≤ place) × (place ≤ given_length n)
  pub bad : 2 < slice_index values place
  pub first : (i : ℕ) → 1 ≤ i → i < place → slice_index values i ≤ 2

-- some circuit is decoded
abbrev pub IsDecoded : Counts → List ℕ → Type 0
IsDecoded n words = (c : Circuit) × TellsNumbered n words c

-- the values are now those of a step of a circuit that the words tell
pub record IsStepOf (n : Counts) (words before after : List ℕ) : Type 0 where
  pub c : Circuit
  pub tells : TellsNumbered n words c
  pub stepped : IsStepped c before after
  pub sections : HasSections n words

-- the words tell a circuit, and there is no room for its values
abbrev pub HasNoRoom : Counts → (words values : List ℕ) → Type 0
HasNoRoom n words values = HasSections n words × IsDecoded n words × (length values < values_length n)

-- what is known of the first fault
abbrev pub IsFault : Counts → (words values : List ℕ) → Fault → Type 0
IsFault n words values fault =
    ((fault ≡ fault_at kinds.BadCounts Whole 0) × (¬ HasSections n words))
    ⊎ ((fault ≡ fault_at kinds.NotOrdered Whole 0) × HasSections n words × (¬ IsDecoded n words))
    ⊎ ((place : ℕ) × (fault ≡ fault_at kinds.BadValue (Value place) 0) × HasSections n words × IsDecoded n words
    × (values_length n ≤ length values) × IsBadValue n values place)
