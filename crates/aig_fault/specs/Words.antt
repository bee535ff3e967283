-- The number of each kind of fault and its words: the one place in specs where they stand (this project's profile).
use Rattle.std.specs.Prelude.{◌++◌, ◌==◌, ℕ, List, [], Option, None, Some, codes, decimal, find}
use Rattle.aig_fault.specs.declared.fault.Fault.{Fault}
use Rattle.aig_fault.specs.declared.fault.Place.{Place}
use Rattle.aig_fault.specs.declared.fault.Place.TheVariants as places
use Rattle.aig_fault.specs.declared.kind.Kind.{Kind}
use Rattle.aig_fault.specs.declared.kind.Kind.TheVariants as kinds
use Rattle.aig_fault.specs.declared.kind.TheConstants.{KINDS}
use Rattle.aig_fault.specs.declared.message.Message.{Message}

-- the digits of a number, where there is one
abbrev pub number_text : Option ℕ → List ℕ
number_text None = []
number_text (Some n) = decimal n

abbrev pub message_text : Message → List ℕ
message_text m = m.before.now ++ (number_text m.number ++ m.after.now)

-- words that name nothing, and words around what they name
abbrev pub plain : List ℕ → ℕ → List ℕ
plain words subject = words

abbrev pub around : (before after : List ℕ) → ℕ → List ℕ
around before after subject = before ++ (decimal subject ++ after)

-- each kind: the number that it has in include/aigtools.h, and its words, by what they name
abbrev pub kind_row : Kind → ℕ × (ℕ → List ℕ)
kind_row kinds.NotAiger = (1, plain (codes "not an AIGER file"))
kind_row kinds.BadHeader = (2, plain (codes "bad header"))
kind_row kinds.TooLarge = (3, plain (codes "number above the limit"))
kind_row kinds.BadLine = (4, plain (codes "bad line"))
kind_row kinds.NotVariable = (5, plain (codes "not a variable"))
kind_row kinds.LiteralRange = (6, plain (codes "literal out of range"))
kind_row kinds.BadReset = (7, plain (codes "bad reset"))
kind_row kinds.Truncated = (8, plain (codes "file ends too early"))
kind_row kinds.BadDelta = (9, plain (codes "bad delta"))
kind_row kinds.BadSymbol = (10, plain (codes "bad symbol line"))
kind_row kinds.SymbolRange = (11, plain (codes "symbol position out of range"))
kind_row kinds.SymbolTwice = (12, plain (codes "symbol given twice"))
kind_row kinds.Redefined = (13, around (codes "variable ") (codes " defined twice"))
kind_row kinds.Undefined = (14, around (codes "literal ") (codes " not defined"))
kind_row kinds.Cyclic = (15, around (codes "gate ") (codes " depends on a cycle"))
kind_row kinds.NotOrdered = (16, plain (codes "not in binary order"))
kind_row kinds.NoMap = (17, plain (codes "no map"))
kind_row kinds.BadMapLine = (18, plain (codes "bad line"))
kind_row kinds.MapMismatch = (19, plain (codes "map counts differ"))
kind_row kinds.MapForged = (20, plain (codes "map does not belong to this circuit"))
kind_row kinds.NotUnrollable = (21, plain (codes "justice or fairness cannot be unrolled"))
kind_row kinds.TooLargeUnrolled = (22, plain (codes "too large to unroll"))
kind_row kinds.BadStimulus = (23, plain (codes "bad stimulus line"))
kind_row kinds.BadWitness = (24, plain (codes "bad witness line"))
kind_row kinds.HasBad = (25, plain (codes "bad states are there already"))
kind_row kinds.NoBadStates = (26, plain (codes "no bad states"))
kind_row kinds.NoSuchBadState = (27, around (codes "no bad state ") [])
kind_row kinds.BadAnswer = (28, plain (codes "bad answer line"))
kind_row kinds.Unsatisfiable = (29, plain (codes "unsatisfiable"))
kind_row kinds.Unknown = (30, plain (codes "unknown"))
kind_row kinds.NotReached = (31, plain (codes "no bad state is reached"))
kind_row kinds.NoRefutation = (32, plain (codes "no refutation"))
kind_row kinds.BadRefutation = (33, plain (codes "bad line"))
kind_row kinds.DoesNotFollow = (34, plain (codes "does not follow"))
kind_row kinds.BadInvariant = (35, plain (codes "bad line"))
kind_row kinds.NotEachLatch = (36, plain (codes "not a character for each latch"))
kind_row kinds.MetAtStart = (37, plain (codes "met by a first state"))
kind_row kinds.TooLargeInvariant = (38, plain (codes "too large"))
kind_row kinds.BadCounts = (39, plain (codes "counts do not fit"))
kind_row kinds.BadValue = (40, plain (codes "neither 0, 1 nor 2"))
kind_row kinds.NotComparable = (41, plain (codes "justice or fairness cannot be compared"))
kind_row kinds.OtherInputs = (42, plain (codes "not as many inputs"))
kind_row kinds.OtherOutputs = (43, plain (codes "not as many outputs and bad states"))
kind_row kinds.TooLargeToCompare = (44, plain (codes "too large to compare"))
kind_row kinds.NoName = (45, plain (codes "no name"))
kind_row kinds.NameTwice = (46, plain (codes "name given twice"))
kind_row kinds.NoSuchName = (47, plain (codes "no such name in the other file"))
kind_row kinds.NoSuchJustice = (48, around (codes "no justice property ") [])
kind_row kinds.TooLargeJustice = (49, plain (codes "too large"))

abbrev pub kind_number : Kind → ℕ
kind_number kind = (kind_row kind).0

abbrev pub kind_text : Kind → ℕ → List ℕ
kind_text kind = (kind_row kind).1

-- the kind of this number, if there is one
abbrev pub kind_of_number : ℕ → Option Kind
kind_of_number number = find (λ kind. kind_number kind == number) KINDS

-- what the words of a fault at this place begin with
abbrev pub place_text : Place → List ℕ
place_text places.Whole = []
place_text (places.Line number) = around (codes "line ") (codes ": ") number
place_text (places.Gate number) = around (codes "gate ") (codes ": ") number
place_text (places.MapLine number) = around (codes "map line ") (codes ": ") number
place_text (places.Word number) = around (codes "word ") (codes ": ") number
place_text (places.Value number) = around (codes "value ") (codes ": ") number
place_text (places.Input number) = around (codes "input ") (codes ": ") number
place_text (places.Output number) = around (codes "output ") (codes ": ") number
place_text (places.Bad number) = around (codes "bad state ") (codes ": ") number

abbrev pub fault_text : Fault → List ℕ
fault_text fault = place_text fault.place ++ kind_text fault.kind fault.subject
