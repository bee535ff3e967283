-- The numbers of include/aigtools.h (this project's interface for C), but those of the kinds, which `kind_number` has.
use Rattle.std.specs.Prelude.{ℕ}

-- how a call ended
abbrev pub done : ℕ
done = 0

abbrev pub too_short : ℕ
too_short = 1

abbrev pub refused : ℕ
refused = 2

abbrev pub out_of_memory : ℕ
out_of_memory = 3

abbrev pub bad_options : ℕ
bad_options = 4

abbrev pub not_confirmed : ℕ
not_confirmed = 5

abbrev pub second_refused : ℕ
second_refused = 6

-- where an input is wrong
abbrev pub whole : ℕ
whole = 0

abbrev pub line : ℕ
line = 1

abbrev pub gate : ℕ
gate = 2

abbrev pub map_line : ℕ
map_line = 3

abbrev pub word : ℕ
word = 4

abbrev pub value : ℕ
value = 5

abbrev pub input : ℕ
input = 6

abbrev pub output : ℕ
output = 7

abbrev pub bad : ℕ
bad = 8

-- the options, a bit each
abbrev pub ascii : ℕ
ascii = 1

abbrev pub strip : ℕ
strip = 2

abbrev pub keep_map : ℕ
keep_map = 4

abbrev pub undo_map : ℕ
undo_map = 8

abbrev pub properties : ℕ
properties = 16

abbrev pub vcd : ℕ
vcd = 32

abbrev pub outputs_as_bad : ℕ
outputs_as_bad = 64

abbrev pub ordered : ℕ
ordered = 128

abbrev pub by_name : ℕ
by_name = 256

abbrev pub simplify : ℕ
simplify = 512

-- with the limit of a call for clauses added: they are those of the simplified circuit
abbrev pub simplified : ℕ
simplified = 2147483648

-- in the place of the number of a bad state: all of them
abbrev pub all_bad : ℕ
all_bad = 4294967295

-- with the number of a justice property added: that property in the place of a bad state
abbrev pub justice : ℕ
justice = 2147483648
