-- Sets of numbers that are kept as tables of bits.
use Rattle.std.specs.Prelude.{ℕ, ◌==◌, ◌/◌, ◌%◌, List, Bool, slice_index_or}
use Rattle.std.specs.Int.{bit_at}

-- whether the number's bit is set, 64 of them to a word
abbrev pub is_marked : List ℕ → ℕ → Bool
is_marked words number = bit_at (slice_index_or words (number / 64) 0) (number % 64) == 1
