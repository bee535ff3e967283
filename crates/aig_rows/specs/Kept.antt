-- Numbers of any length as a machine word keeps them.
use Rattle.std.specs.Prelude.{◌+◌, ◌%◌, ◌^◌, ℕ, List, map, nat_lt, Option, None, Some, if◌then◌else◌}

-- what is kept of a number: the number itself below 2^36, and of any other that it is that large and whether it is odd
abbrev pub kept : ℕ → ℕ
kept n = if nat_lt n (2 ^ 36) then n else 2 ^ 36 + n % 2

-- what is kept of numbers
abbrev pub kept_numbers : Option (List ℕ) → Option (List ℕ)
kept_numbers None = None
kept_numbers (Some ns) = Some (map kept ns)

-- what is kept of a number at the front, and what follows it
abbrev pub kept_first : Option (ℕ × List ℕ) → Option (ℕ × List ℕ)
kept_first None = None
kept_first (Some x) = Some (kept x.0, x.1)
