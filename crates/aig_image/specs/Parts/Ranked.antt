-- Ranks of variables, by which numbers are kept.
use Rattle.std.specs.Prelude.{◌+◌, ◌==◌, ◌≤◌, ℕ, if◌then◌else◌}
use Rattle.aig_tables.specs.Parts.Ranks.{is_announced, rank_of}
use Rattle.aig_tables.specs.declared.var_map.ranks.Ranks.{Ranks}

-- a variable's rank, counted from 1; 0 of the constant, and one above all of a variable that has none
abbrev pub rank_label : Ranks → ℕ → ℕ
rank_label r v =
    if is_announced r.words.items v then 1 + rank_of r.words.items v
    else if v == 0 then 0 else 1 + r.count

-- it is no more than there are ranks
abbrev pub HasRank : Ranks → ℕ → Type 0
HasRank r v = rank_label r v ≤ r.count
