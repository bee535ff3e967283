-- Indices that are announced, each with a place of its own: how many smaller ones are announced.
use Rattle.std.specs.Prelude.{ℕ, ◌==◌, ◌+◌, ◌/◌, ◌%◌, ◌^◌, ◌<◌, ◌≤◌, List, Bool, slice_index_or, count_ones}
use Rattle.std.specs.Int.{bit_at}
use Rattle.aig_tables.specs.declared.var_map.ranks.Word.{Word}

-- a word, where none is past the last one
abbrev pub word_at : List Word → ℕ → Word
word_at words at = slice_index_or words at (record { bits = 0; before = 0 })

-- whether an index is announced: its bit is set
abbrev pub is_announced : List Word → ℕ → Bool
is_announced words index = bit_at (word_at words (index / 32)).bits (index % 32) == 1

-- the place of an index: what is counted before its word, and in the word before its bit
abbrev pub rank_of : List Word → ℕ → ℕ
rank_of words index =
    (word_at words (index / 32)).before + count_ones ((word_at words (index / 32)).bits % 2 ^ (index % 32))

-- how far the places of a word's indices go
abbrev pub end_of : Word → ℕ
end_of word = word.before + count_ones word.bits

-- of the first so many words the places are after those of the words before, and below the count
pub record IsRanking (words : List Word) (many count : ℕ) : Type 0 where
  pub behind : (v w : ℕ) → v < w → w < many → end_of (word_at words v) ≤ (word_at words w).before
  pub below : (w : ℕ) → w < many → end_of (word_at words w) ≤ count
