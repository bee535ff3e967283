-- The words in which it is reported that memory was refused (this project's profile).
use Rattle.std.specs.Prelude.{ℕ, List, codes}

abbrev pub out_of_memory_text : List ℕ
out_of_memory_text = codes "out of memory"
