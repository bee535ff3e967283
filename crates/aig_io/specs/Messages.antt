-- The words in which it is reported that a device failed (this project's profile).
use Rattle.std.specs.Prelude.{ℕ, List, codes}
use Rattle.aig_memory.specs.Text.{out_of_memory_text}
use Rattle.aig_io.specs.declared.transfer.ReadError.{ReadError}
use Rattle.aig_io.specs.declared.transfer.ReadError.TheVariants as errors

-- what is said where a source or a sink fails
abbrev pub cannot_read_text : List ℕ
cannot_read_text = codes "cannot read"

abbrev pub cannot_write_text : List ℕ
cannot_write_text = codes "cannot write"

-- why not all bytes of a source came
abbrev pub read_error_text : ReadError → List ℕ
read_error_text errors.Source = cannot_read_text
read_error_text errors.OutOfMemory = out_of_memory_text
