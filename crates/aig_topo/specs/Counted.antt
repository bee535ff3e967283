-- How many steps were made (this project's statement of work).
use Rattle.std.specs.Prelude.{ℕ}

pub record Counted : Type 0 where
  pub count : ℕ
