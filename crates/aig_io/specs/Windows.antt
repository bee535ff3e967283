-- What comes into a window over a source (this project's devices).
use Rattle.std.specs.Prelude.{◌≡◌, ◌++◌, ℕ, List, Bool, not}
use Rattle.aig_io.specs.Devices.{History, gave}

-- more bytes came, or the source is at its end; they are held after the others
pub record Filled (before after : List ℕ) (more : Bool) (source source_now : History) : Type 0 where
  pub given : List ℕ
  pub held : after ≡ before ++ given
  pub gave : source_now ≡ gave given (not more) source
