-- A text on its way to a sink through a block (this project's devices). After a failure of the sink nothing more is
-- sent to it.
use Rattle.std.specs.Prelude.{◌≡◌, ◌++◌, ℕ, List, Bool, true, false, codes, decimal}
use Rattle.std.specs.Borrow.{MutBor}
use Rattle.std.specs.List.{flat_map}
use Rattle.aig_io.specs.Devices.{History, TookBeginning, took}

-- an output: which sink it goes to, that sink and its history; the bytes that are held, and whether the sink failed
pub record Out (W : Type 0) : Type 0 where
  pub name : ℕ
  pub sink : W
  pub history : History
  pub held : List ℕ
  pub failed : Bool

-- an output to this sink, by what a sink tells
abbrev pub output_to : {W : Type 0} → (W → History) → MutBor W → List ℕ → Bool → Out W
output_to history sink held failed = record {
  name = sink.ghost_name;
  sink = sink.now;
  history = history sink.now;
  held = held;
  failed = failed;
}

-- A text went out through a block that held some bytes before: the sink took what is not left in the block.
pub record WentOut (before after : History) (held left text : List ℕ) : Type 0 where
  pub sent : List ℕ
  pub history : after ≡ took sent before
  pub order : held ++ text ≡ sent ++ left

-- A text was put on its way to the same sink: without a failure it went out in its order; at a failure the sink took a
-- beginning of it; and a sink that had failed before is left alone.
pub record Appended {W : Type 0} (a b : Out W) (text : List ℕ) : Type 0 where
  pub same : b.name ≡ a.name
  pub went : b.failed ≡ false → (a.failed ≡ false) × WentOut a.history b.history a.held b.held text
  pub begun : a.failed ≡ false → b.failed ≡ true → TookBeginning (a.held ++ text) a.history b.history
  pub stopped : a.failed ≡ true → (b.failed ≡ true) × (b.history ≡ a.history)

-- a line of numbers: the first, each other after a space, and the line feed
abbrev pub row_text : ℕ → List ℕ → List ℕ
row_text first others = decimal first ++ (flat_map (λ n. codes " " ++ decimal n) others ++ codes "\n")
