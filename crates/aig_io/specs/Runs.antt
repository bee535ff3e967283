-- What came of a run from a source to a sink (this project's devices): which bytes came, how they ended, which text was
-- to be sent, and how much of it was taken. Each engine says which of these go with which answer.
use Rattle.std.specs.Prelude.{◌≡◌, ℕ, List, [], Bool, true, false, take, ⊤}
use Rattle.aig_io.specs.Devices.{History, failed_once, gave, took}

-- how the bytes of a source ended: it answered that it is at its end; it was not asked again; or it failed
pub data Ending : Type 0 where
  AtEnd : Ending
  Open : Ending
  Broken : Ending

-- how much of a text was taken: the sink was not called; it took all; or so many bytes, and failed
pub data Delivery : Type 0 where
  NotSent : Delivery
  All : Delivery
  Beginning : ℕ → Delivery

abbrev pub is_at_end : Ending → Bool
is_at_end AtEnd = true
is_at_end Open = false
is_at_end Broken = false

-- the source did not fail
abbrev pub IsUnbroken : Ending → Type 0
IsUnbroken AtEnd = ⊤
IsUnbroken Open = ⊤
IsUnbroken Broken = ⊥

-- the sink failed
abbrev pub IsCut : Delivery → Type 0
IsCut NotSent = ⊥
IsCut All = ⊥
IsCut (Beginning count) = ⊤

-- so much of a text
abbrev pub taken : List ℕ → Delivery → List ℕ
taken text NotSent = []
taken text All = text
taken text (Beginning count) = take count text

-- the source gave these bytes, which ended so
abbrev pub came : List ℕ → Ending → History → History
came bytes AtEnd source = gave bytes true source
came bytes Open source = gave bytes false source
came bytes Broken source = gave bytes false (failed_once source)

-- the sink took so much of this text
abbrev pub sent : List ℕ → Delivery → History → History
sent text NotSent sink = sink
sent text All sink = took text sink
sent text (Beginning count) sink = failed_once (took (take count text) sink)

-- A source was read, and this holds of what came.
pub record Read (Says : List ℕ → Ending → Type 0) (source source_now : History) : Type 0 where
  pub bytes : List ℕ
  pub ending : Ending
  pub says : Says bytes ending
  pub came : source_now ≡ came bytes ending source

-- A text was sent, and this holds of it and of how much was taken.
pub record Sent (Says : List ℕ → Delivery → Type 0) (sink sink_now : History) : Type 0 where
  pub text : List ℕ
  pub delivery : Delivery
  pub says : Says text delivery
  pub sent : sink_now ≡ sent text delivery sink

-- A source was read and a text was sent, and this holds of both.
abbrev pub Transferred : (List ℕ → Ending → List ℕ → Delivery → Type 0) → (source source_now sink sink_now : History)
    → Type 0
Transferred Says source source_now sink sink_now =
    Read (λ bytes ending. Sent (Says bytes ending) sink sink_now) source source_now
