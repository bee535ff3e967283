-- Steps of runs side by side, and the room that a bench has for them.
use Rattle.std.proofs.Common.{◌≡◌, ◌*◌, ◌^◌, ◌<◌, ◌≤◌, ◌+◌, ◌-◌, ◌++◌, ◌∷◌, ◌∙◌, ℕ, List, [], ap, arith, get_or, length}
use Rattle.std.proofs.Common.{subst, sym, rules, ap₂, map, drop, refl, take, inl, inr, All, mul-le-mul_left}
use Rattle.std.proofs.Common.{mul-le-mul_right, drop_at, length-append, length-take, length-take-le, take_all}
use Rattle.std.proofs.lemmas.List.{drop-map, get_or_default, length-map, take_more}
use Rattle.std.proofs.lemmas.Bool.{cases_lt}
use Rattle.std.proofs.lemmas.List.Elements.{All-append, All-map, All-nil}
use Rattle.aig_circuit.specs.declared.circuit.Circuit.{Circuit}
use Rattle.aig_circuit.specs.declared.circuit.Latch.{Latch}
use Rattle.aig_circuit.specs.declared.circuit.Reset.{Reset}
use Rattle.aig_circuit.specs.declared.circuit.Reset.TheVariants as resets
use Rattle.aig_circuit.specs.declared.value.Val.{Val}
use Rattle.aig_circuit.specs.declared.value.Val.TheVariants.{X, Zero}
use Rattle.aig_circuit.specs.Values.{value_not}
use Rattle.aig_meaning.specs.Meaning.{literal_value, next_literals}
use Rattle.aig_meaning.specs.Trace.{reset_state, reset_value, state_after}
use Rattle.aig_meaning.proofs.Traces.{reset_state_is_first}
use Rattle.aig_step.specs.declared.trace.Columns.{Columns}
use Rattle.aig_step.specs.declared.trace.Columns.TheVariants.{Plain, Properties}
use Rattle.aig_step.specs.Parts.Lines.{line_size, row_read}
use Rattle.aig_step.specs.Parts.Machines.{ShowsBelow}
use Rattle.aig_step.specs.Parts.Tables.{IsLiteralBelow, read_from}
use Rattle.aig_step.specs.TraceText.{values_text}
use Rattle.aig_step.proofs.LineValues.{row_is_read}
use Rattle.aig_step.proofs.Running.Machines.{state_after_last}
use Rattle.aig_lanes.specs.declared.input_bits.InputWord.{InputWord}
use Rattle.aig_lanes.specs.declared.run.Run.{Run}
use Rattle.aig_lanes.specs.declared.lane_columns.LaneColumns.{LaneColumns}
use Rattle.aig_lanes.specs.declared.bench.Bench.{Bench}
use Rattle.aig_lanes.specs.Parts.Benches.{HasRoomFor, HasRoomForSteps, HasSameRoom, IsBench}
use Rattle.aig_lanes.specs.Parts.InputBits.{AreBlocks, HasLaneRoom, HasStep, SameRooms}
use Rattle.aig_lanes.specs.Parts.Kept.{asked, reset_literal, reset_literals, seen, step_literals}
use Rattle.aig_lanes.specs.Parts.LaneTexts.{HoldsRun, ShowsRows, end_of, shown_size, KeepsRun, KeepsTrace, LaneStands}
use Rattle.aig_lanes.specs.Parts.Sheets.{text_in, BytesText, part}
use Rattle.aig_places.specs.Tables.{Assigned, Begun}
use Rattle.aig_places.specs.Lanes.{IsLane, values_in}
use Rattle.aig_lanes.specs.Runs.{IsRunOf}
use Rattle.aig_lanes.proofs.Side.Sheets.{StepsIn, steps_within}
use Rattle.aig_lanes.proofs.Benches.ShownTexts.{keeps_more, keeps_still, row_stands}

asked_few : (columns : Columns) (literals : List ℕ) → length (asked columns literals) ≤ length literals
asked_few Plain literals = omega arith
asked_few Properties literals = omega arith

size_within : (c : Circuit) (shown : LaneColumns) → ShowsRows c shown → shown_size shown ≤ line_size c
size_within c shown shows =
    omega (
      arith,
      shown.counted,
      shows.outputs,
      shows.bad,
      shows.constraints,
      asked_few shown.columns c.bad,
      asked_few shown.columns c.constraints,
      simp length-map at (ap length shows.resets),
    )

-- blocks that have the room that they had have it for the same runs
bits_stay : (before after : List (List (List InputWord))) (runs : List Run) → SameRooms before after
    → All (HasLaneRoom runs) before → All (HasLaneRoom runs) after
bits_stay before after runs same had block d inside l r low below =
    let within : block < length before = omega (arith, inside, same.count) in
    omega (
      arith,
      had block [] within l r low below,
      same.sizes block l,
      ap (λ (lanes : List (List InputWord)). length (get_or lanes l [])) (get_or_default after block d [] inside),
    )

-- it is still a bench for a circuit
pub bench_stays : (c : Circuit) (before after : Bench) → HasSameRoom before after → IsBench c before → IsBench c after
bench_stays c before after same is = record {
  tables = record {
    bits = subst (AreBlocks (length c.inputs)) (sym same.bits.count) is.tables.bits;
    table_size =
        same.table ∙ is.tables.table_size ∙ ap (λ (s : LaneColumns). 2 * s.places.count) (sym same.shown);
    state_size = same.state ∙ is.tables.state_size;
    shows = subst (ShowsRows c) (sym same.shown) is.tables.shows;
  };
  line = same.line ∙ is.line;
}

pub room_stays : (c : Circuit) (before after : Bench) (runs : List Run) → HasSameRoom before after
    → HasRoomFor c before runs → HasRoomFor c after runs
room_stays c before after runs same had = record {
  is = bench_stays c before after same had.is;
  lanes = had.lanes;
  counts = had.counts;
  bits = bits_stay before.bits.items after.bits.items runs same.bits had.bits;
  sheet = λ l d low below.
      subst (λ (s : LaneColumns). HoldsRun l (get_or runs l d) s after.sheet) (sym same.shown)
      (omega (arith, same.sheet l, had.sheet l d low below));
}

-- in each lane there is a word of inputs where there was one
steps_stay : (before after : List (List (List InputWord))) → SameRooms before after → All HasStep before
    → All HasStep after
steps_stay before after same had block d inside l low =
    let within : block < length before = omega (arith, inside, same.count) in
    omega (
      arith,
      had block [] within l low,
      same.sizes block l,
      ap (λ (lanes : List (List InputWord)). length (get_or lanes l [])) (get_or_default after block d [] inside),
    )

pub steps_room_stays : (c : Circuit) (before after : Bench) → HasSameRoom before after → HasRoomForSteps c before
    → HasRoomForSteps c after
steps_room_stays c before after same had =
    let shown = same.shown in
    record {
      is = bench_stays c before after same had.is;
      bits = steps_stay before.bits.items after.bits.items same.bits had.bits;
      sheet = λ l low.
          subst (λ (s : LaneColumns). end_of s 1 ≤ length (text_in l after.sheet)) (sym shown)
          (omega (arith, same.sheet l, had.sheet l low));
      fits = subst (λ (s : LaneColumns). shown_size s < 2 ^ 64) (sym shown) had.fits;
    }

-- what lines show is no more than a line may be long
pub fits_shown : (c : Circuit) (shown : LaneColumns) (steps : ℕ) → ShowsRows c shown → steps * line_size c < 2 ^ 64
    → steps * shown_size shown < 2 ^ 64
fits_shown c shown steps shows fits =
    let less : shown_size shown ≤ line_size c = size_within c shown shows in
    omega (arith, mul-le-mul_left {m = shown_size shown} {n = line_size c} steps less, fits)

-- room for a run of one step in each lane is room for a step in each
pub room_for_steps : (c : Circuit) (bench : Bench) (runs : List Run) → length runs ≡ 256
    → All (λ (run : Run). length run.steps ≡ 1) runs → HasRoomFor c bench runs → HasRoomForSteps c bench
room_for_steps c bench runs all one room =
    record {
      is = room.is;
      bits = λ block d inside l low.
          omega (
            arith,
            room.bits block d inside l (record { steps = [] }) low (omega (arith, low, all)),
            one l (record { steps = [] }) (omega (arith, low, all)),
          );
      sheet = λ l low.
          subst (λ (n : ℕ). end_of bench.shown n ≤ length (text_in l bench.sheet))
          (one l (record { steps = [] }) (omega (arith, low, all)))
          (room.sheet l (record { steps = [] }) low (omega (arith, low, all)));
      fits =
          let some : 0 < length runs = omega (arith, all) in
          let sized = fits_shown c bench.shown 1 room.is.tables.shows
          (subst (λ (n : ℕ). n * line_size c < 2 ^ 64) (one 0 (record { steps = [] }) some)
          (room.counts 0 (record { steps = [] }) some)) in
          omega (arith, sized);
    }

-- Steps of runs side by side.

-- the literals of next states are the last ones that are put
next_last : (c : Circuit) (shown : LaneColumns) → ShowsRows c shown
    → drop (length shown.literals.items - length shown.resets.items) (step_literals shown.columns c) ≡ next_literals c
next_last c shown shows =
    let literals = seen shown.columns c.outputs c.bad c.constraints in
    let properties = asked shown.columns c.bad ++ asked shown.columns c.constraints in
    let size : length literals ≡ length shown.literals.items - length shown.resets.items =
    omega (
      arith,
      shown.counted,
      shows.outputs,
      shows.bad,
      shows.constraints,
      length-append c.outputs properties,
      length-append (asked shown.columns c.bad) (asked shown.columns c.constraints),
    ) in
    drop_at literals (next_literals c) (length shown.literals.items - length shown.resets.items) size

-- and have the values of the state after a step
next_seen : (c : Circuit) (shown : LaneColumns) → ShowsRows c shown → (values : List Val) (a : ℕ → Val)
    → map (literal_value (read_from values)) shown.literals.items
    ≡ map (literal_value a) (step_literals shown.columns c)
    → map (literal_value (read_from values))
    (drop (length shown.literals.items - length shown.resets.items) shown.literals.items)
    ≡ map (literal_value a) (next_literals c)
next_seen c shown shows values a same =
    let k = length shown.literals.items - length shown.resets.items in
    sym (drop-map (literal_value (read_from values)) k shown.literals.items)
    ∙ ap (drop k) same
    ∙ drop-map (literal_value a) k (step_literals shown.columns c)
    ∙ ap (map (literal_value a)) (next_last c shown shows)

-- one more step of a run
module _ (c : Circuit) (run : Run) (step lane : ℕ) (table begun table_now state state_now : List (List ℕ))
    (shown : LaneColumns) (before after : List BytesText) (shows : ShowsRows c shown) (fits : IsRunOf c run)
    (room : HoldsRun lane run shown before) (stood : LaneStands c run step lane table state shown before)
    (steps : StepsIn c run step lane shown table begun table_now state state_now)
    (front : take (end_of shown step) (text_in lane after) ≡ take (end_of shown step) (text_in lane before))
    (text : (values : List Val) → step < length run.steps → IsLane lane table_now values
    → take (end_of shown (step + 1)) (text_in lane after) ≡ take (end_of shown step) (text_in lane before)
    ++ values_text (map (literal_value (read_from values)) shown.literals.items)) where
  abbrev vectors : List (List Val)
  vectors = take step run.steps

  keeps : KeepsTrace c vectors shown (text_in lane after) stood.rows
  keeps =
      let few : length vectors ≤ step = omega (arith, length-take step run.steps) in
      keeps_still c vectors shown (end_of shown step) (text_in lane before) (text_in lane after) stood.rows
      (omega (arith, mul-le-mul_right {m = length vectors} {n = step} (length shown.literals.items) few)) front
      stood.keeps

  abbrev start : List Val
  start = state_after (reset_state c) stood.rows

  abbrev given : List Val
  given = get_or run.steps step []

  module _ (has : step < length run.steps) where
    assigned : Assigned c lane shown.places.count start given (step_literals shown.columns c) shown.literals.items
        table_now
    assigned =
        let there = stood.table_stands (omega (arith, has)) in
        let values = values_in lane table in
        steps.assign given values start (fits step [] has) (steps.put values has there.stand)
        (stood.state_stands (omega (arith, has)))

    stands_now : LaneStands c run (step + 1) lane table_now state_now shown after
    stands_now =
        let values = values_in lane table_now in
        let a = assigned.step.value in
        let row = row_read c start given a in
        let size : length vectors ≡ step = length-take-le step run.steps (omega (arith, has)) in
        let stands = row_stands c shown shows step (text_in lane before) (text_in lane after) a start given
        (omega (arith, room, steps_within step (length run.steps) (length shown.literals.items) has))
        (text values has assigned.now.stand
        ∙ ap (λ (vs : List Val). take (end_of shown step) (text_in lane before) ++ values_text vs) assigned.step.same)
        front
        (ap (λ (n : ℕ). part (n * length shown.literals.items) (length shown.resets.items) (text_in lane before))
        (sym size) ∙ stood.keeps.last) in
        record {
          rows = stood.rows ++ row ∷ [];
          keeps = subst
              (λ (vs : List (List Val)). KeepsTrace c vs shown (text_in lane after) (stood.rows ++ row ∷ []))
              (sym (take_more run.steps step [] has))
              (keeps_more c vectors shown (text_in lane after) stood.rows step row keeps
              (row_is_read c start given a assigned.step.is_step) refl size stands);
          table_stands = λ _. assigned.now;
          state_stands = λ _.
              subst (λ (vs : List Val). IsLane lane state_now vs)
              (next_seen c shown shows values a assigned.step.same
              ∙ sym (state_after_last (reset_state c) stood.rows row))
              (steps.show values start assigned.now.stand (stood.state_stands (omega (arith, has))));
        }

  pub stands_on : LaneStands c run (step + 1) lane table_now state_now shown after
  stands_on = elim (cases_lt step (length run.steps)) [
    | inl has ↦ stands_now has
    | inr ended ↦
        record {
          rows = stood.rows;
          keeps = subst (λ (vs : List (List Val)). KeepsTrace c vs shown (text_in lane after) stood.rows)
              (take_all step run.steps ended ∙ sym (take_all (step + 1) run.steps (omega (arith, ended)))) keeps;
          table_stands = λ more. absurd (omega (arith, more, ended));
          state_stands = λ more. absurd (omega (arith, more, ended));
        }
  ]

-- where all steps of a run were taken, its trace is kept
pub run_kept : (c : Circuit) (run : Run) (steps lane : ℕ) (table state : List (List ℕ)) (shown : LaneColumns)
    (sheet : List BytesText) → length run.steps ≤ steps → LaneStands c run steps lane table state shown sheet
    → KeepsRun c run lane shown sheet
run_kept c run steps lane table state shown sheet all stood = (
  stood.rows,
  subst (λ (vs : List (List Val)). KeepsTrace c vs shown (text_in lane sheet) stood.rows)
      (take_all steps run.steps all) stood.keeps,
)

-- before the first step the literals of resets have their values
reset_read : (values : List Val) (r : Reset) → read_from values 0 ≡ Zero → read_from values 1 ≡ X
    → literal_value (read_from values) (reset_literal r) ≡ reset_value r
reset_read values resets.Zero constant unknown = constant
reset_read values resets.One constant unknown = ap value_not constant
reset_read values resets.Uninit constant unknown = unknown

reset_shown : (values : List Val) (latches : List Latch) → read_from values 0 ≡ Zero
    → (0 < length latches → read_from values 1 ≡ X)
    → map (literal_value (read_from values)) (reset_literals latches)
    ≡ map (λ (l : Latch). reset_value l.reset) latches
reset_shown values [] constant unknown = refl
reset_shown values (l ∷ ls) constant unknown =
    let is = unknown (omega arith) in
    ap₂ (λ (v : Val) vs. v ∷ vs) (reset_read values l.reset constant is) (reset_shown values ls constant (λ _. is))

reset_below : (variables : ℕ) (r : Reset) → 1 < variables → IsLiteralBelow variables (reset_literal r)
reset_below variables resets.Zero some = omega (arith, some)
reset_below variables resets.One some = omega (arith, some)
reset_below variables resets.Uninit some = omega (arith, some)

pub resets_below : (variables : ℕ) (latches : List Latch) → (0 < length latches → 1 < variables)
    → All (IsLiteralBelow variables) (reset_literals latches)
resets_below variables latches some =
    All-map (IsLiteralBelow variables) (λ (l : Latch). reset_literal l.reset) latches
    (λ k d below. reset_below variables (get_or latches k d).reset (some (omega (arith, below))))

asked_below : (size : ℕ) (columns : Columns) (literals : List ℕ) → All (IsLiteralBelow size) literals
    → All (IsLiteralBelow size) (asked columns literals)
asked_below size Plain literals below = All-nil (IsLiteralBelow size)
asked_below size Properties literals below = below

pub literals_below : (size : ℕ) (columns : Columns) (c : Circuit) → ShowsBelow size c
    → All (IsLiteralBelow size) (step_literals columns c)
literals_below size columns c below = search (rules, All-append, All-map, asked_below)

-- before the first step
pub stands_first : (c : Circuit) (run : Run) (lane : ℕ) (table state : List (List ℕ)) (shown : LaneColumns)
    (sheet : List BytesText) → ShowsRows c shown → Begun lane shown.places.count table
    → IsLane lane state (map (literal_value (read_from (values_in lane table))) shown.resets.items)
    → take (end_of shown 0) (text_in lane sheet)
    ≡ values_text (map (literal_value (read_from (values_in lane table))) shown.resets.items)
    → LaneStands c run 0 lane table state shown sheet
stands_first c run lane table state shown sheet shows begun from kept =
    let values = values_in lane table in
    let resets : map (literal_value (read_from values)) shown.resets.items ≡ reset_state c =
    ap (map (literal_value (read_from values))) shows.resets
    ∙ reset_shown values c.latches begun.constant (λ some. begun.unknown (omega (arith, some, shows.places.room))) in
    let none : 0 * length shown.literals.items ≡ 0 = omega arith in
    let end : end_of shown 0 ≡ length shown.resets.items = omega arith in
    record {
      rows = [];
      keeps = record {
        traced = (reset_state_is_first c, tt);
        count = refl;
        each = λ t d below. absurd (omega (arith, below));
        last =
            ap (λ (n : ℕ). part n (length shown.resets.items) (text_in lane sheet)) none
            ∙ ap (λ (n : ℕ). take n (text_in lane sheet)) (sym end)
            ∙ kept
            ∙ ap values_text resets;
      };
      table_stands = λ _. begun.now;
      state_stands = λ _. subst (λ (vs : List Val). IsLane lane state vs) resets from;
    }
