-- Places of a table for the variables of a circuit.
use Rattle.std.proofs.Common.{◌≡◌, ◌%◌, ◌+◌, ◌<◌, ◌≤◌, ◌==◌, ◌∷◌, ◌∙◌, ◌++◌, if◌then◌else◌, ℕ, zero}
use Rattle.std.proofs.Common.{suc, List, [], length, map, get_or, set, take, drop, refl, sym, ap, ap₂, arith, subst}
use Rattle.std.proofs.Common.{inl, inr, All, drop-cons, length-append, length-take-le, None}
use Rattle.std.proofs.lemmas.Bool.{cases_eq}
use Rattle.std.proofs.lemmas.List.{get_or-set_other, get_or-set_same, length-set, take_more}
use Rattle.std.proofs.lemmas.List.{get_or_default}
use Rattle.std.proofs.lemmas.List.Elements.{All-append}
use Rattle.aig_circuit.specs.declared.circuit.Circuit.{Circuit}
use Rattle.aig_circuit.specs.declared.circuit.Gate.{Gate}
use Rattle.aig_circuit.specs.declared.value.Val.{Val}
use Rattle.aig_circuit.specs.declared.value.Val.TheVariants.{Zero}
use Rattle.aig_circuit.specs.Literal.{variable_of}
use Rattle.aig_circuit.specs.Values.{value_and, value_not}
use Rattle.aig_meaning.specs.Meaning.{literal_value}
use Rattle.aig_places.specs.Places.{ArePlaced, ArePlaces, Hold, IsGateBelow, IsPlaced, StandFor, StandsAt}
use Rattle.aig_places.specs.Places.{begun_with, evaluated_in_turn, gates_of}
use Rattle.aig_places.specs.declared.places.Places.{Places}
use Rattle.aig_step.specs.declared.evaluate.Pair.{Pair}
use Rattle.aig_step.specs.Parts.Machines.{CanRun, circuit_of, first_gate}
use Rattle.aig_step.specs.Parts.Tables.{AreOverLower, IsLiteralBelow, evaluated, gates_from, placed, read_from}
use Rattle.aig_step.proofs.Running.Machines.{evaluated_length, placed_length}

-- the value of a gate
abbrev gate_value : List Val → (left right : ℕ) → Val
gate_value values left right =
    value_and (literal_value (read_from values) left) (literal_value (read_from values) right)

in_turn_length : (gates : List Gate) (values : List Val) → length (evaluated_in_turn gates values) ≡ length values
in_turn_length [] values = refl
in_turn_length (g ∷ gs) values =
    in_turn_length gs (set values g.var (gate_value values g.left g.right))
    ∙ length-set values g.var (gate_value values g.left g.right)

-- the gates of a circuit in binary order have the places of their variables
pub own_in_turn : (v : ℕ) (pairs : List Pair) (values : List Val)
    → evaluated v pairs values ≡ evaluated_in_turn (gates_from v pairs) values
own_in_turn v [] values = refl
own_in_turn v (p ∷ ps) values = own_in_turn (v + 1) ps (set values v (gate_value values p.left p.right))

-- the next gate is put
pub in_turn_on : (k : ℕ) (gates : List Gate) (g : Gate) (now all : List Val) → k < length gates
    → g ≡ get_or gates k g → evaluated_in_turn (drop k gates) now ≡ all
    → evaluated_in_turn (drop (k + 1) gates) (set now g.var (gate_value now g.left g.right)) ≡ all
in_turn_on k gates g now all below is before =
    let next : suc k ≡ k + 1 = omega arith in
    let front = drop-cons gates k g below ∙ ap₂ (λ (h : Gate) n. h ∷ drop n gates) (sym is) next in
    ap (λ gs. evaluated_in_turn gs now) (sym front) ∙ before

in_turn_append : (gates more : List Gate) (values : List Val)
    → evaluated_in_turn (gates ++ more) values ≡ evaluated_in_turn more (evaluated_in_turn gates values)
in_turn_append [] more values = refl
in_turn_append (g ∷ gs) more values = in_turn_append gs more (set values g.var (gate_value values g.left g.right))

evaluated_append : (v : ℕ) (pairs more : List Pair) (values : List Val)
    → evaluated v (pairs ++ more) values ≡ evaluated (v + length pairs) more (evaluated v pairs values)
evaluated_append v [] more values =
    let same : v ≡ v + 0 = omega arith in ap (λ n. evaluated n more values) same
evaluated_append v (p ∷ ps) more values =
    let same : v + 1 + length ps ≡ v + length (p ∷ ps) = omega arith in
    let now = set values v (gate_value values p.left p.right) in
    evaluated_append (v + 1) ps more now ∙ ap (λ n. evaluated n more (evaluated (v + 1) ps now)) same

-- a literal over places has the value of the literal
stands_value : (holders : List ℕ) (values all : List Val) (seen literal : ℕ) → Hold holders values all
    → StandsAt holders seen literal
    → literal_value (read_from values) seen ≡ literal_value (read_from all) literal
stands_value holders values all seen literal hold stands =
    let same : read_from values (variable_of seen) ≡ read_from all (variable_of literal) =
    hold (variable_of seen) stands.below ∙ ap (read_from all) stands.variable in
    ap₂ (λ (n : ℕ) (x : Val). if n == 0 then x else value_not x) stands.sign same

pub stand_values : (holders : List ℕ) (values all : List Val) (literals seen : List ℕ)
    → length seen ≡ length literals → Hold holders values all
    → ((k : ℕ) → k < length literals → StandsAt holders (get_or seen k 0) (get_or literals k 0))
    → map (literal_value (read_from values)) seen ≡ map (literal_value (read_from all)) literals
stand_values holders values all [] [] same hold stand = refl
stand_values holders values all [] (s ∷ ss) same hold stand = absurd (omega (arith, same))
stand_values holders values all (l ∷ ls) [] same hold stand = absurd (omega (arith, same))
stand_values holders values all (l ∷ ls) (s ∷ ss) same hold stand =
    ap₂ (λ (v : Val) vs. v ∷ vs)
    (stands_value holders values all s l hold (stand 0 (omega arith)))
    (stand_values holders values all ls ss (omega (arith, same)) hold (λ k below. stand (suc k) (omega (arith, below))))

-- what stands at each place still holds once a gate took one
hold_on : (variable : ℕ) (pair : Pair) (before after : List ℕ) (gate : Gate) (values all : List Val)
    → IsPlaced variable pair before after gate → All (λ holder. holder < variable) before
    → length after ≤ length values → variable < length all → Hold before values all
    → Hold after (set values gate.var (gate_value values gate.left gate.right))
    (set all variable (gate_value all pair.left pair.right))
hold_on variable pair before after gate values all is old room low hold = λ p below.
    let x = gate_value values gate.left gate.right in
    let y = gate_value all pair.left pair.right in
    let same : x ≡ y =
    ap₂ value_and (stands_value before values all gate.left pair.left hold is.left)
    (stands_value before values all gate.right pair.right hold is.right) in
    elim (cases_eq p gate.var) [
      | inl here ↦
          rw (here, is.takes.here)
          (get_or-set_same values gate.var x Zero (omega (arith, is.takes.below, room))
          ∙ same
          ∙ sym (get_or-set_same all variable y Zero low))
      | inr other ↦
          let stays = is.takes.others p below other in
          rw stays.1
          (get_or-set_other values gate.var p x Zero other
          ∙ hold p stays.0
          ∙ sym (get_or-set_other all variable (get_or before p 0) y Zero
          (λ e. omega (arith, e, old p 0 stays.0))))
    ]

gates_below_more : (size more : ℕ) (gates : List Gate) → size ≤ more → All (IsGateBelow size) gates
    → All (IsGateBelow more) gates
gates_below_more size more gates within below k d there =
    let gate = below k d there in
    record {
      place = omega (arith, gate.place, within);
      left = omega (arith, gate.left, within);
      right = omega (arith, gate.right, within);
    }

one_below : (size : ℕ) (gate : Gate) → IsGateBelow size gate → All (IsGateBelow size) (gate ∷ [])
one_below size gate below zero d there = below
one_below size gate below (suc k) d there = absurd (omega (arith, there))

-- before the first gate
pub none_placed : (first : ℕ) (holders : List ℕ) → ArePlaced first [] holders holders []
none_placed first holders = record {
  more = omega arith;
  below = λ k d there. absurd (omega (arith, there));
  hold = λ values all room long hold. hold;
}

-- one more gate is placed
pub placed_more : (first i : ℕ) (pairs : List Pair) (pair : Pair) (first_holders before after : List ℕ)
    (gates : List Gate) (gate : Gate) → i < length pairs → pair ≡ get_or pairs i pair
    → All (λ holder. holder < first + i) before → ArePlaced first (take i pairs) first_holders before gates
    → IsPlaced (first + i) pair before after gate
    → ArePlaced first (take (i + 1) pairs) first_holders after (gates ++ gate ∷ [])
placed_more first i pairs pair first_holders before after gates gate below is old so_far now =
    let here : gate.var < length after = now.takes.below in
    let left : variable_of gate.left < length before = now.left.below in
    let right : variable_of gate.right < length before = now.right.below in
    let more : length before ≤ length after = now.takes.more in
    let long : length (take i pairs) ≡ i = length-take-le i pairs (omega (arith, below)) in
    let next : take (i + 1) pairs ≡ take i pairs ++ pair ∷ [] =
    take_more pairs i pair below ∙ ap (λ (p : Pair). take i pairs ++ p ∷ []) (sym is) in
    record {
      more = omega (arith, more, so_far.more);
      below =
          All-append (IsGateBelow (length after)) gates (gate ∷ [])
          (gates_below_more (length before) (length after) gates more so_far.below)
          (one_below (length after) gate
          (record { place = here; left = omega (arith, left, more); right = omega (arith, right, more) }));
      hold = λ values all room size hold.
          let both : length (take i pairs ++ pair ∷ []) ≡ i + 1 =
          length-append (take i pairs) (pair ∷ []) ∙ omega (arith, long) in
          let whole : first + (i + 1) ≤ length all = omega (arith, size, ap length next, both) in
          let values_now = evaluated_in_turn gates values in
          let all_now = evaluated first (take i pairs) all in
          let stood : Hold before values_now all_now =
          so_far.hold values all (omega (arith, room, more)) (omega (arith, whole, long)) hold in
          let step = hold_on (first + i) pair before after gate values_now all_now now old
          (omega (arith, room, in_turn_length gates values))
          (omega (arith, whole, evaluated_length first (take i pairs) all)) stood in
          rw (
            next,
            in_turn_append gates (gate ∷ []) values,
            evaluated_append first (take i pairs) (pair ∷ []) all,
            long,
          ) step;
    }

-- a variable takes a place again, or a new one
pub holders_before : (variable : ℕ) (pair : Pair) (before after : List ℕ) (gate : Gate)
    → IsPlaced variable pair before after gate → All (λ holder. holder < variable) before
    → All (λ holder. holder < variable + 1) after
holders_before variable pair before after gate is old k d there =
    let same = get_or_default after k d 0 there in
    elim (cases_eq k gate.var) [
      | inl here ↦
          omega (arith, same, ap (λ (n : ℕ). get_or after n 0) here, is.takes.here)
      | inr other ↦
          let stays = is.takes.others k there other in
          omega (arith, same, stays.1, old k 0 stays.0)
    ]

literal_same : (us vs : List Val) (l : ℕ) → read_from us (variable_of l) ≡ read_from vs (variable_of l)
    → literal_value (read_from us) l ≡ literal_value (read_from vs) l
literal_same us vs l same = ap (λ (x : Val). if l % 2 == 0 then x else value_not x) same

-- tables that are the same in front
abbrev SameBefore : ℕ → List Val → List Val → Type 0
SameBefore n us vs = (p : ℕ) → p < n → read_from us p ≡ read_from vs p

set_same : (n : ℕ) (us vs : List Val) (x y : Val) → x ≡ y → n < length us → n < length vs → SameBefore n us vs
    → SameBefore (n + 1) (set us n x) (set vs n y)
set_same n us vs x y is low lower same p below = elim (cases_eq p n) [
  | inl here ↦
      rw here (get_or-set_same us n x Zero low ∙ is ∙ sym (get_or-set_same vs n y Zero lower))
  | inr other ↦
      get_or-set_other us n p x Zero other
      ∙ same p (omega (arith, below, other))
      ∙ sym (get_or-set_other vs n p y Zero other)
]

placed_same : (at : ℕ) (xs us vs : List Val) → at + length xs ≤ length us → at + length xs ≤ length vs
    → SameBefore at us vs → SameBefore (at + length xs) (placed at xs us) (placed at xs vs)
placed_same at [] us vs room other same p below = same p (omega (arith, below))
placed_same at (x ∷ xs) us vs room other same p below =
    placed_same (at + 1) xs (set us at x) (set vs at x) (omega (arith, room, length-set us at x))
    (omega (arith, other, length-set vs at x))
    (set_same at us vs x x refl (omega (arith, room)) (omega (arith, other)) same) p (omega (arith, below))

evaluated_same : (v : ℕ) (pairs : List Pair) (us vs : List Val) → v + length pairs ≤ length us
    → v + length pairs ≤ length vs → AreOverLower v pairs → SameBefore v us vs
    → SameBefore (v + length pairs) (evaluated v pairs us) (evaluated v pairs vs)
evaluated_same v [] us vs room other lower same p below = same p (omega (arith, below))
evaluated_same v (q ∷ qs) us vs room other lower same p below =
    let x = gate_value us q.left q.right in
    let y = gate_value vs q.left q.right in
    let value : x ≡ y =
    ap₂ value_and (literal_same us vs q.left (same (variable_of q.left) lower.0))
    (literal_same us vs q.right (same (variable_of q.right) lower.1)) in
    evaluated_same (v + 1) qs (set us v x) (set vs v y) (omega (arith, room, length-set us v x))
    (omega (arith, other, length-set vs v y)) lower.2
    (set_same v us vs x y value (omega (arith, room)) (omega (arith, other)) same) p (omega (arith, below))

literals_same : (n : ℕ) (us vs : List Val) (literals : List ℕ) → SameBefore n us vs → All (IsLiteralBelow n) literals
    → map (literal_value (read_from us)) literals ≡ map (literal_value (read_from vs)) literals
literals_same n us vs [] same below = refl
literals_same n us vs (l ∷ ls) same below =
    ap₂ (λ (v : Val) ws. v ∷ ws) (literal_same us vs l (same (variable_of l) (below 0 0 (omega arith))))
    (literals_same n us vs ls same (λ k d there. below (suc k) d (omega (arith, there))))

pub begun_length : (given state values : List Val) → length (begun_with given state values) ≡ length values
begun_length given state values =
    placed_length (1 + length given) state (placed 1 given (set values 0 Zero))
    ∙ placed_length 1 given (set values 0 Zero)
    ∙ length-set values 0 Zero

begun_same : (given state us vs : List Val) → 1 + length given + length state ≤ length us
    → 1 + length given + length state ≤ length vs
    → SameBefore (1 + length given + length state) (begun_with given state us) (begun_with given state vs)
begun_same given state us vs room other =
    let long = λ (ws : List Val). placed_length 1 given (set ws 0 Zero) ∙ length-set ws 0 Zero in
    placed_same (1 + length given) state (placed 1 given (set us 0 Zero)) (placed 1 given (set vs 0 Zero))
    (omega (arith, room, long us)) (omega (arith, other, long vs))
    (placed_same 1 given (set us 0 Zero) (set vs 0 Zero) (omega (arith, room, length-set us 0 Zero))
    (omega (arith, other, length-set vs 0 Zero))
    (set_same 0 us vs Zero Zero refl (omega (arith, room)) (omega (arith, other))
    (λ p below. absurd (omega (arith, below)))))

gates_below : (v size : ℕ) (pairs : List Pair) → v + length pairs ≤ size → AreOverLower v pairs
    → All (IsGateBelow size) (gates_from v pairs)
gates_below v size [] room lower k d below = absurd (omega (arith, below))
gates_below v size (p ∷ ps) room lower zero d below = record {
  place = omega (arith, room);
  left = omega (arith, room, lower.0);
  right = omega (arith, room, lower.1);
}
gates_below v size (p ∷ ps) room lower (suc k) d below =
    gates_below (v + 1) size ps (omega (arith, room)) lower.2 k d (omega (arith, below))

module _ (c : Circuit) (pairs : List Pair) (can : CanRun c pairs) (is : circuit_of c pairs ≡ c) (places : Places) where
  pub own_gates : c.gates ≡ gates_from (first_gate c) pairs
  own_gates = sym (ap (λ (k : Circuit). k.gates) is)

  pub evaluated_own : (values : List Val)
      → evaluated (first_gate c) pairs values ≡ evaluated_in_turn c.gates values
  evaluated_own values =
      own_in_turn (first_gate c) pairs values ∙ ap (λ (gs : List Gate). evaluated_in_turn gs values) (sym own_gates)

  module _ (own : gates_of c places ≡ c.gates) (full : places.count ≡ 1 + c.max_var) where
    -- for each variable the place of its number
    pub own_places : ArePlaces c places
    own_places = record {
      room = omega (arith, full, can.size);
      gates =
          subst (All (IsGateBelow places.count)) (sym (own ∙ own_gates))
          (gates_below (first_gate c) places.count pairs (omega (arith, full, can.size)) can.gates);
      few = omega (arith, full);
      own = λ _. full;
    }

    pub own_stand : (literals : List ℕ) → All (IsLiteralBelow (1 + c.max_var)) literals
        → StandFor c places literals literals
    own_stand literals below = record {
      count = refl;
      below = subst (λ (n : ℕ). All (IsLiteralBelow n) literals) (sym full) below;
      same = λ state given values other each_latch each_input room long.
          let first = first_gate c in
          let us = begun_with given state values in
          let vs = begun_with given state other in
          let size : first + length pairs ≤ length values = omega (arith, room, full, can.size) in
          let size_too : first + length pairs ≤ length other = omega (arith, long, can.size) in
          let begun : SameBefore first us vs = λ p there.
          begun_same given state values other (omega (arith, size, each_input, each_latch))
          (omega (arith, size_too, each_input, each_latch)) p (omega (arith, there, each_input, each_latch)) in
          let same = evaluated_same first pairs us vs (omega (arith, size, begun_length given state values))
          (omega (arith, size_too, begun_length given state other)) can.gates begun in
          ap (λ (gs : List Gate). map (literal_value (read_from (evaluated_in_turn gs us))) literals) own
          ∙ ap (λ (ws : List Val). map (literal_value (read_from ws)) literals) (sym (evaluated_own us))
          ∙ literals_same (first + length pairs) (evaluated first pairs us) (evaluated first pairs vs) literals same
          (subst (λ (n : ℕ). All (IsLiteralBelow n) literals) can.size below)
          ∙ ap (λ (ws : List Val). map (literal_value (read_from ws)) literals) (evaluated_own vs);
    }

  -- places that were found
  module _ (gates : List Gate) (first_holders holders : List ℕ) (own : gates_of c places ≡ gates)
      (count : places.count ≡ length holders) (few : length holders ≤ 1 + c.max_var)
      (first : length first_holders ≡ first_gate c)
      (each : (p : ℕ) → p < first_gate c → get_or first_holders p 0 ≡ p)
      (placed_so : ArePlaced (first_gate c) pairs first_holders holders gates) where
    pub found_places : (places.gates ≡ None → places.count ≡ 1 + c.max_var) → ArePlaces c places
    found_places none = record {
      room = omega (arith, count, first, placed_so.more);
      gates =
          subst (All (IsGateBelow places.count)) (sym own)
          (subst (λ (n : ℕ). All (IsGateBelow n) gates) (sym count) placed_so.below);
      few = omega (arith, few, count);
      own = none;
    }

    pub found_stand : (literals seen : List ℕ) → length seen ≡ length literals
        → ((k : ℕ) → k < length literals → StandsAt holders (get_or seen k 0) (get_or literals k 0))
        → StandFor c places literals seen
    found_stand literals seen same stand = record {
      count = same;
      below = λ k d there.
          let one = stand k (omega (arith, there, same)) in
          subst (λ (n : ℕ). IsLiteralBelow places.count n) (get_or_default seen k 0 d there)
          (omega (arith, one.below, count));
      same = λ state given values other each_latch each_input room long.
          let us = begun_with given state values in
          let vs = begun_with given state other in
          let size : first_gate c ≤ length values = omega (arith, room, count, first, placed_so.more) in
          let size_too : first_gate c + length pairs ≤ length other = omega (arith, long, can.size) in
          let start : Hold first_holders us vs = λ p there.
          rw (each p (omega (arith, there, first)))
          (begun_same given state values other (omega (arith, size, each_input, each_latch))
          (omega (arith, size_too, each_input, each_latch)) p (omega (arith, there, first, each_input, each_latch))) in
          let end = placed_so.hold us vs (omega (arith, begun_length given state values, room, count))
          (omega (arith, begun_length given state other, size_too)) start in
          ap (λ (gs : List Gate). map (literal_value (read_from (evaluated_in_turn gs us))) seen) own
          ∙ stand_values holders (evaluated_in_turn gates us) (evaluated (first_gate c) pairs vs) literals seen same end
          stand
          ∙ ap (λ (ws : List Val). map (literal_value (read_from ws)) literals) (evaluated_own vs);
    }
