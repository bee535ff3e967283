-- A lasso goes round for ever.
use Rattle.std.proofs.Common.{◌≡◌, ◌∙◌, ◌+◌, ◌<◌, ◌≤◌, ◌++◌, ℕ, zero, suc, List, [], ◌∷◌, ap, arith, get_or, length}
use Rattle.std.proofs.Common.{refl, subst, sym}
use Rattle.std.specs.List.{All}
use Rattle.std.proofs.lemmas.List.{length-append}
use Rattle.std.proofs.lemmas.List.Elements.{All-cons, All-head, All-nil, All-tail}
use Rattle.aig_circuit.specs.declared.circuit.Circuit.{Circuit}
use Rattle.aig_circuit.specs.declared.value.Val.{Val}
use Rattle.aig_meaning.specs.Meaning.{IsRow, Row}
use Rattle.aig_meaning.specs.Trace.{Follow, IsFirstState, state_after}
use Rattle.aig_witness.specs.Witness.{IsBad, IsHeld}
use Rattle.aig_lasso.specs.Endless.{IsFairRun}
use Rattle.aig_lasso.specs.Goals.{with_goals}
use Rattle.aig_lasso.specs.Lasso.{Meet}
use Rattle.aig_lasso.specs.Laws.{LassosAreFairRuns, GoesRound}

-- rows of the circuit, one from the next state of the one before, from this state to that
abbrev Chain : Circuit → List Val → List Row → List Val → Type 0
Chain c state [] end = state ≡ end
Chain c state (row ∷ rows) end = (row.state ≡ state) × IsRow c row × Chain c row.next rows end

chain_of : (c : Circuit) (state : List Val) (vectors : List (List Val)) (rows : List Row) → Follow c state vectors rows
    → Chain c state rows (state_after state rows)
chain_of c state [] [] follow = refl
chain_of c state [] (r ∷ rs) follow = absurd follow
chain_of c state (v ∷ vs) [] follow = absurd follow
chain_of c state (v ∷ vs) (r ∷ rs) follow = (follow.0, follow.2, chain_of c r.next vs rs follow.3)

-- a chain of two parts
chain_front : (c : Circuit) (state end : List Val) (xs ys : List Row) → Chain c state (xs ++ ys) end
    → Chain c state xs (state_after state xs)
chain_front c state end [] ys chain = refl
chain_front c state end (x ∷ xs) ys chain = (chain.0, chain.1, chain_front c x.next end xs ys chain.2)

chain_back : (c : Circuit) (state end : List Val) (xs ys : List Row) → Chain c state (xs ++ ys) end
    → Chain c (state_after state xs) ys end
chain_back c state end [] ys chain = chain
chain_back c state end (x ∷ xs) ys chain = chain_back c x.next end xs ys chain.2

-- the rows that are due, and then a loop for ever
module _ (turn : Row) (turns : List Row) where
  abbrev pub unwound : List Row → ℕ → Row
  unwound (r ∷ rs) zero = r
  unwound (r ∷ rs) (suc t) = unwound rs t
  unwound [] zero = turn
  unwound [] (suc t) = unwound turns t

  pub unwound_all : (P : Row → Type 0) (now : List Row) → All P (turn ∷ turns) → All P now → (t : ℕ) → P (unwound now t)
  unwound_all P [] loop all zero = All-head P turn turns loop
  unwound_all P [] loop all (suc t) = unwound_all P turns loop (All-tail P turn turns loop) t
  unwound_all P (r ∷ rs) loop all zero = All-head P r rs all
  unwound_all P (r ∷ rs) loop all (suc t) = unwound_all P rs loop (All-tail P r rs all) t

  -- the loop is due as it is unwound
  same_loop : (t : ℕ) → unwound [] t ≡ unwound (turn ∷ turns) t
  same_loop zero = refl
  same_loop (suc t) = refl

  same_stem : (stem : List Row) (t : ℕ) → unwound stem t ≡ unwound (stem ++ (turn ∷ turns)) t
  same_stem [] t = same_loop t
  same_stem (r ∷ rs) zero = refl
  same_stem (r ∷ rs) (suc t) = same_stem rs t

  -- what is so somewhere from any rows on is so again and again
  again : (P : Row → Type 0) → ((now : List Row) → (t : ℕ) × P (unwound now t)) → (from : ℕ) (now : List Row)
      → (t : ℕ) × (from ≤ t) × P (unwound now t)
  again P some zero now = let s = some now in (s.0, omega arith, s.1)
  again P some (suc from) [] = let s = again P some from turns in (suc s.0, omega (arith, s.1), s.2)
  again P some (suc from) (r ∷ rs) = let s = again P some from rs in (suc s.0, omega (arith, s.1), s.2)

  met_in : (goal : ℕ) (before behind : List Row) (row : Row) → IsBad goal row
      → IsBad goal (unwound (before ++ (row ∷ behind)) (length before))
  met_in goal [] behind row is = is
  met_in goal (b ∷ bs) behind row is = met_in goal bs behind row is

  met_somewhere : (goal : ℕ) → Meet (turn ∷ turns) goal → (now : List Row) → (t : ℕ) × IsBad goal (unwound now t)
  met_somewhere goal met [] =
      let p = length met.0 in
      let there : IsBad goal (unwound (turn ∷ turns) p) =
      subst (λ (rs : List Row). IsBad goal (unwound rs p)) (sym met.3) (met_in goal met.0 met.1 met.2 met.4) in
      (p, subst (IsBad goal) (sym (same_loop p)) there)
  met_somewhere goal met (r ∷ rs) = let s = met_somewhere goal met rs in (suc s.0, s.1)

  -- behind the rows that are due comes the loop, over and over
  behind : (now : List Row) (k t : ℕ) → t ≡ length now + k → unwound now t ≡ unwound [] k
  behind [] k t e = let same : t ≡ k = omega (arith, e) in ap (unwound []) same
  behind (r ∷ rs) k zero e = absurd (omega (arith, e))
  behind (r ∷ rs) k (suc t) e = behind rs k t (omega (arith, e))

  round : (now : List Row) (t u : ℕ) → length now ≤ t → u ≡ t + length (turn ∷ turns) → unwound now u ≡ unwound now t
  round [] t zero below e = absurd (omega (arith, e))
  round [] t (suc u) below e = behind turns t u (omega (arith, e))
  round (r ∷ rs) zero u below e = absurd (omega (arith, below))
  round (r ∷ rs) (suc t) zero below e = absurd (omega (arith, e))
  round (r ∷ rs) (suc t) (suc u) below e = round rs t u (omega (arith, below)) (omega (arith, e))

  -- each step that is due has its inputs
  listed : (c : Circuit) (state : List Val) (vectors : List (List Val)) (now : List Row) → Follow c state vectors now
      → (t : ℕ) → t < length vectors → (unwound now t).inputs ≡ get_or vectors t []
  listed c state [] now follow t below = absurd (omega (arith, below))
  listed c state (v ∷ vs) [] follow t below = absurd follow
  listed c state (v ∷ vs) (r ∷ rs) follow zero below = follow.1
  listed c state (v ∷ vs) (r ∷ rs) follow (suc t) below = listed c r.next vs rs follow.3 t (omega (arith, below))

  module _ (c : Circuit) (knot : List Val) (loop : Chain c knot (turn ∷ turns) knot) where
    first_state : (now : List Row) (state : List Val) → Chain c state now knot → (unwound now 0).state ≡ state
    first_state [] state chain = loop.0 ∙ sym chain
    first_state (r ∷ rs) state chain = chain.0

    each_row : (now : List Row) (state : List Val) → Chain c state now knot → (t : ℕ) → IsRow c (unwound now t)
    each_row [] state chain zero = loop.1
    each_row [] state chain (suc t) = each_row turns turn.next loop.2 t
    each_row (r ∷ rs) state chain zero = chain.1
    each_row (r ∷ rs) state chain (suc t) = each_row rs r.next chain.2 t

    passes_on : (now : List Row) (state : List Val) → Chain c state now knot → (t : ℕ)
        → (unwound now (suc t)).state ≡ (unwound now t).next
    passes_on [] state chain zero = first_state turns turn.next loop.2
    passes_on [] state chain (suc t) = passes_on turns turn.next loop.2 t
    passes_on (r ∷ rs) state chain zero = first_state rs r.next chain.2
    passes_on (r ∷ rs) state chain (suc t) = passes_on rs r.next chain.2 t

pub rows_length : (c : Circuit) (state : List Val) (vectors : List (List Val)) (rows : List Row)
    → Follow c state vectors rows → length vectors ≡ length rows
rows_length c state [] [] follow = refl
rows_length c state [] (r ∷ rs) follow = absurd follow
rows_length c state (v ∷ vs) [] follow = absurd follow
rows_length c state (v ∷ vs) (r ∷ rs) follow = ap suc (rows_length c r.next vs rs follow.3)

all_front : (P : Row → Type 0) (xs ys : List Row) → All P (xs ++ ys) → All P xs
all_front P [] ys all = All-nil P
all_front P (x ∷ xs) ys all =
    All-cons P x xs (All-head P x (xs ++ ys) all) (all_front P xs ys (All-tail P x (xs ++ ys) all))

all_back : (P : Row → Type 0) (xs ys : List Row) → All P (xs ++ ys) → All P ys
all_back P [] ys all = all
all_back P (x ∷ xs) ys all = all_back P xs ys (All-tail P x (xs ++ ys) all)

pub lassos_are_fair_runs : LassosAreFairRuns
lassos_are_fair_runs c claim start verdict =
    let d : Circuit = with_goals claim.property c in
    let is = verdict.lasso in
    let stem : List Row = is.stem in
    let turn : Row = is.turn in
    let turns : List Row = is.turns in
    let first : List Val = claim.first in
    let listing : List Row = stem ++ (turn ∷ turns) in
    let follow : Follow d first claim.steps listing =
    subst (λ (rs : List Row). Follow d first claim.steps rs) is.parted verdict.trace.1 in
    let knot : List Val = state_after first stem in
    let whole = chain_of d first claim.steps listing follow in
    let closed : state_after first listing ≡ knot =
    subst (λ (rs : List Row). state_after first rs ≡ knot) is.parted is.closed in
    let due : Chain d first stem knot = chain_front d first (state_after first listing) stem (turn ∷ turns) whole in
    let loop : Chain d knot (turn ∷ turns) knot =
    subst (λ (s : List Val). Chain d knot (turn ∷ turns) s) closed
    (chain_back d first (state_after first listing) stem (turn ∷ turns) whole) in
    let held : All IsHeld listing = subst (λ (rs : List Row). All IsHeld rs) is.parted is.held in
    let rows : ℕ → Row = unwound turn turns stem in
    let begins : (rows 0).state ≡ first = first_state turn turns d knot loop stem first due in
    let size : length claim.steps ≡ length stem + length (turn ∷ turns) =
    rows_length d first claim.steps listing follow ∙ length-append stem (turn ∷ turns) in
    let fair : IsFairRun d rows = record {
      endless = record {
        starts = subst (λ (s : List Val). IsFirstState d s) (sym begins) verdict.trace.0;
        each = each_row turn turns d knot loop stem first due;
        goes_on = passes_on turn turns d knot loop stem first due;
      };
      held = unwound_all turn turns IsHeld stem (all_back IsHeld stem (turn ∷ turns) held)
          (all_front IsHeld stem (turn ∷ turns) held);
      recurrent = λ goal below from.
          again turn turns (IsBad goal) (met_somewhere turn turns goal (is.met goal below)) from stem;
    } in
    let round_it : GoesRound claim.steps start rows = record {
      size = length (turn ∷ turns);
      whole = omega (arith, size, is.place);
      some = omega arith;
      inputs = λ t below.
          ap (λ (r : Row). r.inputs) (same_stem turn turns stem t)
          ∙ listed turn turns d first claim.steps listing follow t below;
      again = λ t below. round turn turns stem t (t + length (turn ∷ turns)) (omega (arith, is.place, below)) refl;
    } in
    (rows, fair, begins, round_it)
