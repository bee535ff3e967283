-- What is found is claimed rightly, and something is found of what satisfies the clauses.
use Rattle.std.proofs.Common.{◌≡◌, ◌+◌, ◌++◌, ◌∙◌, ℕ, zero, suc, List, [], ◌∷◌, Option, None, Some, ap, append_assoc}
use Rattle.std.proofs.Common.{refl, subst, take}
use Rattle.std.proofs.Math.Seq.{take-append-add}
use Rattle.aig_circuit.specs.declared.circuit.Circuit.{Circuit}
use Rattle.aig_circuit.specs.declared.value.Val.{Val}
use Rattle.aig_meaning.specs.Meaning.{Row}
use Rattle.aig_meaning.specs.Trace.{Follow}
use Rattle.aig_meaning.proofs.Traces.{rows_follow_once}
use Rattle.aig_reach.specs.Cut.{cut_claim}
use Rattle.aig_reach.proofs.Whole.{cuts_are_confirmed}
use Rattle.aig_witness.specs.Witness.{IsConfirmedAt, IsFirstConfirmed}
use Rattle.aig_replay.specs.declared.search.Hit.{Hit}
use Rattle.aig_replay.specs.Finding.{hit_from}
use Rattle.aig_replay.specs.Laws.{AnswersAreFound, FoundRunsAreConfirmed, IsFoundIn}
use Rattle.aig_replay.proofs.FirstFound.{first_is_found}

-- the beginning of a trace is the trace of the beginning of its vectors
begins : (c : Circuit) (state : List Val) (n : ℕ) (vectors : List (List Val)) (rows : List Row)
    → Follow c state vectors rows → Follow c state (take n vectors) (take n rows)
begins c state zero vectors rows follow = tt
begins c state (suc n) [] [] follow = tt
begins c state (suc n) [] (row ∷ rows) follow = absurd follow
begins c state (suc n) (vector ∷ vectors) [] follow = absurd follow
begins c state (suc n) (vector ∷ vectors) (row ∷ rows) follow =
    (follow.0, follow.1, follow.2, begins c row.next n vectors rows follow.3)

-- a step of the beginning that confirms does so in all rows
longer : {X : Type 0} (n : ℕ) (xs : List X) → (rest : List X) × (xs ≡ take n xs ++ rest)
longer zero xs = (xs, refl)
longer (suc n) [] = ([], refl)
longer (suc n) (x ∷ xs) = let more = longer n xs in (more.0, ap (λ ys. x ∷ ys) more.1)

confirmed_longer : (p n : ℕ) (rows : List Row) (at : ℕ) → IsConfirmedAt p (take n rows) at → IsConfirmedAt p rows at
confirmed_longer p n rows at is =
    let more = longer n rows in
    record {
      before = is.before;
      row = is.row;
      behind = is.behind ++ more.0;
      parted = more.1 ∙ ap (λ (rs : List Row). rs ++ more.0) is.parted
          ∙ append_assoc is.before (is.row ∷ is.behind) more.0;
      place = is.place;
      is_bad = is.is_bad;
      holds = is.holds;
      held = is.held;
    }

-- and one that confirms does so in the beginning up to it
confirmed_there : (p : ℕ) (rows : List Row) (at : ℕ) → IsConfirmedAt p rows at → IsConfirmedAt p (take (at + 1) rows) at
confirmed_there p rows at is =
    let front : take (at + 1) rows ≡ is.before ++ is.row ∷ [] =
    rw (is.place, is.parted) (take-append-add is.before (is.row ∷ is.behind) 1) in
    record {
      before = is.before;
      row = is.row;
      behind = [];
      parted = front;
      place = is.place;
      is_bad = is.is_bad;
      holds = is.holds;
      held = is.held;
    }

pub found_runs_are_confirmed : FoundRunsAreConfirmed
found_runs_are_confirmed c first steps rows found trace is =
    let here : IsFirstConfirmed found.property rows found.step =
    subst (λ (o : Option Hit). IsFoundIn rows o) is (first_is_found rows) in
    record {
      rows = take (found.step + 1) rows;
      trace = (trace.0, begins c first (found.step + 1) steps rows trace.1);
      is_verdict = record {
        confirmed = confirmed_there found.property rows found.step here.confirmed;
        first = λ earlier low on.
            here.first earlier low (confirmed_longer found.property (found.step + 1) rows earlier on);
      };
    }

-- something is found where a step confirms
some_found : (rows : List Row) (p step : ℕ) → IsConfirmedAt p rows step → (o : Option Hit) → hit_from 0 rows ≡ o
    → (found : Hit) × (hit_from 0 rows ≡ Some found)
some_found rows p step confirmed (Some found) is = (found, is)
some_found rows p step confirmed None is =
    let none : (q at : ℕ) → ¬ IsConfirmedAt q rows at =
    subst (λ (o : Option Hit). IsFoundIn rows o) is (first_is_found rows) in
    absurd (none p step confirmed)

pub answers_are_found : AnswersAreFound
answers_are_found c d frames a rows formed formed_too unrolled satisfied trace =
    let found = cuts_are_confirmed c d frames a formed formed_too unrolled satisfied in
    let verdict = found.4 in
    let same : verdict.rows ≡ rows =
    rows_follow_once c formed (cut_claim c frames a 0).first (cut_claim c frames a 0).steps verdict.rows rows
    verdict.trace.1 trace.1 in
    some_found rows found.0 found.1
    (subst (λ (rs : List Row). IsConfirmedAt found.0 rs found.1) same verdict.is_verdict.confirmed)
    (hit_from 0 rows) refl
