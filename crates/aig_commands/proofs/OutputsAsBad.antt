-- Where outputs became bad states, the circuit is well formed, and its traces are those that there were, with the
-- outputs as bad states.
use Rattle.std.proofs.Common.{◌≡◌, ◌∙◌, ◌<◌, ◌∷◌, arith, ℕ, List, [], map, refl, sym, ap}
use Rattle.std.proofs.Common.{ap₂, subst}
use Rattle.std.specs.List.{AllByRecursion}
use Rattle.aig_circuit.specs.declared.circuit.Circuit.{Circuit}
use Rattle.aig_circuit.specs.declared.circuit.Kind.{Kind}
use Rattle.aig_circuit.specs.declared.circuit.Kind.TheVariants as kinds
use Rattle.aig_circuit.specs.declared.circuit.Symbol.{Symbol}
use Rattle.aig_circuit.specs.declared.circuit.TheConstants.{LARGEST}
use Rattle.aig_circuit.specs.declared.value.Val.{Val}
use Rattle.aig_circuit.specs.Wellformed.{IsAmong, IsWellFormed, NameApart, NameTheSame, count_of, line_feed}
use Rattle.aig_meaning.specs.Meaning.{IsRow, IsStepAssignment, MeansTheSame, Row}
use Rattle.aig_meaning.specs.Trace.{Follow, IsTrace}
use Rattle.aig_meaning.proofs.Traces.{same_meaning_same_traces, same_row}
use Rattle.aig_binary.proofs.Files.{one_circuit}
use Rattle.aig_command.specs.declared.request.BadStates.{BadStates}
use Rattle.aig_commands.specs.Conversion.{turned}
use Rattle.aig_commands.specs.Laws.{OutputsAreShownAsBad}
use Rattle.aig_commands.specs.OutputsAsBad.{kind_as_bad, row_with_outputs_as_bad, symbol_as_bad, with_outputs_as_bad}
use Rattle.aig_commands.proofs.Meant.{source_by, turned_file}
use Rattle.aig_commands.proofs.TripsExist.{well_formed_file}

-- the kind that a bad state had as an output
abbrev kind_back : Kind → Kind
kind_back kinds.Bad = kinds.Output
kind_back kind = kind

-- the row that this one was before
abbrev row_back : Row → Row
row_back row = record row { outputs = row.bad; bad = [] }

module _ (c : Circuit) (none : c.bad ≡ []) where
  abbrev Fits : Symbol → Type 0
  Fits s = s.position < count_of c s.kind

  -- no symbol is of a bad state, so a symbol of an output fits where it becomes one
  fits_there : (kind : Kind) (position : ℕ) → position < count_of c kind
      → position < count_of (with_outputs_as_bad c) (kind_as_bad kind)
  fits_there kinds.Input position fits = fits
  fits_there kinds.Latch position fits = fits
  fits_there kinds.Output position fits = fits
  fits_there kinds.Bad position fits = let no : position < 0 = rw none at fits in absurd (omega arith)
  fits_there kinds.Constraint position fits = fits
  fits_there kinds.Justice position fits = fits
  fits_there kinds.Fairness position fits = fits

  -- and its kind can be told from what it became
  is_back : (kind : Kind) (position : ℕ) → position < count_of c kind → kind_back (kind_as_bad kind) ≡ kind
  is_back kinds.Input position fits = refl
  is_back kinds.Latch position fits = refl
  is_back kinds.Output position fits = refl
  is_back kinds.Bad position fits = let no : position < 0 = rw none at fits in absurd (omega arith)
  is_back kinds.Constraint position fits = refl
  is_back kinds.Justice position fits = refl
  is_back kinds.Fairness position fits = refl

  all_fit : (ss : List Symbol) → AllByRecursion Fits ss
      → AllByRecursion (λ (s : Symbol). s.position < count_of (with_outputs_as_bad c) s.kind) (map symbol_as_bad ss)
  all_fit [] fit = tt
  all_fit (s ∷ ss) fit = (fits_there s.kind s.position fit.0, all_fit ss fit.1)

  apart_from : (s : Symbol) (ss : List Symbol) → Fits s → AllByRecursion Fits ss
      → AllByRecursion (λ t. ¬ NameTheSame s t) ss
      → AllByRecursion (λ t. ¬ NameTheSame (symbol_as_bad s) t) (map symbol_as_bad ss)
  apart_from s [] fits fit apart = tt
  apart_from s (t ∷ ts) fits fit apart = (
    λ same.
        apart.0 (
          sym (is_back s.kind s.position fits) ∙ ap kind_back same.0 ∙ is_back t.kind t.position fit.0,
          same.1,
        ),
    apart_from s ts fits fit.1 apart.1,
  )

  all_apart : (ss : List Symbol) → AllByRecursion Fits ss → NameApart ss → NameApart (map symbol_as_bad ss)
  all_apart [] fit apart = tt
  all_apart (s ∷ ss) fit apart = (apart_from s ss fit.0 fit.1 apart.0, all_apart ss fit.1 apart.1)

  all_lines : (ss : List Symbol) → AllByRecursion (λ (s : Symbol). ¬ IsAmong line_feed s.name) ss
      → AllByRecursion (λ (s : Symbol). ¬ IsAmong line_feed s.name) (map symbol_as_bad ss)
  all_lines [] lines = tt
  all_lines (s ∷ ss) lines = (lines.0, all_lines ss lines.1)

  pub turned_is_well_formed : IsWellFormed c → IsWellFormed (with_outputs_as_bad c)
  turned_is_well_formed good = record {
    limits = record {
      max_var = good.limits.max_var;
      inputs = good.limits.inputs;
      latches = good.limits.latches;
      literals = (omega arith, (good.limits.literals.0, good.limits.literals.1.1));
      justice = good.limits.justice;
      sizes = good.limits.sizes;
      gates = good.limits.gates;
    };
    in_range = good.in_range;
    once = good.once;
    known = rw none at good.known;
    symbols = record {
      positions = all_fit c.symbols good.symbols.positions;
      apart = all_apart c.symbols good.symbols.positions good.symbols.apart;
      lines = all_lines c.symbols good.symbols.lines;
    };
    ranked = good.ranked;
  }

  -- ---- rows

  same_assignment : (state given : List Val) (a : ℕ → Val) → IsStepAssignment c state given a
      → IsStepAssignment (with_outputs_as_bad c) state given a
  same_assignment state given a is =
      record { constant = is.constant; inputs = is.inputs; latches = is.latches; gates = is.gates }

  assignment_back : (state given : List Val) (a : ℕ → Val) → IsStepAssignment (with_outputs_as_bad c) state given a
      → IsStepAssignment c state given a
  assignment_back state given a is =
      record { constant = is.constant; inputs = is.inputs; latches = is.latches; gates = is.gates }

  row_there : (row : Row) → IsRow c row → IsRow (with_outputs_as_bad c) (row_with_outputs_as_bad row)
  row_there row (a, shown) = (
    a,
    record {
      assigned = same_assignment row.state row.inputs a shown.assigned;
      outputs_shown = refl;
      next_shown = shown.next_shown;
      bad_shown = shown.outputs_shown;
      constraints_shown = shown.constraints_shown;
    },
  )

  row_is_back : (row : Row) → IsRow (with_outputs_as_bad c) row → IsRow c (row_back row)
  row_is_back row (a, shown) = (
    a,
    record {
      assigned = assignment_back row.state row.inputs a shown.assigned;
      outputs_shown = shown.bad_shown;
      next_shown = shown.next_shown;
      bad_shown = rw none refl;
      constraints_shown = shown.constraints_shown;
    },
  )

  there_and_back : (row : Row) → IsRow (with_outputs_as_bad c) row → row ≡ row_with_outputs_as_bad (row_back row)
  there_and_back row is =
      same_row row (row_with_outputs_as_bad (row_back row)) refl refl is.1.outputs_shown refl refl refl

  -- ---- traces

  follow_there : (state : List Val) (vectors : List (List Val)) (rows : List Row) → Follow c state vectors rows
      → Follow (with_outputs_as_bad c) state vectors (map row_with_outputs_as_bad rows)
  follow_there state [] [] follow = tt
  follow_there state [] (r ∷ rs) follow = absurd follow
  follow_there state (v ∷ vs) [] follow = absurd follow
  follow_there state (v ∷ vs) (r ∷ rs) follow =
      (follow.0, follow.1, row_there r follow.2, follow_there r.next vs rs follow.3)

  follow_back : (state : List Val) (vectors : List (List Val)) (rows : List Row)
      → Follow (with_outputs_as_bad c) state vectors rows
      → Follow c state vectors (map row_back rows) × (rows ≡ map row_with_outputs_as_bad (map row_back rows))
  follow_back state [] [] follow = (tt, refl)
  follow_back state [] (r ∷ rs) follow = absurd follow
  follow_back state (v ∷ vs) [] follow = absurd follow
  follow_back state (v ∷ vs) (r ∷ rs) follow =
      let later = follow_back r.next vs rs follow.3 in (
        (follow.0, follow.1, row_is_back r follow.2, later.0),
        ap₂ (λ x xs. x ∷ xs) (there_and_back r follow.2) later.1,
      )

-- the traces of a circuit that means what one with its outputs as bad states means, by those of one that means what
-- that one meant before
module _ (c e d : Circuit) (same : MeansTheSame c e) (none : e.bad ≡ [])
    (same_too : MeansTheSame (with_outputs_as_bad e) d) (first : List Val) (steps : List (List Val)) where
  abbrev IsShown : List Row → Type 0
  IsShown rows = (shown : List Row) × IsTrace c first steps shown × (rows ≡ map row_with_outputs_as_bad shown)

  trace_back : (rows : List Row) → IsTrace d first steps rows → IsShown rows
  trace_back rows is =
      let turned = (same_meaning_same_traces (with_outputs_as_bad e) d same_too first steps rows).1 is in
      let back = follow_back e none first steps rows turned.1 in (
        map row_back rows,
        (same_meaning_same_traces c e same first steps (map row_back rows)).1 (turned.0, back.0),
        back.1,
      )

  trace_there : (rows : List Row) → IsShown rows → IsTrace d first steps rows
  trace_there rows (shown, is, rows_are) =
      let there = (same_meaning_same_traces c e same first steps shown).0 is in
      let turned : IsTrace (with_outputs_as_bad e) first steps (map row_with_outputs_as_bad shown) =
      (there.0, follow_there e none first steps shown there.1) in
      rw rows_are ((same_meaning_same_traces (with_outputs_as_bad e) d same_too first steps
      (map row_with_outputs_as_bad shown)).0 turned)

pub outputs_are_shown_as_bad : OutputsAreShownAsBad
outputs_are_shown_as_bad request turns limit file converted p c d of_file of_converted =
    let good = well_formed_file file request.max_var p.found p.read in
    let source = source_by request.undo_map p.found p.source good p.is_source in
    let none : p.source.bad ≡ [] = rw turns at p.can_turn in
    let made =
    turned_file request file converted p (rw turns (turned_is_well_formed p.source none source.0)) in
    let same_found = one_circuit file LARGEST p.found c (rw limit at p.read) of_file in
    let same_made = one_circuit converted LARGEST made.0 d made.1 of_converted in
    let of_source = subst (λ (e : Circuit). MeansTheSame e p.source) same_found source.1 in
    let of_made =
    subst (MeansTheSame (with_outputs_as_bad p.source)) same_made
    (subst (λ (b : BadStates). MeansTheSame (turned b p.source) made.0) turns made.2) in
    λ first steps rows. (
      trace_back c p.source d of_source none of_made first steps rows,
      trace_there c p.source d of_source none of_made first steps rows,
    )
