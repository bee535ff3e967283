-- A model and a stimulus have one simulation text, and a file and its conversion have the same.
use Rattle.std.proofs.Common.{◌≡◌, ◌∙◌, sym, ℕ, List, true}
use Rattle.aig_circuit.specs.declared.circuit.Circuit.{Circuit}
use Rattle.aig_circuit.specs.declared.circuit.TheConstants.{LARGEST}
use Rattle.aig_meaning.specs.Meaning.{MeansTheSame}
use Rattle.aig_meaning.proofs.Traces.{same_back}
use Rattle.aig_command.specs.declared.request.Sim.{Sim}
use Rattle.aig_trace_laws.proofs.Texts.{one_trace_text, same_meaning_same_text}
use Rattle.aig_commands.specs.File.{IsFileOf}
use Rattle.aig_commands.specs.Simulation.{columns_of, IsSimulationText}
use Rattle.aig_commands.specs.Laws.{SimulationsAreUnambiguous, SimulationTextsExist, TracesAreKept}
use Rattle.aig_binary.proofs.Files.{one_circuit}
use Rattle.aig_commands.proofs.Meant.{converted_file}
use Rattle.aig_commands.proofs.TripsExist.{well_formed_file}

pub one_simulation_text : SimulationsAreUnambiguous
one_simulation_text request model stimulus text other p q =
    let same = one_circuit model request.max_var p.found q.found p.read q.read in
    let good = well_formed_file model request.max_var q.found q.read in
    let one = one_trace_text q.found (columns_of request) stimulus true good in
    one.2 text (rw same at p.is_trace) ∙ sym (one.2 other q.is_trace)

pub simulation_text_exists : SimulationTextsExist
simulation_text_exists request c file stimulus read none_bad =
    let one = one_trace_text c (columns_of request) stimulus true (well_formed_file file request.max_var c read) in
    (one.0, record { found = c; read = read; none_bad = none_bad; is_trace = one.1 })

-- a simulation text of the file of a circuit is one of the file of a circuit that means the same
carried : (before after : Sim) (file other stimulus text : List ℕ) (c d : Circuit) → before.max_var ≡ LARGEST
    → after.max_var ≡ LARGEST → after.properties ≡ before.properties → IsFileOf file LARGEST c
    → IsFileOf other LARGEST d → MeansTheSame c d
    → IsSimulationText before file stimulus text → IsSimulationText after other stimulus text
carried before after file other stimulus text c d limit limit_after properties is is_other means p =
    let same = one_circuit file LARGEST p.found c (rw limit at p.read) is in
    let texts = same_meaning_same_text c d means (columns_of before) stimulus true in
    record {
      found = d;
      read = rw limit_after is_other;
      none_bad = texts.0 ∙ (rw same at p.none_bad);
      is_trace = rw properties ((texts.1 text).0 (rw same at p.is_trace));
    }

pub traces_are_kept : TracesAreKept
traces_are_kept request before after still limit limit_before limit_after properties file converted stimulus text p =
    let is : IsFileOf file LARGEST p.found = rw limit at p.read in
    let made = converted_file request file converted still p in
    let there =
    carried before after file converted stimulus text p.found made.0 limit_before limit_after properties is
    made.1 made.2 in
    let back =
    carried after before converted file stimulus text made.0 p.found limit_after limit_before (sym properties)
    made.1 is (same_back p.found made.0 made.2) in (
      (there, back),
      λ other of_file of_converted.
          one_simulation_text after converted stimulus text other (there of_file) of_converted,
    )
