-- A model and a stimulus have one dump, which tells their trace, and a file and its conversion have the same.
use Rattle.std.proofs.Common.{◌≡◌, ◌∙◌, refl, sym, ap, ap₂, inl, subst, ℕ, List, Bool, true, false}
use Rattle.std.proofs.lemmas.List.{length-map}
use Rattle.std.proofs.lemmas.Simd.{map-map}
use Rattle.aig_circuit.specs.declared.circuit.Circuit.{Circuit}
use Rattle.aig_circuit.specs.declared.circuit.Latch.{Latch}
use Rattle.aig_circuit.specs.declared.circuit.TheConstants.{LARGEST}
use Rattle.aig_circuit.specs.Wellformed.{IsWellFormed}
use Rattle.aig_command.specs.declared.request.BadStates.TheVariants.{Kept}
use Rattle.aig_command.specs.declared.request.ToAig.{ToAig}
use Rattle.aig_image.specs.Image.{image_by}
use Rattle.aig_image.specs.Relabelled.{relabelled_latch, relabelled_literal}
use Rattle.aig_image.specs.Renumbering.{in_new_order, renumbered}
use Rattle.aig_image.proofs.Imaging.Ordered.{image_is_ordered}
use Rattle.aig_map.specs.MapBlock.{IsMappedImage}
use Rattle.aig_map.proofs.Mapping.{mapped_image_is_ordered}
use Rattle.aig_wave.specs.Laws.{ShowTheSame}
use Rattle.aig_wave.specs.Wave.{wave_text}
use Rattle.aig_wave.proofs.Alike.{same_wave}
use Rattle.aig_wave.proofs.Retold.{dumps_lose_nothing}
use Rattle.aig_circuit.specs.declared.circuit.Kind.TheVariants as kinds
use Rattle.aig_commands.specs.Conversion.{IsConversionText, IsSource, IsTextAs, IsWritten}
use Rattle.aig_commands.specs.DumpLaws.{ConversionsAreDumpedAlike, DumpsAreKept, DumpsAreUnambiguous, DumpsTellTraces}
use Rattle.aig_commands.specs.File.{IsFileOf}
use Rattle.aig_binary.proofs.Files.{one_circuit}
use Rattle.aig_commands.proofs.Traces.{one_simulation_text, traces_are_kept}
use Rattle.aig_commands.proofs.Trips.{ascii_file, binary_file}
use Rattle.aig_commands.proofs.TripsExist.{well_formed_file}

show_itself : (c : Circuit) → ShowTheSame c c
show_itself c = record {
  symbols = refl;
  inputs = refl;
  outputs = refl;
  bad = refl;
  constraints = refl;
  resets = refl;
}

pub show_back : (c d : Circuit) → ShowTheSame c d → ShowTheSame d c
show_back c d s = record {
  symbols = sym s.symbols;
  inputs = sym s.inputs;
  outputs = sym s.outputs;
  bad = sym s.bad;
  constraints = sym s.constraints;
  resets = sym s.resets;
}

show_through : (c d e : Circuit) → ShowTheSame c d → ShowTheSame d e → ShowTheSame c e
show_through c d e s t = record {
  symbols = t.symbols ∙ s.symbols;
  inputs = t.inputs ∙ s.inputs;
  outputs = t.outputs ∙ s.outputs;
  bad = t.bad ∙ s.bad;
  constraints = t.constraints ∙ s.constraints;
  resets = t.resets ∙ s.resets;
}

-- an image shows what the circuit shows, with a map or without
by_number : (c : Circuit) (order : List ℕ) → ShowTheSame c (image_by order c)
by_number c order =
    let f = renumbered (in_new_order c order) in
    record {
      symbols = refl;
      inputs = length-map c.inputs f;
      outputs = length-map c.outputs (relabelled_literal f);
      bad = length-map c.bad (relabelled_literal f);
      constraints = length-map c.constraints (relabelled_literal f);
      resets = map-map (λ (l : Latch). l.reset) (relabelled_latch f) c.latches;
    }

mapped_shown : (c image : Circuit) → IsMappedImage c image → ShowTheSame c image
mapped_shown c image (order, _, is) =
    let s = by_number c order in
    subst (ShowTheSame c) (sym is) (record {
      symbols = s.symbols;
      inputs = s.inputs;
      outputs = s.outputs;
      bad = s.bad;
      constraints = s.constraints;
      resets = s.resets;
    })

source_shown : (undo_map : Bool) (found source : Circuit) → IsWellFormed found → IsSource undo_map found source
    → IsWellFormed source × ShowTheSame found source
source_shown true found source good is =
    (is.well_formed, show_back source found (mapped_shown source found is.image))
source_shown false found source good is = rw is (good, show_itself found)

-- a simplified circuit shows what the circuit shows
written_shown : (simplify : Bool) (c written : Circuit) → IsWellFormed c → IsWritten simplify c written
    → IsWellFormed written × ShowTheSame c written
written_shown true c written good is = (
  is.formed,
  record {
    symbols = is.names.symbols;
    inputs = is.names.counts kinds.Input;
    outputs = is.names.counts kinds.Output;
    bad = is.names.counts kinds.Bad;
    constraints = is.names.counts kinds.Constraint;
    resets = is.same.resets;
  },
)
written_shown false c written good is = rw is (good, show_itself c)

-- what is written for a circuit is the file of one that shows the same
file_shown : (ascii keep_map : Bool) (c : Circuit) (text : List ℕ) → IsWellFormed c → IsTextAs ascii keep_map c text
    → (d : Circuit) × IsFileOf text LARGEST d × ShowTheSame c d
file_shown true keep_map c text good is = (c, inl (ascii_file c text good is), show_itself c)
file_shown false true c text good (image, mapped, is) =
    let ordered = mapped_image_is_ordered c image good mapped in
    (image, binary_file image text ordered.0 ordered.1 is, mapped_shown c image mapped)
file_shown false false c text good (image, is_image, is) =
    let ordered = image_is_ordered c image good is_image in (
      image,
      binary_file image text ordered.0 ordered.1 is,
      subst (ShowTheSame c) (sym is_image.2) (by_number c is_image.0),
    )

-- a file and its conversion show the same
pub shown_alike : (request : ToAig) → request.bad_states ≡ Kept → request.strip ≡ false
    → request.max_var ≡ LARGEST → (file converted : List ℕ) → IsConversionText request file converted
    → (c d : Circuit) → IsFileOf file LARGEST c
    → IsFileOf converted LARGEST d → ShowTheSame c d
shown_alike request still keeps limit file converted p c d of_file of_converted =
    let good = well_formed_file file request.max_var p.found p.read in
    let source = source_shown request.undo_map p.found p.source good p.is_source in
    let simple = written_shown request.simplify p.source p.written source.0 (rw (keeps, still) at p.is_written) in
    let made = file_shown request.ascii request.keep_map p.written converted simple.0 p.written_as in
    let same_found = one_circuit file LARGEST p.found c (rw limit at p.read) of_file in
    let same_made = one_circuit converted LARGEST made.0 d made.1 of_converted in
    subst (λ (e : Circuit). ShowTheSame e d) same_found
    (subst (ShowTheSame p.found) same_made
    (show_through p.found p.source made.0 source.1 (show_through p.source p.written made.0 simple.1 made.2)))

pub dumped_alike : ConversionsAreDumpedAlike
dumped_alike request still keeps limit file converted p c d of_file of_converted =
    same_wave c d (shown_alike request still keeps limit file converted p c d of_file of_converted)

at_limit : (text : List ℕ) (limit : ℕ) (c : Circuit) → limit ≡ LARGEST → IsFileOf text limit c
    → IsFileOf text LARGEST c
at_limit text limit c is read = rw is at read

pub dumps_are_kept : DumpsAreKept
dumps_are_kept request before after still keeps limit limit_before limit_after file converted stimulus dump p =
    let traces = λ (trace : List ℕ). (traces_are_kept request (record before { properties = true })
    (record after { properties = true }) still limit limit_before limit_after refl file converted stimulus trace p).0 in
    let alike = λ (c d : Circuit) (of_file : IsFileOf file before.max_var c)
    (of_converted : IsFileOf converted after.max_var d). dumped_alike request still keeps limit file converted p c d
    (at_limit file before.max_var c limit_before of_file)
    (at_limit converted after.max_var d limit_after of_converted) in (
      λ d.
          (let other = (traces d.trace).0 d.simulation in
          record {
            trace = d.trace;
            simulation = other;
            is_dump = d.is_dump
                ∙ sym (alike d.simulation.found other.found d.simulation.read other.read d.trace true);
          }),
      λ d.
          (let other = (traces d.trace).1 d.simulation in
          record {
            trace = d.trace;
            simulation = other;
            is_dump = d.is_dump ∙ alike other.found d.simulation.found other.read d.simulation.read d.trace true;
          }),
    )

pub one_dump : DumpsAreUnambiguous
one_dump request model stimulus dump other p q =
    let traces = one_simulation_text (record request { properties = true }) model stimulus p.trace q.trace
    p.simulation q.simulation in
    let found = one_circuit model request.max_var p.simulation.found q.simulation.found p.simulation.read
    q.simulation.read in
    p.is_dump ∙ ap₂ (λ (c : Circuit) (trace : List ℕ). wave_text c trace true) found traces ∙ sym q.is_dump

pub dumps_tell_traces : DumpsTellTraces
dumps_tell_traces request model stimulus other dump p q short other_short =
    let c = p.simulation.found in
    let found = one_circuit model request.max_var q.simulation.found c q.simulation.read p.simulation.read in
    dumps_lose_nothing c (well_formed_file model request.max_var c p.simulation.read).limits stimulus other p.trace
    q.trace short other_short p.simulation.is_trace p.simulation.none_bad (rw found at q.simulation.is_trace)
    (rw found at q.simulation.none_bad)
    (sym p.is_dump ∙ q.is_dump ∙ ap (λ (d : Circuit). wave_text d q.trace true) found)
