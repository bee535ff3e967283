use Rattle.std.proofs.Common.{◌≡◌, ◌∙◌, List, [], ap, length, refl, sym, subst, ℕ, All}
use Rattle.aig_circuit.specs.declared.circuit.Circuit.{Circuit}
use Rattle.aig_lanes.specs.declared.run.Run.{Run}
use Rattle.aig_lanes.specs.Parts.Benches.{HasRoomFor}
use Rattle.aig_step.specs.Parts.Lines.{line_size}
use Rattle.aig_step.proofs.LineValues.{same_size}
use Rattle.aig_batch.specs.Parts.RunsRead.{SaysEntries, entries_of_groups}
use Rattle.aig_trace.proofs.Taken.{took_nothing}
use Rattle.aig_batch.proofs.Batching.{put_behind, taken_so}
use Rattle.aig_batch.proofs.batched.trace_collected.Goals as goal

-- what is said of groups is said where they are passed on
says_of : (circuit : Circuit) (bytes rest : List ℕ) (inputs : ℕ) (groups passed : List (List Run))
    → inputs ≡ length circuit.inputs → passed ≡ groups → SaysEntries inputs bytes (entries_of_groups groups) rest
    → SaysEntries (length circuit.inputs) bytes (entries_of_groups passed) rest
says_of circuit bytes rest inputs groups passed count same says = rw (← count, same) says

pub trace_good-traced-requires-clause-room : goal.trace_good-traced-requires-clause-room
trace_good-traced-requires-clause-room g c =
    subst (λ (k : Circuit). All (HasRoomFor k c.in-Ok-new.bench) c.deref-2.result.now) c.machine.ensures
    (subst (λ (groups : List (List Run)). All (HasRoomFor c.machine.result.now c.in-Ok-new.bench) groups)
    (c.deref.ensures.value ∙ sym c.deref-2.ensures.value) c.in-Ok-new.ensures.room)

pub new-requires-clause-line : goal.new-requires-clause-line
new-requires-clause-line g c =
    c.line_room.ensures.size
    ∙ same_size c.args.checked.now c.args.reader.tracing.circuit c.line_room.ensures.formed c.requires.same
    ∙ ap line_size (sym c.machine.ensures)

-- the reader takes all
pub returns-then-len-le-MOST_INPUTS-clause-taken : goal.returns-then-len-le-MOST_INPUTS-clause-taken
returns-then-len-le-MOST_INPUTS-clause-taken g c =
    let tracing = c.args.reader.tracing in
    let bytes = c.args.bytes.now in
    let output = c.args.output in
    let all = put_behind c.args.checked.now tracing.circuit tracing bytes bytes [] output output _ c.requires.same
    c.requires.same (record { parted = refl }) c.requires.none_bad
    (record { text = []; put = took_nothing output; goes = (refl, refl) }) c.put_trace_text.ensures in
    rw (← c.requires.columns)
    (taken_so c.args.checked.now tracing.columns bytes _ _ _ _ _ all c.flushed.ensures.took c.flushed.ensures.outcome)
