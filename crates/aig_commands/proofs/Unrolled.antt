-- What comes of a circuit that is read to be unrolled.
use Rattle.std.proofs.Common.{◌≡◌, ℕ, List, Result, Ok, Err, IfErr, IfOk, false, refl, true}
use Rattle.aig_circuit.specs.declared.circuit.Circuit.{Circuit}
use Rattle.aig_command.specs.declared.request.Unroll.{Unroll}
use Rattle.aig_command.specs.declared.request.UnrolledForm.{UnrolledForm}
use Rattle.aig_command.specs.declared.request.UnrolledForm.TheVariants.{Ascii, Binary, Clauses}
use Rattle.aig_fault.specs.Stopping.{StopsFor}
use Rattle.aig_fault.specs.declared.stopped.Stopped.{Stopped}
use Rattle.aig_io.specs.Devices.{History}
use Rattle.aig_io.specs.Runs.{Read}
use Rattle.aig_commands.specs.declared.answer.Answer.{Answer}
use Rattle.aig_commands.specs.File.{IsFileOf}
use Rattle.aig_commands.specs.Jobs.{text_of}
use Rattle.aig_commands.specs.Reading.{AtItsEnd, ReadSays}
use Rattle.aig_commands.specs.Unrolling.{IsTextFor, IsTextOf, IsUnrolledFor, IsUnrollingRefused, IsUnrollingText}
use Rattle.aig_commands.specs.Unrolling.{IsWritable, IsWrittenFor, NotUnrolledAs, property_of, unrolled_text}
use Rattle.aig_commands.proofs.Readings.{CameWhole, made_after, stopped_after}
use Rattle.aig_commands.proofs.Selected.{file_not_unrolled}

pub itself_for : (form : UnrolledForm) (d : Circuit) → IsWrittenFor false form d d
itself_for Binary d = refl
itself_for Ascii d = refl
itself_for (Clauses property) d = refl

-- what is written of an unrolled circuit
module _ (request : Unroll) (found d : Circuit) (is : IsUnrolledFor (property_of request.form) request.frames found d)
    (writable : IsWritable request.form d) where
  pub plain_text : request.simplify ≡ false → IsTextOf request found (unrolled_text request.form d)
  plain_text whole = record {
    unrolled = d;
    written = d;
    is_unrolled = is;
    is_writable = writable;
    is_written = rw whole (itself_for request.form d);
    written_as = rw whole refl;
  }

  pub simplified_text : request.simplify ≡ true → (text : List ℕ) → IsTextFor true request.form d text
      → IsTextOf request found text
  simplified_text simple text t = record {
    unrolled = d;
    written = t.0;
    is_unrolled = is;
    is_writable = writable;
    is_written = rw simple t.1;
    written_as = rw simple t.2;
  }

pub unrolling_read : (request : Unroll) (found : Circuit) (r : Result Answer Stopped) (before after : History)
    → IfOk r (λ answer. IsTextOf request found (text_of answer))
    → IfErr r (StopsFor (NotUnrolledAs request.form request.frames found))
    → Read (CameWhole (λ bytes. IsFileOf bytes request.max_var found)) before after
    → Read (ReadSays {A = Answer} (λ answer bytes. IsUnrollingText request bytes (text_of answer))
    (AtItsEnd (IsUnrollingRefused request)) r) before after
unrolling_read request found (Ok answer) before after text none read =
    made_after _ before after (λ bytes. IsUnrollingText request bytes (text_of answer))
    (λ bytes file. record { found = found; read = file; is_text = text }) read
unrolling_read request found (Err stopped) before after text why read =
    stopped_after _ before after (IsUnrollingRefused request) stopped
    (λ bytes. file_not_unrolled request found stopped bytes why) read
