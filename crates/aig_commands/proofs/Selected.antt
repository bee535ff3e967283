-- What comes of a circuit that is read, by what stands for the property.
use Rattle.std.proofs.Common.{◌≡◌, ◌≤◌, ℕ, List, Result, Ok, Err, IfErr, IfOk, OnOk, inr, refl, subst}
use Rattle.aig_circuit.specs.declared.circuit.Circuit.{Circuit}
use Rattle.aig_command.specs.Aiger.{most_frames}
use Rattle.aig_command.specs.declared.request.Reach.{Reach}
use Rattle.aig_command.specs.declared.request.Unroll.{Unroll}
use Rattle.aig_command.specs.declared.request.UnrolledForm.{UnrolledForm}
use Rattle.aig_command.specs.declared.request.UnrolledForm.TheVariants.{Clauses}
use Rattle.aig_cnf.specs.ClauseText.{cnf_text}
use Rattle.aig_fault.specs.Stopping.{StopsFor}
use Rattle.aig_fault.specs.declared.fault.Fault.{Fault}
use Rattle.aig_fault.specs.declared.stopped.Stopped.{Stopped}
use Rattle.aig_fault.specs.declared.stopped.Stopped.TheVariants as stops
use Rattle.aig_fault.proofs.Stoppings.{stops_weaker}
use Rattle.aig_command.specs.declared.request.Property.{Property}
use Rattle.aig_command.specs.declared.request.Property.TheVariants.{AnyBad}
use Rattle.aig_unroll.specs.Outcome.{HasClauses, NotUnrolled}
use Rattle.aig_unroll.specs.Unrolled.{IsTooLarge, IsUnrolled, IsUnsupported}
use Rattle.aig_commands.specs.File.{IsFileOf}
use Rattle.aig_io.specs.Devices.{History}
use Rattle.aig_io.specs.Runs.{Read}
use Rattle.aig_commands.specs.Property.{HasProperty, NotModelled, property_model}
use Rattle.aig_commands.specs.Reaching.{IsModelRefused, IsSelectedModel, clauses_selected}
use Rattle.aig_commands.specs.Reading.{AtItsEnd, ReadSays}
use Rattle.aig_commands.specs.Refuting.{CanUnroll}
use Rattle.aig_commands.specs.Unrolling.{IsUnrolledFor, IsUnrollingRefused, NotUnrolledAs, NotWritable}
use Rattle.aig_commands.specs.Unrolling.{property_of}
use Rattle.aig_commands.specs.Unrolling.{cannot_unroll, cannot_write, has_not_property}
use Rattle.aig_commands.proofs.Readings.{CameWhole, made_after, stopped_after}

-- what is unrolled of what stands for a property of a circuit
pub unrolled_for : (property : Property) (frames : ℕ) (c selected d : Circuit) → HasProperty property c
    → selected ≡ property_model property c
    → ¬ IsUnsupported selected × ¬ IsTooLarge selected frames → IsUnrolled selected frames d
    → IsUnrolledFor property frames c d
unrolled_for property frames c selected d has same can is = record {
  has_property = has;
  supported = subst (λ (k : Circuit). ¬ IsUnsupported k) same can.0;
  fits = subst (λ (k : Circuit). ¬ IsTooLarge k frames) same can.1;
  is_unrolled = subst (λ (k : Circuit). IsUnrolled k frames d) same is;
}

module _ (form : UnrolledForm) (frames : ℕ) (c : Circuit) where
  pub not_asked : (stopped : Stopped) → NotModelled (property_of form) c stopped
      → StopsFor (NotUnrolledAs form frames c) stopped
  not_asked stops.OutOfMemory why = tt
  not_asked (stops.Refused fault) why = has_not_property why
  not_asked stopped why = why

  pub not_unrolled : (selected : Circuit) (stopped : Stopped) → HasProperty (property_of form) c
      → selected ≡ property_model (property_of form) c → NotUnrolled selected frames stopped
      → StopsFor (NotUnrolledAs form frames c) stopped
  not_unrolled selected stops.OutOfMemory has same why = tt
  not_unrolled selected (stops.Refused fault) has same why =
      cannot_unroll has (subst (λ (k : Circuit). NotUnrolled k frames (stops.Refused fault)) same why)
  not_unrolled selected stopped has same why = why

pub not_written : (form : UnrolledForm) (frames : ℕ) (c d : Circuit) (stopped : Stopped)
    → IsUnrolledFor (property_of form) frames c d → NotWritable form d stopped
    → StopsFor (NotUnrolledAs form frames c) stopped
not_written (Clauses property) frames c d (stops.Refused fault) is why = cannot_write d is why
not_written (Clauses property) frames c d stopped is why = absurd why
not_written form frames c d stopped is why = absurd why

-- a file was read, and its circuit is not unrolled
pub file_not_unrolled : (request : Unroll) (found : Circuit) (stopped : Stopped) (bytes : List ℕ)
    → StopsFor (NotUnrolledAs request.form request.frames found) stopped → IsFileOf bytes request.max_var found
    → StopsFor (λ fault. IsUnrollingRefused request fault bytes) stopped
file_not_unrolled request found stopped bytes why file =
    stops_weaker _ (λ fault. IsUnrollingRefused request fault bytes) stopped (λ fault why. inr (found, file, why)) why

-- where what stands for the property has no clauses, the circuit has none for it
module _ (property : Property) (frames : ℕ) (c selected : Circuit) (has : HasProperty property c)
    (same : selected ≡ property_model property c) where
  with_it : (fault : Fault) → NotUnrolledAs (Clauses AnyBad) frames selected fault
      → NotUnrolledAs (Clauses property) frames c fault
  with_it fault (has_not_property none) = absurd none
  with_it fault (cannot_unroll there why) =
      cannot_unroll has (subst (λ (k : Circuit). NotUnrolled k frames (stops.Refused fault)) same why)
  with_it fault (cannot_write d unrolled why) =
      cannot_write d (unrolled_for property frames c selected d has same (unrolled.supported, unrolled.fits)
      unrolled.is_unrolled) why

  pub none_alone : (stopped : Stopped) → StopsFor (NotUnrolledAs (Clauses AnyBad) frames selected) stopped
      → StopsFor (NotUnrolledAs (Clauses property) frames c) stopped
  none_alone stopped = stops_weaker _ _ stopped with_it

-- a model was read, and it has clauses
model_selected : (request : Reach) (found selected : Circuit) (bytes : List ℕ) → HasProperty request.property found
    → selected ≡ property_model request.property found
    → ((d : Circuit) × IsUnrolledFor AnyBad request.frames selected d × HasClauses d)
    → IsFileOf bytes request.max_var found → IsSelectedModel request bytes selected
model_selected request found selected bytes has same (d, is, clauses) file = record {
  clauses = cnf_text d;
  has_clauses = record {
    found = found;
    read = file;
    is_text = record {
      unrolled = d;
      written = d;
      is_unrolled = unrolled_for request.property request.frames found selected d has same (is.supported, is.fits)
          is.is_unrolled;
      is_writable = clauses;
      is_written = refl;
      written_as = refl;
    };
  };
  selected_is = same;
}

-- or none
pub model_read : (request : Reach) (found : Circuit) (r : Result Circuit Stopped) (before after : History)
    → IfOk r (λ selected. selected ≡ property_model request.property found) → OnOk r (HasProperty request.property found)
    → IfOk r (λ selected. (d : Circuit) × IsUnrolledFor AnyBad request.frames selected d × HasClauses d)
    → IfErr r (StopsFor (NotUnrolledAs (Clauses request.property) request.frames found))
    → Read (CameWhole (λ bytes. IsFileOf bytes request.max_var found)) before after
    → Read (ReadSays {A = Circuit} (λ selected bytes. IsSelectedModel request bytes selected)
    (AtItsEnd (IsModelRefused request)) r) before after
model_read request found (Ok selected) before after same has clauses none read =
    made_after _ before after (λ bytes. IsSelectedModel request bytes selected)
    (λ bytes. model_selected request found selected bytes has same clauses) read
model_read request found (Err stopped) before after same has clauses why read =
    stopped_after _ before after (IsModelRefused request) stopped
    (λ bytes. file_not_unrolled (clauses_selected request) found stopped bytes why) read

-- and so it can be unrolled
pub can_unroll : (frames : ℕ) (selected : Circuit) → (1 ≤ frames) × (frames ≤ most_frames)
    → ((d : Circuit) × IsUnrolledFor AnyBad frames selected d × HasClauses d) → CanUnroll selected frames
can_unroll frames selected within (d, is, clauses) =
    record { some = within.0; not_many = within.1; supported = is.supported; fits = is.fits }
