-- Lines that a line tracer took, and the text for them.
use Rattle.std.proofs.Common.{◌≡◌, ◌++◌, ◌&&◌, ◌∷◌, ◌∙◌, if◌then◌else◌, ℕ, List, [], Bool, true, false, not, Option}
use Rattle.std.proofs.Common.{Some, None, length, refl, sym, ap, subst, append-nil, append_assoc, codes}
use Rattle.aig_circuit.specs.declared.circuit.Circuit.{Circuit}
use Rattle.aig_io.specs.Devices.{History}
use Rattle.aig_lines.specs.Feeders.{Feeder, HasFoldedBytes, IsInitial}
use Rattle.aig_lines.specs.Feeding.{Feeding, ended, ended_if, fold_bytes, feeding}
use Rattle.aig_lines.proofs.Feeds.{fold_nothing}
use Rattle.aig_lines.proofs.Tells.{Reached}
use Rattle.aig_meaning.proofs.Traces.{reset_state_is_first}
use Rattle.aig_step.specs.declared.trace.Columns.{Columns}
use Rattle.aig_step.specs.Outcome.{first_bad_line}
use Rattle.aig_step.specs.Stimulus.{Entry, entry_in, stimulus}
use Rattle.aig_trace.specs.Taken.{Took}
use Rattle.aig_trace.proofs.Taken.{took_nothing, took_on, took_twice}
use Rattle.aig_trace.specs.Parts.Progress.{Goes, begin_of}
use Rattle.aig_trace.specs.Parts.Saying.{Saying, before_lines, entry_turn, longest_entry, nothing_said, say_line}
use Rattle.aig_trace.specs.Parts.Streaming.{IsTraced}
use Rattle.aig_trace.specs.Parts.Tracing.{AcceptedLine, AppendedText, Did, HasTraced, IsFresh, IsSameTracer}
use Rattle.aig_trace.specs.Parts.Tracing.{LineTracing}
use Rattle.aig_trace.specs.Parts.Tracing.{Reading, Task, TookLine, Tracing, point_of, tracing_task, tracing_of}
use Rattle.aig_trace.proofs.RunTexts.{goes_one, goes_over, closing, goes_is_text, has_said}

-- alike in each part
alike : {W : Type 0} (t u : LineTracing W) → u.tracing ≡ t.tracing → u.waiting ≡ t.waiting → u.output ≡ t.output → u ≡ t
alike {W} t u tracing waiting output =
    ap (λ (x : Tracing). record { tracing = x; waiting = u.waiting; output = u.output }) tracing
    ∙ ap (λ (x : List Entry). record { tracing = t.tracing; waiting = x; output = u.output }) waiting
    ∙ ap (λ (x : W). record { tracing = t.tracing; waiting = t.waiting; output = x }) output

ended_run : (refused : Bool) (number : ℕ) (has_step : Bool)
    → (if not refused && has_step then codes ".\n" else [])
    ≡ closing true (if refused then Some number else None) has_step
ended_run true number has_step = refl
ended_run false number has_step = refl

module _ {W : Type 0} {H : W → W → List ℕ → Type 0} where
  -- what was done, and then more
  pub did_twice : (t u v : Tracing) (es fs : List Entry) (x y z : W) → Did H t u es x y → Did H u v fs y z
      → Did H t v (es ++ fs) x z
  did_twice t u v es fs x y z first more = record {
    same = record {
      circuit = more.same.circuit ∙ first.same.circuit;
      columns = more.same.columns ∙ first.same.columns;
    };
    text = first.text ++ more.text;
    goes = goes_over t.circuit t.columns (point_of t) (point_of u) (point_of v) es fs first.text more.text first.goes
        (subst (λ (c : Circuit). Goes c t.columns (point_of u) fs (point_of v) more.text) first.same.circuit
        (subst (λ (k : Columns). Goes u.circuit k (point_of u) fs (point_of v) more.text) first.same.columns
        more.goes));
    put = took_twice x y z first.text more.text first.put more.put;
  }

  -- nothing was done
  pub did_nothing : (t : Tracing) (x : W) → Did H t t [] x x
  did_nothing t x = record {
    same = record { circuit = refl; columns = refl };
    text = [];
    goes = (refl, refl);
    put = took_nothing x;
  }

  module _ (t u : LineTracing W) (s : Saying (Task W)) (at : HasTraced H t s) where
    -- some of what was to be done is done
    did_so_far : (es : List Entry) → Did H t.tracing u.tracing es t.output u.output
        → Did H (tracing_of s.known) u.tracing (at.done ++ es) s.known.from u.output
    did_so_far es did =
        did_twice (tracing_of s.known) t.tracing u.tracing at.done es s.known.from t.output u.output at.did did

    -- all that waited was done
    pub settled : Did H t.tracing u.tracing t.waiting t.output u.output → u.waiting ≡ [] → HasTraced H u s
    settled did none = record {
      inputs = at.inputs;
      done = at.done ++ t.waiting;
      all =
          at.all ∙ sym (append-nil (at.done ++ t.waiting))
          ∙ ap (λ (es : List Entry). (at.done ++ t.waiting) ++ es) (sym none);
      did = did_so_far t.waiting did;
    }

    module _ (text : List ℕ) where
      said_here : (o : Option Entry) → entry_in (length t.tracing.circuit.inputs) text ≡ o → entry_in s.inputs text ≡ o
      said_here o is =
          let inputs = at.inputs ∙ ap (λ (c : Circuit). length c.inputs) (sym at.did.same.circuit) in
          ap (λ (n : ℕ). entry_in n text) inputs ∙ is

      -- a line was accepted, or it says nothing
      pub accepted_line : (good : Bool) → (good ≡ true → AcceptedLine H t u text)
          → (good ≡ false → (entry_in (length t.tracing.circuit.inputs) text ≡ None) × (u.tracing ≡ t.tracing)
          × (u.waiting ≡ t.waiting) × (u.output ≡ t.output))
          → HasTraced H u (say_line s text).state × (good ≡ (say_line s text).goes_on)
      accepted_line true accepted other =
          let line = accepted refl in
          subst (λ (o : Option Entry). HasTraced H u (entry_turn s o).state × (true ≡ (entry_turn s o).goes_on))
          (sym (said_here (Some line.entry) line.said)) (
            record {
              inputs = at.inputs;
              done = at.done ++ line.done;
              all =
                  ap (λ (es : List Entry). es ++ line.entry ∷ []) at.all
                  ∙ append_assoc at.done t.waiting (line.entry ∷ [])
                  ∙ ap (λ (es : List Entry). at.done ++ es) line.left
                  ∙ sym (append_assoc at.done line.done u.waiting);
              did = did_so_far line.done line.did;
            },
            refl,
          )
      accepted_line false accepted other =
          let none = other refl in
          subst (λ (o : Option Entry). HasTraced H u (entry_turn s o).state × (false ≡ (entry_turn s o).goes_on))
          (sym (said_here None none.0)) (
            subst (λ (v : LineTracing W). HasTraced H v s) (sym (alike t u none.1 none.2 none.3)) at,
            refl,
          )

  -- a tracer took a line, and none waited
  pub accepted_alone : (t u : LineTracing W) (text : List ℕ) → t.waiting ≡ [] → u.waiting ≡ []
      → IsSameTracer t.tracing u.tracing → TookLine H t.tracing u.tracing t.output u.output text
      → AcceptedLine H t u text
  accepted_alone t u text none still same took = record {
    entry = took.entry;
    said = took.said;
    done = took.entry ∷ [];
    did = record {
      same = same;
      text = took.line;
      goes = goes_one t.tracing.circuit t.tracing.columns (point_of t.tracing) (point_of u.tracing) took.entry took.line
          took.does;
      put = took.put;
    };
    left =
        ap (λ (es : List Entry). es ++ took.entry ∷ []) none
        ∙ ap (λ (es : List Entry). took.entry ∷ es) (sym still);
  }

  -- before the first line
  pub begun : (t : LineTracing W) → point_of t.tracing ≡ begin_of t.tracing.circuit → t.waiting ≡ []
      → HasTraced H t (nothing_said (tracing_task t) (length t.tracing.circuit.inputs))
  begun t is none = record {
    inputs = refl;
    done = [];
    all = sym none;
    did = record {
      same = record { circuit = refl; columns = refl };
      text = [];
      goes = (is, refl);
      put = took_nothing t.output;
    };
  }

  -- and before the first byte
  pub begins : (f : Feeder) (t : LineTracing W) → IsInitial f
      → f.limit ≡ longest_entry (length t.tracing.circuit.inputs) → point_of t.tracing ≡ begin_of t.tracing.circuit
      → t.waiting ≡ []
      → HasFoldedBytes (HasTraced H) f t (before_lines (tracing_task t) (length t.tracing.circuit.inputs))
  begins f t initial limit is none =
      let s = nothing_said (tracing_task t) (length t.tracing.circuit.inputs) in
      subst (λ (n : ℕ). HasFoldedBytes (HasTraced H) f t (feeding n s)) limit
      (fold_nothing (HasTraced H) f t s initial (begun t is none))

  -- another taker stands there too
  abbrev folded_too : (f : Feeder) (t u : LineTracing W) (at : Feeding (Saying (Task W)))
      → HasFoldedBytes (HasTraced H) f t at → HasTraced H u at.state → HasFoldedBytes (HasTraced H) f u at
  folded_too f t u at stands has = record {
    taker = has;
    kept = stands.kept;
    room = stands.room;
    limit = stands.limit;
    number = stands.number;
    refused = stands.refused;
  }

  -- what waited was done
  pub folded_settled : (f : Feeder) (t u : LineTracing W) (at : Feeding (Saying (Task W)))
      → HasFoldedBytes (HasTraced H) f t at → Did H t.tracing u.tracing t.waiting t.output u.output → u.waiting ≡ []
      → HasFoldedBytes (HasTraced H) f u at
  folded_settled f t u at stands did none = folded_too f t u at stands (settled t u at.state stands.taker did none)

  -- the text was sent
  pub flushed : (f : Feeder) (t u : LineTracing W) (at : Feeding (Saying (Task W)))
      → HasFoldedBytes (HasTraced H) f t at
      → u.tracing ≡ t.tracing → u.waiting ≡ t.waiting → Took H t.output u.output []
      → HasFoldedBytes (HasTraced H) f u at
  flushed f t u at stands same waits put =
      let has = stands.taker in
      folded_too f t u at stands (record {
        inputs = has.inputs;
        done = has.done;
        all = has.all ∙ ap (λ (es : List Entry). has.done ++ es) (sym waits);
        did = record {
          same = rw same has.did.same;
          text = has.did.text;
          goes = rw same has.did.goes;
          put = took_on at.state.known.from t.output u.output has.did.text has.did.put put;
        };
      })

  -- the text for the lines that were taken, and what ends it
  pub traced : (task : Task W) (bytes : List ℕ) (over : Bool) (f : Feeder) (t : LineTracing W) (to : W)
      → HasFoldedBytes (HasTraced H) f t
      (ended_if say_line over (fold_bytes say_line (before_lines task (length task.circuit.inputs)) bytes))
      → t.waiting ≡ [] → Took H t.output to (closing over (first_bad_line task.circuit bytes over) t.tracing.has_step)
      → IsTraced H task.circuit task.columns bytes over task.from to f
  traced task bytes over f t to stands none put =
      let said = has_said (HasTraced H) task (length task.circuit.inputs) bytes over f t stands in
      let at = said.taker in
      let did = at.did in
      let end = closing over (first_bad_line task.circuit bytes over) t.tracing.has_step in
      record {
        text = did.text ++ end;
        is_trace = record {
          first = said.bad;
          is_text = goes_is_text task.circuit task.columns (point_of t.tracing) at.done did.text
              (reset_state_is_first task.circuit) did.goes bytes over
              (at.all ∙ ap (λ (es : List Entry). at.done ++ es) none ∙ append-nil at.done);
        };
        put = took_twice task.from t.output to did.text end did.put put;
      }

  -- the same at the end of the bytes, where the run that is going on is ended if no line was refused
  pub traced_all : (task : Task W) (bytes : List ℕ) (f : Feeder) (t : LineTracing W) (to : W)
      → HasFoldedBytes (HasTraced H) f t
      (ended say_line (fold_bytes say_line (before_lines task (length task.circuit.inputs)) bytes))
      → t.waiting ≡ [] → (good : Bool) → good ≡ not f.refused
      → Took H t.output to (if good && t.tracing.has_step then codes ".\n" else [])
      → IsTraced H task.circuit task.columns bytes true task.from to f
  traced_all task bytes f t to stands none good is put =
      let bad = (has_said (HasTraced H) task (length task.circuit.inputs) bytes true f t stands).bad in
      let has_step = t.tracing.has_step in
      traced task bytes true f t to stands none
      (subst (Took H t.output to)
      (ap (λ (b : Bool). if b && has_step then codes ".\n" else []) is ∙ ended_run f.refused f.number has_step
      ∙ ap (λ (o : Option ℕ). closing true o has_step) (sym bad)) put)

  -- all lines of these bytes were taken, and the run was ended that was going on
  pub put_all : (r : Reading) (bytes : List ℕ) (f g h : Feeder) (t u v w : LineTracing W) (a b : W)
      → IsFresh r → f ≡ r.feeder → t ≡ record { tracing = r.tracing; waiting = r.waiting; output = a }
      → ((at : Feeding (Saying (Task W))) → HasFoldedBytes (HasTraced H) f t at
      → HasFoldedBytes (HasTraced H) g u (fold_bytes say_line at bytes))
      → ((at : Feeding (Saying (Task W))) → HasFoldedBytes (HasTraced H) g u at
      → HasFoldedBytes (HasTraced H) h v (ended say_line at))
      → Did H v.tracing w.tracing v.waiting v.output w.output → w.waiting ≡ []
      → Took H w.output b (if w.tracing.has_step then codes ".\n" else []) → AppendedText H r.tracing bytes a b
  put_all r bytes f g h t u v w a b fresh same is took ends did none close =
      let new : LineTracing W = record { tracing = r.tracing; waiting = r.waiting; output = a } in
      let inputs = length r.tracing.circuit.inputs in
      let start : HasFoldedBytes (HasTraced H) f t (before_lines (tracing_task new) inputs) =
      rw (same, is) (begins r.feeder new fresh.initial fresh.limit fresh.begun fresh.settled) in
      let all = folded_settled h v w _ (ends _ (took _ start)) did none in
      let at = (has_said (HasTraced H) (tracing_task new) inputs bytes true h w all).taker in
      let entries = (stimulus inputs bytes true).entries in
      record {
        point = point_of w.tracing;
        text = at.did.text;
        goes = subst
            (λ (es : List Entry). Goes r.tracing.circuit r.tracing.columns (begin_of r.tracing.circuit) es
            (point_of w.tracing) at.did.text)
            (sym (at.all ∙ ap (λ (es : List Entry). at.done ++ es) none ∙ append-nil at.done)) at.did.goes;
        put = took_twice a w.output b at.did.text (if w.tracing.has_step then codes ".\n" else []) at.did.put close;
      }

  -- the text for the whole lines among the bytes that came
  pub traced_so_far : (task : Task W) (f : Feeder) (t : LineTracing W) (source now : History)
      (r : Reached say_line (HasTraced H) (longest_entry (length task.circuit.inputs))
      (nothing_said task (length task.circuit.inputs)) source now f t)
      → t.waiting ≡ [] → IsTraced H task.circuit task.columns r.bytes false task.from t.output f
  traced_so_far task f t source now r none =
      traced task r.bytes false f t t.output r.stands none (took_nothing t.output)
