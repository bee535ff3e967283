-- What is sent where the dump of a trace is written.
use Rattle.std.proofs.Common.{◌≡◌, ◌∙◌, ℕ, List, [], Bool, true, false, Result, Ok, Err, ap, ap₂, cond, is_err, is_ok}
use Rattle.std.proofs.Common.{refl, subst, sym}
use Rattle.aig_io.specs.Devices.{History}
use Rattle.aig_io.specs.Output.{Appended, Out}
use Rattle.aig_io.specs.Runs.{All, Beginning, Delivery, Ending, IsCut, NotSent, Open, Sent, Transferred}
use Rattle.aig_io.proofs.Puts.{all_sent, beginning_sent, put_nothing}
use Rattle.aig_io.proofs.Runs.{read_weaker}
use Rattle.aig_io.proofs.Took.{took_none}
use Rattle.aig_circuit.specs.declared.circuit.Circuit.{Circuit}
use Rattle.aig_lines.specs.Lines.{lines_of}
use Rattle.aig_fault.specs.declared.stopped.Stopped.{Stopped}
use Rattle.aig_fault.specs.declared.stopped.Stopped.TheVariants as stops
use Rattle.aig_step.specs.declared.trace.Columns.TheVariants.{Properties}
use Rattle.aig_trace.specs.Taken.{Ran, Taken, Tells, Took, meant}
use Rattle.aig_wave.specs.declared.wave.WaveTaker.{WaveTaker}
use Rattle.aig_wave.specs.Dumping.{Dumps}
use Rattle.aig_wave.specs.Frames.{frames_of, most_frames}
use Rattle.aig_wave.specs.Layout.{Layout, layout_of}
use Rattle.aig_wave.specs.Wave.{dump, wave_text}
use Rattle.aig_dump.specs.Dumped.{DumpSays, TraceSaysAs}

uncut : (delivery : Delivery) (failed : Bool) → Tells failed delivery → (failed ≡ true → false ≡ true)
    → ¬ IsCut delivery
uncut NotSent failed tells fine = λ cut. cut
uncut All failed tells fine = λ cut. cut
uncut (Beginning count) failed tells fine = λ cut. (let e : false ≡ true = fine tells in absurd cc)

module _ (batch : Bool) (c : Circuit) where
  cut_where_told : (b : Bool) (bytes : List ℕ) (ending : Ending) (trace : List ℕ) (delivery : Delivery)
      → TraceSaysAs b c Properties (Err stops.WriteFailed) bytes ending trace delivery → IsCut delivery
  cut_where_told true bytes ending trace delivery says = says.1
  cut_where_told false bytes ending trace delivery says = says.1

  -- the sink took all of the dump
  whole : (ran : Result (Unit {0}) Stopped) (bytes : List ℕ) (ending : Ending) (trace : List ℕ) (delivery : Delivery)
      → ¬ IsCut delivery → TraceSaysAs batch c Properties ran bytes ending trace delivery
      → DumpSays batch c ran bytes ending (wave_text c (meant trace delivery) (is_ok ran)) All
  whole (Err stops.WriteFailed) bytes ending trace delivery not_cut says =
      absurd (not_cut (cut_where_told batch bytes ending trace delivery says))
  whole (Err fault) bytes ending trace delivery not_cut says =
      (refl, record { trace = trace; delivery = delivery; says = says; is_dump = refl })
  whole (Ok done) bytes ending trace delivery not_cut says =
      (refl, record { trace = trace; delivery = delivery; says = says; is_dump = refl })

  module _ {W : Type 0} (from now : WaveTaker W) (new end : Out W) (ran : Result (Unit {0}) Stopped) (done : Bool)
      (shows : from.dump_state.layout ≡ layout_of c) (made : from.output ≡ new) (unheld : new.held ≡ [])
      (fine : new.failed ≡ false) (begun : Dumps from from []) (ended : done ≡ is_ok ran)
      (finish : (other : WaveTaker W) (text : List ℕ) → Dumps other now text
      → Appended other.output end (dump other.dump_state.layout (frames_of other.dump_state.layout text) done))
      (empty : end.held ≡ []) where
    put : (text : List ℕ) → Took Dumps from now text → Appended new end (wave_text c text (is_ok ran))
    put text took =
        subst (λ (o : Out W). Appended o end (wave_text c text (is_ok ran))) made
        (subst (Appended from.output end)
        (ap₂ (λ (v : Layout) (b : Bool). dump v (frames_of v text) b) shows ended)
        (finish from text (took.more from [] begun)))

    answered : {T E : Type 0} (r : Result T E) (answer : Result (Unit {0}) Stopped) (bytes : List ℕ) (ending : Ending)
        → end.failed ≡ is_err r → (now.output.failed ≡ true → is_err r ≡ true)
        → answer ≡ cond (is_err r) (Err stops.WriteFailed) ran
        → Taken Dumps (TraceSaysAs batch c Properties ran bytes ending) from now now.output.failed
        → Sent (DumpSays batch c answer bytes ending) new.history end.history
    answered (Ok x) answer bytes ending fails tells is t =
        rw is (record {
          text = wave_text c (meant t.text t.delivery) (is_ok ran);
          delivery = All;
          says = whole ran bytes ending t.text t.delivery (uncut t.delivery now.output.failed t.tells tells) t.says;
          sent = all_sent new new end end _ refl unheld (put _ t.took) (put_nothing end) empty fails;
        })
    answered (Err fault) answer bytes ending fails tells is t =
        let part = beginning_sent new new end end _ refl unheld fine (put _ t.took) (put_nothing end) fails in
        rw is (record {
          text = wave_text c (meant t.text t.delivery) (is_ok ran);
          delivery = Beginning part.count;
          says = (tt, (ran, record { trace = t.text; delivery = t.delivery; says = t.says; is_dump = refl }));
          sent = part.history;
        })

    -- the trace was taken, and the dump of it ended
    pub dumped : {T E : Type 0} (r : Result T E) (answer : Result (Unit {0}) Stopped) (failed : Bool)
        (s s_now o_now : History) → end.failed ≡ is_err r → (now.output.failed ≡ true → is_err r ≡ true)
        → failed ≡ is_err r → answer ≡ cond failed (Err stops.WriteFailed) ran
        → Ran Dumps (TraceSaysAs batch c Properties ran) s s_now from now now.output.failed → o_now ≡ end.history
        → Transferred (DumpSays batch c answer) s s_now new.history o_now
    dumped r answer failed s s_now o_now fails tells told is run output =
        rw output
        (read_weaker
        (λ bytes ending. Taken Dumps (TraceSaysAs batch c Properties ran bytes ending) from now now.output.failed)
        (λ bytes ending. Sent (DumpSays batch c answer bytes ending) new.history end.history) s s_now
        (λ bytes ending. answered r answer bytes ending fails tells
        (is ∙ ap (λ (b : Bool). cond b (Err stops.WriteFailed) ran) told)) run)

-- nothing comes of a dump for which there is no memory
no_frame : (c : Circuit) → wave_text c [] false ≡ []
unfolding lines_of most_frames
no_frame c = refl

refused_at_once : (batch : Bool) (c : Circuit)
    → TraceSaysAs batch c Properties (Err stops.OutOfMemory) [] Open [] NotSent
refused_at_once true c = (tt, refl)
refused_at_once false c = (refl, refl, refl)

pub nothing_dumped : (batch : Bool) (c : Circuit) (s o : History)
    → Transferred (DumpSays batch c (Err stops.OutOfMemory)) s s o o
nothing_dumped batch c s o = record {
  bytes = [];
  ending = Open;
  says = record {
    text = [];
    delivery = All;
    says = (
      refl,
      record { trace = []; delivery = NotSent; says = refused_at_once batch c; is_dump = sym (no_frame c) },
    );
    sent = took_none o;
  };
  came = took_none s;
}
