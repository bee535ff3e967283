use Rattle.std.proofs.Common.{◌≡◌, ◌∙◌, List, None, Ok, Some, ap, refl, subst, sym, ℕ}
use Rattle.std.proofs.lemmas.Result.{err_from_is_err_and}
use Rattle.aig_answer.specs.Answer.{answer_of, closed}
use Rattle.aig_answer.specs.Laws.{read_from}
use Rattle.aig_answer.specs.declared.reader.Status.TheVariants.{Satisfiable}
use Rattle.aig_io.specs.Runs.{AtEnd, Open}
use Rattle.aig_io.proofs.Runs.{read_weaker}
use Rattle.aig_unroll.specs.Unrolled.{all_inputs, uninitialised}
use Rattle.aig_replay.specs.Parts.{NotTaken}
use Rattle.aig_replay.specs.Reached.{HasFound, fault_said}
use Rattle.aig_replay.proofs.ByAnswer.{has_found}
use Rattle.aig_replay.proofs.Reading.{not_found_by, values_read}
use Rattle.aig_replay.proofs.found.find_by_answer.Goals as goal

pub returns-in_err-read_answer : goal.returns-in_err-read_answer
returns-in_err-read_answer g c = λ d formed means zeros.
    let h = err_from_is_err_and c.from_residual.result c.from_residual.ensures.1 in
    let stopped = c.in_err-read_answer.field-0.0 in
    rw (h.1, h.2) (read_weaker _ _ _ _ (λ bytes ending why. not_found_by d c.args.frames bytes ending stopped
    (subst (λ (bs : List ℕ). NotTaken (read_from bs bytes).reader stopped ending) zeros why))
    c.in_err-read_answer.ensures.err)

pub returns-in-Some : goal.returns-in-Some
returns-in-Some g c = λ d formed means zeros.
    let taken = c.in_ok-read_answer.ensures.ok in
    let n = c.args.frames in
    let bits = c.read_answer.new.bits in
    let are = values_read (all_inputs d n) c.args.bits.now bits taken.0 zeros taken.3 in
    record {
      bytes = taken.0;
      ending = AtEnd;
      says = (
        refl,
        record {
          said = subst (λ (bs : List ℕ). answer_of (closed (read_from bs taken.0).reader) ≡ Ok Satisfiable) zeros
              taken.2;
          bits_are = subst (λ (bs : List ℕ). bits ≡ (read_from bs taken.0).bits) zeros taken.3;
          found = has_found d n bits (Some c.in-Some.run'.hit) formed (λ rows trace.
              c.in-Some.ensures.found d rows formed means are.bits_are are.many trace);
          used = c.in-Some.ensures.used ∙ ap uninitialised means.resets;
          first_is = c.in-Some.ensures.state d means are.bits_are;
        },
      );
      came = taken.1;
    }

pub returns-in-None : goal.returns-in-None
returns-in-None g c = λ d formed means zeros.
    let taken = c.in_ok-read_answer.ensures.ok in
    let n = c.args.frames in
    let bits = c.read_answer.new.bits in
    let are = values_read (all_inputs d n) c.args.bits.now bits taken.0 zeros taken.3 in
    let found = has_found d n bits None formed (λ rows trace.
    c.in-None.ensures.found d rows formed means are.bits_are are.many trace) in
    let said =
    subst (λ (bs : List ℕ). answer_of (closed (read_from bs taken.0).reader) ≡ Ok Satisfiable) zeros taken.2 in
    rw c.refused_whole.ensures (record {
      bytes = taken.0;
      ending = AtEnd;
      says = (
        tt,
        λ (is : AtEnd ≡ Open). cc,
        ap fault_said (sym said),
        λ _. subst (λ (bs : List ℕ). HasFound d n (read_from bs taken.0).bits None) zeros
            (subst (λ (bs : List ℕ). HasFound d n bs None) taken.3 found),
      );
      came = taken.1;
    })
