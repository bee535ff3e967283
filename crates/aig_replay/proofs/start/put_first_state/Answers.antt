use Rattle.std.proofs.Common.{◌≡◌, ◌+◌, ◌++◌, ◌∙◌, ap, arith, drop, length-set, map, set, sym, take}
use Rattle.aig_circuit.specs.declared.circuit.Latch.{Latch}
use Rattle.aig_unroll.specs.Unrolled.{uninitialised}
use Rattle.aig_replay.specs.Starting.{first_character, first_characters, used_by}
use Rattle.aig_replay.proofs.Starting.{next_reset, put_next, used_at_most, used_next}
use Rattle.aig_replay.proofs.start.put_first_state.Goals as goal

pub loop-place-preserved : goal.loop-place-preserved
loop-place-preserved c =
    let loop = c.loop-place in
    let bits = c.args.bits.now in
    let rs = map (λ (k : Latch). k.reset) c.args.latches.now in
    let l = c.index-latches-place.result in
    let same = c.index-latches-place.is in
    let next = next_reset c.args.latches.now loop.place l c.loop-place-test.true same in
    let uses : c.used_by-used.result ≡ used_by l.reset =
    c.used_by-used.ensures ∙ ap (λ (k : Latch). used_by k.reset) (sym same) in
    let is : c.first_character.result ≡ first_character bits loop.used l.reset =
    c.first_character.ensures ∙ ap (λ (k : Latch). first_character bits loop.used k.reset) (sym same) in
    record {
      room = length-set loop.state loop.place c.first_character.result ∙ loop.invariant.room;
      few = omega (arith, loop.invariant.few, uses, used_at_most l.reset);
      used = ap (λ n. loop.used + n + uninitialised (drop (loop.place + 1) rs)) uses
          ∙ used_next rs loop.used loop.place (uninitialised rs) l.reset next loop.invariant.used;
      put = ap (λ n. take (loop.place + 1) (set loop.state loop.place c.first_character.result)
          ++ first_characters bits (loop.used + n) (drop (loop.place + 1) rs)) uses
          ∙ put_next bits loop.state rs loop.used loop.place c.first_character.result l.reset
          (first_characters bits 0 rs) (omega (arith, loop.invariant.room, c.loop-place-test.true)) next is
          loop.invariant.put;
    }
