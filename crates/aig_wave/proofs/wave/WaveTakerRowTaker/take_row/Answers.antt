use Rattle.std.proofs.Common.{arith}
use Rattle.aig_wave.proofs.Waved.{took_row}
use Rattle.aig_wave.proofs.wave.WaveTakerRowTaker.take_row.Goals as goal

pub returns-clause-took : goal.returns-clause-took
returns-clause-took g c =
    let front = c.split_at.ensures.front in
    took_row _ _ _ c.write-end.new.line c.write-end.result c.requires.row
    (omega (arith, c.write-end.ensures.within, c.requires.room, c.write-end.auto.line)) c.write-end.ensures.text
    (rw front at c.take_line.ensures.point) (rw front at c.take_line.ensures.put)
