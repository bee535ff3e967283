use Rattle.std.proofs.Common.{◌≡◌, ◌+◌, ◌-◌, ◌%◌, ◌++◌, length, take, codes, decimal, flat_map}
use Rattle.aig_io.specs.Output.{Appended}
use Rattle.aig_io.specs.declared.block.TheConstants.{ROOM}
use Rattle.aig_io.proofs.output.Output.put_row_past.Given as goal

abbrev pub invariant-loop-number : goal.invariant-loop-number
invariant-loop-number g l =
    let text = decimal l.first ++ flat_map (λ n. codes " " ++ decimal n) (take l.number-index l.others) in
    record {
      put : Appended l.fn.self l.self text;
      left : length l.self.held ≡ (length l.fn.self.held + length text - 1) % ROOM + 1;
    }
