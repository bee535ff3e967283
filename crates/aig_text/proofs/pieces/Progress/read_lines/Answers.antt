use Rattle.std.proofs.Common.{◌+◌, ◌-◌, ◌∙◌, arith}
use Rattle.aig_lines.specs.Lines.{with_lines}
use Rattle.aig_rows.proofs.Loops.FirstRows.{behind_more, rows_behind}
use Rattle.aig_text.specs.Sections.{listed_in}
use Rattle.aig_text.proofs.Loops.Sections.{section_of, begin_summed, next_begins, next_room, part_room, part_summed}
use Rattle.aig_text.proofs.Loops.Sections.{sections_go_on}
use Rattle.aig_text.proofs.pieces.Progress.read_lines.Goals as goal

pub returns-then-self-gt0-clause-within : goal.returns-then-self-gt0-clause-within
returns-then-self-gt0-clause-within c =
    let h = c.args.header.now in
    let p = c.loop-left.self in
    let within = c.loop-left.invariant.within in
    let s = section_of p.section in
    let d = c.read_first_of_section.new.circuit in
    let now = c.read_first_of_section.new.at in
    let summed =
    part_summed h p.format s p.due c.in-Ok.left p.circuit d c.loop-left.at now c.in-Ok.ensures.part
    (within.sizes, within.summed) in
    record {
      place = within.place;
      small = c.in-Ok.ensures.small;
      sizes = summed.0;
      summed = summed.1;
      room = part_room h p.format s p.due c.in-Ok.left p.circuit d c.loop-left.at now c.in-Ok.ensures.part within.room;
    }

pub returns-then-self-gt0-clause-on : goal.returns-then-self-gt0-clause-on
returns-then-self-gt0-clause-on c = λ more.
    let p = c.loop-left.self in
    c.loop-left.invariant.on more
    ∙ sections_go_on p.format c.args.header.now p.section p.due c.in-Ok.left p.circuit
    c.read_first_of_section.new.circuit c.loop-left.at c.read_first_of_section.new.at more c.in-Ok.ensures.part

pub returns-then-self-gt0-clause-behind : goal.returns-then-self-gt0-clause-behind
returns-then-self-gt0-clause-behind c =
    let p = c.loop-left.self in
    let s = listed_in p.format (section_of p.section) in
    behind_more c.args.at.now c.loop-left.at c.read_first_of_section.new.at c.loop-left.invariant.behind
    (rows_behind s.form (s.bound c.args.header.now) (p.due.count - c.in-Ok.left.count) p.due.carried c.loop-left.at
    (c.in-Ok.ensures.part.rows, c.read_first_of_section.new.at) c.in-Ok.ensures.part.first.read)

pub section_rows-self-requires : goal.section_rows-self-requires
section_rows-self-requires c =
    let p = c.loop-left.self in
    let within = c.loop-left.invariant.within in
    let summed =
    part_summed c.args.header.now p.format (section_of p.section) p.due c.in-Ok.left p.circuit
    c.read_first_of_section.new.circuit c.loop-left.at c.read_first_of_section.new.at c.in-Ok.ensures.part
    (within.sizes, within.summed) in
    omega (arith, summed.0, c.requires.limited.limit)

pub loop-left-preserved : goal.loop-left-preserved
loop-left-preserved c =
    let h = c.args.header.now in
    let p = c.loop-left.self in
    let d = c.read_first_of_section.new.circuit in
    let at = c.read_first_of_section.new.at in
    let within = c.loop-left.invariant.within in
    let part = c.in-Ok.ensures.part in
    let s = section_of p.section in
    let summed =
    part_summed h p.format s p.due c.in-Ok.left p.circuit d c.loop-left.at at part (within.sizes, within.summed) in
    let begun =
    begin_summed h p.format (section_of (p.section + 1)) c.section_rows-self.result d summed.0
    c.section_rows-self.ensures.rows in
    let room = part_room h p.format s p.due c.in-Ok.left p.circuit d c.loop-left.at at part within.room in
    let listed = listed_in p.format s in
    record {
      within = record {
        place = omega (arith, within.place, c.if-self.false);
        small = c.section_rows-self.ensures.small;
        sizes = begun.0;
        summed = begun.1;
        room =
            next_room h p.format p.section c.in-Ok.left c.section_rows-self.result d
            (omega (arith, within.place, c.if-self.false)) room c.section_rows-self.ensures.rows;
      };
      on = λ more.
          c.loop-left.invariant.on more
          ∙ sections_go_on p.format h p.section p.due c.in-Ok.left p.circuit d c.loop-left.at at more part
          ∙ next_begins p.format h p.section c.in-Ok.left c.section_rows-self.result d (with_lines at more)
          (omega (arith, c.if-self-gt0.false)) (omega (arith, within.place, c.if-self.false))
          c.section_rows-self.ensures.rows;
      behind =
          behind_more c.args.at.now c.loop-left.at at c.loop-left.invariant.behind
          (rows_behind listed.form (listed.bound h) (p.due.count - c.in-Ok.left.count) p.due.carried c.loop-left.at
          (part.rows, at) part.first.read);
    }
