use Rattle.std.proofs.Common.{List, ap, subst, ◌∙◌, ◌≡◌, ℕ}
use Rattle.aig_circuit.specs.declared.circuit.Circuit.{Circuit}
use Rattle.aig_io.specs.Output.{Appended}
use Rattle.aig_io.proofs.Puts.{put_twice}
use Rattle.aig_cnf.specs.ClauseText.{cnf_text, literals_text}
use Rattle.aig_cnf.proofs.ClauseTexts.{cnf_parts}
use Rattle.aig_unroll.specs.Unrolled.{unrolled}
use Rattle.aig_unroll.specs.Parts.Frames.{Frame}
use Rattle.aig_unroll.proofs.Written.{same_circuit}
use Rattle.aig_unroll.proofs.unroller.Unrolling.put_cnf.Goals as goal

pub returns : goal.returns
returns g c =
    let f : Frame = c.self.inside.copies in
    let numbers = c.clause_numbers-variables.ensures in
    let of : Frame → Circuit = λ k. unrolled k.circuit k.frames in
    let behind : Frame = c.put_section.new.copies in
    let once : of behind ≡ of f = same_circuit f behind c.put_section.ensures.kept in
    let bad =
    subst (λ (d : Circuit). Appended c.put_section.new.output c.put_section-2.new.output (literals_text d.bad)) once
    c.put_section-2.ensures.put in
    subst (λ (text : List ℕ). Appended c.args.output.now c.put_clause_end.new.output text)
    (cnf_parts (of f) ∙ ap cnf_text c.self.view_is)
    (put_twice _ _ _ _ _ (rw (numbers.variables, numbers.clauses) at c.put_clauses_header.ensures)
    (put_twice _ _ _ _ _ c.put_clause.ensures
    (put_twice _ _ _ _ _ c.put_section.ensures.put (put_twice _ _ _ _ _ bad c.put_clause_end.ensures))))
