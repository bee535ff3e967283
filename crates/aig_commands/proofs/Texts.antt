-- A text that is written is not empty.
use Rattle.std.proofs.Common.{◌<◌, List, Result, Ok, Err, IfOk, length, arith}
use Rattle.aig_circuit.specs.declared.circuit.Circuit.{Circuit}
use Rattle.aig_text.specs.AsciiText.{ascii_text}
use Rattle.aig_binary.specs.BinaryText.{binary_text}
use Rattle.aig_cnf.specs.ClauseText.{cnf_text}
use Rattle.aig_cuts.specs.CutText.{cut_text}
use Rattle.aig_cuts.specs.declared.cut.Cut.{Cut}
use Rattle.aig_command.specs.declared.request.UnrolledForm.{UnrolledForm}
use Rattle.aig_command.specs.declared.request.UnrolledForm.TheVariants as forms
use Rattle.aig_dot.specs.Dot.{dot_text}
use Rattle.aig_dot.specs.declared.picture.Picture.{Picture}
use Rattle.aig_info.specs.InfoText.{info_text}
use Rattle.aig_info.specs.declared.info.Info.{Info}
use Rattle.aig_info.specs.declared.writer.Form.{Form}
use Rattle.aig_info.specs.declared.writer.Form.TheVariants as info_forms
use Rattle.aig_commands.specs.Unrolling.{unrolled_text}

pub unrolled_begins : (form : UnrolledForm) (c : Circuit) → 0 < length (unrolled_text form c)
unfolding ascii_text binary_text cnf_text
unrolled_begins forms.Binary c = omega arith
unrolled_begins forms.Ascii c = omega arith
unrolled_begins (forms.Clauses property) c = omega arith

pub cut_begins : (plan : List Cut) (c : Circuit) → 0 < length (cut_text plan c)
unfolding cut_text
cut_begins plan c = omega arith

pub info_begins : (form : Form) (i : Info) → 0 < length (info_text form i)
unfolding info_text
info_begins info_forms.Lines i = omega arith
info_begins info_forms.Json i = omega arith

pub picture_begins : (p : Picture) (c : Circuit) → 0 < length (dot_text p c)
unfolding dot_text
picture_begins p c = omega arith

pub what_is_unrolled_begins : {E : Type 0} (form : UnrolledForm) (r : Result Circuit E)
    → IfOk r (λ d. 0 < length (unrolled_text form d))
what_is_unrolled_begins form (Ok d) = unrolled_begins form d
what_is_unrolled_begins form (Err fault) = tt
