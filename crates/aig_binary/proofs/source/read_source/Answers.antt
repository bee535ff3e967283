use Rattle.std.proofs.Common.{◌∙◌, Err, Ok, inr, sym}
use Rattle.std.proofs.lemmas.Result.{err_from_is_err_and}
use Rattle.aig_text.proofs.Sources.{all_came, failed_by}
use Rattle.aig_binary.specs.Begun.{rest_of}
use Rattle.aig_binary.specs.BinaryReading.{binary_reading}
use Rattle.aig_binary.specs.File.{AnswersFile}
use Rattle.aig_binary.proofs.FileSource.{begun, checked, header_read, in_form, is_file, is_ordered, is_refused}
use Rattle.aig_binary.proofs.FileSource.{is_well_formed, refused, word_stays}
use Rattle.aig_binary.proofs.Readings.{source_read}
use Rattle.aig_binary.proofs.source.read_source.Goals as goal

pub returns-in_err-first : goal.returns-in_err-first
returns-in_err-first g c =
    let h = err_from_is_err_and c.from_residual.result c.from_residual.ensures.1 in
    rw (h.1, h.2) (source_read c.args.max_var (Err _) _ _ (inr (failed_by _ _ _ c.in_err-first.ensures.err)))

pub returns-in_err-found : goal.returns-in_err-found
returns-in_err-found g c =
    let h = err_from_is_err_and c.from_residual-in_err-found.result c.from_residual-in_err-found.ensures.1 in
    let first = rw c.if-not-more.false at c.in_ok-first.ensures.ok in
    let reads =
    header_read (binary_reading c.args.max_var) (rest_of c.begin-binary.result.0) c.in_ok-first.first
    c.ended_lines.result.0.now c.ended_lines.result.1.now c.pass.new.self c.begin-binary.result.1
    (g.R.Source.history c.fetch_first.new.source) (sym c.as_slice.ensures ∙ c.ended_lines.ensures.cut)
    c.begin-binary.ensures.within c.begin-binary.ensures.on c.pass.ensures in
    rw (h.1, h.2)
    (source_read c.args.max_var (Err _) _ _
    (is_refused c.args.max_var c.in_ok-first.first c.pass.new.self (rest_of c.begin-binary.result.0) _ _ reads
    c.in_err-found.field-0.0 _ _ first
    (λ more. word_stays c.in_ok-first.first c.ended_lines.result.0.now c.ended_lines.result.1.now more
    (sym c.as_slice.ensures ∙ c.ended_lines.ensures.cut) c.ended_lines.ensures.ended
    (sym c.is_empty.ensures ∙ c.if-is_empty.false)
    ∙ sym c.first_word_is.ensures ∙ c.if-first_word_is.true) c.in_err-found.ensures))

pub from_well_ordered-requires-clause-well_formed : goal.from_well_ordered-requires-clause-well_formed
from_well_ordered-requires-clause-well_formed g c =
    let reads =
    header_read (binary_reading c.args.max_var) (rest_of c.begin-binary.result.0) c.in_ok-first.first
    c.ended_lines.result.0.now c.ended_lines.result.1.now c.pass.new.self c.begin-binary.result.1
    (g.R.Source.history c.fetch_first.new.source) (sym c.as_slice.ensures ∙ c.ended_lines.ensures.cut)
    c.begin-binary.ensures.within c.begin-binary.ensures.on c.pass.ensures in
    is_well_formed c.args.max_var c.in_ok-first.first c.pass.new.self (rest_of c.begin-binary.result.0) _ _
    reads c.in_ok-found.found _ c.in_ok-found.ensures

pub from_well_ordered-requires-clause-in_order : goal.from_well_ordered-requires-clause-in_order
from_well_ordered-requires-clause-in_order g c =
    let reads =
    header_read (binary_reading c.args.max_var) (rest_of c.begin-binary.result.0) c.in_ok-first.first
    c.ended_lines.result.0.now c.ended_lines.result.1.now c.pass.new.self c.begin-binary.result.1
    (g.R.Source.history c.fetch_first.new.source) (sym c.as_slice.ensures ∙ c.ended_lines.ensures.cut)
    c.begin-binary.ensures.within c.begin-binary.ensures.on c.pass.ensures in
    is_ordered c.args.max_var c.in_ok-first.first c.pass.new.self (rest_of c.begin-binary.result.0) _ _ reads
    c.in_ok-found.found _ c.in_ok-found.ensures

pub returns-then-first_word_is : goal.returns-then-first_word_is
returns-then-first_word_is g c =
    let first = rw c.if-not-more.false at c.in_ok-first.ensures.ok in
    let reads =
    header_read (binary_reading c.args.max_var) (rest_of c.begin-binary.result.0) c.in_ok-first.first
    c.ended_lines.result.0.now c.ended_lines.result.1.now c.pass.new.self c.begin-binary.result.1
    (g.R.Source.history c.fetch_first.new.source) (sym c.as_slice.ensures ∙ c.ended_lines.ensures.cut)
    c.begin-binary.ensures.within c.begin-binary.ensures.on c.pass.ensures in
    rw (c.into_checked.ensures.value ∙ c.from_well_ordered.ensures)
    (source_read c.args.max_var (Ok _) _ _
    (is_file c.args.max_var c.in_ok-first.first c.pass.new.self (rest_of c.begin-binary.result.0) _ _ reads
    c.in_ok-found.found _ c.in_ok-found.ensures _ first))

pub returns-in_err-circuit : goal.returns-in_err-circuit
returns-in_err-circuit g c =
    let h = err_from_is_err_and c.from_residual-in_err-circuit.result c.from_residual-in_err-circuit.ensures.1 in
    let first = rw c.if-not-more.false at c.in_ok-first.ensures.ok in
    let begin =
    begun c.args.max_var c.in_ok-first.first c.ended_lines.result.0.now c.ended_lines.result.1.now
    c.begin-reader.result.1 c.begin-reader.result.0 c.as_slice.ensures c.ended_lines.ensures.cut
    c.ended_lines.ensures.ended c.is_empty.ensures c.if-is_empty.false c.first_word_is.ensures
    c.if-first_word_is.false c.begin-reader.ensures.within c.begin-reader.ensures.on c.pass-2.ensures in
    rw (h.1, h.2) (source_read c.args.max_var (Err _) _ _
    (refused begin c.in_err-circuit.field-0.0 _ _ _ first c.in_err-circuit.ensures))

pub check_read-requires : goal.check_read-requires
check_read-requires g c =
    let begin =
    begun c.args.max_var c.in_ok-first.first c.ended_lines.result.0.now c.ended_lines.result.1.now
    c.begin-reader.result.1 c.begin-reader.result.0 c.as_slice.ensures c.ended_lines.ensures.cut
    c.ended_lines.ensures.ended c.is_empty.ensures c.if-is_empty.false c.first_word_is.ensures
    c.if-first_word_is.false c.begin-reader.ensures.within c.begin-reader.ensures.on c.pass-2.ensures in
    in_form begin c.in_ok-circuit.circuit _ _ c.in_ok-circuit.ensures

pub returns : goal.returns
returns g c =
    let first = rw c.if-not-more.false at c.in_ok-first.ensures.ok in
    let begin =
    begun c.args.max_var c.in_ok-first.first c.ended_lines.result.0.now c.ended_lines.result.1.now
    c.begin-reader.result.1 c.begin-reader.result.0 c.as_slice.ensures c.ended_lines.ensures.cut
    c.ended_lines.ensures.ended c.is_empty.ensures c.if-is_empty.false c.first_word_is.ensures
    c.if-first_word_is.false c.begin-reader.ensures.within c.begin-reader.ensures.on c.pass-2.ensures in
    source_read c.args.max_var c.check_read.result _ _ (all_came (AnswersFile c.args.max_var) c.check_read.result _ _
    (checked begin c.in_ok-circuit.circuit _ _ _ c.check_read.result first c.in_ok-circuit.ensures
    c.check_read.ensures))

pub returns-then-not-more : goal.returns-then-not-more
returns-then-not-more g c =
    source_read c.args.max_var c.read_whole.result _ _
    (c.read_whole.ensures (g.R.Source.history c.args.source.now) c.in_ok-first.ensures.ok)
