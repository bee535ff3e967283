use Rattle.std.proofs.Common.{◌++◌, inr, true}
use Rattle.std.proofs.lemmas.Result.{err_from_is_err_and}
use Rattle.aig_io.specs.declared.transfer.ReadError.TheVariants as errors
use Rattle.aig_text.proofs.Sources.{failed_by}
use Rattle.aig_binary.proofs.source.read_whole.Goals as goal

pub returns-in_err-bytes : goal.returns-in_err-bytes
returns-in_err-bytes g c = λ before is.
    let h = err_from_is_err_and c.from_residual.result c.from_residual.ensures.1 in
    rw (h.1, h.2) (inr (failed_by _ _ _ (c.in_err-bytes.ensures.err before c.args.window is)))

pub returns-then-not-fit : goal.returns-then-not-fit
returns-then-not-fit g c = λ before is.
    let all = c.in_ok-bytes.ensures.ok in
    inr (failed_by errors.OutOfMemory _ _ (c.args.window ++ all.given, true, all.gave before c.args.window is))
