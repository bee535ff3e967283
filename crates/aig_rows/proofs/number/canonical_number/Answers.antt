use Rattle.aig_rows.proofs.Canonical.{short_is_read}
use Rattle.std.proofs.Common.{◌∙◌, sym}
use Rattle.aig_rows.specs.CanonicalNumber.{canonical_before}
use Rattle.aig_rows.proofs.number.canonical_number.Goals as goal

pub returns-in-Some : goal.returns-in-Some
unfolding canonical_before
returns-in-Some c =
    rw (sym c.is_padded.ensures ∙ c.if-is_padded.false, c.min.ensures)
    (short_is_read c.in-Some.value c.args.stop c.args.bytes.now c.in-Some.rest.now c.requires c.in-Some.ensures)
