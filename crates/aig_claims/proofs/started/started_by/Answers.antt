use Rattle.std.proofs.Common.{◌≡◌, ◌++◌, ◌∙◌, ap, drop, length, subst, sym, take}
use Rattle.std.proofs.Math.Seq.{take-append_seam}
use Rattle.aig_circuit.specs.Wellformed.{IsWellFormed}
use Rattle.aig_claims.specs.RunDump.{with_resets}
use Rattle.aig_claims.proofs.Starting.{as_many, resets_by, still_well_formed}
use Rattle.aig_claims.proofs.started.started_by.Goals as goal

pub from_well_formed-requires : goal.from_well_formed-requires
from_well_formed-requires c =
    let found = c.into_circuit-found.result in
    let after = c.reset_by.new.latches in
    let more = drop (length after) c.into_vec-latches.result.items in
    let many = ap length c.reset_by.ensures ∙ as_many _ _ ∙ c.as_mut_slice.ensures.len in
    let same : c.from_vec.result ≡ with_resets (resets_by c.args.text.now) found.latches =
    c.from_vec.ensures ∙ ap (λ n. take n (after ++ more)) (sym many) ∙ take-append_seam after more ∙ c.reset_by.ensures
    ∙ ap (with_resets (resets_by c.args.text.now)) (c.as_mut_slice.ensures.value ∙ c.into_vec-latches.ensures) in
    rw same (still_well_formed found _
    (subst IsWellFormed (sym c.into_circuit-found.ensures.value) c.into_circuit-found.ensures.well_formed))
