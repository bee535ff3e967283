use Rattle.std.proofs.Common.{◌≡◌, ◌≢◌, ◌∙◌, ℕ, List, [], ap, arith, get_or, inl, inr, sym}
use Rattle.std.proofs.lemmas.Bool.{cases_lt}
use Rattle.std.proofs.lemmas.List.{get_or-set_other, get_or-set_same, length-set}
use Rattle.std.specs.Int.{bit_at}
use Rattle.aig_lanes.proofs.transposed.rows_of.Goals as goal

pub loop-r-preserved : goal.loop-r-preserved
loop-r-preserved c =
    let here = c.loop-r.r in
    let rows = c.loop-r.rows in
    let row = c.plane_bytes.result in
    record {
      own = λ r octet j below in_plane in_byte. elim (cases_lt r here) [
        | inl less ↦
            let other : r ≢ here = λ e. omega (arith, less, e) in
            ap (λ (xs : List ℕ). bit_at (get_or xs octet 0) j) (get_or-set_other rows here r row [] other)
            ∙ c.loop-r.invariant.own r octet j less in_plane in_byte
        | inr more ↦
            let is : here ≡ r = omega (arith, more, below) in
            rw (sym is)
            (ap (λ (xs : List ℕ). bit_at (get_or xs octet 0) j)
            (get_or-set_same rows here row [] (omega (arith, c.loop-r-test.true, c.loop-r.invariant.size)))
            ∙ c.plane_bytes.ensures octet j in_plane in_byte)
      ];
      size = length-set rows here row ∙ c.loop-r.invariant.size;
    }
