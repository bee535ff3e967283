use Rattle.std.proofs.Common.{◌∙◌, ap, arith, length}
use Rattle.aig_topo.proofs.Ordering.Counted.{written_back}
use Rattle.aig_library.proofs.Placings.{numbers_alone}
use Rattle.aig_library.proofs.arrays.image_and_numbers.Goals as goal

pub returns : goal.returns
returns c =
    let new = c.numbered_image.new.numbers in
    let room = c.in_ok-numbers.numbers in
    rw (
      written_back new room.items room.len
          (omega (arith, c.as_mut_slice.ensures.len, c.numbered_image.auto.numbers)),
      c.into_checked.ensures.value,
    )
    (numbers_alone c.args.found c.in_ok-image.image c.as_mut_slice.result.now new
    (ap length c.as_mut_slice.ensures.value ∙ c.in_ok-numbers.ensures) c.in_ok-image.ensures.ok)
