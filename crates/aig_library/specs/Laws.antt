-- What the definitions of this crate say of the constants of its code.
use Rattle.std.specs.Prelude.{◌≡◌}
use Rattle.aig_library.specs.Numbers as numbers
use Rattle.aig_library.specs.declared.asked.TheConstants as options
use Rattle.aig_library.specs.declared.outcome.TheConstants as outcomes

-- the constants are the numbers of the header
abbrev pub ConstantsAreTheNumbers : Type 0
ConstantsAreTheNumbers =
    (outcomes.DONE ≡ numbers.done) × (outcomes.TOO_SHORT ≡ numbers.too_short) × (outcomes.REFUSED ≡ numbers.refused)
    × (outcomes.OUT_OF_MEMORY ≡ numbers.out_of_memory) × (outcomes.BAD_OPTIONS ≡ numbers.bad_options)
    × (outcomes.NOT_CONFIRMED ≡ numbers.not_confirmed)
    × (outcomes.WHOLE ≡ numbers.whole) × (outcomes.LINE ≡ numbers.line) × (outcomes.GATE ≡ numbers.gate)
    × (outcomes.MAP_LINE ≡ numbers.map_line) × (outcomes.WORD ≡ numbers.word) × (outcomes.VALUE ≡ numbers.value)
    × (options.ASCII ≡ numbers.ascii) × (options.STRIP ≡ numbers.strip) × (options.KEEP_MAP ≡ numbers.keep_map)
    × (options.UNDO_MAP ≡ numbers.undo_map) × (options.PROPERTIES ≡ numbers.properties) × (options.VCD ≡ numbers.vcd)
    × (options.OUTPUTS_AS_BAD ≡ numbers.outputs_as_bad) × (options.ORDERED ≡ numbers.ordered)
    × (options.ALL_BAD ≡ numbers.all_bad) × (options.JUSTICE ≡ numbers.justice)
    × (options.BY_NAME ≡ numbers.by_name) × (options.SIMPLIFY ≡ numbers.simplify)
    × (options.SIMPLIFIED ≡ numbers.simplified)
