-- What the definitions of this crate say of the constants of its code.
use Rattle.std.specs.Prelude.{◌≡◌}
use Rattle.aig_io.specs.declared.block.TheConstants.{ROOM}
use Rattle.aig_io.specs.Devices.{block_size}

-- a block has room for as many bytes as a sink is handed at most
abbrev pub RoomIsTheBlockSize : Type 0
RoomIsTheBlockSize = ROOM ≡ block_size
