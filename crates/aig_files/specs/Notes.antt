-- What the notes of the calls to the system say of its files (this project's devices).
use Rattle.std.specs.Prelude.{◌∷◌, ◌==◌, if◌then◌else◌, ℕ, List, [], Some}
use Rattle.aig_io.specs.Files.{Files, end_of_close, ended, no_use, read_now, refused, with_more, with_sync, written_now}
use Rattle.aig_io.specs.Files.{Left, NotKept, NotMade, NotOpened, ReadFailed, Whole, WriteFailed}
use Rattle.aig_io.specs.Notes.{Note}
use Rattle.aig_files.specs.declared.host.TheConstants.{CLOSED, ENDED, LEFT, MADE, MOVED, NOT_CLOSED, NOT_MADE}
use Rattle.aig_files.specs.declared.host.TheConstants.{NOT_OPENED, OPENED, READ_FAILED, SYNC_ASKED, WRITE_FAILED}

-- the files after one more call, by its number, and the name or the bytes that it had
abbrev pub after_call : ℕ → List ℕ → Files → Files
after_call call bytes files =
    if call == OPENED then record files { current = Some (read_now bytes []) } else
    if call == NOT_OPENED then refused bytes NotOpened files else
    if call == MOVED then record files { current = with_more bytes files.current } else
    if call == ENDED then ended Whole files else
    if call == READ_FAILED then ended ReadFailed files else
    if call == LEFT then ended Left files else
    if call == MADE then record files { current = Some (written_now bytes []) } else
    if call == NOT_MADE then refused bytes NotMade files else
    if call == WRITE_FAILED then ended WriteFailed files else
    if call == CLOSED then ended (end_of_close files) files else
    if call == NOT_CLOSED then ended NotKept files else
    if call == SYNC_ASKED then with_sync files else files

-- the files after these calls
abbrev pub files_of : List Note → Files
files_of [] = no_use
files_of (note ∷ earlier) = after_call note.0 note.1 (files_of earlier)
