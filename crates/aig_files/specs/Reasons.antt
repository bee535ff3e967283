-- Why the system did not do what was asked of a file (Linux: errno(3), strerror(3)).
use Rattle.std.specs.Prelude.{ℕ, ◌==◌, if◌then◌else◌, List, Option, Some, None, codes}
use Rattle.aig_files.specs.declared.reason.Reason.{Reason}
use Rattle.aig_files.specs.declared.reason.Reason.TheVariants as reasons

-- the words of the C library
abbrev pub reason_words : Reason → List ℕ
reason_words reasons.NotPermitted = codes "Operation not permitted"
reason_words reasons.NotFound = codes "No such file or directory"
reason_words reasons.Interrupted = codes "Interrupted system call"
reason_words reasons.InputOutput = codes "Input/output error"
reason_words reasons.NoDevice = codes "No such device or address"
reason_words reasons.NoMemory = codes "Cannot allocate memory"
reason_words reasons.Denied = codes "Permission denied"
reason_words reasons.Busy = codes "Device or resource busy"
reason_words reasons.NotAFolder = codes "Not a directory"
reason_words reasons.IsAFolder = codes "Is a directory"
reason_words reasons.Invalid = codes "Invalid argument"
reason_words reasons.FilesOfSystem = codes "Too many open files in system"
reason_words reasons.FilesOfProcess = codes "Too many open files"
reason_words reasons.RunningProgram = codes "Text file busy"
reason_words reasons.FileTooLarge = codes "File too large"
reason_words reasons.NoSpace = codes "No space left on device"
reason_words reasons.ReadOnly = codes "Read-only file system"
reason_words reasons.BrokenPipe = codes "Broken pipe"
reason_words reasons.NameTooLong = codes "File name too long"
reason_words reasons.LinksGoRound = codes "Too many levels of symbolic links"
reason_words reasons.TimedOut = codes "Connection timed out"
reason_words reasons.Stale = codes "Stale file handle"
reason_words reasons.QuotaExceeded = codes "Disk quota exceeded"

-- the reason of this number
abbrev pub reason_of : ℕ → Option Reason
reason_of number =
    if number == 1 then Some reasons.NotPermitted
    else if number == 2 then Some reasons.NotFound
    else if number == 4 then Some reasons.Interrupted
    else if number == 5 then Some reasons.InputOutput
    else if number == 6 then Some reasons.NoDevice
    else if number == 12 then Some reasons.NoMemory
    else if number == 13 then Some reasons.Denied
    else if number == 16 then Some reasons.Busy
    else if number == 20 then Some reasons.NotAFolder
    else if number == 21 then Some reasons.IsAFolder
    else if number == 22 then Some reasons.Invalid
    else if number == 23 then Some reasons.FilesOfSystem
    else if number == 24 then Some reasons.FilesOfProcess
    else if number == 26 then Some reasons.RunningProgram
    else if number == 27 then Some reasons.FileTooLarge
    else if number == 28 then Some reasons.NoSpace
    else if number == 30 then Some reasons.ReadOnly
    else if number == 32 then Some reasons.BrokenPipe
    else if number == 36 then Some reasons.NameTooLong
    else if number == 40 then Some reasons.LinksGoRound
    else if number == 110 then Some reasons.TimedOut
    else if number == 116 then Some reasons.Stale
    else if number == 122 then Some reasons.QuotaExceeded
    else None
