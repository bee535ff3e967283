-- Why a command line is refused, in words (this project's profile).
use Rattle.std.specs.Prelude.{ℕ, List, codes, string_bytes}
use Rattle.aig_command.specs.declared.packed.Packer.{Packer}
use Rattle.aig_command.specs.declared.packed.Packer.TheVariants as packers
use Rattle.aig_command.specs.declared.usage.Usage.{Usage}
use Rattle.aig_command.specs.declared.usage.Usage.TheVariants as usages

-- how a packed file is read: what unpacks it stands before the command
abbrev pub unpacked_words : Packer → List ℕ
unpacked_words packers.Gzip =
    codes "compressed input is not supported: use gzip -dc FILE.gz | aiger COMMAND .. - .."
unpacked_words packers.Xz = codes "compressed input is not supported: use xz -dc FILE.xz | aiger COMMAND .. - .."
unpacked_words packers.Zstd =
    codes "compressed input is not supported: use zstd -dc FILE.zst | aiger COMMAND .. - .."
unpacked_words packers.Bzip2 =
    codes "compressed input is not supported: use bzip2 -dc FILE.bz2 | aiger COMMAND .. - .."

-- how it is written: what packs it stands behind the command
abbrev pub packed_words : Packer → List ℕ
packed_words packers.Gzip = codes "compressed output is not supported: use aiger COMMAND .. - | gzip > FILE.gz"
packed_words packers.Xz = codes "compressed output is not supported: use aiger COMMAND .. - | xz > FILE.xz"
packed_words packers.Zstd = codes "compressed output is not supported: use aiger COMMAND .. - | zstd > FILE.zst"
packed_words packers.Bzip2 = codes "compressed output is not supported: use aiger COMMAND .. - | bzip2 > FILE.bz2"

abbrev pub usage_words : Usage → List ℕ
usage_words (usages.Words text) = string_bytes text
usage_words usages.KeepMapNeedsBinary = codes "--keep-map needs binary output"
usage_words usages.KeepMapExcludesStrip = codes "--keep-map excludes --strip"
usage_words usages.KeepMapExcludesUndoMap = codes "--keep-map excludes --undo-map"
usage_words usages.KeepMapExcludesSimplify = codes "--keep-map excludes --simplify"
usage_words usages.OutputsAsBadExcludesKeepMap = codes "--outputs-as-bad excludes --keep-map"
usage_words usages.OutputsAsBadExcludesUndoMap = codes "--outputs-as-bad excludes --undo-map"
usage_words usages.JusticeAsBadAlone =
    codes "--justice-as-bad excludes --outputs-as-bad, --keep-map and --undo-map"
usage_words usages.BothStandardInput = codes "model and stimulus are both standard input"
usage_words (usages.CompressedOutput packer) = packed_words packer
usage_words (usages.CompressedInput packer) = unpacked_words packer
usage_words usages.WitnessAlone = codes "--witness stands alone"
usage_words usages.VcdExcludesProperties = codes "--vcd excludes --properties"
usage_words usages.CnfExcludesAscii = codes "--cnf excludes --ascii"
usage_words usages.AnswerAlone = codes "--answer excludes --cnf and --ascii"
usage_words usages.RefutationAlone = codes "--refutation excludes --cnf, --ascii and --answer"
usage_words usages.BadNeedsClauses = codes "--bad needs --cnf, --answer or --refutation"
usage_words usages.BadExcludesJustice = codes "--bad excludes --justice"
usage_words usages.JusticeNeedsClauses = codes "--justice needs --cnf, --answer or --refutation"
usage_words usages.LratNeedsRefutation = codes "--lrat needs --refutation"
usage_words usages.BothAreStandardInput = codes "model and answer are both standard input"
usage_words usages.RefutationIsModel = codes "model and refutation are both standard input"
usage_words usages.FramesNeeded = codes "--frames or --invariant is needed"
usage_words usages.InvariantAlone = codes "--invariant excludes --frames, --ascii and --answer"
usage_words usages.InvariantNeedsClauses = codes "--invariant needs --cnf or --refutation"
usage_words usages.InvariantIsModel = codes "model and invariant are both standard input"
usage_words usages.RefutationIsInvariant = codes "invariant and refutation are both standard input"
usage_words usages.CircuitsAreStandardInput = codes "both circuits are standard input"
usage_words usages.SyncNeedsDestination = codes "--sync needs the name of a destination"
usage_words usages.SelectNeedsChoice = codes "--output, --bad or --justice is needed"
usage_words usages.ConeNeedsPlace =
    codes "--cone needs o, b, c, j or f and a position: o0 is the first output, b0 the first bad state"
usage_words usages.AllStepsNeedsCone = codes "--all-steps needs --cone"
usage_words usages.BinaryToTerminal =
    codes "binary output to a terminal is refused: name a file, or use --ascii or --force"
usage_words usages.OutOfMemory = codes "out of memory"
