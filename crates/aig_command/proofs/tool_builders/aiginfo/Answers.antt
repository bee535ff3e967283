use Rattle.aig_command.proofs.tool_builders.aiginfo.Goals as goal

-- Each argument in turn is added to what there is.
pub returns : goal.returns
returns c =
    let with1 = c.with_argument-command.ensures _ _ c.command.ensures c.flag.ensures in
    let with2 = c.with_argument-command-2.ensures _ _ with1 c.flag-2.ensures in
    let with3 = c.with_argument-command-3.ensures _ _ with2 c.max_var.ensures in
    let with4 = c.with_argument-command-4.ensures _ _ with3 c.file.ensures in
    c.with_argument.ensures _ _ with4 c.file-2.ensures
