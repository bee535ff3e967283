use Rattle.aig_command.proofs.tool_builders.aigselect.Goals as goal

-- Each argument in turn is added to what there is.
pub returns : goal.returns
returns c =
    let with1 = c.with_argument-command.ensures _ _ c.command.ensures c.choice_option.ensures in
    let with2 = c.with_argument-command-2.ensures _ _ with1 c.choice_option-2.ensures in
    let with3 = c.with_argument-command-3.ensures _ _ with2 c.choice_option-3.ensures in
    let with4 = c.with_argument-command-4.ensures _ _ with3 c.flag.ensures in
    let with5 = c.with_argument-command-5.ensures _ _ with4 c.flag-2.ensures in
    let with6 = c.with_argument-command-6.ensures _ _ with5 c.flag-3.ensures in
    let with7 = c.with_argument-command-7.ensures _ _ with6 c.max_var.ensures in
    let with8 = c.with_argument-command-8.ensures _ _ with7 c.file.ensures in
    c.with_argument.ensures _ _ with8 c.file-2.ensures
