use Rattle.aig_command.proofs.builder.aigunroll.Goals as goal

-- Each argument in turn is added to what there is.
pub returns : goal.returns
returns c =
    let with1 = c.with_argument-command.ensures _ _ c.command_with_usage.ensures c.frames.ensures in
    let with2 = c.with_argument-command-2.ensures _ _ with1 c.flag.ensures in
    let with3 = c.with_argument-command-3.ensures _ _ with2 c.flag-2.ensures in
    let with4 = c.with_argument-command-4.ensures _ _ with3 c.solver_file.ensures in
    let with5 = c.with_argument-command-5.ensures _ _ with4 c.solver_file-2.ensures in
    let with6 = c.with_argument-command-6.ensures _ _ with5 c.flag-3.ensures in
    let with7 = c.with_argument-command-7.ensures _ _ with6 c.solver_file-3.ensures in
    let with8 = c.with_argument-command-8.ensures _ _ with7 c.property_option.ensures in
    let with9 = c.with_argument-command-9.ensures _ _ with8 c.property_option-2.ensures in
    let with10 = c.with_argument-command-10.ensures _ _ with9 c.flag-4.ensures in
    let with11 = c.with_argument-command-11.ensures _ _ with10 c.flag-5.ensures in
    let with12 = c.with_argument-command-12.ensures _ _ with11 c.flag-6.ensures in
    let with13 = c.with_argument-command-13.ensures _ _ with12 c.max_var.ensures in
    let with14 = c.with_argument-command-14.ensures _ _ with13 c.file.ensures in
    c.with_argument.ensures _ _ with14 c.file-2.ensures
