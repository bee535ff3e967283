use Rattle.aig_command.proofs.builder.aiger.Goals as goal

-- Each subcommand in turn is added to what there is.
pub returns : goal.returns
returns c =
    let with1 = c.with_subcommand-program.ensures _ _ c.program.ensures c.to_aig.ensures in
    let with2 = c.with_subcommand-program-2.ensures _ _ with1 c.aigsim.ensures in
    let with3 = c.with_subcommand-program-3.ensures _ _ with2 c.aigunroll.ensures in
    let with4 = c.with_subcommand-program-4.ensures _ _ with3 c.aigmiter.ensures in
    let with5 = c.with_subcommand-program-5.ensures _ _ with4 c.aiginfo.ensures in
    let with6 = c.with_subcommand-program-6.ensures _ _ with5 c.aigselect.ensures in
    c.with_subcommand.ensures _ _ with6 c.aigtodot.ensures
