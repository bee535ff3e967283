use Rattle.aig_core.proofs.Checking.Sections.{justice_is_of_lists, lists_are_justice}
use Rattle.aig_core.proofs.laws.justice_is_a_list_of_lists.Goals as goal

pub returns : goal.returns
returns c = record { of_lists = justice_is_of_lists; of_justice = lists_are_justice }
