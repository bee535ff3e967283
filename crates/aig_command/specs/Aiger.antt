-- The command lines that the program takes, in the terms of `clap` (this project's profile).
use Rattle.std.specs.Prelude.{◌≡◌, ℕ, List, [], ◌∷◌, Some, false, true, pos, fold}
use Rattle.std.specs.Prelude.{codes}
use Rattle.clap.specs.Words.{App, Rule, Text, app_of, new_app, new_rule, rule_of, with_rule, with_subcommand}
use Rattle.clap.specs.declared.builder.arg.Arg.{Arg}
use Rattle.clap.specs.declared.builder.command.Command.{Command}
use Rattle.clap.specs.declared.builder.command.Command.TheViews.{out-Command as fields_of}
use Rattle.clap.specs.declared.builder.action.ArgAction.TheVariants.{Append, Set, SetTrue}
use Rattle.clap.specs.declared.builder.value_parser.ValueParser.TheVariants as parser

-- the largest index that a file may have: 2^31 - 1, so that each literal fits into 32 bits
abbrev pub largest_index : ℕ
largest_index = 2147483647

-- the most gates that are drawn where no number is set
abbrev pub most_drawn : ℕ
most_drawn = 1000

-- the most frames over which a circuit is unrolled
abbrev pub most_frames : ℕ
most_frames = 1000000

-- an option that is given or not
abbrev pub flag : Text → Rule
flag name = record (new_rule name) { long = Some name; action = Some SetTrue }

-- `--max-var N`
abbrev pub max_var : Rule
max_var = record (new_rule (codes "max-var")) {
  long = Some (codes "max-var");
  action = Some Set;
  value_names = 1;
  parser = Some (parser.Signed (pos 0) (pos largest_index));
}

abbrev pub with_rules : App → List Rule → App
with_rules = fold with_rule

-- `--bad N`, `--justice N`, `--justice-as-bad N` or `--gates N`
abbrev pub property_option : Text → Rule
property_option name = record (new_rule name) {
  long = Some name;
  action = Some Set;
  value_names = 1;
  parser = Some (parser.Signed (pos 0) (pos largest_index));
}

-- `aigtoaig`: its options in any order, then the names of the two files, by place
abbrev pub to_aig : App
to_aig = with_rules (new_app (codes "aigtoaig"))
    (flag (codes "ascii") ∷ flag (codes "strip") ∷ flag (codes "keep-map") ∷ flag (codes "undo-map")
    ∷ flag (codes "outputs-as-bad") ∷ property_option (codes "justice-as-bad") ∷ flag (codes "simplify")
    ∷ flag (codes "sync") ∷ flag (codes "force") ∷ max_var ∷ new_rule (codes "source") ∷ new_rule (codes "destination") ∷ [])

-- the name of a file that has to be given
abbrev pub required_file : Text → Rule
required_file name = record (new_rule name) { required = true }

-- `aigsim`: its options in any order, then the names of the model and of the stimulus or the witness, by place
abbrev pub aigsim : App
aigsim = with_rules (new_app (codes "aigsim"))
    (flag (codes "batch") ∷ flag (codes "properties") ∷ flag (codes "witness") ∷ flag (codes "vcd") ∷ max_var
    ∷ required_file (codes "model") ∷ new_rule (codes "stimulus") ∷ [])

-- `--frames K`
abbrev pub frames : Rule
frames = record (new_rule (codes "frames")) {
  long = Some (codes "frames");
  action = Some Set;
  value_names = 1;
  parser = Some (parser.Signed (pos 1) (pos most_frames));
}

-- `--answer FILE`, `--refutation FILE`, `--invariant FILE` or `--cone PLACE`
abbrev pub solver_file : Text → Rule
solver_file name = record (new_rule name) { long = Some name; action = Some Set; value_names = 1 }

-- `aigunroll`: its options in any order, then the names of the two files, by place
abbrev pub aigunroll : App
aigunroll = with_rules (new_app (codes "aigunroll"))
    (frames ∷ flag (codes "ascii") ∷ flag (codes "cnf") ∷ solver_file (codes "answer")
    ∷ solver_file (codes "refutation") ∷ flag (codes "lrat") ∷ solver_file (codes "invariant")
    ∷ property_option (codes "bad") ∷ property_option (codes "justice") ∷ flag (codes "simplify")
    ∷ flag (codes "sync") ∷ flag (codes "force") ∷ max_var ∷ new_rule (codes "source") ∷ new_rule (codes "destination") ∷ [])

-- `aigmiter`: its options in any order, then the names of the two circuits and of the destination, by place
abbrev pub aigmiter : App
aigmiter = with_rules (new_app (codes "aigmiter"))
    (flag (codes "by-name") ∷ flag (codes "ascii") ∷ flag (codes "simplify") ∷ flag (codes "sync") ∷ flag (codes "force") ∷ max_var
    ∷ required_file (codes "first") ∷ required_file (codes "second") ∷ new_rule (codes "destination") ∷ [])

-- `--output N`, `--bad N` or `--justice N`, which may be given many times
abbrev pub choice_option : Text → Rule
choice_option name = record (property_option name) { action = Some Append }

-- `aiginfo`: its options in any order, then the names of the two files, by place
abbrev pub aiginfo : App
aiginfo = with_rules (new_app (codes "aiginfo"))
    (flag (codes "json") ∷ flag (codes "sync") ∷ max_var ∷ new_rule (codes "source") ∷ new_rule (codes "destination")
    ∷ [])

-- `aigselect`: likewise
abbrev pub aigselect : App
aigselect = with_rules (new_app (codes "aigselect"))
    (choice_option (codes "output") ∷ choice_option (codes "bad") ∷ choice_option (codes "justice")
    ∷ flag (codes "ascii") ∷ flag (codes "sync") ∷ flag (codes "force") ∷ max_var ∷ new_rule (codes "source")
    ∷ new_rule (codes "destination") ∷ [])

-- `aigtodot`: likewise
abbrev pub aigtodot : App
aigtodot = with_rules (new_app (codes "aigtodot"))
    (solver_file (codes "cone") ∷ flag (codes "all-steps") ∷ property_option (codes "gates") ∷ flag (codes "sync")
    ∷ max_var ∷ new_rule (codes "source") ∷ new_rule (codes "destination") ∷ [])

-- a command that has to be given a subcommand, answers with help where nothing is given, and has a version, as its
-- subcommands have; `clap` adds the subcommand `help`
abbrev pub above : App → App
above a = record a {
  top = record a.top {
    has_version = true;
    propagate_version = true;
    subcommand_required = true;
    arg_required_else_help = true;
  };
}

-- the program, with its subcommands
abbrev pub aiger : App
aiger =
    with_subcommand
    (with_subcommand
    (with_subcommand
    (with_subcommand
    (with_subcommand (with_subcommand (with_subcommand (above (new_app (codes "aiger"))) to_aig.top) aigsim.top)
    aigunroll.top) aigmiter.top)
    aiginfo.top) aigselect.top)
    aigtodot.top

-- `clap` reads this of the command, and none of its arguments is one of its subcommands too. Only private functions
-- cite it.
abbrev pub HasApp : App → Command → Type 0
HasApp app command = (app_of command ≡ app) × ((fields_of command).has_globals ≡ false)

-- `clap` reads this of the argument, which is not one of subcommands too. Only private functions cite it.
abbrev pub HasRule : Rule → Arg → Type 0
HasRule rule argument = (rule_of argument ≡ rule) × (argument.global ≡ false)
