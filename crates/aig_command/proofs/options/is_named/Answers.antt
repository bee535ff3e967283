use Rattle.std.proofs.Common.{◌∙◌, ◌≡◌, ap, bytes_eq, codes, is_some, not, None, Some, rules}
use Rattle.aig_command.proofs.Within.{is_named, no_file}
use Rattle.aig_command.proofs.options.is_named.Goals as goal

pub returns-in-None : goal.returns-in-None
returns-in-None c =
    let none : c.get_str.result ≡ None = search rules in
    ap is_some (no_file c.args.matches.now c.args.place.now c.get_str.result c.get_str.ensures none)

pub returns-in-Some : goal.returns-in-Some
returns-in-Some c =
    let some : c.get_str.result ≡ Some c.in-Some.name = search rules in
    let other : c.ne.result ≡ not (bytes_eq c.in-Some.name.now (codes "-")) = search rules in
    other ∙ is_named c.args.matches.now c.args.place.now c.get_str.result c.get_str.ensures c.in-Some.name some
