use Rattle.std.proofs.Common.{◌∙◌, ◌≡◌, ap, codes, false, true, None, Some, rules, string_bytes, bytes_eq}
use Rattle.aig_command.proofs.Within.{named_file, no_file, stream}
use Rattle.aig_command.proofs.options.named_file.Goals as goal

pub returns-in_default : goal.returns-in_default
returns-in_default c =
    let none : c.get_str.result ≡ None = search rules in
    no_file c.args.matches.now c.args.place.now c.get_str.result c.get_str.ensures none

pub returns-then-eq : goal.returns-then-eq
returns-then-eq c =
    let some : c.get_str.result ≡ Some c.in-Some.name = search rules in
    let same : bytes_eq c.in-Some.name.now (codes "-") ≡ true = search rules in
    stream c.args.matches.now c.args.place.now c.get_str.result c.get_str.ensures c.in-Some.name some same

pub returns : goal.returns
returns c =
    let some : c.get_str.result ≡ Some c.in-Some.name = search rules in
    let other : bytes_eq c.in-Some.name.now (codes "-") ≡ false = search rules in
    let text : string_bytes c.in_ok-from_str.field-0 ≡ c.in-Some.name.now = search rules in
    ap Some text
    ∙ named_file c.args.matches.now c.args.place.now c.get_str.result c.get_str.ensures c.in-Some.name some other
