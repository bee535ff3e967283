use Rattle.std.proofs.Common.{◌≡◌, ◌∙◌, rules, ap, arith, length, take, drop_at, length-take-le, take_at}
use Rattle.aig_trace.proofs.waiting.overwrite.Goals as goal

pub returns-clause-before : goal.returns-clause-before
returns-clause-before c =
    let texts = c.args.texts.now in
    take_at (take c.args.at texts) _ c.args.at (length-take-le c.args.at texts (omega (arith, c.requires)))

pub returns-clause-here : goal.returns-clause-here
returns-clause-here c =
    let texts = c.args.texts.now in
    let part = c.copy_from_slice.new.self in
    let same : part ≡ c.args.text.now = search rules in
    ap (take (length c.args.text.now))
    (drop_at (take c.args.at texts) _ c.args.at (length-take-le c.args.at texts (omega (arith, c.requires))))
    ∙ take_at part _ (length c.args.text.now) (ap length same)
    ∙ same
