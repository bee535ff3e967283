use Rattle.std.proofs.Common.{◌∙◌, ◌+◌, Err, ℕ, inr, ap, arith, drop, length, length-drop, sym}
use Rattle.aig_fault.specs.Stopping.{refusal}
use Rattle.aig_fault.specs.declared.stopped.Stopped.{Stopped}
use Rattle.aig_binary.proofs.OneByOne.{alone_cut, alone_done, alone_wrong}
use Rattle.aig_fault.specs.declared.fault.Place.TheVariants as places
use Rattle.aig_fault.specs.declared.kind.Kind.TheVariants as kinds
use Rattle.aig_binary.proofs.gates.read_gates.Goals as goal

pub returns-in-Err-clause-gates : goal.returns-in-Err-clause-gates
returns-in-Err-clause-gates c =
    alone_wrong c.args.variable c.args.count c.args.found c.args.bytes.now c.in-Err.fault c.in-Err.ensures.err

pub returns-then-read-count-clause-gates : goal.returns-then-read-count-clause-gates
returns-then-read-count-clause-gates c =
    inr (alone_cut c.args.variable c.args.count c.args.found c.read_first_gates.new.found c.args.bytes.now _
    c.in-Ok.ensures.on c.in-Ok.ensures.all (omega (arith, c.len-read.ensures, c.if-read-count.true))
    ∙ ap (λ (k : ℕ). Err (refusal kinds.Truncated (places.Gate (k + 1)) 0)) (sym c.len-read.ensures)
    ∙ ap (λ (e : Stopped). Err e) (sym c.refused.ensures))

pub returns-clause-gates : goal.returns-clause-gates
returns-clause-gates c =
    rw c.split_at.ensures.back
    (alone_done c.args.variable c.args.count c.args.found c.read_first_gates.new.found c.args.bytes.now _
    c.in-Ok.ensures.on (omega (arith, c.len-read.ensures, c.if-read-count.false)))

pub returns-clause-last : goal.returns-clause-last
returns-clause-last c =
    let back = c.split_at.ensures.back in
    back
    ∙ ap (λ (k : ℕ). drop k c.args.bytes.now)
    (omega (arith, ap length back, length-drop c.in-Ok.used c.args.bytes.now, c.in-Ok.ensures.within))
