use Rattle.std.proofs.Common.{◌≡◌, ◌+◌, ◌*◌, ◌%◌, rules, get_or, arith, ap, sym, subst}
use Rattle.aig_binary.proofs.Deltas.Reading.{AreRead, read_on, read_end, read_without_end, read_too_far, delta_none}
use Rattle.aig_binary.proofs.Deltas.Reading.{found}
use Rattle.aig_binary.proofs.delta.get_groups.Goals as goal

pub returns-clause-delta : goal.returns-clause-delta
returns-clause-delta c = search (rules, delta_none, read_too_far)

pub returns-then-at-bytes-clause-delta : goal.returns-then-at-bytes-clause-delta
returns-then-at-bytes-clause-delta c = search (rules, delta_none, read_without_end)

pub returns-then-byte-lt128-clause-delta : goal.returns-then-byte-lt128-clause-delta
returns-then-byte-lt128-clause-delta c =
    let bytes = c.args.bytes.now in
    let at = c.loop-at.at in
    let value = c.loop-at.value in
    let weight = c.loop-at.weight in
    let group : c.from.result ≡ get_or bytes at 0 % 128 = c.from.ensures in
    (found bytes (value + get_or bytes at 0 % 128 * weight) (value + c.from.result * weight)
    (at + 1) c.small_only.result (ap (λ n. value + n * weight) group)
    (read_end bytes at value weight c.loop-at-test.true c.if-at-bytes.false c.if-byte-lt128.true c.loop-at.invariant)
    c.small_only.ensures.small c.small_only.ensures.large (omega arith)).0

pub loop-at-preserved : goal.loop-at-preserved
loop-at-preserved c =
    let bytes = c.args.bytes.now in
    let at = c.loop-at.at in
    let value = c.loop-at.value in
    let weight = c.loop-at.weight in
    let group : c.from.result ≡ get_or bytes at 0 % 128 = c.from.ensures in
    subst (λ n. AreRead bytes (at + 1) (value + n * weight) (weight * 128)) (sym group)
    (read_on bytes at value weight c.if-at-bytes.false
    (c.if-byte-lt128.false, (c.type_inv.bytes at).fits) c.loop-at.invariant)
