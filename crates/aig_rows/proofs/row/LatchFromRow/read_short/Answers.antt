use Rattle.std.proofs.Common.{◌∷◌, [], refl}
use Rattle.aig_rows.specs.Rows.{latch_form}
use Rattle.aig_rows.proofs.Canonical.{one_ends, two_end, plain_row_is}
use Rattle.aig_rows.proofs.row.LatchFromRow.read_short.Goals as goal

pub returns-in-Some-clause-row : goal.returns-in-Some-clause-row
returns-in-Some-clause-row c =
    let behind = c.in_ok-first.behind.now in
    let rest = c.in-Some.rest.now in
    let next = c.in-Some.next in
    λ number. rw (
      plain_row_is latch_form c.args.bytes.now (32 ∷ behind) rest (next ∷ 0 ∷ []) c.in_ok-first.first
          c.in_ok-first.ensures (one_ends behind rest next c.in-Some.ensures) c.args.bound c.args.carried number refl
          c.in_ok-latch.ensures.right,
      c.in_ok-latch.ensures.latch,
    ) refl

pub returns-clause-row : goal.returns-clause-row
returns-clause-row c =
    let behind = c.in_ok-first.behind.now in
    let rest = c.in_ok-reset.rest.now in
    let next = c.in_ok-next.next in
    let reset = c.in_ok-reset.reset in
    λ number. rw (
      plain_row_is latch_form c.args.bytes.now (32 ∷ behind) rest (next ∷ reset ∷ []) c.in_ok-first.first
          c.in_ok-first.ensures
          (two_end behind c.in_ok-next.behind.now rest next reset c.in_ok-next.ensures c.in_ok-reset.ensures)
          c.args.bound c.args.carried number refl c.in_ok-latch-2.ensures.right,
      c.in_ok-latch-2.ensures.latch,
    ) refl
