use Rattle.std.proofs.Common.{◌∷◌, [], refl}
use Rattle.aig_rows.specs.Rows.{next_form}
use Rattle.aig_rows.proofs.Canonical.{alone_ends, none_ends, plain_row_is}
use Rattle.aig_rows.proofs.row.NextStateFromRow.read_short.Goals as goal

pub returns-in-Some-clause-row : goal.returns-in-Some-clause-row
returns-in-Some-clause-row c =
    let rest = c.in-Some.rest.now in
    λ number. rw (
      plain_row_is next_form c.args.bytes.now (10 ∷ rest) rest (0 ∷ []) c.in-Some.next c.in-Some.ensures
          (none_ends rest) c.args.bound c.args.carried number refl c.in_ok-state.ensures.right,
      c.in_ok-state.ensures.state,
    ) refl

pub returns-clause-row : goal.returns-clause-row
returns-clause-row c =
    let behind = c.in_ok-next.behind.now in
    let rest = c.in_ok-reset.rest.now in
    let reset = c.in_ok-reset.reset in
    λ number. rw (
      plain_row_is next_form c.args.bytes.now (32 ∷ behind) rest (reset ∷ []) c.in_ok-next.next c.in_ok-next.ensures
          (alone_ends behind rest reset c.in_ok-reset.ensures) c.args.bound c.args.carried number refl
          c.in_ok-state-2.ensures.right,
      c.in_ok-state-2.ensures.state,
    ) refl
