use Rattle.aig_answer.proofs.AtOnce.{comment_is_passed}
use Rattle.aig_answer.proofs.values.behind_comment.Goals as goal

pub returns-in-Comment-clause-read : goal.returns-in-Comment-clause-read
returns-in-Comment-clause-read c =
    λ bits. rw (c.split_at.ensures.back, c.line_length.ensures.value)
    (comment_is_passed c.args.reader bits c.args.bytes.now c.in-Comment.is)
