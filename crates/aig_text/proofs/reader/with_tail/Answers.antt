use Rattle.std.proofs.Common.{◌≡◌, ◌∙◌, List, ℕ, Ok, ap, subst, sym}
use Rattle.aig_lines.specs.Lines.{Ahead, bytes_of}
use Rattle.aig_lines.proofs.Cutting.{pieces}
use Rattle.aig_text.specs.Reading.{HasRoomFor, with_last_comment}
use Rattle.aig_text.proofs.LastBytes.{with_its_comment}
use Rattle.aig_text.proofs.reader.with_tail.Goals as goal

pub with_comment_of-requires : goal.with_comment_of-requires
with_comment_of-requires c =
    let same : bytes_of c.args.at.lines ≡ c.at.inside.rest.now =
    ap (λ (a : Ahead). bytes_of a.lines) (sym c.at.view_is) ∙ (pieces c.at.inside.rest.now).joined in
    subst (λ (bytes : List ℕ). HasRoomFor c.in-Ok.found.comment_len bytes) same c.in-Ok.ensures.within

pub returns-in-Ok : goal.returns-in-Ok
returns-in-Ok c =
    let found = c.in-Ok.found in
    let same : bytes_of c.args.at.lines ≡ c.at.inside.rest.now =
    ap (λ (a : Ahead). bytes_of a.lines) (sym c.at.view_is) ∙ (pieces c.at.inside.rest.now).joined in
    with_its_comment c.at.inside.rest.now found c.with_comment_of.result _
    (c.in-Ok.ensures.read ∙ ap (λ (bytes : List ℕ). Ok (with_last_comment bytes found.comment_len found.circuit)) same)
    c.with_comment_of.ensures.ok c.with_comment_of.ensures.err
