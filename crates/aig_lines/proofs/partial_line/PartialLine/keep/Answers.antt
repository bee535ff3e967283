use Rattle.std.proofs.Common.{◌≡◌, ◌+◌, ◌-◌, ◌++◌, ◌∙◌, List, ℕ, length, min, take, ap, ap₂, arith, sym}
use Rattle.std.proofs.lemmas.List.{with_items_is}
use borrow.Rule.Slice.PartMut.{post_of, same_len_mid}
use Rattle.aig_lines.specs.Keeping.{Keeping, keeping_more}
use Rattle.aig_lines.proofs.Feeds.{kept_more}
use Rattle.aig_lines.proofs.partial_line.PartialLine.keep.Goals as goal

abbrev keeping : List ℕ → ℕ → Keeping
keeping bytes room = record { bytes = bytes; room = room }

pub returns : goal.returns
returns c =
    let text = c.args.text.now in
    let len = c.self.inside.len in
    let count = c.min-count.result in
    let bytes = c.deref_mut.result.now in
    let copied = c.copy_from_slice.new.self in
    let after = post_of len (len + count - len) bytes in
    let whole = take len bytes ++ (copied ++ after) in
    let same : bytes ≡ c.self.inside.bytes.items = c.deref_mut.ensures.value in
    let long : c.len.result ≡ length bytes = c.len.ensures ∙ sym c.deref_mut.ensures.len in
    let fits : count ≡ min (length bytes - len) (length text) =
    c.min-count.ensures ∙ ap (λ (n : ℕ). min (n - len) (length text)) long in
    let as_long : length whole ≡ length bytes =
    same_len_mid len (len + count - len) bytes copied c.copy_from_slice.ensures.len in
    ap (λ (w : List ℕ). keeping (take (len + count) w) (length w))
    (with_items_is c.self.inside.bytes whole (as_long ∙ c.deref_mut.ensures.len))
    ∙ ap₂ keeping
    (kept_more bytes text after copied len count (omega (arith, ap length same)) fits c.copy_from_slice.ensures.after)
    as_long
    ∙ ap (λ (b : List ℕ). keeping_more (keeping (take len b) (length b)) text) same
    ∙ ap (λ (k : Keeping). keeping_more k text) c.self.view_is
