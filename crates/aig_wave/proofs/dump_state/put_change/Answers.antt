use Rattle.std.proofs.Common.{◌≡◌, ◌∙◌, ◌==◌, ◌||◌, ℕ, List, true, ap₂, bytes_eq, not, sym}
use Rattle.aig_io.proofs.Puts.{put_twice}
use Rattle.aig_wave.proofs.dump_state.put_change.Goals as goal

is_shown : (time : ℕ) (a b x y : List ℕ) → true ≡ ((time == 0) || not (bytes_eq x y)) → x ≡ a → y ≡ b
    → ((time == 0) || not (bytes_eq a b)) ≡ true
is_shown time a b x y new p q = sym (new ∙ ap₂ (λ (s t : List ℕ). (time == 0) || not (bytes_eq s t)) p q)

pub returns-then-is_new : goal.returns-then-is_new
returns-then-is_new g c =
    rw (is_shown c.args.time _ _ _ _ c.if-is_new.ensures c.bits.ensures c.bits-characters.ensures)
    (put_twice _ _ _ _ _ (rw c.bits-characters.ensures at c.put_value.ensures)
    (rw c.tail.ensures at c.put.ensures.put))
