-- An answer, read in pieces: the values stay characters of values, and as many.
use Rattle.std.proofs.Common.{◌≡◌, ◌≢◌, ◌⊎◌, ◌-◌, ◌++◌, ◌&&◌, ◌∙◌, ℕ, zero, suc, List, [], ◌∷◌, Bool, true, false}
use Rattle.std.proofs.Common.{None, Ok, Err, Option, Some, ap, fold, if◌then◌else◌, inl, inr, length, length-set}
use Rattle.std.proofs.Common.{nat_le, nat_lt, refl, replicate, set, subst, sym}
use Rattle.std.proofs.lemmas.List.Sums.{fold-append}
use Rattle.aig_answer.specs.declared.reader.Reader.{Reader}
use Rattle.aig_answer.specs.declared.reader.Signed.{Signed}
use Rattle.aig_answer.specs.declared.reader.Spot.TheVariants.{LineStart, Wrong}
use Rattle.aig_answer.specs.declared.reader.Status.TheVariants.{Satisfiable}
use Rattle.aig_answer.specs.Answer.{SoFar, after, answer_of, bad_line, begun, closed, next, so_far, with_any}
use Rattle.aig_answer.specs.Laws.{read_from}
use Rattle.aig_circuit.specs.declared.circuit.Circuit.{Circuit}
use Rattle.aig_fault.specs.declared.stopped.Stopped.{Stopped}
use Rattle.aig_fault.specs.declared.stopped.Stopped.TheVariants as stops
use Rattle.aig_io.specs.Devices.{History, failed_once, gave_all, took}
use Rattle.aig_io.specs.Runs.{AtEnd, Broken, Ending, Open, Read}
use Rattle.aig_io.proofs.Took.{took_none, took_twice}
use Rattle.aig_lines.proofs.Tells.{at_end}
use Rattle.aig_replay.specs.Parts.{NotTaken}
use Rattle.aig_replay.specs.Reached.{NotFoundBy, fault_said, read_over}
use Rattle.aig_replay.specs.Starting.{AreBits}

-- each is `0` or `1`, and there are so many
pub record AreValues (count : ℕ) (bits : List ℕ) : Type 0 where
  pub bits_are : AreBits bits
  pub many : length bits ≡ count

set_bit : (bits : List ℕ) (i b : ℕ) → (b ≡ 48) ⊎ (b ≡ 49) → AreBits bits → AreBits (set bits i b)
set_bit [] i b is are = tt
set_bit (x ∷ xs) zero b is are = (is, are.1)
set_bit (x ∷ xs) (suc i) b is are = (are.0, set_bit xs i b is are.1)

abbrev bit : Bool → ℕ
bit is_negative = if is_negative then 48 else 49

bit_of : (is_negative : Bool) → (bit is_negative ≡ 48) ⊎ (bit is_negative ≡ 49)
bit_of true = inl refl
bit_of false = inr refl

if_set : (test : Bool) (count : ℕ) (bits more : List ℕ) → AreValues count bits → AreValues count more
    → AreValues count (if test then more else bits)
if_set true count bits more are are_more = are_more
if_set false count bits more are are_more = are

any_kept : (count : ℕ) (bits : List ℕ) (value : Option Signed) → AreValues count bits
    → AreValues count (with_any bits value)
any_kept count bits None are = are
any_kept count bits (Some value) are =
    let place = value.number - 2 in
    let b = bit value.is_negative in
    if_set (nat_le 2 value.number && nat_lt place (length bits)) count bits (set bits place b) are (record {
      bits_are = set_bit bits place b (bit_of value.is_negative) are.bits_are;
      many = length-set bits place b ∙ are.many;
    })

pub read_kept : (count : ℕ) (s : SoFar) (bytes : List ℕ) → AreValues count s.bits
    → AreValues count (fold after s bytes).bits
read_kept count s [] are = are
read_kept count s (b ∷ bs) are =
    read_kept count (after s b) bs (any_kept count s.bits (next s.reader b).value are)

pub zeros_are : (count : ℕ) → AreValues count (replicate count 48)
zeros_are zero = record { bits_are = tt; many = refl }
zeros_are (suc n) =
    let rest = zeros_are n in record { bits_are = (inl refl, rest.bits_are); many = ap suc rest.many }

pub values_read : (count : ℕ) (old now bytes : List ℕ) → old ≡ replicate count 48 → now ≡ (read_from old bytes).bits
    → AreValues count now
values_read count old now bytes zeros is =
    subst (AreValues count) (sym is)
    (read_kept count (so_far begun old) bytes (subst (AreValues count) (sym zeros) (zeros_are count)))

-- after a wrong byte that is what is said, whatever comes
pub wrong_says : (r : Reader) → r.spot ≡ Wrong → answer_of (closed r) ≡ Err (bad_line r.line)
wrong_says r wrong = rw wrong refl

-- and so it is not taken
wrong_is_not_taken : (r : Reader) → r.spot ≡ Wrong → NotTaken r (stops.Refused (bad_line r.line)) Open
wrong_is_not_taken r wrong =
    let said = wrong_says r wrong in
    (tt, λ _. wrong, ap fault_said (sym said), λ (taken : answer_of (closed r) ≡ Ok Satisfiable). cc)

-- nor is a bad state reached by it
pub not_found_by : (d : Circuit) (frames : ℕ) (bytes : List ℕ) (ending : Ending) (stopped : Stopped)
    → NotTaken (read_over d frames bytes).reader stopped ending → NotFoundBy d frames stopped bytes ending
not_found_by d frames bytes ending stops.ReadFailed why = why
not_found_by d frames bytes ending (stops.Refused fault) why = (why.0, why.1, why.2, λ taken. absurd (why.3 taken))
not_found_by d frames bytes ending stopped why = absurd why

-- so many bytes came, and none of them is wrong
pub record HasRead (source source_now : History) (bits bits_now : List ℕ) (r : Reader) : Type 0 where
  pub bytes : List ℕ
  pub history : source_now ≡ took bytes source
  pub read : so_far r bits_now ≡ read_from bits bytes
  pub fine : r.spot ≢ Wrong

pub has_read_none : (source : History) (bits : List ℕ) → HasRead source source bits bits begun
has_read_none source bits = record {
  bytes = [];
  history = took_none source;
  read = refl;
  fine = λ (is : LineStart ≡ Wrong). cc;
}

module _ (a b : History) (bits now : List ℕ) (r : Reader) (so : HasRead a b bits now r) where
  abbrev reader_is : Reader
  reader_is = (read_from bits so.bytes).reader

  same_reader : r ≡ (read_from bits so.bytes).reader
  same_reader = ap (λ (s : SoFar). s.reader) so.read

  pub bits_read : now ≡ (read_from bits so.bytes).bits
  bits_read = ap (λ (s : SoFar). s.bits) so.read

  -- the source failed
  pub read_failed : (c : History) → c ≡ failed_once b
      → Read (λ bytes ending. NotTaken (read_from bits bytes).reader stops.ReadFailed ending) a c
  read_failed c is = record {
    bytes = so.bytes;
    ending = Broken;
    says = (refl, subst (λ (q : Reader). q.spot ≢ Wrong) same_reader so.fine);
    came = is ∙ ap failed_once so.history;
  }

  -- all came
  pub all_read : (c : History) → c ≡ at_end b → c ≡ gave_all so.bytes a
  all_read c is = is ∙ ap at_end so.history

  pub not_taken : (c : History) (stopped : Stopped) → c ≡ at_end b → NotTaken r stopped AtEnd
      → Read (λ bytes ending. NotTaken (read_from bits bytes).reader stopped ending) a c
  not_taken c stopped is says = record {
    bytes = so.bytes;
    ending = AtEnd;
    says = subst (λ (q : Reader). NotTaken q stopped AtEnd) same_reader says;
    came = all_read c is;
  }

  pub taken_all : (c : History) → c ≡ at_end b → answer_of (closed r) ≡ Ok Satisfiable
      → (bytes : List ℕ) × (c ≡ gave_all bytes a)
      × (answer_of (closed (read_from bits bytes).reader) ≡ Ok Satisfiable) × (now ≡ (read_from bits bytes).bits)
  taken_all c is said = (
    so.bytes,
    all_read c is,
    subst (λ (q : Reader). answer_of (closed q) ≡ Ok Satisfiable) same_reader said,
    bits_read,
  )

  -- more came
  module _ (c : History) (chunk bits_next : List ℕ) (q : Reader) (came : c ≡ took chunk b)
      (more : so_far q bits_next ≡ fold after (so_far r now) chunk) where
    read_on : so_far q bits_next ≡ read_from bits (so.bytes ++ chunk)
    read_on =
        more ∙ ap (λ (s : SoFar). fold after s chunk) so.read
        ∙ sym (fold-append after (so_far begun bits) so.bytes chunk)

    pub has_read_more : q.spot ≢ Wrong → HasRead a c bits bits_next q
    has_read_more fine = record {
      bytes = so.bytes ++ chunk;
      history = took_twice a b c so.bytes chunk so.history came;
      read = read_on;
      fine = fine;
    }

    pub read_wrong : q.spot ≡ Wrong
        → Read (λ bytes ending. NotTaken (read_from bits bytes).reader (stops.Refused (bad_line q.line)) ending) a c
    read_wrong wrong = record {
      bytes = so.bytes ++ chunk;
      ending = Open;
      says = subst (λ (p : Reader). NotTaken p (stops.Refused (bad_line q.line)) Open)
          (ap (λ (s : SoFar). s.reader) read_on) (wrong_is_not_taken q wrong);
      came = took_twice a b c so.bytes chunk so.history came;
    }
