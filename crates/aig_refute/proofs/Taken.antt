-- A refutation that is read in pieces.
use Rattle.std.proofs.Common.{◌≡◌, ◌<◌, ◌+◌, ◌++◌, ◌∙◌, ℕ, List, [], Bool, false, Ok, Err, ap, arith, inl, inr, refl}
use Rattle.std.proofs.Common.{subst, sym}
use Rattle.std.proofs.Common.{fold, length, take}
use Rattle.std.specs.Prelude.{slice_index}
use Rattle.aig_fault.specs.Stopping.{StopsFor, refusal}
use Rattle.aig_fault.proofs.Stoppings.{stops_weaker}
use Rattle.aig_fault.specs.declared.fault.Fault.{Fault}
use Rattle.aig_fault.specs.declared.fault.Place.TheVariants.{Whole}
use Rattle.aig_fault.specs.declared.kind.Kind.TheVariants.{NoRefutation}
use Rattle.aig_fault.specs.declared.stopped.Stopped.{Stopped}
use Rattle.aig_fault.specs.declared.stopped.Stopped.TheVariants as stops
use Rattle.aig_io.specs.Devices.{History, failed_once, took}
use Rattle.aig_io.specs.Runs.{AtEnd, Broken, Ending, IsUnbroken, Open, Read}
use Rattle.aig_io.proofs.Took.{took_none, took_twice}
use Rattle.aig_refute.specs.Agree.{Agrees}
use Rattle.aig_refute.specs.Lines.{Reading, Step, begun, missing_end, next, reading_of}
use Rattle.aig_refute.specs.Refuted.{AreInLines, AreStored, EndsFor, Followed, HaveCome, IsLineFault, Keeps}
use Rattle.aig_refute.specs.Refuted.{ReadingSays}
use Rattle.aig_refute.specs.Refuted.{IsStepFault, IsWrongByte, IsWrongEnd}
use Rattle.aig_refute.specs.Refuted.{IsWrongLast, IsWrongWithin, ShowsNothing, followed, is_refuted, text_of, unread}
use Rattle.aig_refute.specs.declared.checker.Checker.{Checker}
use Rattle.aig_refute.specs.declared.reader.LineEnd.{LineEnd}
use Rattle.aig_refute.specs.declared.reader.RefutationFormat.{RefutationFormat}
use Rattle.aig_refute.specs.declared.reader.RefutationReader.{RefutationReader}
use Rattle.aig_refute.proofs.Followed.{fault_more, in_lines_both, shows_nothing_more, to_both}
use Rattle.aig_refute.proofs.Kept.{keeps_both, keeps_same}

-- after these bytes, unless the clauses are refuted, what is kept is stored, whichever clauses were given
abbrev pub HaveComeTo : RefutationFormat → ℕ → List ℕ → RefutationReader → Checker → Checker → Type 0
HaveComeTo format limit bytes reader old new = (given : List (List ℕ)) → AreStored given [] old
    → AreInLines (unread format limit) bytes × HaveCome given (fold followed (unread format limit) bytes) reader new

-- so many bytes came, and each assignment that agreed at first has one that agrees now
pub record HasFollowed (format : RefutationFormat) (limit : ℕ) (source source_now : History)
    (reader : RefutationReader) (old new : Checker) : Type 0 where
  pub bytes : List ℕ
  pub history : source_now ≡ took bytes source
  pub keeps : Keeps old new
  pub came : is_refuted new ≡ false → HaveComeTo format limit bytes reader old new

pub has_followed_none : (format : RefutationFormat) (limit : ℕ) (source : History) (reader : RefutationReader)
    (checker : Checker) → reading_of reader ≡ begun format limit → HasFollowed format limit source source reader checker checker
has_followed_none format limit source reader checker begins = record {
  bytes = [];
  history = took_none source;
  keeps = keeps_same checker;
  came = λ is_open given stored. ((λ place lt. absurd (omega (arith, lt))), (begins, stored));
}

-- what is wrong with what a byte ended is wrong with the byte
pub wrong_byte : (byte : ℕ) (reader taken : RefutationReader) (end : LineEnd) (checker : Checker) (stopped : Stopped)
    → next (reading_of reader) byte ≡ record { reading = reading_of taken; end = end }
    → StopsFor (IsWrongEnd end (reading_of taken) checker) stopped → StopsFor (IsWrongByte byte reader checker) stopped
wrong_byte byte reader taken end checker stopped is =
    stops_weaker (IsWrongEnd end (reading_of taken) checker) (IsWrongByte byte reader checker) stopped
    (λ fault why given f come.
    let step : next f.reading byte ≡ record { reading = reading_of taken; end = end } =
    ap (λ (r : Reading). next r byte) (sym come.0) ∙ is in
    subst (λ (s : Step). IsStepFault given f.changes s fault) (sym step) (why given f.changes come.1))

-- what is wrong with a byte is wrong with the piece that has it
pub wrong_piece : (piece : List ℕ) (k : ℕ) (reader now : RefutationReader) (checker checker_now : Checker)
    (stopped : Stopped) → k < length piece → is_refuted checker ≡ false
    → ((given : List (List ℕ)) (f : Followed) → HaveCome given f reader checker
    → HaveCome given (fold followed f (take k piece)) now checker_now)
    → StopsFor (IsWrongByte (slice_index piece k) now checker_now) stopped
    → StopsFor (IsWrongWithin piece reader checker) stopped
wrong_piece piece k reader now checker checker_now stopped inside still come =
    stops_weaker (IsWrongByte (slice_index piece k) now checker_now) (IsWrongWithin piece reader checker) stopped
    (λ fault why. (
      still,
      λ given f first. (
        k,
        inside,
        why given (fold followed f (take k piece))
            (come given f first),
      ),
    ))

-- what ends the last number is a piece as well
pub wrong_last_piece : (piece : List ℕ) (reader : RefutationReader) (checker : Checker) (stopped : Stopped)
    → piece ≡ missing_end (reading_of reader) → StopsFor (IsWrongWithin piece reader checker) stopped
    → StopsFor (IsWrongLast reader checker) stopped
wrong_last_piece piece reader checker stopped is =
    stops_weaker (IsWrongWithin piece reader checker) (IsWrongLast reader checker) stopped
    (λ fault why. (
      why.0,
      λ given f come. subst (λ (bytes : List ℕ). IsLineFault given f bytes fault)
          (is ∙ ap missing_end come.0) (why.1 given f come),
    ))

ends_for : (format : RefutationFormat) (given : List (List ℕ)) (limit : ℕ) (P : Fault → Type 0) (stopped : Stopped)
    (bytes : List ℕ) (ending : Ending)
    → StopsFor P stopped → IsUnbroken ending
    → ((fault : Fault) → P fault
    → IsLineFault given (unread format limit) (text_of (unread format limit) bytes ending) fault)
    → EndsFor format given limit stopped bytes ending
ends_for format given limit P stops.OutOfMemory bytes ending wrong unbroken faults = unbroken
ends_for format given limit P stops.ReadFailed bytes ending wrong unbroken faults = absurd wrong
ends_for format given limit P stops.WriteFailed bytes ending wrong unbroken faults = absurd wrong
ends_for format given limit P (stops.Refused fault) bytes ending wrong unbroken faults = inl (unbroken, faults fault wrong)

abbrev pub at_end : History → History
at_end history = record history { ends = history.ends + 1 }

module _ (format : RefutationFormat) (limit : ℕ) (a b : History) (reader : RefutationReader)
    (old now : Checker) (so : HasFollowed format limit a b reader old now) where
  pub source_failed : (c : History) → c ≡ failed_once b → Read (ReadingSays format limit old (Err stops.ReadFailed)) a c
  source_failed c is = record {
    bytes = so.bytes;
    ending = Broken;
    says = λ given stored. refl;
    came = is ∙ ap failed_once so.history;
  }

  -- the source is at its end
  module _ (c : History) (is : c ≡ at_end b) where
    pub refuted_last : ((x : ℕ → Bool) → ¬ Agrees x now.propagation.kernel)
        → Read (ReadingSays format limit old (Ok tt)) a c
    refuted_last none = record {
      bytes = so.bytes;
      ending = AtEnd;
      says = (refl, λ x agrees. let last = so.keeps.admits x agrees in none last.0 last.1);
      came = is ∙ ap at_end so.history;
    }

    pub not_refuted : is_refuted now ≡ false
        → ((given : List (List ℕ)) → (f : Followed) → HaveCome given f reader now
        → ShowsNothing given f (missing_end f.reading))
        → Read (ReadingSays format limit old (Err (refusal NoRefutation Whole 0))) a c
    not_refuted is_open shows = record {
      bytes = so.bytes;
      ending = AtEnd;
      says = λ given stored.
          let come = so.came is_open given stored in
          let f : Followed = fold followed (unread format limit) so.bytes in
          inr (
            refl,
            refl,
            shows_nothing_more (unread format limit) so.bytes (missing_end f.reading) given come.0
                (shows given f come.1),
          );
      came = is ∙ ap at_end so.history;
    }

    pub wrong_last : (stopped : Stopped)
        → StopsFor (IsWrongLast reader now) stopped
        → Read (ReadingSays format limit old (Err stopped)) a c
    wrong_last stopped wrong = record {
      bytes = so.bytes;
      ending = AtEnd;
      says = λ given stored.
          let f : Followed = fold followed (unread format limit) so.bytes in
          ends_for format given limit (IsWrongLast reader now) stopped so.bytes AtEnd wrong tt
          (λ fault is_wrong. fault_more (unread format limit) so.bytes (missing_end f.reading) given fault
          (is_wrong.1 given f (so.came is_wrong.0 given stored).1));
      came = is ∙ ap at_end so.history;
    }

  -- more came
  module _ (c : History) (chunk : List ℕ) (came : c ≡ took chunk b) where
    pub has_followed_more : (reader_next : RefutationReader) (next : Checker) → Keeps now next
        → (is_refuted next ≡ false → is_refuted now ≡ false)
        → (is_refuted next ≡ false → (given : List (List ℕ)) → (f : Followed) → HaveCome given f reader now
        → AreInLines f chunk × HaveCome given (fold followed f chunk) reader_next next)
        → HasFollowed format limit a c reader_next old next
    has_followed_more reader_next next keeps still followed_on = record {
      bytes = so.bytes ++ chunk;
      history = took_twice a b c so.bytes chunk so.history came;
      keeps = keeps_both old now next so.keeps keeps;
      came = λ is_open given stored.
          let f : Followed = fold followed (unread format limit) so.bytes in
          let come = so.came (still is_open) given stored in
          let more = followed_on is_open given f come.1 in (
            in_lines_both (unread format limit) so.bytes chunk come.0 more.0,
            subst (λ (g : Followed). HaveCome given g reader_next next)
                (sym (to_both (unread format limit) so.bytes chunk)) more.1,
          );
    }

    pub wrong_within : (stopped : Stopped) → StopsFor (IsWrongWithin chunk reader now) stopped
        → Read (ReadingSays format limit old (Err stopped)) a c
    wrong_within stopped wrong = record {
      bytes = so.bytes ++ chunk;
      ending = Open;
      says = λ given stored.
          let f : Followed = fold followed (unread format limit) so.bytes in
          ends_for format given limit (IsWrongWithin chunk reader now) stopped (so.bytes ++ chunk) Open wrong tt
          (λ fault is_wrong. fault_more (unread format limit) so.bytes chunk given fault
          (is_wrong.1 given f (so.came is_wrong.0 given stored).1));
      came = took_twice a b c so.bytes chunk so.history came;
    }
