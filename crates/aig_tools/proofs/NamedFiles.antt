-- What devices tell of the sources and the destination that a request names.
use Rattle.std.proofs.Common.{◌≡◌, ◌<◌, ◌∷◌, ◌∙◌, ℕ, List, [], length, take, Option, None, Some, false, true}
use Rattle.std.proofs.Common.{Result, Ok, Err, OnErr, OnOk, refl, sym, ap, arith}
use lib.Seq.{take-length}
use Rattle.aig_io.specs.Devices.{History, TookBeginning, took, unused}
use Rattle.aig_io.specs.Files.{End, Files, Left, NotKept, NotMade, NotOpened, ReadFailed, Synced, Whole, WriteFailed}
use Rattle.aig_io.specs.Files.{Written, end_of_close, used}
use Rattle.aig_io.specs.Runs.{All, AtEnd, Beginning, Broken, Ending, IsCut, Open, Read, Transferred}
use Rattle.aig_io.specs.Runs.{Delivery, Sent, came}
use Rattle.aig_io.proofs.Runs.{read_weaker}
use Rattle.aig_files.specs.Named.{IsFailure, IsShown, named, used_as}
use Rattle.aig_files.specs.declared.reason.Reason.{Reason}
use Rattle.aig_tools.specs.Worlds.{IsReadAs, IsWriteEnd, ReadIn, SentIn, TakesAs, TransferredBetween}
use Rattle.aig_tools.specs.Worlds.{with_use, world}

-- a file was used once more
used_is : (name : List ℕ) (lender : ℕ) (files files_now : Files) (history : History) (end : End) → files.current ≡ None
    → history.origin ≡ named lender name files → files_now ≡ used_as end history
    → files_now ≡ with_use name history.bytes end files
used_is name lender files files_now history end idle of_it is =
    is ∙ (rw of_it (ap (λ c. record files { uses = used name history.bytes end ∷ files.uses; current = c }) (sym idle)))

module _ (name : List ℕ) (lender : ℕ) (files files_now : Files) (history : History) (idle : files.current ≡ None)
    (shown : IsShown false Left history files_now) where
  -- the files show what came of a file with this name
  read_as : (bytes : List ℕ) (ending : Ending) → history ≡ came bytes ending (unused (named lender name files))
      → IsReadAs name bytes ending files files_now
  read_as bytes AtEnd is =
      rw is at (used_is name lender files files_now history Whole idle (rw is refl) (shown.whole (rw is (omega arith))))
  read_as [] Open is =
      shown.untouched (rw is refl) (rw is refl) (rw is refl) ∙ ap (λ (p : History). p.origin.before) is
  read_as (byte ∷ bytes) Open is =
      rw is at (used_is name lender files files_now history Left idle (rw is refl)
      (shown.used (rw is refl) (rw is refl) (rw is (omega arith))))
  read_as bytes Broken is =
      let failed = shown.failed (rw is (omega arith)) in (
        failed.0,
        rw is at failed.1,
        rw is at (used_is name lender files files_now history failed.0 idle (rw is refl) failed.2),
      )

module _ (Says : List ℕ → Ending → Type 0) (source : Option (List ℕ)) (files : Files) (why : Option Reason)
    (input output errors : History) where
  pub of_stream : (input_now : History) → source ≡ None → Read Says input input_now
      → ReadIn Says source (world files why input output errors) (world files why input_now output errors)
  of_stream input_now none read = record {
    bytes = read.bytes;
    ending = read.ending;
    says = read.says;
    came = rw none (ap (λ (history : History). world files why history output errors) read.came);
  }

  pub of_file : (name : List ℕ) (lender : ℕ) (files_now : Files) (why_now : Option Reason) (opened history : History)
      → source ≡ Some name
      → opened ≡ unused (named lender name files) → files.current ≡ None → IsShown false Left history files_now
      → Read Says opened history
      → ReadIn Says source (world files why input output errors) (world files_now why_now input output errors)
  of_file name lender files_now why_now opened history some new idle shown read = record {
    bytes = read.bytes;
    ending = read.ending;
    says = read.says;
    came = rw some (
      files_now,
      read_as name lender files files_now history idle shown read.bytes read.ending (rw new at read.came),
      refl,
    );
  }

-- what was sent to the output, of all that a call can reach
pub to_output : (Says : List ℕ → Delivery → Type 0) (files : Files) (why : Option Reason)
    (input output output_now errors : History)
    → Sent Says output output_now
    → SentIn Says None (world files why input output errors) (world files why input output_now errors)
to_output Says files why input output output_now errors s = record {
  text = s.text;
  delivery = s.delivery;
  says = s.says;
  sent = ap (λ (history : History). world files why input history errors) s.sent;
}

-- a source was read, and a text went to the output
module _ (Says : List ℕ → Ending → List ℕ → Delivery → Type 0) (source : Option (List ℕ)) (files : Files)
    (why : Option Reason) (input output output_now errors : History) where
  -- of all that a call can reach, where these are the files and the input then
  gone : (files_now : Files) (why_now : Option Reason) (input_now : History) (s s_now : History)
      → Transferred Says s s_now output output_now
      → Read (λ bytes ending. SentIn (Says bytes ending) None (world files_now why_now input_now output errors)
      (world files_now why_now input_now output_now errors)) s s_now
  gone files_now why_now input_now s s_now = read_weaker _ _ s s_now
      (λ bytes ending. to_output (Says bytes ending) files_now why_now input_now output output_now errors)

  pub transferred_of_stream : (input_now : History) → source ≡ None → Transferred Says input input_now output output_now
      → TransferredBetween Says source None (world files why input output errors)
      (world files why input_now output_now errors)
  transferred_of_stream input_now none transferred = (
    world files why input_now output errors,
    of_stream _ source files why input output errors input_now none
        (gone files why input_now input input_now transferred),
  )

  pub transferred_of_file : (name : List ℕ) (lender : ℕ) (files_now : Files) (why_now : Option Reason)
      (opened history : History) → source ≡ Some name → opened ≡ unused (named lender name files) → files.current ≡ None → IsShown false Left history files_now
      → Transferred Says opened history output output_now
      → TransferredBetween Says source None (world files why input output errors)
      (world files_now why_now input output_now errors)
  transferred_of_file name lender files_now why_now opened history some new idle shown transferred = (
    world files_now why_now input output errors,
    of_file _ source files why input output errors name lender files_now why_now opened history some new idle shown
        (gone files_now why_now input opened history transferred),
  )

-- a failure of a file that is written is an end of writing
write_end : (text bytes : List ℕ) (end : End) → IsFailure true bytes end → IsWriteEnd text bytes end
write_end text bytes NotOpened failure = failure
write_end text bytes ReadFailed failure = failure
write_end text bytes Left failure = failure
write_end text bytes NotMade failure = failure
write_end text bytes WriteFailed failure = failure
write_end text bytes Whole failure = failure
write_end text bytes Written failure = failure
write_end text bytes Synced failure = failure
write_end text bytes NotKept failure = absurd failure

-- a text went to a destination that a request names
module _ (text : List ℕ) (destination : Option (List ℕ)) (files : Files) (why : Option Reason)
    (input output errors : History) where
  pub sent_whole : (output_now : History) → destination ≡ None → output_now ≡ took text output
      → SentIn (λ t delivery. (t ≡ text) × (delivery ≡ All)) destination (world files why input output errors)
      (world files why input output_now errors)
  sent_whole output_now none all = record {
    text = text;
    delivery = All;
    says = (refl, refl);
    sent = rw none (ap (λ (history : History). world files why input history errors) all);
  }

  pub sent_in_part : (output_now : History) → destination ≡ None → TookBeginning text output output_now
      → SentIn (λ t delivery. (t ≡ text) × IsCut delivery) destination (world files why input output errors)
      (world files why input output_now errors)
  sent_in_part output_now none part = record {
    text = text;
    delivery = Beginning part.count;
    says = (refl, tt);
    sent = rw none (ap (λ (history : History). world files why input history errors) part.history);
  }

  -- by the answer
  pub sent_so : {A E : Type 0} (r : Result A E) (output_now : History) → destination ≡ None
      → OnOk r (output_now ≡ took text output) → OnErr r (TookBeginning text output output_now)
      → SentIn (λ t delivery. (t ≡ text) × TakesAs r delivery) destination (world files why input output errors)
      (world files why input output_now errors)
  sent_so (Ok done) output_now none all part = sent_whole output_now none all
  sent_so (Err fault) output_now none all part = sent_in_part output_now none part

  module _ (name : List ℕ) (lender : ℕ) (files_now : Files) (why_now : Option Reason) (opened history : History)
      (end : End) (some : destination ≡ Some name) (new : opened ≡ unused (named lender name files))
      (idle : files.current ≡ None) (shown : IsShown true end history files_now) where
    -- all was written, and the file was closed so
    used_whole : history ≡ took text opened → 0 < length text → files_now ≡ with_use name text end files
    used_whole all long =
        let is : history ≡ took text (unused (named lender name files)) = rw new at all in
        let bytes : history.bytes ≡ text = ap (λ (p : History). p.bytes) is in
        rw bytes at (used_is name lender files files_now history end idle (rw is refl)
        (shown.used (rw is refl) (rw is refl) (rw bytes long)))

    pub file_whole : history ≡ took text opened → 0 < length text → end ≡ end_of_close files
        → SentIn (λ t delivery. (t ≡ text) × (delivery ≡ All)) destination (world files why input output errors)
        (world files_now why_now input output errors)
    file_whole all long closed = record {
      text = text;
      delivery = All;
      says = (refl, refl);
      sent = rw some (files_now, rw closed at (used_whole all long), refl);
    }

    pub file_not_kept : history ≡ took text opened → 0 < length text → end ≡ NotKept
        → SentIn (λ t delivery. (t ≡ text) × IsCut delivery) destination (world files why input output errors)
        (world files_now why_now input output errors)
    file_not_kept all long closed = record {
      text = text;
      delivery = Beginning (length text);
      says = (refl, tt);
      sent = rw some (
        files_now,
        (NotKept, take-length text, rw take-length (rw closed at (used_whole all long))),
        refl,
      );
    }

    pub file_in_part : TookBeginning text opened history
        → SentIn (λ t delivery. (t ≡ text) × IsCut delivery) destination (world files why input output errors)
        (world files_now why_now input output errors)
    file_in_part part =
        let is = rw new at part.history in
        let failed = shown.failed (rw is (omega arith)) in
        let bytes : history.bytes ≡ take part.count text = rw is refl in
        record {
          text = text;
          delivery = Beginning part.count;
          says = (refl, tt);
          sent = rw some (
            files_now,
            (
              failed.0,
              write_end text (take part.count text) failed.0 (rw bytes at failed.1),
              rw bytes at (used_is name lender files files_now history failed.0 idle (rw is refl) failed.2),
            ),
            refl,
          );
        }
