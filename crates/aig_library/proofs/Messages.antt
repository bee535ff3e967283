-- The numbers of a fault tell its words, which are short.
use Rattle.std.proofs.Common.{◌≡◌, ◌==◌, ◌+◌, ◌++◌, ◌<◌, ◌≤◌, ◌^◌, ℕ, List, [], Bool, Some, ap₂, arith, codes, decimal}
use Rattle.std.proofs.Common.{false}
use Rattle.std.proofs.Common.{if◌then◌else◌, length, length-append, lit≤, refl, true}
use Rattle.std.proofs.lemmas.Fmt.{length-decimal-le}
use Rattle.aig_fault.specs.Words.{around, kind_number, kind_of_number, kind_text, place_text}
use Rattle.aig_fault.specs.declared.fault.Place.{Place}
use Rattle.aig_fault.specs.declared.fault.Place.TheVariants as places
use Rattle.aig_fault.specs.declared.kind.Kind.{Kind}
use Rattle.aig_fault.specs.declared.kind.Kind.TheVariants as kinds
use Rattle.aig_library.specs.Message.{MessagesTellFaults, place_of, words_of}
use Rattle.aig_library.specs.Numbers as numbers
use Rattle.aig_library.specs.Outcome.{place_numbers}

same_kind : (kind : Kind) → kind_of_number (kind_number kind) ≡ Some kind
same_kind kinds.NotAiger = refl
same_kind kind = refl

same_place : (place : Place) → place_of (place_numbers place).0 (place_numbers place).1 ≡ place
same_place places.Whole = refl
same_place (places.Line number) = refl
same_place (places.Gate number) = refl
same_place (places.MapLine number) = refl
same_place (places.Word number) = refl
same_place (places.Value number) = refl
same_place (places.Input number) = refl
same_place (places.Output number) = refl
same_place (places.Bad number) = refl

pub messages_tell_faults : MessagesTellFaults
messages_tell_faults = (
  λ fault. ap₂ (λ place kind. place_text place ++ words_of kind fault.subject) (same_place fault.place)
      (same_kind fault.kind),
  λ fault. ap₂ (λ place kind. place_text place ++ words_of kind fault.subject) (same_place fault.place)
      (same_kind fault.kind),
  refl,
)

-- a number between two texts
around_short : (before after : List ℕ) (number most : ℕ) → number < 2 ^ 64 → length before + 20 + length after ≤ most
    → length (around before after number) ≤ most
around_short before after number most fits short =
    omega (
      arith,
      length-append before (decimal number ++ after),
      length-append (decimal number) after,
      length-decimal-le 20 number (omega arith) (omega arith) fits,
    )

pub kind_short : (kind : Kind) (subject : ℕ) → subject < 2 ^ 64 → length (kind_text kind subject) ≤ 48
kind_short kinds.Redefined subject fits =
    around_short (codes "variable ") (codes " defined twice") subject 48 fits (lit≤ tt)
kind_short kinds.Undefined subject fits =
    around_short (codes "literal ") (codes " not defined") subject 48 fits (lit≤ tt)
kind_short kinds.Cyclic subject fits =
    around_short (codes "gate ") (codes " depends on a cycle") subject 48 fits (lit≤ tt)
kind_short kinds.NoSuchBadState subject fits = around_short (codes "no bad state ") [] subject 48 fits (lit≤ tt)
kind_short kinds.NoSuchJustice subject fits = around_short (codes "no justice property ") [] subject 48 fits (lit≤ tt)
kind_short kinds.NotAiger subject fits = lit≤ tt
kind_short kind subject fits = lit≤ tt

IsShort : Place → Type 0
IsShort place = length (place_text place) ≤ 32

either_short : (test : Bool) (this other : Place) → IsShort this → IsShort other
    → IsShort (if test then this else other)
unfolding IsShort
either_short true this other short too = short
either_short false this other short too = too

pub place_short : (place number : ℕ) → number < 2 ^ 64 → length (place_text (place_of place number)) ≤ 32
unfolding IsShort
place_short place number fits =
    let bad = if place == numbers.bad then places.Bad number else places.Whole in
    let output = if place == numbers.output then places.Output number else bad in
    let input = if place == numbers.input then places.Input number else output in
    let value = if place == numbers.value then places.Value number else input in
    let word = if place == numbers.word then places.Word number else value in
    let map_line = if place == numbers.map_line then places.MapLine number else word in
    let gate = if place == numbers.gate then places.Gate number else map_line in
    either_short (place == numbers.line) (places.Line number) gate
    (around_short (codes "line ") (codes ": ") number 32 fits (lit≤ tt))
    (either_short (place == numbers.gate) (places.Gate number) map_line
    (around_short (codes "gate ") (codes ": ") number 32 fits (lit≤ tt))
    (either_short (place == numbers.map_line) (places.MapLine number) word
    (around_short (codes "map line ") (codes ": ") number 32 fits (lit≤ tt))
    (either_short (place == numbers.word) (places.Word number) value
    (around_short (codes "word ") (codes ": ") number 32 fits (lit≤ tt))
    (either_short (place == numbers.value) (places.Value number) input
    (around_short (codes "value ") (codes ": ") number 32 fits (lit≤ tt))
    (either_short (place == numbers.input) (places.Input number) output
    (around_short (codes "input ") (codes ": ") number 32 fits (lit≤ tt))
    (either_short (place == numbers.output) (places.Output number) bad
    (around_short (codes "output ") (codes ": ") number 32 fits (lit≤ tt))
    (either_short (place == numbers.bad) (places.Bad number) places.Whole
    (around_short (codes "bad state ") (codes ": ") number 32 fits (lit≤ tt)) (lit≤ tt))))))))
