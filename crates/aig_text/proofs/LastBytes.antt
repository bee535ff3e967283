-- The comment of a circuit at the end of the bytes that it was read of.
use Rattle.std.proofs.Common.{◌≡◌, ◌-◌, ◌∙◌, ◌++◌, ℕ, List, length, drop, take, take-append-drop, length-append}
use Rattle.std.proofs.Common.{length-drop, append_assoc, Option, None, Some, Result, Ok, Err, refl, ap, sym, arith, inl}
use Rattle.std.specs.Prelude.{IfErr, IfOk}
use Rattle.std.proofs.lemmas.List.{drop_at}
use Rattle.aig_circuit.specs.declared.circuit.Circuit.{Circuit}
use Rattle.aig_lines.specs.Lines.{IsBehind, Ahead, Line, ahead, bytes_of, line_bytes, lines_of}
use Rattle.aig_lines.proofs.Cutting.{pieces}
use Rattle.aig_lines.proofs.Pieces.{bytes_joined}
use Rattle.aig_fault.specs.declared.stopped.Stopped.{Stopped}
use Rattle.aig_fault.specs.declared.stopped.Stopped.TheVariants.{OutOfMemory}
use Rattle.aig_rows.specs.Outcomes.{GivesOrMemory}
use Rattle.aig_text.specs.declared.comment.Uncommented.{Uncommented}
use Rattle.aig_text.specs.Reading.{HasRoomFor, with_comment, with_last_comment}

-- what follows bytes is told by its length
pub rest_is : (bytes text rest : List ℕ) → bytes ≡ text ++ rest → drop (length bytes - length rest) bytes ≡ rest
rest_is bytes text rest cut =
    let n = length bytes - length rest in
    ap (drop n) cut ∙ drop_at text rest n (omega (arith, ap length cut, length-append text rest))

-- the comment at the end of what follows is the one at the end of all
pub same_comment : (bytes text rest : List ℕ) (len : Option ℕ) (c : Circuit) → bytes ≡ text ++ rest
    → HasRoomFor len rest → with_last_comment bytes len c ≡ with_last_comment rest len c
same_comment bytes text rest None c cut room = refl
same_comment bytes text rest (Some n) c cut room =
    let front = take (length rest - n) rest in
    let last = drop (length rest - n) rest in
    let long : length last ≡ n = omega (arith, room, length-drop (length rest - n) rest) in
    let all : bytes ≡ (text ++ front) ++ last =
    cut ∙ ap (λ (t : List ℕ). text ++ t) (sym (take-append-drop (length rest - n) rest))
    ∙ sym (append_assoc text front last) in
    ap (with_comment c)
    (ap (λ (k : ℕ). drop (length bytes - k) bytes) (sym long) ∙ rest_is bytes (text ++ front) last all)

pub more_room : (bytes text rest : List ℕ) (len : Option ℕ) → bytes ≡ text ++ rest → HasRoomFor len rest
    → HasRoomFor len bytes
more_room bytes text rest None cut room = tt
more_room bytes text rest (Some n) cut room = omega (arith, room, ap length cut, length-append text rest)

-- a circuit that was read is that of all bytes
abbrev pub IsReadOf : List ℕ → Result Uncommented Stopped → Result Circuit Stopped → Type 0
IsReadOf bytes r read =
    GivesOrMemory (λ (x : Uncommented). with_last_comment bytes x.comment_len x.circuit) r read
    × IfOk r (λ x. HasRoomFor x.comment_len bytes)

pub read_of_all : (bytes text rest : List ℕ) (r : Result Uncommented Stopped) (read : Result Circuit Stopped)
    → bytes ≡ text ++ rest → IsReadOf rest r read → IsReadOf bytes r read
read_of_all bytes text rest (Ok x) read cut h = (
  h.0 ∙ ap (λ (c : Circuit). Ok c) (sym (same_comment bytes text rest x.comment_len x.circuit cut h.1)),
  more_room bytes text rest x.comment_len cut h.1,
)
read_of_all bytes text rest (Err e) read cut h = h

-- with its comment it is what reading gives
pub with_its_comment : (bytes : List ℕ) (x : Uncommented) (r read : Result Circuit Stopped)
    → read ≡ Ok (with_last_comment bytes x.comment_len x.circuit)
    → IfOk r (λ c. c ≡ with_last_comment bytes x.comment_len x.circuit) → IfErr r (λ e. e ≡ OutOfMemory)
    → GivesOrMemory (λ c. c) r read
with_its_comment bytes x (Ok c) read h ok err = h ∙ ap (λ (d : Circuit). Ok d) (sym ok)
with_its_comment bytes x (Err e) read h ok err = inl err

-- the bytes of a place further on in the same text
pub bytes_behind : (bytes : List ℕ) (number : ℕ) (now : Ahead) → IsBehind (ahead number (lines_of bytes)) now
    → (text : List ℕ) × (bytes ≡ text ++ bytes_of now.lines)
bytes_behind bytes number now behind = (
  bytes_of behind.front,
  sym (pieces bytes).joined ∙ ap bytes_of behind.lines ∙ bytes_joined behind.front now.lines,
)

-- a line further on
pub line_taken : (all text bytes after : List ℕ) (l : Line) → all ≡ text ++ bytes → bytes ≡ line_bytes l ++ after
    → (more : List ℕ) × (all ≡ more ++ after)
line_taken all text bytes after l cut is = (
  text ++ line_bytes l,
  cut ∙ ap (λ (t : List ℕ). text ++ t) is ∙ sym (append_assoc text (line_bytes l) after),
)
