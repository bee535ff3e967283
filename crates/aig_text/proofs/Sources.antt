-- A reader that takes the bytes of a source piece by piece: what it is to tell, and how the source comes to its end.
use Rattle.std.proofs.Common.{◌≡◌, ◌∙◌, ◌++◌, inl, inr, ℕ, List, [], drop, Bool, true, false, not}
use Rattle.std.proofs.Common.{append_assoc, append-nil, Result, Ok, Err, sym, ap, refl}
use Rattle.aig_io.specs.Devices.{GaveSome, History, took}
use Rattle.aig_io.specs.Windows.{Filled}
use Rattle.aig_io.specs.declared.transfer.ReadError.{ReadError}
use Rattle.aig_io.proofs.Took.{gave_then, took_none, some_later}
use Rattle.aig_circuit.specs.declared.circuit.Circuit.{Circuit}
use Rattle.aig_fault.specs.Stopping.{stopped_by}
use Rattle.aig_fault.specs.declared.stopped.Stopped.{Stopped}
use Rattle.aig_fault.specs.declared.stopped.Stopped.TheVariants.{OutOfMemory}
use Rattle.aig_rows.specs.Outcomes.{GivesOrMemory}
use Rattle.aig_text.specs.Begun.{ReadsOn}
use Rattle.aig_text.specs.Sources.{ComesOn, HasFailed, HasRead, ReadsAs, ReadsFrom}

-- reading goes on
reads_on_then : (x y z : Result Circuit Stopped) → ReadsOn x y → ReadsOn y z → ReadsOn x z
reads_on_then x y z p (inl m) = inl m
reads_on_then x y z (inl m) (inr e) = inl (sym e ∙ m)
reads_on_then x y z (inr d) (inr e) = inr (d ∙ e)

module _ (tell : List ℕ → Result Circuit Stopped) where
  pub reads_none : (u : List ℕ) (a : History) → ReadsFrom tell tell u u true a a
  reads_none u a = record {
    given = [];
    gave = took_none a;
    on = λ others. inr (ap (λ (bytes : List ℕ). tell (bytes ++ others)) (append-nil u));
  }

  pub reads_more : (q s : List ℕ → Result Circuit Stopped) (u v w : List ℕ) (used : ℕ) (more : Bool) (a b c : History)
      → ReadsFrom tell q u v true a b → ((others : List ℕ) → ReadsOn (q (v ++ others)) (s (drop used v ++ others)))
      → Filled (drop used v) w more b c → ReadsFrom tell s u w more a c
  reads_more q s u v w used more a b c before on f = record {
    given = before.given ++ f.given;
    gave = gave_then (not more) before.given f.given a b c before.gave f.gave;
    on = λ others.
        let first =
        ap (λ (bytes : List ℕ). tell (bytes ++ others)) (sym (append_assoc u before.given f.given))
        ∙ ap tell (append_assoc (u ++ before.given) f.given others) in
        let last =
        ap (λ (bytes : List ℕ). s (bytes ++ others)) f.held
        ∙ ap s (append_assoc (drop used v) f.given others) in
        rw (first, last) (reads_on_then _ _ _ (before.on (f.given ++ others)) (on (f.given ++ others)));
  }

ends_by : (x y : Result Circuit Stopped) (r : Result Circuit Stopped) → ReadsOn x y → GivesOrMemory (λ c. c) r y
    → GivesOrMemory (λ c. c) r x
ends_by x y (Ok c) (inl m) h =
    let no : ◌≡◌ {A = Result Circuit Stopped} (Err OutOfMemory) (Ok c) = sym m ∙ h in cc
ends_by x y (Ok c) (inr e) h = e ∙ h
ends_by x y (Err f) p (inl w) = inl w
ends_by x y (Err f) (inl m) (inr h) =
    let same : ◌≡◌ {A = Result Circuit Stopped} (Err f) (Err OutOfMemory) = sym h ∙ m in inl cc
ends_by x y (Err f) (inr e) (inr h) = inr (e ∙ h)

-- the source failed as it did later, and by an error of its own
pub failed_later : (stopped : Stopped) (xs : List ℕ) (a b c : History) → b ≡ took xs a → HasFailed stopped b c
    → HasFailed stopped a c
failed_later stopped xs a b c came f =
    record { error = f.error; is = f.is; gave = some_later f.error xs a b c came f.gave }

pub failed_by : (error : ReadError) (a b : History) → GaveSome error a b → HasFailed (stopped_by error) a b
failed_by error a b gave = record { error = error; is = refl; gave = gave }

-- all bytes came
pub all_came : {A : Type 0} (Holds : Result A Stopped → List ℕ → Type 0) (answer : Result A Stopped) (a b : History)
    → HasRead (λ bytes. Holds answer bytes) a b → ReadsAs Holds answer a b
all_came Holds (Ok x) a b h = h
all_came Holds (Err e) a b h = inl h

-- the rest of a file was read
abbrev pub RestRead : (List ℕ → Result Circuit Stopped) → List ℕ → History → History → Result Circuit Stopped
    → Type 0
RestRead tell u a c answer = HasRead (λ bytes. GivesOrMemory (λ d. d) answer (tell (u ++ bytes))) a c

pub rest_read : (r s : List ℕ → Result Circuit Stopped) (u v w : List ℕ) (more : Bool) (a b c : History)
    (answer : Result Circuit Stopped) → ReadsFrom r s u v more a b → ComesOn v w more false b c
    → GivesOrMemory (λ d. d) answer (s w) → RestRead r u a c answer
rest_read r s u v w more a b c answer reads all h =
    let h = rw all.all at h in
    record {
      bytes = reads.given ++ all.given;
      gave = all.gave a reads.given reads.gave;
      holds =
          rw (← append_assoc u reads.given all.given)
          (ends_by _ _ answer (reads.on all.given) h);
    }

-- and all of it, of which the first bytes came before
pub whole_read : (tell s : List ℕ → Result Circuit Stopped) (u v : List ℕ) (a b c : History)
    (answer : Result Circuit Stopped) → ReadsFrom tell s u v true a b → RestRead s v b c answer
    → RestRead tell u a c answer
whole_read tell s u v a b c answer reads h =
    let all : u ++ (reads.given ++ h.bytes) ≡ (u ++ reads.given) ++ h.bytes =
    sym (append_assoc u reads.given h.bytes) in
    record {
      bytes = reads.given ++ h.bytes;
      gave = gave_then true reads.given h.bytes a b c reads.gave h.gave;
      holds = rw all (ends_by _ _ answer (reads.on h.bytes) h.holds);
    }
