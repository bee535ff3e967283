-- What is written for bytes is one text, the file of the unrolled circuit, and it exists.
use Rattle.std.proofs.Common.{◌≡◌, ◌∙◌, ap, refl, subst, sym, ℕ, List, Bool, true, false, inl}
use Rattle.aig_circuit.specs.declared.circuit.Circuit.{Circuit}
use Rattle.aig_circuit.specs.declared.circuit.TheConstants.{LARGEST}
use Rattle.aig_checked.specs.BinaryOrder.{IsInBinaryOrder}
use Rattle.aig_circuit.specs.Wellformed.{IsWellFormed}
use Rattle.aig_unroll.specs.Unrolled.{IsTooLarge, IsUnrolled}
use Rattle.aig_unroll.proofs.Ordering.Ordered.{one_unrolled, unrolled_is_ordered}
use Rattle.aig_command.specs.declared.request.Property.{Property}
use Rattle.aig_command.specs.declared.request.Property.TheVariants.{AnyBad}
use Rattle.aig_command.specs.declared.request.Unroll.{Unroll}
use Rattle.aig_command.specs.declared.request.UnrolledForm.{UnrolledForm}
use Rattle.aig_command.specs.declared.request.UnrolledForm.TheVariants.{Ascii, Binary, Clauses}
use Rattle.aig_commands.specs.File.{IsFileOf}
use Rattle.aig_commands.specs.Property.{property_model}
use Rattle.aig_commands.specs.Unrolling.{IsUnrollingText, IsWrittenAs, IsWrittenFor, property_of, unrolled_text}
use Rattle.aig_commands.specs.Laws.{IsOfCircuit, SimplifiedUnrollingsMeanTheSame, UnrolledTextsAreFiles}
use Rattle.aig_commands.specs.Laws.{UnrolledTextsExist, UnrollingsAreUnambiguous}
use Rattle.aig_meaning.specs.Meaning.{MeansTheSame}
use Rattle.aig_meaning.proofs.Traces.{means_itself}
use Rattle.std.proofs.lemmas.Bool.{false≢true}
use Rattle.aig_binary.proofs.Files.{one_circuit}
use Rattle.aig_commands.proofs.Trips.{ascii_file, binary_file}
use Rattle.aig_commands.proofs.Unrolled.{itself_for}
use Rattle.aig_commands.proofs.TripsExist.{well_formed_file}

-- what is unrolled of the file of a circuit is the one unrolled circuit of what is asked of it
unrolled_is : (request : Unroll) (c d : Circuit) (file text : List ℕ) → IsFileOf file request.max_var c
    → IsUnrolled (property_model (property_of request.form) c) request.frames d → (p : IsUnrollingText request file text)
    → p.is_text.unrolled ≡ d
unrolled_is request c d file text read is p =
    let same = one_circuit file request.max_var p.found c p.read read in
    let one = one_unrolled (property_model (property_of request.form) c) request.frames in
    one.2 p.is_text.unrolled (rw same at p.is_text.is_unrolled.is_unrolled) ∙ sym (one.2 d is)

-- it is written as it is, where it is not simplified
as_it_is : (simplify : Bool) (form : UnrolledForm) (d written : Circuit) → simplify ≡ false
    → IsWrittenFor simplify form d written → written ≡ d
as_it_is true form d written whole is = absurd (false≢true (sym whole))
as_it_is false Binary d written whole is = is
as_it_is false Ascii d written whole is = is
as_it_is false (Clauses property) d written whole is = is

pub unrollings_are_unambiguous : UnrollingsAreUnambiguous
unrollings_are_unambiguous request bytes text other whole p q =
    let same = unrolled_is request q.found q.is_text.unrolled bytes text q.read q.is_text.is_unrolled.is_unrolled p in
    let one = p.is_text in
    let two = q.is_text in
    let first = as_it_is request.simplify request.form one.unrolled one.written whole one.is_written in
    let second = as_it_is request.simplify request.form two.unrolled two.written whole two.is_written in
    (rw whole at one.written_as) ∙ ap (unrolled_text request.form) (first ∙ same ∙ sym second)
    ∙ sym (rw whole at two.written_as)

-- all bad states are asked for where the circuit itself is written
all_asked : (form : UnrolledForm) → IsOfCircuit form → property_of form ≡ AnyBad
all_asked Binary of_circuit = refl
all_asked Ascii of_circuit = refl
all_asked (Clauses property) of_circuit = absurd of_circuit

-- the canonical text of a circuit in binary order is a file of it
file_of : (form : UnrolledForm) (d : Circuit) (text : List ℕ) → IsOfCircuit form → IsWellFormed d → IsInBinaryOrder d
    → text ≡ unrolled_text form d → IsFileOf text LARGEST d
file_of Binary d text of_circuit good ordered is = binary_file d text good ordered is
file_of Ascii d text of_circuit good ordered is = inl (ascii_file d text good is)
file_of (Clauses property) d text of_circuit good ordered is = absurd of_circuit

-- of the circuit itself its own text is written
own_text : (simplify : Bool) (form : UnrolledForm) (d : Circuit) (text : List ℕ) → IsOfCircuit form
    → IsWrittenAs simplify form d text → text ≡ unrolled_text form d
own_text true Binary d text of_circuit is = is
own_text true Ascii d text of_circuit is = is
own_text true (Clauses property) d text of_circuit is = absurd of_circuit
own_text false form d text of_circuit is = is

-- what is written of the circuit itself is in binary order, and means what the unrolled circuit does
written_of : (simplify : Bool) (form : UnrolledForm) (d written : Circuit) → IsOfCircuit form → IsWellFormed d
    → IsInBinaryOrder d → IsWrittenFor simplify form d written
    → IsWellFormed written × IsInBinaryOrder written × MeansTheSame d written
written_of true Binary d written of_circuit good ordered is = (is.formed, is.ordered, is.same)
written_of true Ascii d written of_circuit good ordered is = (is.formed, is.ordered, is.same)
written_of false Binary d written of_circuit good ordered is = rw is (good, ordered, means_itself d)
written_of false Ascii d written of_circuit good ordered is = rw is (good, ordered, means_itself d)
written_of simplify (Clauses property) d written of_circuit good ordered is = absurd of_circuit

-- The text of the file of a circuit, other than clauses.
module _ (request : Unroll) (c d : Circuit) (file text : List ℕ) (of_circuit : IsOfCircuit request.form)
    (read : IsFileOf file request.max_var c) (is : IsUnrolled c request.frames d)
    (p : IsUnrollingText request file text) where
  all_bad : property_of request.form ≡ AnyBad
  all_bad = all_asked request.form of_circuit

  unrolled : IsUnrolled p.found request.frames p.is_text.unrolled
  unrolled =
      subst (λ (property : Property). IsUnrolled (property_model property p.found) request.frames p.is_text.unrolled)
      all_bad p.is_text.is_unrolled.is_unrolled

  fits : ¬ IsTooLarge p.found request.frames
  fits =
      subst (λ (property : Property). ¬ IsTooLarge (property_model property p.found) request.frames) all_bad
      p.is_text.is_unrolled.fits

  is_d : p.is_text.unrolled ≡ d
  is_d =
      unrolled_is request c d file text read
      (subst (λ (property : Property). IsUnrolled (property_model property c) request.frames d) (sym all_bad) is) p

  -- it is the file of what is written, which means what the unrolled circuit does
  written_file : IsFileOf text LARGEST p.is_text.written × MeansTheSame d p.is_text.written
  written_file =
      let ordered = unrolled_is_ordered p.found p.is_text.unrolled request.frames
      (well_formed_file file request.max_var p.found p.read) unrolled fits in
      let made = written_of request.simplify request.form p.is_text.unrolled p.is_text.written of_circuit ordered.0
      ordered.1 p.is_text.is_written in (
        file_of request.form p.is_text.written text of_circuit made.0 made.1
            (own_text request.simplify request.form p.is_text.written text of_circuit p.is_text.written_as),
        subst (λ (e : Circuit). MeansTheSame e p.is_text.written) is_d made.2,
      )

pub simplified_unrollings_mean_the_same : SimplifiedUnrollingsMeanTheSame
simplified_unrollings_mean_the_same request c d file text of_circuit read is p =
    let made = written_file request c d file text of_circuit read is p in (p.is_text.written, made.0, made.1)

pub unrolled_texts_are_files : UnrolledTextsAreFiles
unrolled_texts_are_files request c d file text of_circuit whole read is p other =
    let same =
    as_it_is request.simplify request.form p.is_text.unrolled p.is_text.written whole p.is_text.is_written
    ∙ is_d request c d file text of_circuit read is p in
    let is_file = rw same at ((written_file request c d file text of_circuit read is p).0) in
    (λ read_too. one_circuit text LARGEST other d read_too is_file, λ is_other. rw is_other is_file)

pub unrolled_texts_exist : UnrolledTextsExist
unrolled_texts_exist request c file whole read has supported fits writable =
    let one = one_unrolled (property_model (property_of request.form) c) request.frames in (
      unrolled_text request.form one.0,
      record {
        found = c;
        read = read;
        is_text = record {
          unrolled = one.0;
          written = one.0;
          is_unrolled = record {
            has_property = has;
            supported = supported;
            fits = fits;
            is_unrolled = one.1;
          };
          is_writable = writable one.0 one.1;
          is_written = rw whole (itself_for request.form one.0);
          written_as = rw whole refl;
        };
      },
    )
