-- The rows and the traces of a circuit that is ordered by the names of another.
use Rattle.std.proofs.Common.{◌≡◌, ◌∙◌, ◌++◌, ◌∷◌, ℕ, List, [], None, Option, Some, ap, ap₂, map, refl, subst, sym}
use Rattle.std.specs.List.{cons_option, slice_get}
use Rattle.std.specs.Option.{option_and_then, option_map}
use Rattle.std.proofs.lemmas.List.{map-append}
use Rattle.std.proofs.lemmas.Option.{slice_get-map}
use Rattle.aig_circuit.specs.declared.circuit.Circuit.{Circuit}
use Rattle.aig_circuit.specs.declared.value.Val.{Val}
use Rattle.aig_meaning.specs.Meaning.{IsRow, Row, literal_value}
use Rattle.aig_meaning.specs.Trace.{Follow, IsTrace}
use Rattle.aig_meaning.proofs.Traces.{same_row}
use Rattle.aig_pairing.specs.ByNames.{bad_names, in_order, in_order_of, output_names, value_named}
use Rattle.aig_pairing.specs.Laws.{IsTraceInOrder, RowsAreOrdered, TracesAreOrdered, row_in_order}
use Rattle.aig_pairing.specs.Names.{Name, compared, compared_names, input_names, place_named}
use Rattle.aig_pairing.proofs.Ordered.{ordered_by}

-- what is taken of other values is made of what is taken
module _ {A B : Type 0} (f : A → B) where
  then_mapped : (values : List A) (o : Option ℕ)
      → option_and_then (slice_get (map f values)) o ≡ option_map f (option_and_then (slice_get values) o)
  then_mapped values None = refl
  then_mapped values (Some k) = slice_get-map f values k

  cons_mapped : (o : Option A) (vs : List A) → cons_option (option_map f o) (map f vs) ≡ map f (cons_option o vs)
  cons_mapped None vs = refl
  cons_mapped (Some v) vs = refl

  order_mapped : (wanted names : List Name) (values : List A)
      → in_order_of wanted names (map f values) ≡ map f (in_order_of wanted names values)
  order_mapped [] names values = refl
  order_mapped (n ∷ ns) names values =
      ap₂ (λ (o : Option B) (vs : List B). cons_option o vs) (then_mapped values (place_named names n))
      (order_mapped ns names values)
      ∙ cons_mapped (value_named names values n) (in_order_of ns names values)

module _ (a b : Circuit) where
  -- what is shown of what is compared, in order
  shown_in_order : (f : ℕ → Val) (wanted : List Name)
      → map f (in_order_of wanted (compared_names b) (compared b))
      ≡ in_order_of wanted (compared_names b) (map f b.outputs ++ map f b.bad)
  shown_in_order f wanted =
      sym (order_mapped f wanted (compared_names b) (compared b))
      ∙ ap (in_order_of wanted (compared_names b)) (map-append f b.outputs b.bad)

  row_there : (before : Row) → IsRow b before → IsRow (in_order a b) (row_in_order a b before)
  row_there before (v, shown) =
      let f = literal_value v in
      let both : map f b.outputs ++ map f b.bad ≡ before.outputs ++ before.bad =
      sym (ap₂ (λ (x y : List Val). x ++ y) shown.outputs_shown shown.bad_shown) in (
        v,
        record {
          assigned = record {
            constant = shown.assigned.constant;
            inputs = sym (order_mapped v (input_names a) (input_names b) b.inputs)
                ∙ ap (in_order_of (input_names a) (input_names b)) shown.assigned.inputs;
            latches = shown.assigned.latches;
            gates = shown.assigned.gates;
          };
          outputs_shown = sym (shown_in_order f (output_names a)
              ∙ ap (in_order_of (output_names a) (compared_names b)) both);
          next_shown = shown.next_shown;
          bad_shown = sym (shown_in_order f (bad_names a)
              ∙ ap (in_order_of (bad_names a) (compared_names b)) both);
          constraints_shown = shown.constraints_shown;
        },
      )

  row_back : (row : Row) → IsRow (in_order a b) row → (before : Row) × IsRow b before × (row ≡ row_in_order a b before)
  row_back row (v, shown) =
      let f = literal_value v in
      let before : Row = record row {
        inputs = map v b.inputs;
        outputs = map f b.outputs;
        bad = map f b.bad;
      } in (
        before,
        (
          v,
          record {
            assigned = record {
              constant = shown.assigned.constant;
              inputs = refl;
              latches = shown.assigned.latches;
              gates = shown.assigned.gates;
            };
            outputs_shown = refl;
            next_shown = shown.next_shown;
            bad_shown = refl;
            constraints_shown = shown.constraints_shown;
          },
        ),
        same_row row (row_in_order a b before) refl
            (sym shown.assigned.inputs ∙ sym (order_mapped v (input_names a) (input_names b) b.inputs))
            (shown.outputs_shown ∙ shown_in_order f (output_names a)) refl
            (shown.bad_shown ∙ shown_in_order f (bad_names a)) refl,
      )

pub rows_are_ordered : RowsAreOrdered
rows_are_ordered a b c by row =
    let is = (ordered_by a b c by).1 in (
      λ r. row_back a b row (subst (λ (d : Circuit). IsRow d row) (sym is) r),
      λ r. subst (λ (d : Circuit). IsRow d row) is
          (subst (IsRow (in_order a b)) (sym r.2) (row_there a b r.0 r.1)),
    )

module _ (a b : Circuit) where
  abbrev order : List Val → List Val
  order = in_order_of (input_names a) (input_names b)

  follow_there : (state : List Val) (given : List (List Val)) (before : List Row) → Follow b state given before
      → Follow (in_order a b) state (map order given) (map (row_in_order a b) before)
  follow_there state [] [] follow = tt
  follow_there state [] (r ∷ rs) follow = absurd follow
  follow_there state (g ∷ gs) [] follow = absurd follow
  follow_there state (g ∷ gs) (r ∷ rs) follow =
      (follow.0, ap order follow.1, row_there a b r follow.2, follow_there r.next gs rs follow.3)

  follow_back : (state : List Val) (vectors : List (List Val)) (rows : List Row)
      → Follow (in_order a b) state vectors rows
      → (given : List (List Val)) × (before : List Row) × Follow b state given before
      × (vectors ≡ map order given) × (rows ≡ map (row_in_order a b) before)
  follow_back state [] [] follow = ([], [], tt, refl, refl)
  follow_back state [] (r ∷ rs) follow = absurd follow
  follow_back state (v ∷ vs) [] follow = absurd follow
  follow_back state (v ∷ vs) (r ∷ rs) follow =
      let row = row_back a b r follow.2 in
      let rest = follow_back r.next vs rs follow.3 in
      let next : r.next ≡ (row.0).next = ap (λ (q : Row). q.next) row.2 in
      let vector : v ≡ order (row.0).inputs = sym follow.1 ∙ ap (λ (q : Row). q.inputs) row.2 in (
        (row.0).inputs ∷ rest.0,
        row.0 ∷ rest.1,
        (
          sym (ap (λ (q : Row). q.state) row.2) ∙ follow.0,
          refl,
          row.1,
          subst (λ (s : List Val). Follow b s rest.0 rest.1) next rest.2,
        ),
        ap₂ (λ q qs. q ∷ qs) vector rest.3,
        ap₂ (λ q qs. q ∷ qs) row.2 rest.4,
      )

  trace_back : (first : List Val) (vectors : List (List Val)) (rows : List Row)
      → IsTrace (in_order a b) first vectors rows → IsTraceInOrder a b first vectors rows
  trace_back first vectors rows trace =
      let r = follow_back first vectors rows trace.1 in
      record { given = r.0; before = r.1; trace = (trace.0, r.2); vectors_are = r.3; rows_are = r.4 }

  trace_there : (first : List Val) (vectors : List (List Val)) (rows : List Row)
      → IsTraceInOrder a b first vectors rows → IsTrace (in_order a b) first vectors rows
  trace_there first vectors rows is =
      subst (λ (rs : List Row). IsTrace (in_order a b) first vectors rs) (sym is.rows_are)
      (subst (λ (vs : List (List Val)). IsTrace (in_order a b) first vs (map (row_in_order a b) is.before))
      (sym is.vectors_are)
      (is.trace.0, follow_there first is.given is.before is.trace.1))

pub traces_are_ordered : TracesAreOrdered
traces_are_ordered a b c by first vectors rows =
    let is = (ordered_by a b c by).1 in (
      λ t. trace_back a b first vectors rows (subst (λ (d : Circuit). IsTrace d first vectors rows) (sym is) t),
      λ t. subst (λ (d : Circuit). IsTrace d first vectors rows) is (trace_there a b first vectors rows t),
    )
