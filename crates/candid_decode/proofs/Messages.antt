-- A header, the comparison of its types, and the values behind it make a message.
use Rattle.std.proofs.Common.{◌≡◌, ℕ, true, List, [], ◌∷◌, ◌++◌, length, arith, Ok, Err, refl, sym, ap, ◌∙◌, subst}
use Rattle.std.specs.Prelude.{◌==◌}
use Rattle.std.proofs.lemmas.List.{append-nil}
use Rattle.std.proofs.lemmas.Bool.{eqb-true}
use Rattle.mo_types.specs.declared.datum.Datum.{Datum}
use Rattle.mo_types.specs.declared.datum.Data.{Data}
use Rattle.mo_types.specs.declared.node.TypeId.{TypeId}
use Rattle.mo_types.specs.Graph.{Slot, head_at}
use Rattle.mo_types.specs.Wire.{wire}
use Rattle.mo_types.specs.Values.{Values, flat}
use Rattle.mo_types.specs.Spelling.{padded, FewEmpty}
use Rattle.mo_types.specs.Code.{Reads}
use Rattle.candid_header.specs.declared.fault.Fault.{Fault}
use Rattle.exact_reading.specs.declared.stop.Stop.{Stop}
use Rattle.exact_reading.specs.declared.stop.Stop.TheVariants as stop
use Rattle.candid_header.specs.declared.header.Header.{Header}
use Rattle.candid_header.specs.Header as header
use Rattle.candid_header.specs.Header.{header_at}
use Rattle.exact_reading.specs.Reading.{Fails}
use Rattle.candid_forms.proofs.Few.{few_bytes}
use Rattle.candid_forms.proofs.Whole.{forms_to, forms_from}
use Rattle.candid_read.specs.Whole.{Takes, Finds, Leaves, IfFault}
use Rattle.candid_read.specs.Values.{Read, Breaks}
use Rattle.candid_decode.specs.Faults.{Declares, Decodes, FirstFault, InHeader, InValues}

abbrev pub pair : Header → List ℕ → Header × List ℕ
pair h rest = (h, rest)

abbrev pub both : List Datum → List ℕ → List Datum × List ℕ
both parts rest = (parts, rest)

module _ (slots : List Slot) (ids : List TypeId) (bytes : List ℕ) where
  pub makes : (h : Header) (rest left : List ℕ) (values : Values) → header.Reads h bytes rest → Declares slots ids h → Takes (Read slots ids values) rest left → left ≡ [] → Reads (head_at slots) ids bytes values
  makes h rest left values a s t none =
      let f = forms_to padded (FewEmpty (wire (head_at slots))) (head_at slots) (few_bytes (head_at slots)) ids values t.front t.holds in
      record {
        typed = f.0;
        table = h.table;
        args = h.arguments;
        few = a.head.few;
        well_formed = a.head.well_formed;
        same = s;
        spelled = record { front = a.front; back = t.front; whole = a.whole ∙ ap (λ (l : List ℕ). a.front ++ l) (t.whole ∙ ap (λ (l : List ℕ). t.front ++ l) none ∙ append-nil t.front); first = a.head.spelled; second = f.1 };
      }

  module _ (values : Values) (r : Reads (head_at slots) ids bytes values) where
    pub the_header : Header
    the_header = record { table = r.table; arguments = r.args }

    pub is_read : header.Reads the_header bytes r.spelled.back
    unfolding the_header
    is_read = record { front = r.spelled.front; whole = r.spelled.whole; head = record { few = r.few; well_formed = r.well_formed; spelled = r.spelled.first } }

    pub is_declared : Declares slots ids the_header
    unfolding the_header
    is_declared = r.same

    pub are_values : Read slots ids values r.spelled.back
    are_values = forms_from padded (FewEmpty (wire (head_at slots))) (head_at slots) ids values r.spelled.back r.typed r.spelled.second

    -- where no header is read
    pub no_header : (e : Stop Fault) → ((h : Header) (rest : List ℕ) → header.Reads h bytes rest → header.Finds {X = Header × List ℕ} (λ x. x) (Err e) h rest) → Decodes {X = Data} (λ d. d.parts) (Err e) (flat values)
    no_header stop.Memory only = tt
    no_header (stop.Fault f) only = only the_header r.spelled.back is_read

    module _ (h : Header) (rest : List ℕ) (only : (g : Header) (more : List ℕ) → header.Reads g bytes more → pair h rest ≡ pair g more) where
      same_header : h ≡ the_header
      same_header = ap (λ (x : Header × List ℕ). x.0) (only the_header r.spelled.back is_read)

      same_rest : rest ≡ r.spelled.back
      same_rest = ap (λ (x : Header × List ℕ). x.1) (only the_header r.spelled.back is_read)

      pub not_other : (Declares slots ids h → ⊥) → ⊥
      not_other apart = apart (subst (Declares slots ids) (sym same_header) is_declared)

      -- where no values are read
      pub no_values : (e : Stop Fault) → ((v : Values) (front left : List ℕ) → Read slots ids v front → rest ≡ front ++ left → Finds {X = List Datum × List ℕ} (λ x. x) (Err e) (flat v) left) → Decodes {X = Data} (λ d. d.parts) (Err e) (flat values)
      no_values stop.Memory only_values = tt
      no_values (stop.Fault f) only_values = only_values values r.spelled.back [] are_values (same_rest ∙ sym (append-nil r.spelled.back))

      -- where no values are gone over
      pub not_over : (e : Stop Fault) → ((v : Values) (front left : List ℕ) → Read slots ids v front → rest ≡ front ++ left → Leaves {X = List ℕ} (λ x. x) (Err e) left) → Decodes {X = Data} (λ d. d.parts) (Err e) (flat values)
      not_over stop.Memory only_values = tt
      not_over (stop.Fault f) only_values = only_values values r.spelled.back [] are_values (same_rest ∙ sym (append-nil r.spelled.back))

      pub nothing_left : (left : List ℕ) → ((v : Values) (front more : List ℕ) → Read slots ids v front → rest ≡ front ++ more → left ≡ more) → left ≡ []
      nothing_left left only_values = only_values values r.spelled.back [] are_values (same_rest ∙ sym (append-nil r.spelled.back))

      pub same_values : (parts : List Datum) (left : List ℕ) → ((v : Values) (front more : List ℕ) → Read slots ids v front → rest ≡ front ++ more → both parts left ≡ both (flat v) more) → (parts ≡ flat values) × (left ≡ [])
      same_values parts left only_values =
          let e = only_values values r.spelled.back [] are_values (same_rest ∙ sym (append-nil r.spelled.back)) in
          (ap (λ (x : List Datum × List ℕ). x.0) e, ap (λ (x : List Datum × List ℕ). x.1) e)

abbrev IsFirst : List Slot → List TypeId → List ℕ → Stop Fault → Type 0
IsFirst slots ids bytes e = IfFault {X = Data} (Err e) (λ f. FirstFault slots ids bytes f)

pub in_header : (slots : List Slot) (ids : List TypeId) (bytes : List ℕ) (e : Stop Fault) → Fails e (header_at bytes) → IsFirst slots ids bytes e
in_header slots ids bytes stop.Memory h = tt
in_header slots ids bytes (stop.Fault f) h = InHeader h

pub in_values : (slots : List Slot) (ids : List TypeId) (bytes : List ℕ) (h : Header) (rest : List ℕ) (e : Stop Fault) → header_at bytes ≡ Ok (h, rest) → Declares slots ids h → IfFault {X = Data} (Err e) (λ f. Breaks slots ids rest f) → IsFirst slots ids bytes e
in_values slots ids bytes h rest stop.Memory at d b = tt
in_values slots ids bytes h rest (stop.Fault f) at d b = InValues h rest at d b

pub no_bytes : (bytes : List ℕ) → (length bytes == 0) ≡ true → bytes ≡ []
no_bytes [] e = refl
no_bytes (b ∷ bs) e = let z = eqb-true (length (b ∷ bs)) 0 e in absurd (omega (arith, z))
