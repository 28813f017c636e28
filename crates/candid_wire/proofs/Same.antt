-- What is read of the bytes that were written of values.
use Rattle.std.proofs.Common.{◌≡◌, ℕ, List, Result, Ok, Err, sym, ◌∙◌, subst}
use Rattle.std.specs.Prelude.{IfOk}
use Rattle.mo_types.specs.declared.datum.Datum.{Datum}
use Rattle.mo_types.specs.declared.node.Node.{Node}
use Rattle.mo_types.specs.declared.node.TypeId.{TypeId}
use Rattle.mo_types.specs.Wire.{refs}
use Rattle.mo_types.specs.Values.{HaveTypes, flat, tree}
use Rattle.mo_types.specs.Code.{Code, Reads}
use Rattle.mo_types.proofs.Candid.{flat_tree}
use Rattle.candid_header.specs.declared.fault.Fault.{Fault}
use Rattle.exact_reading.specs.declared.stop.Stop.{Stop}
use Rattle.exact_reading.specs.declared.stop.Stop.TheVariants as stop
use Rattle.candid_laws.specs.Sound.{AreFew, AreSound}
use Rattle.candid_laws.proofs.Back.{written_is_read}
use Rattle.candid_read.specs.Whole.{IfFault}
use Rattle.candid_decode.specs.Faults.{Decodes}

-- The bytes that were written are read as the values.
pub reads : (head : TypeId → Node TypeId) (ids : List TypeId) (values : List Datum) (made bytes : List ℕ)
    → HaveTypes head ids (tree values) → AreSound head ids → AreFew head (refs ids) (tree values) → Code head ids (tree values) made → bytes ≡ made → Reads head ids bytes (tree values)
reads head ids values made bytes t s f h e = subst (λ bs. Reads head ids bs (tree values)) (sym e) (written_is_read head ids (tree values) made t s f h)

pub same : {X : Type 0} (parts : X → List Datum) (r : Result X (Stop Fault)) (values : List Datum) → Decodes parts r (flat (tree values)) → IfOk r (λ x. parts x ≡ values)
same parts (Ok x) values d = d ∙ flat_tree values
same parts (Err e) values d = tt

pub quiet : {X : Type 0} (parts : X → List Datum) (r : Result X (Stop Fault)) (values : List Datum) → Decodes parts r (flat (tree values)) → IfFault r (λ f. ⊥)
quiet parts (Ok x) values d = tt
quiet parts (Err stop.Memory) values d = tt
quiet parts (Err (stop.Fault f)) values d = d
