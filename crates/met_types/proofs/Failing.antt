-- Faults of a graph that are handed on.
use Rattle.std.proofs.Common.{◌≡◌, ◌+◌, ◌<◌, List, [], ◌∷◌, length, refl, sym, subst, inl}
use Rattle.std.specs.Prelude.{Result, Ok, Err, IfErr, OnOk}
use Rattle.std.specs.Result.{IsErr, IsErrAnd}
use Rattle.mo_types.specs.declared.fault.TypesFault.{TypesFault}
use Rattle.mo_types.specs.declared.fault.TypesFault.TheVariants as graph
use Rattle.mo_types.specs.Graph as g
use Rattle.mo_types.specs.Graph.{Slot}
use Rattle.type_terms.specs.declared.form.TermId.{TermId}
use Rattle.met_types.specs.declared.fault.MeetFault.{MeetFault}
use Rattle.met_types.specs.declared.fault.MeetFault.TheVariants as meet
use Rattle.met_types.specs.Faults.{memory_fault, from_graph, IfTooMany}
use Rattle.met_types.specs.Reached.{IsMissing}
use Rattle.met_types.specs.Closing.{NoRoom}

pub graph_err : {A : Type 0} (r : Result A MeetFault) (f : TypesFault) (G : MeetFault → Type 0) → IsErr r × IsErrAnd r (λ e. e ≡ from_graph f) → G (from_graph f) → IfErr r G
graph_err (Ok a) f G h k = tt
graph_err (Err e) f G h k = subst G (sym h.1) k

pub memory_err : {A : Type 0} (r : Result A MeetFault) (P : Type 0) → IsErr r × IsErrAnd r (λ e. e ≡ memory_fault) → IfErr r (λ e. IfTooMany e P)
memory_err (Ok a) P h = tt
memory_err (Err e) P h = subst (λ e. IfTooMany e P) (sym h.1) tt

pub too_many : (f : TypesFault) (P Q : Type 0) → g.IfTooMany f P → (P → Q) → IfTooMany (from_graph f) Q
too_many graph.TooManyTypes P Q h k = k h
too_many graph.Memory P Q h k = tt

pub no_room : (reached : List TermId) (slots : List Slot) (part : TermId) → length reached ≡ length slots → IsMissing reached part → 4096 < length slots + 1 → NoRoom (part ∷ []) reached
no_room reached slots part e m h = record { part = part; among = inl refl; missing = m; full = subst (λ n. 4096 < n + 1) (sym e) h }

pub same_err : {A : Type 0} (r : Result A MeetFault) (f : MeetFault) (G : MeetFault → Type 0) → IsErr r × IsErrAnd r (λ e. e ≡ f) → G f → IfErr r G
same_err (Ok a) f G h k = tt
same_err (Err e) f G h k = subst G (sym h.1) k

pub if_too_many : (f : MeetFault) (P Q : Type 0) → IfTooMany f P → (P → Q) → IfTooMany f Q
if_too_many meet.TooManyTypes P Q h k = k h
if_too_many meet.Memory P Q h k = tt

pub err_too_many : {A : Type 0} (r : Result A MeetFault) (P Q : Type 0) → IfErr r (λ f. IfTooMany f P) → (P → Q) → IfErr r (λ f. IfTooMany f Q)
err_too_many (Ok a) P Q h k = tt
err_too_many (Err f) P Q h k = if_too_many f P Q h k

pub on_ok : {A E : Type 0} (r : Result A E) (P Q : Type 0) → OnOk r P → (P → Q) → OnOk r Q
on_ok (Ok a) P Q h k = k h
on_ok (Err e) P Q h k = tt
