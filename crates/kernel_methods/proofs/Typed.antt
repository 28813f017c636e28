-- The types of public functions as they are in the table and in the graph.
use Rattle.std.proofs.Common.{◌≡◌, ◌∙◌, ℕ, zero, suc, ◌+◌, ◌<◌, ◌≤◌, Bool, true, List, [], ◌∷◌, ◌++◌, Some, length, get_or, drop, slice_get, map, refl, sym, ap, subst, arith}
use Rattle.std.specs.Prelude.{Result, IfOk}
use Rattle.mo_types.specs.declared.node.Node.{Node}
use Rattle.mo_types.specs.declared.node.Node.TheVariants as node
use Rattle.mo_types.specs.declared.node.TypeId.{TypeId}
use Rattle.mo_types.specs.Sub.{Each}
use Rattle.mo_subtype.specs.Renamed.{on_node}
use Rattle.typed_tree.specs.Instances.{types_in}
use Rattle.typing_rules.specs.Definitions.{Definitions}
use Rattle.typing_rules.specs.Heads.{head, results}
use Rattle.typing_rules.specs.Definitions.{unfolded}
use Rattle.typing_rules.specs.Terms.{Term}
use Rattle.typing_rules.specs.Terms as t
use Rattle.type_terms.specs.declared.form.Form.{Form}
use Rattle.type_terms.specs.declared.form.Form.TheVariants as form
use Rattle.type_terms.specs.declared.form.TermId.{TermId}
use Rattle.type_terms.specs.Tables.{Founded}
use Rattle.type_definitions.specs.Meanings.{term, term_of}
use Rattle.type_definitions.proofs.Meanings.{term_is}
use Rattle.met_types.specs.States.{State}
use Rattle.desugaring.specs.Programs.{parameters_of, result_term}
use Rattle.kernel_types.specs.Numbers.{IsHead, definitions, number, type_at}
use Rattle.kernel_methods.proofs.Same.{if_same}
use Rattle.kernel_roles.proofs.Walking.{drop_all, drop_none, next}
use Rattle.kernel_methods.specs.Shared.{IsShared, is_shared, parameters_at, parameters_in, results_at, results_in}

-- ---- forms of shared functions

form_shared : (at : TermId → Term) (f : Form) → is_shared f ≡ true → IsShared (term_of at f)
form_shared at (form.Shared s ps r) h = record { sort = s; parameters = t.unlisted (map at ps); result = at r; is = refl }
form_shared at _ h = cc

pub shared_found : (forms fs : List Form) (kind : TermId) (n : ℕ) (f : Form) (b : Bool) → fs ≡ forms → n ≡ kind.index → Founded fs → Some f ≡ slice_get fs n → b ≡ is_shared f → b ≡ true → IsShared (term forms kind)
shared_found forms fs kind n f b e m founded g k h =
    subst IsShared (sym (ap (λ (l : List Form). term l kind) (sym e) ∙ term_is fs kind f founded (ap (slice_get fs) (sym m) ∙ sym g))) (form_shared (term fs) f (sym k ∙ h))

-- ---- heads of shared functions

parameters_seen : (g : TypeId → Term) (y : Node TypeId) → parameters_at (on_node g y) ≡ map g (parameters_at y)
parameters_seen g (node.Func s ps rs) = refl
parameters_seen g _ = refl

results_seen : (g : TypeId → Term) (y : Node TypeId) → results_at (on_node g y) ≡ map g (results_at y)
results_seen g (node.Func s ps rs) = refl
results_seen g _ = refl

shared_parameters : (defs : Definitions) (u : Term) → IsShared u → parameters_at (head defs u) ≡ parameters_of u
unfolding head
shared_parameters defs u h = subst (λ (v : Term). parameters_at (head defs v) ≡ parameters_of v) (sym h.is) refl

shared_results : (defs : Definitions) (u : Term) → IsShared u → results_at (head defs u) ≡ results (result_term u) (unfolded defs.types (result_term u))
unfolding head
shared_results defs u h = subst (λ (v : Term). results_at (head defs v) ≡ results (result_term v) (unfolded defs.types (result_term v))) (sym h.is) refl

module _ (s : State) where
  abbrev Numbered : List TypeId → Type 0
  Numbered ids = Each (λ p. number s (type_at s p) ≡ p) ids

  back : (ids : List TypeId) → Numbered ids → map (number s) (map (type_at s) ids) ≡ ids
  back [] h = refl
  back (p ∷ ids) h = ap (λ (q : TypeId). q ∷ map (number s) (map (type_at s) ids)) h.0 ∙ ap (λ (l : List TypeId). p ∷ l) (back ids h.1)

  first : (ids more : List TypeId) → Numbered (ids ++ more) → Numbered ids
  first [] more h = tt
  first (p ∷ ids) more h = (h.0, first ids more h.1)

  rest : (ids more : List TypeId) → Numbered (ids ++ more) → Numbered more
  rest [] more h = h
  rest (p ∷ ids) more h = rest ids more h.1

  parameters_back : (y : Node TypeId) → Numbered (types_in y) → map (number s) (map (type_at s) (parameters_at y)) ≡ parameters_at y
  parameters_back (node.Func o ps rs) h = back ps (first ps rs h)
  parameters_back _ h = refl

  results_back : (y : Node TypeId) → Numbered (types_in y) → map (number s) (map (type_at s) (results_at y)) ≡ results_at y
  results_back (node.Func o ps rs) h = back rs (rest ps rs h)
  results_back _ h = refl

  module _ (kind : TermId) (y : Node TypeId) (h : IsHead s kind y) (shared : IsShared (term s.forms kind)) {E : Type 0} (r : Result (List TypeId) E) where
    pub parameters_are : IfOk r (λ m. m ≡ parameters_at y) → IfOk r (λ m. m ≡ parameters_in s kind)
    parameters_are =
        if_same r (parameters_at y) (parameters_in s kind)
        (sym (parameters_back y h.parts) ∙ ap (map (number s)) (sym (parameters_seen (type_at s) y) ∙ (ap parameters_at (sym h.is) ∙ shared_parameters (definitions s) (term s.forms kind) shared)))

    pub results_are : IfOk r (λ m. m ≡ results_at y) → IfOk r (λ m. m ≡ results_in s kind)
    results_are =
        if_same r (results_at y) (results_in s kind)
        (sym (results_back y h.parts) ∙ ap (map (number s)) (sym (results_seen (type_at s) y) ∙ (ap results_at (sym h.is) ∙ shared_results (definitions s) (term s.forms kind) shared)))

-- ---- each of a list

pub each_at : {A : Type 0} (P : A → Type 0) (xs : List A) (i : ℕ) (x : A) → i < length xs → x ≡ get_or xs i x → Each P xs → P x
each_at P [] i x l e h = absurd (omega (arith, l))
each_at P (y ∷ xs) zero x l e h = subst P (sym e) h.0
each_at P (y ∷ xs) (suc i) x l e h = each_at P xs i x (omega (arith, l)) e h.1

pub each_more : {A : Type 0} (P : A → Type 0) (xs : List A) (i : ℕ) (x : A) → i < length xs → x ≡ get_or xs i x → P x → Each P (drop (i + 1) xs) → Each P (drop i xs)
each_more P xs i x l e h more = subst (Each P) (sym (next xs i x l e)) (h, more)

pub each_all : {A : Type 0} (P : A → Type 0) (xs : List A) → Each P (drop 0 xs) → Each P xs
each_all P xs h = subst (Each P) (drop_none xs) h

pub each_end : {A : Type 0} (P : A → Type 0) (xs : List A) (i : ℕ) → length xs ≤ i → Each P (drop i xs)
each_end P xs i l = subst (Each P) (sym (drop_all xs i l)) tt
