-- What is known of a function that is called.
use Rattle.std.proofs.Common.{◌≡◌, ℕ, ◌+◌, ◌-◌, ◌<◌, ◌≤◌, List, length, get_or, Option, Some, None, inl, inr, refl, sym, ap, ◌∙◌, subst, arith, length-append}
use Rattle.std.specs.Prelude.{slice_get}
use Rattle.std.specs.Option.{unwrap_or}
use Rattle.std.proofs.lemmas.Bool.{cases_lt}
use Rattle.std.proofs.lemmas.Option.{slice_get_past, slice_get-get_or}
use Rattle.wasm_tree.specs.declared.types.FunctionType.{FunctionType}
use Rattle.wasm_tree.specs.declared.module_parts.Function.{Function}
use Rattle.wasm_tree.specs.declared.module_parts.Module.{Module}
use Rattle.wasm_tree.specs.Valid.{signatures}
use Rattle.wasm_tree.specs.Exec.{ExecutionLimits, Calls, type_of, same_type}
use Rattle.wasm_tree.specs.Rules.{or_no}
use Rattle.wasm_tree.specs.Frames.{defined}
use Rattle.wasm_steps.specs.declared.step.Step.{Step}
use Rattle.wasm_steps.specs.declared.layout.BodyLayout.{BodyLayout}
use Rattle.wasm_steps.specs.declared.layout.FunctionLayout.{FunctionLayout}
use Rattle.wasm_steps.specs.declared.layout.ModuleLayout.{ModuleLayout}
use Rattle.wasm_steps.specs.Layout.{IsBodyLayout, IsBodyOf, IsFunctionLayout, IsModuleLayout}
use Rattle.wasm_steps.specs.Follow.{under, base, After}
use Rattle.wasm_steps.proofs.Follows.{base_is}
use Rattle.wasm_machine.specs.Operands.{tops}
use Rattle.wasm_machine.specs.Hosts.{Play}
use Rattle.wasm_machine.proofs.Tops.{length_tops}

pub some_same : {A : Type 0} → (a b : A) → Some a ≡ Some b → a ≡ b
some_same a b e = ap (λ o. unwrap_or o a) e

pub record CalleeAt (m : Module) (steps : List Step) (f : ℕ) (layout : FunctionLayout) (t : FunctionType) : Type 0 where
  pub params : layout.params ≡ length t.params
  pub results : layout.results ≡ length t.results
  pub few : length t.results ≤ 1
  pub body : IsBodyOf m steps t (defined m f) layout.body

pub callee_at : (m : Module) (layout : ModuleLayout) → IsModuleLayout m layout → (f : ℕ) (fl : FunctionLayout) → slice_get layout.functions f ≡ Some fl → (t : FunctionType) → type_of m f ≡ Some t → CalleeAt m layout.steps f fl t
callee_at m layout laid f fl is t of_type =
    let facts : IsFunctionLayout m layout.steps f fl = laid.each f fl is in
    let same : facts.type ≡ t = some_same facts.type t (sym facts.of_type ∙ sym (ap (λ o. or_no o (slice_get m.types)) facts.signature) ∙ of_type) in
    let own : CalleeAt m layout.steps f fl facts.type = record { params = facts.params; results = facts.results; few = facts.few; body = facts.body } in
    subst (λ u. CalleeAt m layout.steps f fl u) same own

pub callee_within : (m : Module) (layout : ModuleLayout) → IsModuleLayout m layout → (f : ℕ) (t : FunctionType) → type_of m f ≡ Some t → f < length layout.functions
callee_within m layout laid f t of_type =
    elim (cases_lt f (length layout.functions)) [
      | inl lt ↦ lt
      | inr ge ↦
          let past : length (signatures m) ≤ f = let e = laid.count in omega arith in
          let none : type_of m f ≡ None = ap (λ o. or_no o (slice_get m.types)) (slice_get_past (signatures m) f past) in
          absurd (let h : None ≡ Some t = sym none ∙ of_type in grind (arith, h))
    ]

-- a function without a body is the host's
pub is_host : (m : Module) (steps : List Step) (t : FunctionType) (d : Option Function) (body : Option BodyLayout) → IsBodyOf m steps t d body → body ≡ None → d ≡ None
is_host m steps t None body h e = refl
is_host m steps t (Some fn) None h e = absurd h
is_host m steps t (Some fn) (Some b) h e = absurd (grind (arith, e))

-- and one with a body is the module's
pub record BodyAt (m : Module) (steps : List Step) (t : FunctionType) (d : Option Function) (layout : BodyLayout) : Type 0 where
  pub fn : Function
  pub is : d ≡ Some fn
  pub body : IsBodyLayout m steps t fn layout

pub is_body : (m : Module) (steps : List Step) (t : FunctionType) (d : Option Function) (body : Option BodyLayout) (layout : BodyLayout) → IsBodyOf m steps t d body → body ≡ Some layout → BodyAt m steps t d layout
is_body m steps t None None layout h e = absurd (grind (arith, e))
is_body m steps t None (Some b) layout h e = absurd h
is_body m steps t (Some fn) None layout h e = absurd h
is_body m steps t (Some fn) (Some b) layout h e = record { fn = fn; is = refl; body = subst (λ x. IsBodyLayout m steps t fn x) (some_same b layout e) h }

pub frame_enough : (m : Module) (steps : List Step) (t : FunctionType) (fn : Function) (layout : BodyLayout) → IsBodyLayout m steps t fn layout → 8 + length t.params + layout.locals + layout.height ≤ layout.words
frame_enough m steps t fn layout b = let l = b.locals in let h = b.height in let w = b.words in omega arith

-- the operands of a call
pub record AskFacts (held height : ℕ) (t : FunctionType) : Type 0 where
  pub params : length t.params ≤ held
  pub few : held ≤ height
  pub fits : held - length t.params + length t.results ≤ height

pub ask_facts : (limits : ExecutionLimits) (m : Module) (calls : Calls Play) (steps : List Step) (count height keep : ℕ) (t : FunctionType) (place : ℕ) (cells : List ℕ) (held : ℕ) → After limits m calls steps count height keep t place (tops cells held) → AskFacts held height t
ask_facts limits m calls steps count height keep t place cells held a =
    let len : held ≡ length a.own + length (under a.around) = sym (length_tops cells held) ∙ ap length a.held ∙ length-append a.own (under a.around) in
    let below : length (under a.around) ≡ base a.around = base_is a.around in
    let enough = a.enough in
    let fits = a.fits in
    let few : held ≤ height = subst (λ n. n ≤ height) (length_tops cells held) a.few in
    record { params = omega arith; few = few; fits = omega arith }

pub got_within : {A : Type 0} → (xs : List A) (i : ℕ) (x : A) → slice_get xs i ≡ Some x → i < length xs
got_within xs i x e =
    elim (cases_lt i (length xs)) [
      | inl lt ↦ lt
      | inr ge ↦ absurd (let h : None ≡ Some x = sym (slice_get_past xs i ge) ∙ e in grind (arith, h))
    ]

pub signature_within : (m : Module) (layout : ModuleLayout) → IsModuleLayout m layout → (f : ℕ) (fl : FunctionLayout) → slice_get layout.functions f ≡ Some fl → fl.signature < length m.types
signature_within m layout laid f fl is = let facts = laid.each f fl is in got_within m.types fl.signature facts.type facts.of_type

pub types_are : (m : Module) (layout : ModuleLayout) → IsModuleLayout m layout → (f : ℕ) (fl : FunctionLayout) → slice_get layout.functions f ≡ Some fl → (x : ℕ) (types : List FunctionType) (d e : FunctionType) → types ≡ m.types → x < length m.types → same_type (Some (get_or types fl.signature d)) (Some (get_or types x e)) ≡ same_type (type_of m f) (slice_get m.types x)
types_are m layout laid f fl is x types d e same less =
    let facts = laid.each f fl is in
    let own : type_of m f ≡ Some (get_or m.types fl.signature d) = ap (λ o. or_no o (slice_get m.types)) facts.signature ∙ slice_get-get_or m.types fl.signature d (got_within m.types fl.signature facts.type facts.of_type) in
    let other : slice_get m.types x ≡ Some (get_or m.types x e) = slice_get-get_or m.types x e less in
    ap (λ (l : List FunctionType). same_type (Some (get_or l fl.signature d)) (Some (get_or l x e))) same ∙ ap (λ o. same_type o (Some (get_or m.types x e))) (sym own) ∙ ap (λ o. same_type (type_of m f) o) (sym other)
