-- The layout of all functions.
use Rattle.std.proofs.Common.{◌≡◌, ℕ, zero, suc, ◌+◌, ◌-◌, ◌<◌, ◌≤◌, List, [], ◌∷◌, ◌++◌, length, map, Option, Some, None, refl, sym, ap, ◌∙◌, subst, arith, append_assoc, length-append}
use Rattle.std.specs.Prelude.{slice_get, option_map, cond}
use Rattle.std.proofs.lemmas.List.{length-map}
use Rattle.std.proofs.lemmas.Option.{slice_get-map, slice_get_within}
use Rattle.std.proofs.lemmas.Bool.{lt-ltb, le-ltb}
use Rattle.wasm_tree.specs.declared.module_parts.Function.{Function}
use Rattle.wasm_tree.specs.declared.module_parts.Module.{Module}
use Rattle.wasm_tree.specs.Rules.{every, signatures, imported_signatures}
use Rattle.wasm_tree.specs.Valid.{ValidModule, IsValidFunction}
use Rattle.wasm_tree.specs.Frames.{imported_count, defined}
use Rattle.wasm_steps.specs.declared.step.Step.{Step}
use Rattle.wasm_steps.specs.declared.layout.FunctionLayout.{FunctionLayout}
use Rattle.wasm_steps.specs.declared.layout.ModuleLayout.{ModuleLayout}
use Rattle.wasm_steps.specs.Layout.{IsBodyLayout, IsBodyOf, IsFunctionLayout, IsModuleLayout}
use Rattle.wasm_layout.specs.declared.arity.Arities.{Arities}
use Rattle.wasm_layout.specs.Arities.{arity_at, of_types}
use Rattle.wasm_layout.specs.Sizes.{room_of, IsSmall}
use Rattle.wasm_layout.specs.Modules.{arities_of, imported_layout, steps_at, defined_layout, defined_layouts, all_steps, all_layouts}
use Rattle.wasm_layout.proofs.Tables.{all_at, IsArity, few_results, arity_is, imported_type}
use Rattle.wasm_layout.proofs.Whole.{facts, body_laid}

-- Where an item of two lists stands.
pub data Stands {A : Type 0} (xs ys : List A) (i : ℕ) (x : A) : Type 0 where
  First : i < length xs → slice_get xs i ≡ Some x → Stands xs ys i x
  Second : (j : ℕ) → i ≡ length xs + j → slice_get ys j ≡ Some x → Stands xs ys i x

later : {A : Type 0} {y : A} {xs ys : List A} {i : ℕ} {x : A} → Stands xs ys i x → Stands (y ∷ xs) ys (suc i) x
later (First lt e) = First (omega arith) e
later (Second j n e) = Second j (omega arith) e

stands : {A : Type 0} (xs ys : List A) (i : ℕ) (x : A) → slice_get (xs ++ ys) i ≡ Some x → Stands xs ys i x
stands [] ys i x e = Second i (omega arith) e
stands (y ∷ xs) ys zero x e = First (omega arith) e
stands (y ∷ xs) ys (suc i) x e = later (stands xs ys i x e)

in_front : {A : Type 0} (xs ys : List A) (i : ℕ) (x : A) → slice_get xs i ≡ Some x → slice_get (xs ++ ys) i ≡ Some x
in_front [] ys i x e = cc
in_front (y ∷ xs) ys zero x e = e
in_front (y ∷ xs) ys (suc i) x e = in_front xs ys i x e

behind : {A : Type 0} (xs ys : List A) (j : ℕ) → slice_get (xs ++ ys) (length xs + j) ≡ slice_get ys j
behind [] ys j = let n : 0 + j ≡ j = omega arith in ap (slice_get ys) n
behind (x ∷ xs) ys j = let n : length (x ∷ xs) + j ≡ suc (length xs + j) = omega arith in ap (slice_get (x ∷ (xs ++ ys))) n ∙ behind xs ys j

-- A function with its place and the steps around its own.
pub record At (a : Arities) (fs : List Function) (j : ℕ) (steps : List Step) (layout : FunctionLayout) : Type 0 where
  pub function : Function
  pub there : slice_get fs j ≡ Some function
  pub place : ℕ
  pub front : List Step
  pub more : List Step
  pub placed : place ≡ length front
  pub shape : front ++ (steps_at a place function ++ more) ≡ steps
  pub facts : layout ≡ defined_layout a place function

deeper : (a : Arities) (f : Function) (fs : List Function) (j : ℕ) (front own rest : List Step) (layout : FunctionLayout) → At a fs j ((front ++ own) ++ rest) layout → At a (f ∷ fs) (suc j) (front ++ (own ++ rest)) layout
deeper a f fs j front own rest layout r =
    record { function = r.function; there = r.there; place = r.place; front = r.front; more = r.more; placed = r.placed; shape = r.shape ∙ append_assoc front own rest; facts = r.facts }

defined_at : (a : Arities) (fs : List Function) (front : List Step) (place j : ℕ) (layout : FunctionLayout) → place ≡ length front → slice_get (defined_layouts a place fs) j ≡ Some layout
    → At a fs j (front ++ all_steps a place fs) layout
defined_at a [] front place j layout at e = cc
defined_at a (f ∷ fs) front place zero layout at e =
    record { function = f; there = refl; place = place; front = front; more = all_steps a (place + length (steps_at a place f)) fs; placed = at; shape = refl; facts = let g : Some (defined_layout a place f) ≡ Some layout = e in cc }
defined_at a (f ∷ fs) front place (suc j) layout at e =
    let own = steps_at a place f in
    let next = place + length own in
    let n : next ≡ length (front ++ own) = omega (arith, length-append front own) in
    deeper a f fs j front own (all_steps a next fs) layout (defined_at a fs (front ++ own) next j layout n e)

none_is_some : {A : Type 0} {x : A} → None ≡ Some x → ⊥
none_is_some e = cc

defined_long : (a : Arities) (place : ℕ) (fs : List Function) → length (defined_layouts a place fs) ≡ length fs
defined_long a place [] = refl
defined_long a place (f ∷ fs) = omega (arith, defined_long a (place + length (steps_at a place f)) fs)

module _ (m : Module) (valid : ValidModule m) where
  abbrev all : List Step
  all = all_steps (arities_of m) 0 m.functions

  abbrev imports : List ℕ
  imports = imported_signatures m.imports

  abbrev IsRight : ℕ → FunctionLayout → Type 0
  IsRight f function = IsFunctionLayout m all f function

  -- An imported function.
  from_import : (f s : ℕ) → f < length imports → slice_get imports f ≡ Some s → IsRight f (imported_layout (of_types m) s)
  from_import f s lt e =
      let has = imported_type m m.imports valid.parts.imports f s e in
      let arity : IsArity (arity_at (of_types m) s) (Some has.type) = subst (IsArity (arity_at (of_types m) s)) has.there (arity_is m valid s) in
      let absent : defined m f ≡ None = ap (λ b. cond b None (slice_get m.functions (f - imported_count m))) (lt-ltb f (length imports) lt) in
      record {
        type = has.type;
        of_type = has.there;
        signature = in_front imports (map (λ f. f.signature) m.functions) f s e;
        params = arity.params;
        results = arity.results;
        few = few_results m valid s has.type has.there;
        body = subst (λ fn. IsBodyOf m all has.type fn None) (sym absent) tt;
      }

  -- A function of the module.
  from_module : (j : ℕ) (function : FunctionLayout) (at : At (arities_of m) m.functions j all function) → IsRight (length imports + j) function
  from_module j function at =
      let fn = at.function in
      let ok = all_at (IsValidFunction every m) m.functions j fn valid.functions at.there in
      let typed = ok.of_type.there tt in
      let arity : IsArity (arity_at (of_types m) fn.signature) (Some ok.type) = subst (IsArity (arity_at (of_types m) fn.signature)) typed (arity_is m valid fn.signature) in
      let numbered : slice_get (signatures m) (length imports + j) ≡ Some fn.signature =
      behind imports (map (λ f. f.signature) m.functions) j ∙ slice_get-map (λ f. f.signature) m.functions j ∙ ap (option_map (λ (f : Function). f.signature)) at.there in
      let here = body_laid m valid fn ok.type typed ok at.place at.front at.more at.placed in
      let number : length imports + j - length imports ≡ j = omega arith in
      let present : defined m (length imports + j) ≡ Some fn =
      ap (λ b. cond b None (slice_get m.functions (length imports + j - length imports))) (le-ltb (length imports + j) (length imports) (omega arith)) ∙ ap (slice_get m.functions) number ∙ at.there in
      rw at.facts (record {
        type = ok.type;
        of_type = typed;
        signature = numbered;
        params = arity.params;
        results = arity.results;
        few = few_results m valid fn.signature ok.type typed;
        body = subst (λ fn. IsBodyOf m all ok.type fn (defined_layout (arities_of m) at.place at.function).body) (sym present) (subst (λ steps. IsBodyLayout m steps ok.type fn (facts m valid fn ok.type typed ok at.place)) at.shape here);
      })

  right : (f : ℕ) (function : FunctionLayout) → Stands (map (imported_layout (of_types m)) imports) (defined_layouts (arities_of m) 0 m.functions) f function → IsRight f function
  right f function (First lt e) = go (slice_get imports f) refl (sym (slice_get-map (imported_layout (of_types m)) imports f) ∙ e)
    where
      go : (s : Option ℕ) → slice_get imports f ≡ s → option_map (imported_layout (of_types m)) (slice_get imports f) ≡ Some function → IsRight f function
      go None at e = let g = rw at at e in absurd (none_is_some g)
      go (Some s) at e =
          let g = rw at at e in
          let h : imported_layout (of_types m) s ≡ function = cc in
          subst (IsRight f) h (from_import f s (slice_get_within imports f s at) at)
  right f function (Second j n e) =
      let n' : length imports + j ≡ f = omega (arith, length-map imports (imported_layout (of_types m))) in
      subst (λ f. IsRight f function) n' (from_module j function (defined_at (arities_of m) m.functions [] 0 j function refl e))

  pub laid_out : (layout : ModuleLayout) → IsSmall m.functions → layout.steps ≡ all → layout.functions ≡ all_layouts m → length layout.steps ≤ room_of m.functions → IsModuleLayout m layout
  laid_out layout small steps functions few = record {
    count = ap length functions ∙ count;
    each = λ f function e.
        subst (λ s. IsFunctionLayout m s f function) (sym steps)
        (right f function (stands (map (imported_layout (of_types m)) imports) (defined_layouts (arities_of m) 0 m.functions) f function (ap (λ fs. slice_get fs f) (sym functions) ∙ e)));
    few = omega arith;
  }
    where
      count : length (all_layouts m) ≡ length (signatures m)
      count = omega (
        arith,
        length-append (map (imported_layout (of_types m)) imports) (defined_layouts (arities_of m) 0 m.functions),
        length-map imports (imported_layout (of_types m)),
        defined_long (arities_of m) 0 m.functions,
        length-append imports (map (λ f. f.signature) m.functions),
        length-map m.functions (λ f. f.signature),
      )
