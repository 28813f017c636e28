-- The words that a layout holds.
use Rattle.std.proofs.Common.{◌≡◌, ℕ, List, Option, Some, None, refl, sym, ap, ◌∙◌}
use Rattle.std.specs.Prelude.{slice_get}
use Rattle.wasm_tree.specs.declared.types.FunctionType.{FunctionType}
use Rattle.wasm_tree.specs.declared.module_parts.Function.{Function}
use Rattle.wasm_tree.specs.declared.module_parts.Module.{Module}
use Rattle.wasm_tree.specs.Rules.{or_no, type_of}
use Rattle.wasm_tree.specs.Frames.{defined}
use Rattle.wasm_steps.specs.declared.step.Step.{Step}
use Rattle.wasm_steps.specs.declared.layout.BodyLayout.{BodyLayout}
use Rattle.wasm_steps.specs.declared.layout.FunctionLayout.{FunctionLayout}
use Rattle.wasm_steps.specs.declared.layout.ModuleLayout.{ModuleLayout}
use Rattle.wasm_steps.specs.Layout.{IsBodyOf, IsModuleLayout}
use Rattle.wasm_layout.specs.Words.{words_by, words_of}

abbrev pub held : Option BodyLayout → Option ℕ
held None = None
held (Some body) = Some body.words

of_body : (m : Module) (steps : List Step) (t : FunctionType) (fn : Option Function) (body : Option BodyLayout) → IsBodyOf m steps t fn body → held body ≡ words_by m (Some t) fn
of_body m steps t None None is = refl
of_body m steps t None (Some body) is = absurd is
of_body m steps t (Some fn) None is = absurd is
of_body m steps t (Some fn) (Some body) is = ap Some is.words

module _ (m : Module) (layout : ModuleLayout) (is : IsModuleLayout m layout) (f : ℕ) where
  -- A function that is there.
  pub words_there : (facts : FunctionLayout) → slice_get layout.functions f ≡ Some facts → held facts.body ≡ words_of m f
  words_there facts e =
      let x = is.each f facts e in
      let t : type_of m f ≡ Some x.type = ap (λ s. or_no s (slice_get m.types)) x.signature ∙ x.of_type in
      of_body m layout.steps x.type (defined m f) facts.body x.body ∙ ap (λ t. words_by m t (defined m f)) (sym t)
