-- The layout of a valid module is what a machine asks for.
use Rattle.std.proofs.Common.{◌≡◌, ℕ, ◌+◌, max, List, [], ◌∷◌, ◌++◌, length, Bool, Some, refl, sym, ap, ◌∙◌, subst, arith, append_assoc, length-append}
use Rattle.std.specs.Prelude.{slice_get, reverse}
use Rattle.std.proofs.lemmas.List.{length-reverse}
use Rattle.wasm_tree.specs.declared.types.ValueType.{ValueType}
use Rattle.wasm_tree.specs.declared.types.FunctionType.{FunctionType}
use Rattle.wasm_tree.specs.declared.module_parts.Function.{Function}
use Rattle.wasm_tree.specs.declared.module_parts.Module.{Module}
use Rattle.wasm_tree.specs.Rules.{every, grouped}
use Rattle.wasm_tree.specs.Code.{Code, flat}
use Rattle.wasm_tree.specs.Typing.{IsTyped}
use Rattle.wasm_tree.specs.Tree.{tree_of}
use Rattle.wasm_tree.specs.Valid.{ValidModule, IsValidFunction, body_context}
use Rattle.wasm_tree.specs.Frames.{peak, nesting}
use Rattle.wasm_steps.specs.declared.step.Step.{Step}
use Rattle.wasm_steps.specs.declared.step.Step.TheVariants as step
use Rattle.wasm_steps.specs.declared.layout.BodyLayout.{BodyLayout}
use Rattle.wasm_steps.specs.Steps.{label}
use Rattle.wasm_steps.specs.Layout.{size, Laid, IsBodyLayout}
use Rattle.wasm_layout.specs.declared.arity.Arities.{Arities}
use Rattle.wasm_layout.specs.declared.pass.Open.{Open}
use Rattle.wasm_layout.specs.declared.pass.Body.{Body}
use Rattle.wasm_layout.specs.declared.pass.Pass.{Pass}
use Rattle.wasm_layout.specs.declared.exits.Exits.{Exits}
use Rattle.wasm_layout.specs.Arities.{count_of, arity_at, of_types}
use Rattle.wasm_layout.specs.Ends.{none, backs}
use Rattle.wasm_layout.specs.Passes.{steps_of}
use Rattle.wasm_layout.specs.Bodies.{body_of, begun_at, ended, body_steps, extent_of}
use Rattle.wasm_layout.specs.Sizes.{locals_of}
use Rattle.wasm_layout.specs.Modules.{arities_of, steps_at}
use Rattle.wasm_layout.proofs.Exited.{exits, exits_of, exited}
use Rattle.wasm_layout.proofs.Passed.{pass, Agree, Ran}
use Rattle.wasm_layout.proofs.Runs.{ran}
use Rattle.wasm_layout.proofs.Emits.{Emits, emits_all, ended_place, at_seam}
use Rattle.wasm_layout.proofs.Laying.{context, laid}
use Rattle.wasm_layout.proofs.Trees.{tree_is}
use Rattle.wasm_layout.proofs.Grouped.{locals_count}
use Rattle.wasm_layout.proofs.Tables.{IsArity, few_results, arity_is, agree}

-- One body, written from its tree.
module _ (a : Arities) (m : Module) (same : Agree a m) (place : ℕ) (leaves : Bool) (tree : Code) where
  abbrev body : Body
  body = record { finish = place + (size tree + 0); result = leaves }

  abbrev outermost : Open
  outermost = record { label = label (place + (size tree + 0)) 0 (count_of leaves); result = leaves }

  abbrev start : Pass
  start = pass place (exits_of tree 0 []) (outermost ∷ []) 0 0 0

  ends_are : backs (flat tree) none ≡ exits (size tree + 0) [] (exits_of tree 0 [])
  ends_are = exited tree 0 [] []

  body_is : body_of place leaves (flat tree) ≡ body
  body_is = ap (λ (e : Exits). record { finish = place + e.behind; result = leaves }) ends_are

  start_is : begun_at place leaves (flat tree) ≡ start
  start_is = ap (λ (e : Exits). pass place e.found (record { label = label (place + e.behind) 0 (count_of leaves); result = leaves } ∷ []) 0 0 0) ends_are

  whole : Ran a m same body (pass place (exits_of tree 0 []) (outermost ∷ []) (0 + 0) 0 0) (flat tree) (place + size tree) [] (outermost ∷ []) 0 (max 0 (peak m (count_of leaves ∷ []) 0 0 tree)) (max 0 (0 + nesting tree))
  whole = ran a m same body tree 0 [] outermost [] place 0 0 0 (omega arith) (omega arith) (omega arith)

  ended_is : ended a place leaves (flat tree) ≡ pass (place + size tree) [] (outermost ∷ []) (0 + whole.height) (max 0 (peak m (count_of leaves ∷ []) 0 0 tree)) (max 0 (0 + nesting tree))
  unfolding ended
  ended_is = rw (body_is, start_is) whole.is

  pub peak_is : (extent_of a place leaves (flat tree)).height ≡ peak m (count_of leaves ∷ []) 0 0 tree
  peak_is = let e = ap (λ (p : Pass). p.peak) ended_is in omega arith

  pub nesting_is : (extent_of a place leaves (flat tree)).nesting ≡ nesting tree
  nesting_is = let e = ap (λ (p : Pass). p.nesting) ended_is in omega arith

  module _ (front more : List Step) (at : place ≡ length front) where
    abbrev final : List Step
    final = front ++ (body_steps a place leaves (flat tree) ++ more)

    abbrev own : List Step
    own = steps_of a body (flat tree) start

    final_is : final ≡ front ++ (own ++ step.Finish ∷ more)
    unfolding body_steps
    final_is = rw (body_is, start_is) (ap (λ l. front ++ l) (append_assoc own (step.Finish ∷ []) more))

    pub emitted : Emits final a body (flat tree) start
    emitted = rw final_is (emits_all a body (flat tree) front (step.Finish ∷ more) start at)

    own_long : length own ≡ size tree
    own_long =
        let e = ended_place a body (flat tree) start in
        let f = ap (λ (p : Pass). p.place) whole.is in omega arith

    pub finishes : slice_get final (place + size tree) ≡ Some step.Finish
    finishes =
        let shape : (front ++ own) ++ step.Finish ∷ more ≡ front ++ (own ++ step.Finish ∷ more) = append_assoc front own (step.Finish ∷ more) in
        let n : place + size tree ≡ length (front ++ own) = omega (arith, length-append front own, own_long) in
        rw final_is (subst (λ l. slice_get l (place + size tree) ≡ Some step.Finish) shape (at_seam (front ++ own) step.Finish more (place + size tree) n))

-- The facts of a body.
module _ (m : Module) (valid : ValidModule m) (fn : Function) (t : FunctionType) (typed : slice_get m.types fn.signature ≡ Some t) (ok : IsValidFunction every m fn) where
  same_type : ok.type ≡ t
  same_type = let e : Some ok.type ≡ Some t = sym (ok.of_type.there tt) ∙ typed in cc

  arity : IsArity (arity_at (of_types m) fn.signature) (Some t)
  arity = subst (IsArity (arity_at (of_types m) fn.signature)) typed (arity_is m valid fn.signature)

  abbrev leaves : Bool
  leaves = (arity_at (of_types m) fn.signature).result

  abbrev pub facts : ℕ → BodyLayout
  facts place = record {
    entry = place;
    locals = locals_of fn.locals;
    height = (extent_of (arities_of m) place leaves fn.body).height;
    words = 8 + (arity_at (of_types m) fn.signature).params + locals_of fn.locals
        + (extent_of (arities_of m) place leaves fn.body).height + (extent_of (arities_of m) place leaves fn.body).nesting;
  }

  abbrev kinds : List ValueType
  kinds = t.params ++ grouped fn.locals

  params_are : (arity_at (of_types m) fn.signature).params ≡ length t.params
  params_are = arity.params

  results_are : count_of leaves ≡ length t.results
  results_are = arity.results

  height_is : (place : ℕ) → (extent_of (arities_of m) place leaves fn.body).height ≡ peak m (length t.results ∷ []) 0 0 (tree_of fn.body)
  height_is place =
      subst (λ ops. (extent_of (arities_of m) place leaves ops).height ≡ peak m (length t.results ∷ []) 0 0 (tree_of ops)) (sym ok.nested)
      (peak_is (arities_of m) m (agree m valid) place leaves ok.tree ∙ ap (λ n. peak m (n ∷ []) 0 0 ok.tree) results_are
      ∙ ap (peak m (length t.results ∷ []) 0 0) (sym (tree_is ok.tree)))

  blocks_are : (place : ℕ) → (extent_of (arities_of m) place leaves fn.body).nesting ≡ nesting (tree_of fn.body)
  blocks_are place =
      subst (λ ops. (extent_of (arities_of m) place leaves ops).nesting ≡ nesting (tree_of ops)) (sym ok.nested)
      (nesting_is (arities_of m) m (agree m valid) place leaves ok.tree ∙ ap nesting (sym (tree_is ok.tree)))

  module _ (place : ℕ) (front more : List Step) (at : place ≡ length front) where
    tree_typed : IsTyped every (context (arities_of m) m (agree m valid) (body (arities_of m) m (agree m valid) place leaves ok.tree) [] kinds (reverse t.results) 0 (results_are ∙ sym (length-reverse t.results)) (reverse t.results ∷ [])) [] ok.tree (reverse t.results)
    tree_typed = subst (λ (t : FunctionType). IsTyped every (body_context m t fn) [] ok.tree (reverse t.results)) same_type ok.typed

    abbrev room : ℕ
    room = (extent_of (arities_of m) place leaves (flat ok.tree)).height

    tree_laid : Laid m (final (arities_of m) m (agree m valid) place leaves ok.tree front more at) (length kinds) room (count_of leaves) place (label (place + (size ok.tree + 0)) 0 (count_of leaves) ∷ []) 0 (length (reverse t.results)) 0 ok.tree
    tree_laid =
        let same = agree m valid in
        let whole_body = body (arities_of m) m same place leaves ok.tree in
        let rev = length-reverse t.results in
        let few = few_results m valid fn.signature t typed in
        let fits = peak_is (arities_of m) m same place leaves ok.tree in
        laid (arities_of m) m same whole_body (final (arities_of m) m same place leaves ok.tree front more at) kinds (reverse t.results) room (results_are ∙ sym rev)
        ok.tree 0 [] (outermost (arities_of m) m same place leaves ok.tree) [] place 0 0 0 (omega arith) (omega arith) (omega arith)
        (reverse t.results ∷ []) [] (reverse t.results) refl (results_are ∙ sym rev, omega arith, tt) tree_typed (omega arith)
        (emitted (arities_of m) m same place leaves ok.tree front more at)

    flat_laid : Laid m (final (arities_of m) m (agree m valid) place leaves ok.tree front more at) (length t.params + locals_of fn.locals) room (length t.results) place
        (label (place + size (tree_of (flat ok.tree))) 0 (length t.results) ∷ []) 0 (length t.results) 0 (tree_of (flat ok.tree))
    flat_laid =
        let steps = final (arities_of m) m (agree m valid) place leaves ok.tree front more at in
        let many : length kinds ≡ length t.params + locals_of fn.locals = length-append t.params (grouped fn.locals) ∙ ap (λ i. length t.params + i) (locals_count fn.locals) in
        let l1 = subst (λ i. Laid m steps i room (count_of leaves) place (label (place + (size ok.tree + 0)) 0 (count_of leaves) ∷ []) 0 (length (reverse t.results)) 0 ok.tree) many tree_laid in
        let l2 = subst (λ i. Laid m steps (length t.params + locals_of fn.locals) room i place (label (place + (size ok.tree + 0)) 0 i ∷ []) 0 (length (reverse t.results)) 0 ok.tree) results_are l1 in
        let l3 = subst (λ i. Laid m steps (length t.params + locals_of fn.locals) room (length t.results) place (label (place + (size ok.tree + 0)) 0 (length t.results) ∷ []) 0 i 0 ok.tree) (length-reverse t.results) l2 in
        let n : place + (size ok.tree + 0) ≡ place + size ok.tree = omega arith in
        let l4 = subst (λ i. Laid m steps (length t.params + locals_of fn.locals) room (length t.results) place (label i 0 (length t.results) ∷ []) 0 (length t.results) 0 ok.tree) n l3 in
        subst (λ c. Laid m steps (length t.params + locals_of fn.locals) room (length t.results) place (label (place + size c) 0 (length t.results) ∷ []) 0 (length t.results) 0 c) (sym (tree_is ok.tree)) l4

    pub body_laid : IsBodyLayout m (front ++ (steps_at (arities_of m) place fn ++ more)) t fn (facts place)
    body_laid = record {
      locals = sym (locals_count fn.locals);
      height = height_is place;
      words = omega (arith, params_are, locals_count fn.locals, height_is place, blocks_are place);
      laid = subst (λ ops. Laid m (front ++ (body_steps (arities_of m) place leaves ops ++ more)) (length t.params + locals_of fn.locals) (extent_of (arities_of m) place leaves ops).height (length t.results) place
          (label (place + size (tree_of ops)) 0 (length t.results) ∷ []) 0 (length t.results) 0 (tree_of ops)) (sym ok.nested) flat_laid;
      ends = subst (λ ops. slice_get (front ++ (body_steps (arities_of m) place leaves ops ++ more)) (place + size (tree_of ops)) ≡ Some step.Finish) (sym ok.nested)
          (subst (λ c. slice_get (final (arities_of m) m (agree m valid) place leaves ok.tree front more at) (place + size c) ≡ Some step.Finish) (sym (tree_is ok.tree))
          (finishes (arities_of m) m (agree m valid) place leaves ok.tree front more at));
    }
