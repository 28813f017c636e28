-- A closure is called as the function that it stands for.
use Rattle.std.proofs.Common.{◌≡◌, ℕ, zero, suc, ◌+◌, Bool, true, false, List, [], ◌∷◌, Option, Some, None, refl, sym, ap, ap₂, ◌∙◌}
use Rattle.std.specs.Prelude.{cond}
use Rattle.mo_types.specs.Heads.{map_option}
use Rattle.mo_values.specs.Costs.{weighing}
use Rattle.mo_values.specs.Recoding.{recodes}
use Rattle.mo_values.specs.Shapes.{Shape}
use Rattle.typed_tree.specs.Patterns.{Pats, NoPat, APat, names_all, matches_all}
use Rattle.typed_tree.specs.PatternWeights.{weight_of_all}
use Rattle.typed_tree.specs.Language.{Exp, Functions, NoFunction, AFunction}
use Rattle.typed_tree.specs.Language as language
use Rattle.typed_tree.specs.Substitution.{hide, count, put, put_functions}
use Rattle.typed_tree.specs.Opening as opening
use Rattle.typed_tree.proofs.Counts.{as_many_as_all_names}
use Rattle.typed_tree.proofs.Natural.{matches_all_same}
use Rattle.mo_meaning.specs.Acts as meaning
use Rattle.mo_meaning.specs.Calls as calls
use Rattle.mo_machine.specs.Values.{Value, Code, shapes_list}
use Rattle.mo_machine.specs.Environments.{Environment}
use Rattle.mo_machine.specs.Acts.{Store, Act, Stuck}
use Rattle.mo_machine.specs.Calls.{are_as_many, entered, entering, call_function}
use Rattle.mo_machine.specs.Unload.{unload_list, slots}
use Rattle.mo_machine.specs.Agrees.{unload_act}
use Rattle.mo_machine.proofs.Looks.{length_same}
use Rattle.mo_machine.proofs.Matching.{weights_same, AreAsMany}
use Rattle.mo_machine.proofs.Scope.{put_entered}
use Rattle.mo_machine.proofs.Unloaded.{closed, list_closed}

many_same : (ps : Pats) (vs : List Value) → calls.are_as_many ps (unload_list vs) ≡ are_as_many ps vs
many_same NoPat [] = refl
many_same NoPat (v ∷ vs) = refl
many_same (APat p ps) [] = refl
many_same (APat p ps) (v ∷ vs) = many_same ps vs

if_many : (b : Bool) (m : Act) (a : meaning.Act) → unload_act m ≡ a → unload_act (cond b m Stuck) ≡ cond b a meaning.Stuck
if_many true m a same = same
if_many false m a same = refl

entering_same : (nodes : ℕ) (ps : Pats) (vs : List Value) → calls.entering nodes ps (opening.shapes_list (unload_list vs)) ≡ entering nodes ps (shapes_list vs)
entering_same nodes ps vs = ap (λ ss. 1 + nodes + weight_of_all ps ss) (list_closed vs) ∙ ap (λ n. 1 + nodes + n) (weights_same ps (shapes_list vs))

arguments_same : (ps : Pats) (vs : List Value) → matches_all ps (opening.shapes_list (unload_list vs)) ≡ map_option (recodes closed) (matches_all ps (shapes_list vs))
arguments_same ps vs = ap (matches_all ps) (list_closed vs) ∙ matches_all_same closed ps (shapes_list vs)

module _ (store : Store) (group : Functions) (env : Environment) where
  entered_same : (weight nodes n : ℕ) (body : Exp) (o : Option (List (Shape Code))) → AreAsMany n o
      → unload_act (entered store group env weight nodes body o)
      ≡ calls.entered (unload_list store) (put_functions (hide (count group) (slots env)) group) weight nodes (put (hide n (hide (count group) (slots env))) body) (map_option (recodes closed) o)
  entered_same weight nodes n body None h = refl
  entered_same weight nodes n body (Some ss) h =
      ap (λ r. meaning.Goes (weighing weight) (unload_list store) (language.Frame nodes r)) (sym (put_entered ss n group env body (length_same closed ss ∙ h ss refl)))

  pub call_function_same : (fns : Functions) (n : ℕ) (vs : List Value)
      → unload_act (call_function store group env fns n vs)
      ≡ calls.call_function (unload_list store) (put_functions (hide (count group) (slots env)) group) (put_functions (hide (count group) (slots env)) fns) n (unload_list vs)
  call_function_same NoFunction n vs = refl
  call_function_same (AFunction how nodes ps body fns) zero vs =
      let j = hide (count group) (slots env) in
      let enters = λ (weight : ℕ) (o : Option (List (Shape opening.Code))). calls.entered (unload_list store) (put_functions j group) weight nodes (put (hide (names_all ps) j) body) o in
      if_many (are_as_many ps vs) (entered store group env (entering nodes ps (shapes_list vs)) nodes body (matches_all ps (shapes_list vs)))
      (enters (entering nodes ps (shapes_list vs)) (map_option (recodes closed) (matches_all ps (shapes_list vs))))
      (entered_same (entering nodes ps (shapes_list vs)) nodes (names_all ps) body (matches_all ps (shapes_list vs)) (as_many_as_all_names ps (shapes_list vs)))
      ∙ ap₂ (λ b a. cond b a meaning.Stuck) (sym (many_same ps vs)) (ap₂ enters (sym (entering_same nodes ps vs)) (sym (arguments_same ps vs)))
  call_function_same (AFunction how nodes ps body fns) (suc n) vs = call_function_same fns n vs
