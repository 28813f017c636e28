-- What is written of a declaration.
use Rattle.std.proofs.Common.{◌≡◌, ◌∙◌, List, [], ◌∷◌, ◌++◌, map, refl, sym, ap, subst}
use Rattle.std.specs.Prelude.{Result, Ok, Err, OnOk}
use Rattle.std.proofs.lemmas.List.{append-nil}
use Rattle.typed_tree.specs.declared.expression.Function.{Function}
use Rattle.typed_tree.specs.declared.expression.Step.{Step}
use Rattle.typing_rules.specs.AbstractSyntax.{Bytes}
use Rattle.desugaring.specs.Frames.{Frame, with_entries}
use Rattle.desugaring.specs.Pieces.{AFunction, Becomes, Named, Nothing, function_of}
use Rattle.kernel_declarations.specs.Becoming.{IsWritten, binds_of, made_in, name_of, steps_of}

module _ (b : Becomes) (old new : List Step) (f g : Frame) where
  pub written : {A E : Type 0} (r : Result A E) (more : List Step) → more ≡ steps_of b f → g ≡ with_entries (binds_of b) f → OnOk r (new ≡ old ++ more) → OnOk r (IsWritten b old f new g)
  written (Ok a) more h k e = record { steps = e ∙ ap (λ (l : List Step). old ++ l) h; frame = k }
  written (Err x) more h k e = tt

  pub written_as : {A E : Type 0} (r : Result A E) (c : Becomes) → c ≡ b → OnOk r (IsWritten b old f new g) → OnOk r (IsWritten c old f new g)
  written_as (Ok a) c e h = subst (λ (z : Becomes). IsWritten z old f new g) (sym e) h
  written_as (Err x) c e h = tt

pub nothing_written : (b : Becomes) (old : List Step) (f : Frame) → b ≡ Nothing → IsWritten b old f old f
nothing_written b old f e = subst (λ (z : Becomes). IsWritten z old f old f) (sym e) (record { steps = sym (append-nil old); frame = refl })

pub function_written : (b : Becomes) (x : Bytes) (m : Frame → Function) (old : List Step) (f : Frame) → b ≡ AFunction x m → IsWritten b old f old f
function_written b x m old f e = subst (λ (z : Becomes). IsWritten z old f old f) (sym e) (record { steps = sym (append-nil old); frame = refl })

-- ---- functions

pub name_added : {A E : Type 0} (r : Result A E) (b : Becomes) (x copy : Bytes) (m : Frame → Function) (old new : List Bytes) → b ≡ AFunction x m → copy ≡ x → OnOk r (new ≡ old ++ copy ∷ []) → OnOk r (new ≡ old ++ map name_of (function_of b))
name_added (Ok a) b x copy m old new e h k = k ∙ (ap (λ (z : Bytes). old ++ z ∷ []) h ∙ ap (λ (z : Becomes). old ++ map name_of (function_of z)) (sym e))
name_added (Err y) b x copy m old new e h k = tt

pub no_name_added : (b : Becomes) (old : List Bytes) → function_of b ≡ [] → old ≡ old ++ map name_of (function_of b)
no_name_added b old e = sym (append-nil old) ∙ ap (λ (l : List Named). old ++ map name_of l) (sym e)

pub function_added : {A E : Type 0} (r : Result A E) (b : Becomes) (x : Bytes) (made : Function) (m : Frame → Function) (f : Frame) (old new : List Function) → b ≡ AFunction x m → made ≡ m f → OnOk r (new ≡ old ++ made ∷ []) → OnOk r (new ≡ old ++ map (made_in f) (function_of b))
function_added (Ok a) b x made m f old new e h k = k ∙ (ap (λ (z : Function). old ++ z ∷ []) h ∙ ap (λ (z : Becomes). old ++ map (made_in f) (function_of z)) (sym e))
function_added (Err y) b x made m f old new e h k = tt

pub no_function_added : (b : Becomes) (f : Frame) (old : List Function) → function_of b ≡ [] → old ≡ old ++ map (made_in f) (function_of b)
no_function_added b f old e = sym (append-nil old) ∙ ap (λ (l : List Named). old ++ map (made_in f) l) (sym e)
