-- What stands in the frames of a typed state may be another expression that gives the same.
use Rattle.std.proofs.Common.{◌≡◌, inl, inr, List, [], ◌∷◌, refl, sym, subst}
use Rattle.mo_types.specs.declared.node.TypeId.{TypeId}
use Rattle.mo_values.specs.Shapes.{Array}
use Rattle.typed_tree.specs.declared.action.Action.{Action}
use Rattle.typed_tree.specs.declared.action.Action.TheVariants as action
use Rattle.typed_tree.specs.Language as language
use Rattle.typed_tree.specs.Language.{Exp, Exps, Val, Do, NoExp, AnExp}
use Rattle.typed_tree.specs.Substitution.{put_all}
use Rattle.typed_tree.specs.Wants.{Want, Of}
use Rattle.mo_soundness.specs.Running.{Around, AnswerTypes, IsThrown, IsErrorValue, Typed, EachTyped, OfEmpty}
use Rattle.mo_soundness.specs.Worlds.{World}
use Rattle.program_soundness.specs.Worlds.{running}
use Rattle.mo_machine.specs.Values.{Value, Made, Closure, BuiltIn, NoValue, AValue, load}
use Rattle.mo_machine.specs.Frames.{Frame, Operands, Choosing, Switching, Returning, Labelled, Testing, Turning, Repeating, Retesting, Going, Stepping, Trying, Updating, Joining, Stack, Focus, Ready}
use Rattle.mo_machine.specs.Unload.{slots, before, plug_in, plug, focused}
use Rattle.mo_machine.proofs.Unloaded.{unload_load}
use Rattle.elaboration_premises.specs.Serving.{ErrorsAreTyped}

abbrev NoValue? : Exp → Type 0
NoValue? e = (v : language.Value) → e ≡ Val v → ⊥

module _ (world : World) (answers : AnswerTypes) (kinds : List TypeId) where
  abbrev T : Around → Exp → Want TypeId → Type 0
  T c e w = Typed world answers kinds c e w

  abbrev E : Around → Exps → List (Want TypeId) → Type 0
  E c es ws = EachTyped world answers kinds c es ws

  abbrev Gives : Exp → Exp → Type 0
  Gives x y = (c : Around) (w : Want TypeId) → T c x w → T c y w

  operand : (c : Around) (done : List Value) (x y : Exp) (rest : Exps) (ws : List (Want TypeId)) → Gives x y → E c (before done (AnExp x rest)) ws → E c (before done (AnExp y rest)) ws
  operand c [] x y rest [] g h = absurd h
  operand c [] x y rest (w ∷ ws) g h = (g c w h.0, h.1)
  operand c (v ∷ done) x y rest [] g h = absurd h
  operand c (v ∷ done) x y rest (w ∷ ws) g h = (h.0, operand c done x y rest ws g h.1)

  no_thrown : (a : Action) (done : List Value) (x : Exp) (rest : Exps) → NoValue? x → IsThrown a (before done (AnExp x rest)) → ⊥
  no_thrown action.Throw [] (Val v) rest n h = n v refl
  no_thrown action.Throw [] x rest n h = absurd h
  no_thrown action.Throw (v ∷ []) x rest n h = absurd h
  no_thrown action.Throw (v ∷ u ∷ done) x rest n h = absurd h
  no_thrown a done x rest n h = absurd h

  indexed : (c : Around) (done : List Value) (x y : Exp) (rest : Exps) → NoValue? x → Gives x y → OfEmpty world answers kinds c (before done (AnExp x rest)) → OfEmpty world answers kinds c (before done (AnExp y rest))
  indexed c [] (Val v) y rest n g h = absurd (n v refl)
  indexed c [] x y rest n g h = absurd h
  indexed c (Made Array NoValue ∷ done) x y rest n g h = (h.0, h.1, operand c done x y rest (Of h.0 ∷ []) g h.2)
  indexed c (Made Array (AValue v vs) ∷ done) x y rest n g h = absurd h
  indexed c (Made k inside ∷ done) x y rest n g h = absurd h
  indexed c (Closure group which env ∷ done) x y rest n g h = absurd h
  indexed c (BuiltIn m holds ∷ done) x y rest n g h = absurd h

  acted : (a : Action) (c : Around) (w : Want TypeId) (done : List Value) (x y : Exp) (rest : Exps) → NoValue? x → Gives x y → T c (Do a (before done (AnExp x rest))) w → T c (Do a (before done (AnExp y rest))) w
  acted a c w done x y rest n g (inl (ws, d, h)) = inl (ws, d, operand c done x y rest ws g h)
  acted a c w done x y rest n g (inr (inl h)) = absurd (no_thrown a done x rest n h.0)
  acted a c w done x y rest n g (inr (inr h)) = inr (inr (h.0, indexed c done x y rest n g h.1))

  in_frame : (frame : Frame) (x y : Exp) → NoValue? x → Gives x y → Gives (plug_in frame x) (plug_in frame y)
  in_frame (Operands a done rest env) x y n g c w h = acted a c w done x y (put_all (slots env) rest) n g h
  in_frame (Choosing a b env) x y n g c w h = (h.0, h.1, g c _ h.2, h.3, h.4)
  in_frame (Switching cases env) x y n g c w h = (h.0, g c _ h.1, h.2)
  in_frame (Returning m) x y n g c w h = (h.0, g _ _ h.1, h.2)
  in_frame Labelled x y n g c w h = (h.0, g _ _ h.1, h.2)
  in_frame (Testing a b env) x y n g c w h = (h.0, h.1, g c _ h.2, h.3, h.4)
  in_frame (Turning a b env) x y n g c w h = (h.0, g c _ h.1, h.2)
  in_frame (Repeating b a env) x y n g c w h = (h.0, g c _ h.1, h.2)
  in_frame (Retesting b a env) x y n g c w h = (h.0, h.1, g c _ h.2, h.3, h.4)
  in_frame (Going p b env) x y n g c w h = (h.0, h.1, h.2, h.3, h.4, h.5, g c _ h.6, h.7, h.8, h.9)
  in_frame (Stepping p v b env) x y n g c w h = (h.0, h.1, g c _ h.2, h.3, h.4)
  in_frame (Trying p b env) x y n g c w h = (h.0, h.1, h.2, g c _ h.3, h.4, h.5)
  in_frame (Updating o f env) x y n g c w h = (h.0, h.1, h.2, h.3, h.4, h.5, g c _ h.6, h.7, h.8, h.9, h.10, h.11)
  in_frame Joining x y n g c w h = g c w h

  no_value : (frame : Frame) (x : Exp) → NoValue? x → NoValue? (plug_in frame x)
  no_value (Operands a done rest env) x n v q = cc
  no_value (Choosing a b env) x n v q = cc
  no_value (Switching cases env) x n v q = cc
  no_value (Returning m) x n v q = cc
  no_value Labelled x n v q = cc
  no_value (Testing a b env) x n v q = cc
  no_value (Turning a b env) x n v q = cc
  no_value (Repeating b a env) x n v q = cc
  no_value (Retesting b a env) x n v q = cc
  no_value (Going p b env) x n v q = cc
  no_value (Stepping p u b env) x n v q = cc
  no_value (Trying p b env) x n v q = cc
  no_value (Updating o f env) x n v q = cc
  no_value Joining x n v q = n v q

  pub replaced : (k : Stack) (x y : Exp) → NoValue? x → Gives x y → Gives (plug k x) (plug k y)
  replaced [] x y n g c w h = g c w h
  replaced (frame ∷ k) x y n g c w h = replaced k (plug_in frame x) (plug_in frame y) (no_value frame x n) (in_frame frame x y n g) c w h

-- ---- an error in the place of an `await`

waits_are_no_values : (f : Focus) (v : Value) → f ≡ Ready action.Await (v ∷ []) → NoValue? (focused f)
waits_are_no_values f v q u e = let z : Do action.Await (before (v ∷ []) NoExp) ≡ Val u = subst (λ f. focused f ≡ Val u) q e in cc

pub errors_are_typed : ErrorsAreTyped
errors_are_typed s results answers kinds c v error typed q i may = (
  typed.0,
  (
    typed.1.0,
    typed.1.1,
    replaced (running s.types) answers kinds c.stack (focused c.focus) (focused (Ready action.Throw (load error ∷ []))) (waits_are_no_values c.focus v q)
        (λ d w h. inr (inl (subst IsErrorValue (sym (unload_load error)) i, may))) _ _ typed.1.2,
  ),
)
