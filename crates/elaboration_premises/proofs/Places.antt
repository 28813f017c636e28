-- What stands in a frame of a typed state is typed, or a value.
use Rattle.std.proofs.Common.{◌≡◌, inl, inr, ℕ, List, [], ◌∷◌, refl, sym, subst}
use Rattle.mo_types.specs.declared.node.TypeId.{TypeId}
use Rattle.mo_types.specs.Graph.{Slot}
use Rattle.mo_values.specs.Shapes.{Array}
use Rattle.typed_tree.specs.declared.action.Action.{Action}
use Rattle.typed_tree.specs.declared.action.Action.TheVariants as action
use Rattle.typed_tree.specs.Language.{Exp, Exps, Cases, Functions, Val, Do, Switch, Group, NoExp, AnExp}
use Rattle.typed_tree.specs.Language as language
use Rattle.typed_tree.specs.Substitution.{put_all}
use Rattle.typed_tree.specs.Wants.{Want, Of}
use Rattle.mo_meaning.specs.Places.{one, operands}
use Rattle.mo_soundness.specs.Running.{Around, AnswerTypes, IsThrown, Typed, EachTyped, OfEmpty}
use Rattle.mo_soundness.specs.Worlds.{World}
use Rattle.program_soundness.specs.Worlds.{running}
use Rattle.mo_machine.specs.Values.{Value, Made, Closure, BuiltIn, NoValue, AValue}
use Rattle.mo_machine.specs.Frames.{Frame, Operands, Choosing, Switching, Returning, Labelled, Testing, Turning, Repeating, Retesting, Going, Stepping, Trying, Updating, Joining, Stack}
use Rattle.mo_machine.specs.Unload.{unload, slots, before, plug_in, plug}
use Rattle.elaboration_premises.specs.Places.{IsSimple, AreSimple, Placed, InContext, Done, Opened, Named, Grouped, Framed, Operated, Looked, Found, Called}

-- ---- which frames an expression may be in

-- it is in no frame that is one
abbrev IsFrame : Frame → Type 0
IsFrame Joining = ⊥
IsFrame _ = Unit {0}

in_value : (frame : Frame) (e : Exp) (v : language.Value) → IsFrame frame → plug_in frame e ≡ Val v → ⊥
in_value (Operands a done rest env) e v i q = cc
in_value (Choosing a b env) e v i q = cc
in_value (Switching cases env) e v i q = cc
in_value (Returning n) e v i q = cc
in_value Labelled e v i q = cc
in_value (Testing a b env) e v i q = cc
in_value (Turning a b env) e v i q = cc
in_value (Repeating b a env) e v i q = cc
in_value (Retesting b a env) e v i q = cc
in_value (Going p b env) e v i q = cc
in_value (Stepping p u b env) e v i q = cc
in_value (Trying p b env) e v i q = cc
in_value (Updating o f env) e v i q = cc
in_value Joining e v i q = i

in_group : (frame : Frame) (e : Exp) (fns : Functions) (b : Exp) → IsFrame frame → plug_in frame e ≡ Group fns b → ⊥
in_group (Operands a done rest env) e fns b i q = cc
in_group (Choosing x y env) e fns b i q = cc
in_group (Switching cases env) e fns b i q = cc
in_group (Returning n) e fns b i q = cc
in_group Labelled e fns b i q = cc
in_group (Testing x y env) e fns b i q = cc
in_group (Turning x y env) e fns b i q = cc
in_group (Repeating x y env) e fns b i q = cc
in_group (Retesting x y env) e fns b i q = cc
in_group (Going p x env) e fns b i q = cc
in_group (Stepping p u x env) e fns b i q = cc
in_group (Trying p x env) e fns b i q = cc
in_group (Updating o f env) e fns b i q = cc
in_group Joining e fns b i q = absurd i

in_switch : (frame : Frame) (e d : Exp) (cases : Cases) → IsFrame frame → plug_in frame e ≡ Switch d cases → e ≡ d
in_switch (Operands a done rest env) e d cases i q = cc
in_switch (Choosing x y env) e d cases i q = cc
in_switch (Switching cs env) e d cases i q = cc
in_switch (Returning n) e d cases i q = cc
in_switch Labelled e d cases i q = cc
in_switch (Testing x y env) e d cases i q = cc
in_switch (Turning x y env) e d cases i q = cc
in_switch (Repeating x y env) e d cases i q = cc
in_switch (Retesting x y env) e d cases i q = cc
in_switch (Going p x env) e d cases i q = cc
in_switch (Stepping p u x env) e d cases i q = cc
in_switch (Trying p x env) e d cases i q = cc
in_switch (Updating o f env) e d cases i q = cc
in_switch Joining e d cases i q = absurd i

in_frame : (frame : Frame) (e : Exp) (n : ℕ) (d : Exp) → IsFrame frame → plug_in frame e ≡ language.Frame n d → e ≡ d
in_frame (Operands a done rest env) e n d i q = cc
in_frame (Choosing x y env) e n d i q = cc
in_frame (Switching cs env) e n d i q = cc
in_frame (Returning m) e n d i q = cc
in_frame Labelled e n d i q = cc
in_frame (Testing x y env) e n d i q = cc
in_frame (Turning x y env) e n d i q = cc
in_frame (Repeating x y env) e n d i q = cc
in_frame (Retesting x y env) e n d i q = cc
in_frame (Going p x env) e n d i q = cc
in_frame (Stepping p u x env) e n d i q = cc
in_frame (Trying p x env) e n d i q = cc
in_frame (Updating o f env) e n d i q = cc
in_frame Joining e n d i q = absurd i

-- an operand, behind others that have their values
abbrev IsOperand : Frame → Exp → Action → Exps → Type 0
IsOperand frame e a es = (done : List Value) × (rest : Exps) × (es ≡ before done (AnExp e rest))

in_action : (frame : Frame) (e : Exp) (a : Action) (es : Exps) → IsFrame frame → plug_in frame e ≡ Do a es → IsOperand frame e a es
in_action (Operands b done rest env) e a es i q = (done, put_all (slots env) rest, (let z : Do b (before done (AnExp e (put_all (slots env) rest))) ≡ Do a es = q in cc))
in_action (Choosing x y env) e a es i q = absurd cc
in_action (Switching cs env) e a es i q = absurd cc
in_action (Returning m) e a es i q = absurd cc
in_action Labelled e a es i q = absurd cc
in_action (Testing x y env) e a es i q = absurd cc
in_action (Turning x y env) e a es i q = absurd cc
in_action (Repeating x y env) e a es i q = absurd cc
in_action (Retesting x y env) e a es i q = absurd cc
in_action (Going p x env) e a es i q = absurd cc
in_action (Stepping p u x env) e a es i q = absurd cc
in_action (Trying p x env) e a es i q = absurd cc
in_action (Updating o f env) e a es i q = absurd cc
in_action Joining e a es i q = absurd i

-- ---- operands

simple_operand : (done : List Value) (e : Exp) (rest : Exps) → AreSimple (before done (AnExp e rest)) → IsSimple e
simple_operand [] e rest h = h.0
simple_operand (v ∷ done) e rest h = simple_operand done e rest h.1

values_simple : (us : List language.Value) → AreSimple (operands us)
values_simple [] = tt
values_simple (u ∷ us) = (inl (u, refl), values_simple us)

one_operand : (done : List Value) (e : Exp) (rest : Exps) (f : language.Value) → one (Val f) ≡ before done (AnExp e rest) → e ≡ Val f
one_operand [] e rest f q = let z : AnExp (Val f) NoExp ≡ AnExp e rest = q in cc
one_operand (v ∷ []) e rest f q = absurd (let z : AnExp (Val f) NoExp ≡ AnExp (Val (unload v)) (AnExp e rest) = q in cc)
one_operand (v ∷ u ∷ done) e rest f q = absurd (let z : AnExp (Val f) NoExp ≡ AnExp (Val (unload v)) (AnExp (Val (unload u)) (before done (AnExp e rest))) = q in cc)

module _ (types : List Slot) (answers : AnswerTypes) (kinds : List TypeId) where
  abbrev W : World
  W = running types

  abbrev P : Exp → Type 0
  P e = Placed types answers kinds e

  -- an operand behind those that have their values
  operand : (c : Around) (done : List Value) (e : Exp) (rest : Exps) (ws : List (Want TypeId)) → EachTyped W answers kinds c (before done (AnExp e rest)) ws → P e
  operand c [] e rest [] h = absurd h
  operand c [] e rest (w ∷ ws) h = InContext c w h.0
  operand c (v ∷ done) e rest [] h = absurd h
  operand c (v ∷ done) e rest (w ∷ ws) h = operand c done e rest ws h.1

  thrown : (a : Action) (done : List Value) (e : Exp) (rest : Exps) → IsThrown a (before done (AnExp e rest)) → P e
  thrown action.Throw [] (Val v) NoExp h = Done v refl
  thrown action.Throw [] (Val v) (AnExp f rest) h = absurd h
  thrown action.Throw [] e rest h = absurd h
  thrown action.Throw (v ∷ []) e rest h = absurd h
  thrown action.Throw (v ∷ u ∷ done) e rest h = absurd h
  thrown a done e rest h = absurd h

  -- an index of an array without elements
  index : (c : Around) (done : List Value) (e : Exp) (rest : Exps) → OfEmpty W answers kinds c (before done (AnExp e rest)) → P e
  index c [] (Val v) rest h = Done v refl
  index c [] e rest h = absurd h
  index c (Made Array NoValue ∷ done) e rest h = operand c done e rest (Of h.0 ∷ []) h.2
  index c (Made Array (AValue v vs) ∷ done) e rest h = absurd h
  index c (Made h inside ∷ done) e rest k = absurd k
  index c (Closure group which env ∷ done) e rest h = absurd h
  index c (BuiltIn m holds ∷ done) e rest h = absurd h

  acted : (a : Action) (c : Around) (w : Want TypeId) (done : List Value) (e : Exp) (rest : Exps) → Typed W answers kinds c (Do a (before done (AnExp e rest))) w → P e
  acted a c w done e rest (inl (ws, d, h)) = operand c done e rest ws h
  acted a c w done e rest (inr (inl h)) = thrown a done e rest h.0
  acted a c w done e rest (inr (inr h)) = index c done e rest h.1

  inner : (frame : Frame) (c : Around) (w : Want TypeId) (e : Exp) → Typed W answers kinds c (plug_in frame e) w → P e
  inner (Operands a done rest env) c w e h = acted a c w done e (put_all (slots env) rest) h
  inner (Choosing a b env) c w e h = InContext c (Of h.0) h.2
  inner (Switching cases env) c w e h = InContext c h.0 h.1
  inner (Returning n) c w e h = InContext _ (Of h.0) h.1
  inner Labelled c w e h = InContext _ (Of h.0) h.1
  inner (Testing a b env) c w e h = InContext c (Of h.0) h.2
  inner (Turning a b env) c w e h = InContext c h.0 h.1
  inner (Repeating b a env) c w e h = InContext c h.0 h.1
  inner (Retesting b a env) c w e h = InContext c (Of h.0) h.2
  inner (Going p b env) c w e h = InContext c (Of h.0) h.6
  inner (Stepping p v b env) c w e h = InContext c (Of h.0) h.2
  inner (Trying p b env) c w e h = InContext c w h.3
  inner (Updating o f env) c w e h = InContext c _ h.6
  inner Joining c w e h = InContext c w h

  simple : (e : Exp) → IsSimple e → P e
  simple e (inl (v, q)) = Done v q
  simple e (inr (o, us, q)) = Operated o (operands us) q (values_simple us)

  as_placed : (d e : Exp) → e ≡ d → P d → P e
  as_placed d e q h = subst P (sym q) h

  in_one : (frame : Frame) (e : Exp) → IsFrame frame → P (plug_in frame e) → P e
  in_one frame e i (InContext c w h) = inner frame c w e h
  in_one frame e i (Done v q) = absurd (in_value frame e v i q)
  in_one frame e i (Opened p d b c a ns q h k) = as_placed d e (in_switch frame e d _ i q) (InContext c a h)
  in_one frame e i (Named p d b q k h) = as_placed d e (in_switch frame e d _ i q) h
  in_one frame e i (Grouped fns b q) = absurd (in_group frame e fns b i q)
  in_one frame e i (Framed n d q h) = as_placed d e (in_frame frame e n d i q) h
  in_one frame e i (Operated o es q h) = let r = in_action frame e (action.Operate o) es i q in simple e (simple_operand r.0 e r.1 (subst AreSimple r.2 h))
  in_one frame e i (Looked d cases o us q k) = as_placed d e (in_switch frame e d cases i q) (Operated o (operands us) k (values_simple us))
  in_one frame e i (Found x t a q h) = Done x (in_switch frame e (Val x) _ i q)
  in_one frame e i (Called f q h) = let r = in_action frame e action.Call (one (Val f)) i q in Done f (one_operand r.0 e r.1 f r.2)

  part : (frame : Frame) (e : Exp) → P (plug_in frame e) → P e
  part (Operands a done rest env) e h = in_one (Operands a done rest env) e tt h
  part (Choosing a b env) e h = in_one (Choosing a b env) e tt h
  part (Switching cases env) e h = in_one (Switching cases env) e tt h
  part (Returning n) e h = in_one (Returning n) e tt h
  part Labelled e h = in_one Labelled e tt h
  part (Testing a b env) e h = in_one (Testing a b env) e tt h
  part (Turning a b env) e h = in_one (Turning a b env) e tt h
  part (Repeating b a env) e h = in_one (Repeating b a env) e tt h
  part (Retesting b a env) e h = in_one (Retesting b a env) e tt h
  part (Going p b env) e h = in_one (Going p b env) e tt h
  part (Stepping p u b env) e h = in_one (Stepping p u b env) e tt h
  part (Trying p b env) e h = in_one (Trying p b env) e tt h
  part (Updating o f env) e h = in_one (Updating o f env) e tt h
  part Joining e h = h

  pub placed : (k : Stack) (e : Exp) → P (plug k e) → P e
  placed [] e h = h
  placed (frame ∷ k) e h = part frame e (placed k (plug_in frame e) h)
