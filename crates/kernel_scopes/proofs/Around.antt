-- What stands around is as it was, once names are taken away.
use Rattle.std.proofs.Common.{◌≡◌, ◌∙◌, ℕ, List, ◌++◌, drop, map, sym, ap}
use Rattle.std.specs.Prelude.{Result, Ok, Err, OnOk}
use Rattle.mo_types.specs.declared.node.TypeId.{TypeId}
use Rattle.typed_tree.specs.declared.expression.Form.TheVariants as f
use Rattle.typed_tree.specs.declared.expression.TypedExpression.{TypedExpression}
use Rattle.typing_rules.specs.Terms.{unit}
use Rattle.met_types.specs.States.{State}
use Rattle.desugaring.specs.Frames.{Entry, Exit, Frame, value, with_exit, with_names}
use Rattle.kernel_frames.specs.declared.names.Mark.{Mark}
use Rattle.kernel_frames.specs.Places.{Cuts, IsMark, frame}
use Rattle.kernel_types.specs.Numbers.{number}
use Rattle.kernel_nodes.specs.Made.{on}
use Rattle.kernel_scopes.specs.Bound.{label_in}

pub same_frame : (f g : Frame) → f.names ≡ g.names → f.exits ≡ g.exits → f ≡ g
same_frame f g e h = ap (λ (l : List Entry). frame l f.exits) e ∙ ap (λ (l : List Exit). frame g.names l) h

-- the names of a pattern were added, and a part was written out
module _ (old mid now : Frame) (xs : List (List ℕ)) (e : mid ≡ with_names xs old) (h : now ≡ mid) where
  grown : now.names ≡ map value xs ++ old.names
  grown = ap (λ (f : Frame). f.names) (h ∙ e)

  pub cuts : (m : Mark) → IsMark m old.names → Cuts m now.names
  cuts m i = record { more = map value xs; before = old.names; whole = grown; mark = i }

  pub back : (m : Mark) (new : Frame) → IsMark m old.names → new.exits ≡ now.exits → ((more before : List Entry) → now.names ≡ more ++ before → IsMark m before → new.names ≡ before) → new ≡ old
  back m new i k c = same_frame new old (c (map value xs) old.names grown i) (k ∙ ap (λ (f : Frame). f.exits) (h ∙ e))

pub entered_function : {A E : Type 0} (r : Result A E) (old in_it now new : Frame) (es : List Exit) → in_it ≡ frame old.names es → OnOk r (now ≡ in_it) → new ≡ frame now.names old.exits → OnOk r (new ≡ old)
entered_function (Ok a) old in_it now new es e h g = g ∙ ap (λ (l : List Entry). frame l old.exits) (ap (λ (f : Frame). f.names) (h ∙ e))
entered_function (Err x) old in_it now new es e h g = tt

pub on_ok : {A E : Type 0} (r : Result A E) (P : Type 0) → P → OnOk r P
on_ok (Ok a) P h = h
on_ok (Err x) P h = tt

-- what can be left was added, a part was written out, and it was taken away
pub left : (old mid now new : Frame) (x : Exit) → mid ≡ with_exit x old → now ≡ mid → new ≡ frame now.names (drop 1 now.exits) → new ≡ old
left old mid now new x e h g = g ∙ ap (λ (f : Frame). frame f.names (drop 1 f.exits)) (h ∙ e)

pub labelled : (s : State) (u : TypeId) (a : TypedExpression) → u ≡ number s unit → on u (f.Label a) ≡ label_in s a
labelled s u a e = ap (λ (v : TypeId). on v (f.Label a)) e ∙ ap (on (number s unit)) (sym (f.rolls-Label a))
