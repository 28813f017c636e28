-- The machine's depth is that of the expression that its state stands for.
use Rattle.std.proofs.Common.{◌≡◌, ℕ, zero, suc, ◌+◌, List, [], ◌∷◌, Some, None, refl, ap, ap₂, ◌∙◌, arith}
use Rattle.typed_tree.specs.Language.{Exp, Exps, Name, Do, If, Switch, Label, For, Try, Update, NoExp, AnExp}
use Rattle.typed_tree.specs.Language as language
use Rattle.typed_tree.specs.Substitution.{Slots, pick, put, put_all}
use Rattle.mo_meaning.specs.Depth.{live, live_all}
use Rattle.mo_machine.specs.Values.{Value}
use Rattle.mo_machine.specs.Frames.{Frame, Operands, Returning, Stack, Focus, Eval, Ready, Give}
use Rattle.mo_machine.specs.Configurations.{live_at, live_in, live_on, live_state}
use Rattle.mo_machine.specs.Unload.{slots, before, plug_in, plug, focused, unload_state}

live_pick : (s : Slots) (n x : ℕ) → live (pick s n x) ≡ 0
live_pick [] n x = refl
live_pick (None ∷ s) zero x = refl
live_pick (Some v ∷ s) zero x = refl
live_pick (None ∷ s) (suc n) x = live_pick s n x
live_pick (Some v ∷ s) (suc n) x = live_pick s n x

mutual
  live_put : (s : Slots) (e : Exp) → live (put s e) ≡ live e
  live_put s (Name x) = live_pick s x x
  live_put s (Do a es) = live_put_all s es
  live_put s (If c a b) = live_put s c
  live_put s (Switch e cases) = live_put s e
  live_put s (language.Frame n e) = ap (λ m. 16 + n + m) (live_put s e)
  live_put s (Label e) = live_put s e
  live_put s (For p e b) = live_put s e
  live_put s (Try e p b) = live_put s e
  live_put s (Update o e f) = live_put s e
  live_put s _ = refl

  live_put_all : (s : Slots) (es : Exps) → live_all (put_all s es) ≡ live_all es
  live_put_all s NoExp = refl
  live_put_all s (AnExp e es) = ap₂ (λ m n. m + n) (live_put s e) (live_put_all s es)

live_before : (vs : List Value) (es : Exps) → live_all (before vs es) ≡ live_all es
live_before [] es = refl
live_before (v ∷ vs) es = omega (arith, live_before vs es)

live_plug_in : (frame : Frame) (e : Exp) → live (plug_in frame e) ≡ live_in frame + live e
live_plug_in (Operands a done rest env) e = live_before done (AnExp e (put_all (slots env) rest)) ∙ ap (λ n. live e + n) (live_put_all (slots env) rest) ∙ omega arith
live_plug_in (Returning n) e = refl
live_plug_in _ e = omega arith

live_plug : (k : Stack) (e : Exp) → live (plug k e) ≡ live e + live_on k
live_plug [] e = omega arith
live_plug (frame ∷ k) e = live_plug k (plug_in frame e) ∙ ap (λ n. n + live_on k) (live_plug_in frame e) ∙ omega arith

live_focused : (f : Focus) → live (focused f) ≡ live_at f
live_focused (Eval e env) = live_put (slots env) e
live_focused (Ready a vs) = live_before vs NoExp
live_focused (Give v) = refl

pub depth_same : (f : Focus) (k : Stack) → live (unload_state f k) ≡ live_state f k
depth_same f k = live_plug k (focused f) ∙ ap (λ n. n + live_on k) (live_focused f)
