-- What is asked of values where declarations are evaluated is the same for those that end in a tuple of their names.
use Rattle.std.proofs.Common.{Bool, ◌≡◌, ℕ, List, [], ◌∷◌, ◌++◌, Option}
use Rattle.mo_values.specs.Shapes.{Bytes}
use Rattle.core_ir.specs.Values as core_value
use Rattle.typed_tree.specs.declared.action.Action.{Action}
use Rattle.typed_tree.specs.declared.action.Action.TheVariants as action
use Rattle.typed_tree.specs.Language.{Functions, NoCase, ACase}
use Rattle.mo_meaning.specs.Configurations.{Surroundings}
use Rattle.mo_machine.specs.Values.{Value, Made, Closure, BuiltIn}
use Rattle.mo_machine.specs.Environments.{Environment}
use Rattle.mo_machine.specs.Configurations.{Configuration}
use Rattle.mo_machine.specs.Frames as frame
use Rattle.mo_machine.specs.Frames.{Switching, Labelled, Trying, Stack, Focus, Eval, Ready, Give}
use Rattle.elaboration_values.specs.Belonging.{Known}
use Rattle.elaboration_steps.specs.Stacks.{owed}
use Rattle.elaboration_steps.specs.Follows.{HandlerMeets, Suits}
use Rattle.elaboration_runs.specs.Whole.{Serves}
use Rattle.elaboration_starts.proofs.Alongside.{Bases, Alone, Hooked, Joined, Lies, Within, Between, base_owed, above_owed}

pub base_handles : {t : Bool} → (k l : Stack) → Bases t k l → (u : core_value.Value) → HandlerMeets l u
base_handles k l (Alone n) u = tt
base_handles k l (Hooked n env) u = tt
base_handles k l (Joined k' l' b) u = base_handles k' l' b u

module _ (one two : Stack) (below : (u : core_value.Value) → HandlerMeets two u) where
  pub handlers : (s : Stack) (u : core_value.Value) → HandlerMeets (s ++ one) u → HandlerMeets (s ++ two) u
  handlers [] u h = below u
  handlers (Labelled ∷ s) u h = tt
  handlers (Trying p b env ∷ s) u h = h
  handlers (_ ∷ s) u h = handlers s u h

  pub ready_suits : (known : List Known) (a : Action) (vs : List Value) (s : Stack) → Suits known (Ready a vs) (s ++ one) → Suits known (Ready a vs) (s ++ two)
  ready_suits known action.Throw [] s h = tt
  ready_suits known action.Throw (v ∷ []) s h = λ w b. handlers s w (h w b)
  ready_suits known action.Throw (v ∷ u ∷ vs) s h = tt
  ready_suits known action.Call [] s h = tt
  ready_suits known action.Call (Closure group which env ∷ vs) s h = h
  ready_suits known action.Call (BuiltIn m holds ∷ vs) s h = h
  ready_suits known action.Call (Made head inside ∷ vs) s h = tt
  ready_suits known action.Print [] s h = tt
  ready_suits known action.Print (v ∷ []) s h = h
  ready_suits known action.Print (v ∷ u ∷ vs) s h = tt
  ready_suits known _ vs s h = tt

  -- a value, with a frame on top
  pub value_suits : (known : List Known) (v : Value) (f : frame.Frame) (s : Stack) → Suits known (Give v) (f ∷ (s ++ one)) → Suits known (Give v) (f ∷ (s ++ two))
  value_suits known v (Switching cases env) s h = h
  value_suits known v _ s h = tt

module _ (s : Surroundings) (outer : Environment) (methods : ℕ) (last : Functions) (before after : Option ℕ) (labels : List Bytes) (cells : List ℕ) (total : ℕ) (upgraded : Bool) (extra floor : ℕ) where
  abbrev L : ℕ → Focus → Stack → Focus → Stack → Type 0
  L = Lies s outer methods last before after labels cells total upgraded extra floor

  pub owed_same : (w : ℕ) (f : Focus) (k : Stack) (g : Focus) (l : Stack) → L w f k g l → owed k ≡ owed l
  owed_same w f k g l (Within m p b c env f0 s0 k0 l0 base d u few) = above_owed s0 (Switching (ACase p b NoCase) env ∷ k0) (Switching (ACase p c NoCase) env ∷ l0) (base_owed k0 l0 base)
  owed_same w f k g l (Between m b c env k0 l0 base d u few) = base_owed k0 l0 base

  suits_same : (known : List Known) (w : ℕ) (f : Focus) (k : Stack) (g : Focus) (l : Stack) → L w f k g l → Suits known f k → Suits known g l
  suits_same known w f k g l (Within m p b c env (Eval e env') s0 k0 l0 base d u few) h = tt
  suits_same known w f k g l (Within m p b c env (Ready a vs) s0 k0 l0 base d u few) h = ready_suits (Switching (ACase p b NoCase) env ∷ k0) (Switching (ACase p c NoCase) env ∷ l0) (base_handles k0 l0 base) known a vs s0 h
  suits_same known w f k g l (Within m p b c env (Give v) [] k0 l0 base d u few) h = h
  suits_same known w f k g l (Within m p b c env (Give v) (fr ∷ s0) k0 l0 base d u few) h = value_suits (Switching (ACase p b NoCase) env ∷ k0) (Switching (ACase p c NoCase) env ∷ l0) (base_handles k0 l0 base) known v fr s0 h
  suits_same known w f k g l (Between m b c env k0 l0 base d u few) h = tt

  handles_same : (w : ℕ) (f : Focus) (k : Stack) (g : Focus) (l : Stack) → L w f k g l → (u : core_value.Value) → HandlerMeets k u → HandlerMeets l u
  handles_same w f k g l (Within m p b c env f0 s0 k0 l0 base d n few) u h = handlers (Switching (ACase p b NoCase) env ∷ k0) (Switching (ACase p c NoCase) env ∷ l0) (base_handles k0 l0 base) s0 u h
  handles_same w f k g l (Between m b c env k0 l0 base d n few) u h = base_handles k0 l0 base u

  pub serves_same : (w : ℕ) (c c' : Configuration) → L w c.focus c.stack c'.focus c'.stack → Serves c → Serves c'
  serves_same w c c' lies h = record {
    suits = λ known. suits_same known w c.focus c.stack c'.focus c'.stack lies (h.suits known);
    handles = λ known u b. handles_same w c.focus c.stack c'.focus c'.stack lies u (h.handles known u b);
  }
