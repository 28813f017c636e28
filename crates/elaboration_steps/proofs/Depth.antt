-- Stacks that belong together are as deep.
use Rattle.std.proofs.Common.{◌≡◌, ℕ, zero, suc, ◌+◌, Bool, true, List, [], ◌∷◌, ◌++◌, Some, None, refl, arith}
use Rattle.core_ir.specs.Programs as programs
use Rattle.core_ir.specs.Values.{Value}
use Rattle.core_ir.specs.Expressions as core
use Rattle.core_ir.specs.Expressions.{Body}
use Rattle.core_ir.specs.CoreMachine as core_machine
use Rattle.core_ir.specs.CoreMachine.{Looping, Caller, depth_of}
use Rattle.typed_tree.specs.declared.action.Action.TheVariants as action
use Rattle.typed_tree.specs.Language.{Exp, Exps, Val, Name, Do, If, Switch, Group, Frame, Label, While, Repeat, For, Try, Update, NoExp, AnExp, NoCase, ACase}
use Rattle.mo_meaning.specs.Depth.{live, live_all}
use Rattle.mo_machine.specs.Configurations.{live_on}
use Rattle.mo_machine.specs.Frames.{Stack}
use Rattle.mo_machine.specs.Members.{calls_code}
use Rattle.elaboration.specs.Scopes.{Scope, beside}
use Rattle.elaboration_forms.specs.Elaborates.{Elaborates, ElaboratesAll, ElaboratesNames}
use Rattle.elaboration_values.specs.Belonging.{Known}
use Rattle.elaboration_steps.specs.Stacks.{Labels, scope, turn_with, gathering_of, StackBelongs, Bottom, InFunction, InGathering, InOperands, InMaking, InCalling, InHolding, InChoosing, InLet, InSwitch, InLabel, InTesting, InTurning, InRepeating, InRetesting, InTry, InUpdating, InGoing, InTurn, InBody, InBranch, InCase, InEndless}
use Rattle.elaboration_steps.proofs.Levels.{joins_level, skips_level}

calls_live : (next left : ℕ) → live_all (calls_code next left) ≡ 0
calls_live next zero = refl
calls_live next (suc left) = let z : live_all (calls_code (suc next) left) ≡ 0 = calls_live (suc next) left in omega (arith, z)

-- no body stands written in code
module _ (table : List (programs.Group Body)) where
  mutual
    no_live : (b : Bool) (s : Scope) (e : Exp) (c : core.Exp) → Elaborates table b s e c → live e ≡ 0
    no_live b s (Val v) c r = refl
    no_live b s (Name x) c r = refl
    no_live b s (Do action.Call (AnExp (Do (action.BuiltIn m) es) args)) c r =
        let x : live_all es ≡ 0 = no_live_all b s es (r.0) (r.3) in let y : live_all args ≡ 0 = no_live_all b s args (r.1) (r.4) in omega (arith, x, y)
    no_live b s (Do (action.BuiltIn m) es) c r = no_live_names b s es (r.0) (r.2)
    no_live b s (Do a es) c r = no_live_all b s es (r.0) (r.2)
    no_live b s (If x y z) c r = no_live b s x (r.0) (r.3)
    no_live b s (Switch e NoCase) c r = no_live b s e (r.0) (r.2)
    no_live b s (Switch e (ACase p d NoCase)) c r = no_live b s e (r.0) (r.2)
    no_live b s (Switch e (ACase p d (ACase q f cases))) c r = no_live b s e (r.0) (r.2)
    no_live b s (Group fns d) c r = refl
    no_live b s (Frame n e) c r = absurd r
    no_live b s (Label e) c r = no_live b _ e (r.0) (r.1)
    no_live b s (While x d) c r = refl
    no_live b s (Repeat d x) c r = refl
    no_live b s (For p e d) c r = no_live b s e (r.0) (r.2)
    no_live b s (Try e p d) c r = no_live b s e (r.0) (r.3)
    no_live b s (Update o e f) c r = no_live b s e (r.0) (r.2)

    no_live_all : (b : Bool) (s : Scope) (es : Exps) (cs : core.Exps) → ElaboratesAll table b s es cs → live_all es ≡ 0
    no_live_all b s NoExp cs r = refl
    no_live_all b s (AnExp e es) cs r = let x : live e ≡ 0 = no_live b s e (r.0) (r.2) in let y : live_all es ≡ 0 = no_live_all b s es (r.1) (r.3) in omega (arith, x, y)

    no_live_names : (b : Bool) (s : Scope) (es : Exps) (cs : core.Exps) → ElaboratesNames table b s es cs → live_all es ≡ 0
    no_live_names b s NoExp cs r = refl
    no_live_names b s (AnExp e es) cs r = let x : live e ≡ 0 = no_live b s e (r.0) (r.2) in let y : live_all es ≡ 0 = no_live_names b (beside 1 s) es (r.1) (r.3) in omega (arith, x, y)

  module _ (known : List Known) (globals : List Value) (nodes : ℕ) where
    below : (k : Stack) (ck : List core_machine.Frame) → live_on k ≡ 16 + nodes + depth_of ck → 0 + live_on k ≡ 16 + nodes + depth_of ck
    below k ck h = omega (arith, h)

    pub as_deep : (b : Bool) (l : Labels) (held : ℕ) (k : Stack) (ck : List core_machine.Frame) → StackBelongs table known globals nodes b l held k ck → live_on k ≡ 16 + nodes + depth_of ck
    as_deep b l held k ck (Bottom c h js i) = let x : depth_of (js ++ []) ≡ 0 = joins_level js [] i in omega (arith, x)
    as_deep b l held k ck (InFunction n c m h j js cj i r) =
        let x : depth_of (js ++ (Caller n None ∷ cj)) ≡ 16 + n + depth_of cj = joins_level js (Caller n None ∷ cj) i in
        let y : live_on j ≡ 16 + nodes + depth_of cj = as_deep c m h j cj r in
        omega (arith, x, y)
    as_deep b l held k ck (InGathering n c m h f g done before next left j js cj i value values r) =
        let x : depth_of (js ++ (Caller n (Some (gathering_of g before next left)) ∷ Caller 0 None ∷ cj)) ≡ 16 + n + (16 + 0 + depth_of cj) = joins_level js (Caller n (Some (gathering_of g before next left)) ∷ Caller 0 None ∷ cj) i in
        let z : live_all (calls_code next left) ≡ 0 = calls_live next left in
        let y : live_on j ≡ 16 + nodes + depth_of cj = as_deep c m h j cj r in
        omega (arith, x, y, z)
    as_deep b l held k ck (InOperands x m h a done rest env j before later vals cj g e d r) =
        let u : live_all rest ≡ 0 = no_live_all x (scope d.places m vals) rest later d.code in let y : live_on j ≡ 16 + nodes + depth_of cj = as_deep x m h j cj r in omega (arith, u, y)
    as_deep b l held k ck (InMaking x m h i a done rest args env j before later arguments vals cj row e d f r) =
        let u : live_all rest ≡ 0 = no_live_all x (scope d.places m vals) rest later d.code in
        let t : live_all args ≡ 0 = no_live_all x (scope f.places m vals) args arguments f.code in
        let y : live_on j ≡ 16 + nodes + depth_of cj = as_deep x m h j cj r in
        omega (arith, u, t, y)
    as_deep b l held k ck (InCalling x m h i a holds done rest env j before later vals cj row e d r) =
        let u : live_all rest ≡ 0 = no_live_all x (scope d.places m vals) rest later d.code in let y : live_on j ≡ 16 + nodes + depth_of cj = as_deep x m h j cj r in omega (arith, u, y)
    as_deep b l held k ck (InHolding x m h i done env j n levels vals cj e d r) = below j cj (as_deep x m h j cj r)
    as_deep b l held k ck (InChoosing x m h y z env j c d vals cj p q r) = below j cj (as_deep x m h j cj r)
    as_deep b l held k ck (InLet x m h p e env j c vals cj q r) = below j cj (as_deep x m h j cj r)
    as_deep b l held k ck (InSwitch x m h cs env j c vals cj q r) = below j cj (as_deep x m h j cj r)
    as_deep b l held k ck (InLabel x m h j cj r) = below j cj (as_deep x m h j cj r)
    as_deep b l held k ck (InTesting x m h y z env j c d vals cj p q r) = below j cj (as_deep x m h j cj r)
    as_deep b l held k ck (InTurning x m h y z env j c d vals cj p q r) = below j cj (as_deep x m h j cj r)
    as_deep b l held k ck (InEndless x m h y env j d vals cj q r) = below j cj (as_deep x m h j cj r)
    as_deep b l held k ck (InRepeating x m h y z env j d c vals cj p q r) = below j cj (as_deep x m h j cj r)
    as_deep b l held k ck (InRetesting x m h y z env j d c v vals cj p q r) = below j cj (as_deep x m h j cj r)
    as_deep b l held k ck (InTry m h p e env j c vals cj q r) = below j cj (as_deep true m h j cj r)
    as_deep b l held k ck (InUpdating x m h o e env j c vals cj q r) = below j cj (as_deep x m h j cj r)
    as_deep b l held k ck (InGoing x m h p e env j c vals cj d r) = below j cj (as_deep x m h j cj r)
    as_deep b l held k ck (InTurn x m h p e env v j c w vals cj i d r) = let y : live_on j ≡ 16 + nodes + depth_of cj = as_deep x m h j cj r in omega (arith, y)
    as_deep b l held k ck (InBody x m h p e env inner v j c w vals js cj a i d r) =
        let u : depth_of (js ++ (Looping (turn_with c) (w ∷ vals) ∷ core_machine.Labelled ∷ cj)) ≡ depth_of cj = joins_level js (Looping (turn_with c) (w ∷ vals) ∷ core_machine.Labelled ∷ cj) a in
        let y : live_on j ≡ 16 + nodes + depth_of cj = as_deep x m h j cj r in omega (arith, u, y)
    as_deep b l held k ck (InBranch x m h j joins cj q r) =
        let u : depth_of (joins ++ cj) ≡ depth_of cj = joins_level joins cj q in let y : live_on j ≡ 16 + nodes + depth_of cj = as_deep x m h j cj r in omega (arith, u, y)
    as_deep b l held k ck (InCase x m h less j vals skips cj q p r) =
        let u : depth_of (skips ++ (core_machine.Labelled ∷ cj)) ≡ depth_of cj = skips_level skips (core_machine.Labelled ∷ cj) q in let y : live_on j ≡ 16 + nodes + depth_of cj = as_deep x m less j cj r in omega (arith, u, y)
