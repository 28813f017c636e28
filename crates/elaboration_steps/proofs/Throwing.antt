-- An error goes out to a label, a handler or the end of the body.
use Rattle.std.proofs.Common.{◌≡◌, ℕ, suc, ◌+◌, ◌*◌, ◌≤◌, true, List, [], ◌∷◌, ◌++◌, length, refl, ◌∙◌, arith}
use Rattle.mo_values.specs.Costs.{weighing}
use Rattle.core_ir.specs.Values as core_value
use Rattle.core_ir.specs.Worlds.{World, Context}
use Rattle.core_ir.specs.Executions.{Rejects}
use Rattle.core_ir.specs.Expressions.{Core}
use Rattle.core_ir.specs.CoreMachine as core_machine
use Rattle.core_ir.specs.CoreMachine.{Frame, Arguments, Looping, Caller, Join, Focus, focused, thrown, depth_of}
use Rattle.typed_tree.specs.declared.action.Action.TheVariants as action
use Rattle.mo_machine.specs.Values.{Value}
use Rattle.mo_machine.specs.Acts.{Store, Act}
use Rattle.mo_machine.specs.Frames.{Stack, Ready}
use Rattle.mo_machine.specs.Matching.{trying}
use Rattle.mo_machine.specs.Measure.{left_on}
use Rattle.mo_machine.specs.Jumps.{throw}
use Rattle.elaboration.specs.Meeting.{Joins, There}
use Rattle.elaboration_values.specs.Belonging.{Known, Belongs}
use Rattle.elaboration_steps.specs.Stacks.{Passed, Labels, turn_with, WorldBelongs, AtAction, Around, Bottom, InOperands, InMaking, InCalling, InHolding, InChoosing, InLet, InSwitch, InLabel, InTesting, InTurning, InRepeating, InRetesting, InTry, InUpdating, InGoing, InTurn, InBody, InBranch, InCase, InEndless}
use Rattle.elaboration_steps.specs.Follows.{Start, owed, HandlerMeets, Acts}
use Rattle.elaboration_steps.proofs.Levels.{joins_level, skips_level}
use Rattle.elaboration_steps.proofs.Matching.{pattern_follows}
use Rattle.elaboration_steps.proofs.Paths.{waits, stops}

module _ (program : Core) (context : Context) (nodes : ℕ) (world : World) (w : core_value.Value) where
  past_joins : (s k : List Frame) → Joins s → thrown program context nodes world w (s ++ k) ≡ thrown program context nodes world w k
  past_joins [] k h = refl
  past_joins (Join ∷ s) k h = past_joins s k h
  past_joins (Arguments g d r e ∷ s) k h = absurd h
  past_joins (Looping b e ∷ s) k h = absurd h
  past_joins (core_machine.Labelled ∷ s) k h = absurd h
  past_joins (core_machine.Trying b e ∷ s) k h = absurd h
  past_joins (Caller n g ∷ s) k h = absurd h

  past_skips : (s k : List Frame) → Passed s → thrown program context nodes world w (s ++ k) ≡ thrown program context nodes world w k
  past_skips [] k h = refl
  past_skips (Join ∷ s) k h = past_skips s k h
  past_skips (Arguments g d r e ∷ s) k h = past_skips s k h
  past_skips (Looping b e ∷ s) k h = absurd h
  past_skips (core_machine.Labelled ∷ s) k h = absurd h
  past_skips (core_machine.Trying b e ∷ s) k h = absurd h
  past_skips (Caller n g ∷ s) k h = absurd h

module _ (program : Core) (context : Context) (nodes : ℕ) (before : Start) (held : ℕ) (known : List Known) (world : World) (store : Store) (k0 : Stack) (worlds : WorldBelongs program.groups known context.globals store world) (v : Value) (w : core_value.Value) (value : Belongs known v w) (spent : ℕ) (cf : Focus) (ck0 : List Frame) where
  abbrev A : Act → Type 0
  A = Acts program context nodes before held known world store k0 spent cf ck0

  abbrev Out : List Frame → Type 0
  Out ck = focused program context nodes world cf ck0 ≡ thrown program context nodes world w ck

  abbrev Low : Stack → Type 0
  Low k = 4 * left_on k + length k + 1 ≤ before.most

  pub throws : (l : Labels) (less : ℕ) (k : Stack) (ck : List Frame) → Around program context nodes world known true l less k ck → HandlerMeets k w → Out ck → spent + less ≤ held → owed k0 ≡ owed k → Low k → depth_of ck0 ≡ depth_of ck → A (throw store (weighing 1) v k)
  throws l less k ck (Bottom c h js i) meets eq le q low deep =
      (w, value, stops program context nodes before spent (2 * 1 + held) 0 (weighing 1) world cf ck0 (Rejects w) (eq ∙ past_joins program context nodes world w js [] i) (omega (arith, le)) (omega arith), worlds)
  throws l less k ck (InLabel c m h j cj r) meets eq le q low deep =
      waits program context nodes before (spent + owed k0) (2 * 1 + held) 0 less known world cf ck0 store (Ready action.Throw (v ∷ [])) j (omega (arith, le, q)) (omega (arith, low)) worlds
      (AtAction action.Throw (v ∷ []) j cf ck0 (record {
        b = true;
        l = m;
        values = w ∷ [];
        vals = [];
        weight = 0;
        less = less;
        f' = cf;
        ck' = ck0;
        others = cj;
        arguments = (value, tt);
        may = refl;
        path = There 0 cf ck0;
        acts = eq;
        level = deep;
        paid = omega arith;
        around = r;
      }))
  throws l less k ck (InTry m h p e env j c vals cj d r) meets eq le q low deep =
      pattern_follows program context nodes before held known world store k0 worlds p e env c vals true m h j cj (Join ∷ []) v w 1 (1 + trying p v) spent cf ck0 d value meets tt r eq (omega (arith, le, q)) (omega (arith, le)) (omega (arith, deep))
  throws l less k ck (InOperands x m h a done rest env j bs later vals cj g e d r) meets eq le q low deep = throws m h j cj r meets eq le q (omega (arith, low)) deep
  throws l less k ck (InMaking x m h i a done rest args env j bs later arguments vals cj row e d f r) meets eq le q low deep = throws m h j cj r meets eq le q (omega (arith, low)) deep
  throws l less k ck (InCalling x m h i a holds done rest env j bs later vals cj row e d r) meets eq le q low deep = throws m h j cj r meets eq le q (omega (arith, low)) deep
  throws l less k ck (InHolding x m h i done env j n levels vals cj e d r) meets eq le q low deep = throws m h j cj r meets eq le q (omega (arith, low)) deep
  throws l less k ck (InChoosing x m h y z env j c d vals cj p i r) meets eq le q low deep = throws m h j cj r meets eq le q (omega (arith, low)) deep
  throws l less k ck (InLet x m h p e env j c vals cj i r) meets eq le q low deep = throws m h j cj r meets eq le q (omega (arith, low)) deep
  throws l less k ck (InSwitch x m h cs env j c vals cj i r) meets eq le q low deep = throws m h j cj r meets eq le q (omega (arith, low)) deep
  throws l less k ck (InTesting x m h y z env j c d vals cj p i r) meets eq le q low deep = throws m h j cj r meets eq le q (omega (arith, low)) deep
  throws l less k ck (InTurning x m h y z env j c d vals cj p i r) meets eq le q low deep = throws m h j cj r meets eq le q (omega (arith, low)) deep
  throws l less k ck (InEndless x m h y env j d vals cj i r) meets eq le q low deep = throws m h j cj r meets eq le q (omega (arith, low)) deep
  throws l less k ck (InRepeating x m h y z env j d c vals cj p i r) meets eq le q low deep = throws m h j cj r meets eq le q (omega (arith, low)) deep
  throws l less k ck (InRetesting x m h y z env j d c u vals cj p i r) meets eq le q low deep = throws m h j cj r meets eq le q (omega (arith, low)) deep
  throws l less k ck (InUpdating x m h o e env j c vals cj i r) meets eq le q low deep = throws m h j cj r meets eq le q (omega (arith, low)) deep
  throws l less k ck (InGoing x m h p e env j c vals cj i r) meets eq le q low deep = throws m h j cj r meets eq le q (omega (arith, low)) deep
  throws l less k ck (InTurn x m h p e env u j c z vals cj i d r) meets eq le q low deep = throws m h j cj r meets eq le q (omega (arith, low)) deep
  throws l less k ck (InBody x m h p e env inner u j c z vals js cj a i d r) meets eq le q low deep =
      throws m h j cj r meets (eq ∙ past_joins program context nodes world w js (Looping (turn_with c) (z ∷ vals) ∷ core_machine.Labelled ∷ cj) a) le q (omega (arith, low)) (deep ∙ joins_level js (Looping (turn_with c) (z ∷ vals) ∷ core_machine.Labelled ∷ cj) a)
  throws l less k ck (InBranch x m h j joins cj i r) meets eq le q low deep = throws m h j cj r meets (eq ∙ past_joins program context nodes world w joins cj i) le q (omega (arith, low)) (deep ∙ joins_level joins cj i)
  throws l less k ck (InCase x m h fewer j vals skips cj i paid r) meets eq le q low deep =
      throws m fewer j cj r meets (eq ∙ past_skips program context nodes world w skips (core_machine.Labelled ∷ cj) i) (let z : suc fewer ≤ h = paid in omega (arith, le, z)) q (omega (arith, low)) (deep ∙ skips_level skips (core_machine.Labelled ∷ cj) i)
