-- What waits goes on with the answer.
use Rattle.std.proofs.Common.{◌≡◌, ℕ, suc, ◌+◌, ◌≤◌, Bool, true, List, [], ◌∷◌, refl, arith}
use Rattle.core_ir.specs.Programs as programs
use Rattle.core_ir.specs.Values as core_value
use Rattle.core_ir.specs.Worlds.{World, Context}
use Rattle.core_ir.specs.Expressions as core
use Rattle.core_ir.specs.Expressions.{Core}
use Rattle.core_ir.specs.CoreMachine.{Frame, Give, depth_of}
use Rattle.typed_tree.specs.declared.action.Action.TheVariants as action
use Rattle.typed_tree.specs.Language as language
use Rattle.mo_meaning.specs.Configurations.{Surroundings}
use Rattle.mo_machine.specs.Values.{load}
use Rattle.mo_machine.specs.Acts.{Store}
use Rattle.mo_machine.specs.Configurations.{live_on}
use Rattle.mo_machine.specs.Frames as machine
use Rattle.mo_machine.specs.Frames.{Stack, Ready}
use Rattle.elaboration.specs.Meeting.{There}
use Rattle.elaboration_values.specs.Belonging.{Known, Belongs}
use Rattle.elaboration_steps.specs.Stacks.{Labels, StackBelongs, WorldBelongs, Bottom, InFunction, InGathering, InOperands, InMaking, InCalling, InHolding, InChoosing, InLet, InSwitch, InLabel, InTesting, InTurning, InRepeating, InRetesting, InTry, InUpdating, InGoing, InTurn, InBody, InBranch, InCase, AtAction, AtValue, Here, InEndless}
use Rattle.elaboration_steps.specs.Follows.{owed}
use Rattle.elaboration_steps.proofs.Depth.{as_deep}
use Rattle.elaboration_runs.specs.Resuming.{endings, throwing, GoesWith, ThrowsWith, AnswersFollow}

-- what is held is no more than the ends of cases need
module _ (table : List (programs.Group core.Body)) (known : List Known) (globals : List core_value.Value) (nodes : ℕ) where
  record Less (b : Bool) (l : Labels) (k : Stack) (ck : List Frame) : Type 0 where
    held : ℕ
    few : held ≤ endings k
    around : StackBelongs table known globals nodes b l held k ck

  less : (b : Bool) (l : Labels) (held : ℕ) (k : Stack) (ck : List Frame) → StackBelongs table known globals nodes b l held k ck → Less b l k ck
  less b l held k ck (Bottom c h js i) = record { held = 0; few = omega arith; around = Bottom c 0 js i }
  less b l held k ck (InFunction n c m h j js cj i r) =
      let u : Less c m j cj = less c m h j cj r in let fits : u.held ≤ endings j = u.few in record { held = u.held; few = omega (arith, fits); around = InFunction n c m u.held j js cj i u.around }
  less b l held k ck (InGathering n c m h f g done before next left j js cj i e d r) =
      let u : Less c m j cj = less c m h j cj r in let fits : u.held ≤ endings j = u.few in record { held = u.held; few = omega (arith, fits); around = InGathering n c m u.held f g done before next left j js cj i e d u.around }
  less b l held k ck (InOperands x m h a done rest env j before later vals cj g e d r) =
      let u : Less x m j cj = less x m h j cj r in let fits : u.held ≤ endings j = u.few in record { held = u.held; few = omega (arith, fits); around = InOperands x m u.held a done rest env j before later vals cj g e d u.around }
  less b l held k ck (InMaking x m h i a done rest args env j before later arguments vals cj row e d f r) =
      let u : Less x m j cj = less x m h j cj r in let fits : u.held ≤ endings j = u.few in record { held = u.held; few = omega (arith, fits); around = InMaking x m u.held i a done rest args env j before later arguments vals cj row e d f u.around }
  less b l held k ck (InCalling x m h i a holds done rest env j before later vals cj row e d r) =
      let u : Less x m j cj = less x m h j cj r in let fits : u.held ≤ endings j = u.few in record { held = u.held; few = omega (arith, fits); around = InCalling x m u.held i a holds done rest env j before later vals cj row e d u.around }
  less b l held k ck (InHolding x m h i done env j n levels vals cj e d r) =
      let u : Less x m j cj = less x m h j cj r in let fits : u.held ≤ endings j = u.few in record { held = u.held; few = omega (arith, fits); around = InHolding x m u.held i done env j n levels vals cj e d u.around }
  less b l held k ck (InChoosing x m h y z env j c d vals cj p q r) =
      let u : Less x m j cj = less x m h j cj r in let fits : u.held ≤ endings j = u.few in record { held = u.held; few = omega (arith, fits); around = InChoosing x m u.held y z env j c d vals cj p q u.around }
  less b l held k ck (InLet x m h p e env j c vals cj q r) =
      let u : Less x m j cj = less x m h j cj r in let fits : u.held ≤ endings j = u.few in record { held = u.held; few = omega (arith, fits); around = InLet x m u.held p e env j c vals cj q u.around }
  less b l held k ck (InSwitch x m h cs env j c vals cj q r) =
      let u : Less x m j cj = less x m h j cj r in let fits : u.held ≤ endings j = u.few in record { held = u.held; few = omega (arith, fits); around = InSwitch x m u.held cs env j c vals cj q u.around }
  less b l held k ck (InLabel x m h j cj r) =
      let u : Less x m j cj = less x m h j cj r in let fits : u.held ≤ endings j = u.few in record { held = u.held; few = omega (arith, fits); around = InLabel x m u.held j cj u.around }
  less b l held k ck (InTesting x m h y z env j c d vals cj p q r) =
      let u : Less x m j cj = less x m h j cj r in let fits : u.held ≤ endings j = u.few in record { held = u.held; few = omega (arith, fits); around = InTesting x m u.held y z env j c d vals cj p q u.around }
  less b l held k ck (InTurning x m h y z env j c d vals cj p q r) =
      let u : Less x m j cj = less x m h j cj r in let fits : u.held ≤ endings j = u.few in record { held = u.held; few = omega (arith, fits); around = InTurning x m u.held y z env j c d vals cj p q u.around }
  less b l held k ck (InEndless x m h y env j d vals cj q r) =
      let u : Less x m j cj = less x m h j cj r in let fits : u.held ≤ endings j = u.few in record { held = u.held; few = omega (arith, fits); around = InEndless x m u.held y env j d vals cj q u.around }
  less b l held k ck (InRepeating x m h y z env j c d vals cj p q r) =
      let u : Less x m j cj = less x m h j cj r in let fits : u.held ≤ endings j = u.few in record { held = u.held; few = omega (arith, fits); around = InRepeating x m u.held y z env j c d vals cj p q u.around }
  less b l held k ck (InRetesting x m h y z env j c d v vals cj p q r) =
      let u : Less x m j cj = less x m h j cj r in let fits : u.held ≤ endings j = u.few in record { held = u.held; few = omega (arith, fits); around = InRetesting x m u.held y z env j c d v vals cj p q u.around }
  less b l held k ck (InTry m h p e env j c vals cj q r) =
      let u : Less true m j cj = less true m h j cj r in let fits : u.held ≤ endings j = u.few in record { held = u.held; few = omega (arith, fits); around = InTry m u.held p e env j c vals cj q u.around }
  less b l held k ck (InUpdating x m h o e env j c vals cj q r) =
      let u : Less x m j cj = less x m h j cj r in let fits : u.held ≤ endings j = u.few in record { held = u.held; few = omega (arith, fits); around = InUpdating x m u.held o e env j c vals cj q u.around }
  less b l held k ck (InGoing x m h p e env j c vals cj d r) =
      let u : Less x m j cj = less x m h j cj r in let fits : u.held ≤ endings j = u.few in record { held = u.held; few = omega (arith, fits); around = InGoing x m u.held p e env j c vals cj d u.around }
  less b l held k ck (InTurn x m h p e env v j c w vals cj i d r) =
      let u : Less x m j cj = less x m h j cj r in let fits : u.held ≤ endings j = u.few in record { held = u.held; few = omega (arith, fits); around = InTurn x m u.held p e env v j c w vals cj i d u.around }
  less b l held k ck (InBody x m h p e env inner v j c w vals js cj a i d r) =
      let u : Less x m j cj = less x m h j cj r in let fits : u.held ≤ endings j = u.few in record { held = u.held; few = omega (arith, fits); around = InBody x m u.held p e env inner v j c w vals js cj a i d u.around }
  less b l held k ck (InBranch x m h j js cj q r) =
      let u : Less x m j cj = less x m h j cj r in let fits : u.held ≤ endings j = u.few in record { held = u.held; few = omega (arith, fits); around = InBranch x m u.held j js cj q u.around }
  less b l held k ck (InCase x m h fewer j vals skips cj q p r) =
      let u : Less x m j cj = less x m fewer j cj r in
      let fits : u.held ≤ endings j = u.few in record { held = suc u.held; few = omega (arith, fits); around = InCase x m (suc u.held) u.held j vals skips cj q (omega arith) u.around }

module _ (program : Core) (context : Context) (nodes : ℕ) (s : Surroundings) (known : List Known) (store : Store) (world : World) (call : ℕ) (l : Labels) (k : Stack) (frames : List Frame)
    (r : Less program.groups known context.globals nodes true l k frames) (worlds : WorldBelongs program.groups known context.globals store world) (few : endings k ≤ nodes + owed k) where
  deep : live_on k ≡ 16 + nodes + depth_of frames
  deep = as_deep program.groups known context.globals nodes true l r.held k frames r.around

  goes_with : (v : language.Value) (w : core_value.Value) → Belongs known (load v) w → GoesWith program context nodes s known store world call k frames v w
  goes_with v w value = record {
    held = r.held;
    entry = refl;
    turn = refl;
    together = record {
      prints_are = refl;
      light = let z : r.held ≤ endings k = r.few in omega (arith, z, few);
      shallow = omega arith;
      within = omega arith;
      deep = omega (arith, deep);
      stands = Here store (machine.Give (load v)) k (Give w) frames worlds (AtValue true l (load v) w k frames value r.around);
    };
  }

  throws_with : (e : language.Value) (w : core_value.Value) → Belongs known (load e) w → ThrowsWith program context nodes s known store world call k frames e w
  throws_with e w value = record {
    held = r.held;
    entry = refl;
    turn = refl;
    together = record {
      prints_are = refl;
      light = let z : r.held ≤ endings k = r.few in omega (arith, z, few);
      shallow = omega arith;
      within = omega arith;
      deep = omega (arith, deep);
      stands = Here store (Ready action.Throw (load e ∷ [])) k (Give w) (throwing program context nodes s known store world call k frames w) worlds (AtAction action.Throw (load e ∷ []) k (Give w) (throwing program context nodes s known store world call k frames w) (record {
        b = true;
        l = l;
        values = w ∷ [];
        vals = [];
        weight = 0;
        less = r.held;
        f' = Give w;
        ck' = throwing program context nodes s known store world call k frames w;
        others = frames;
        arguments = (value, tt);
        may = refl;
        path = There 0 (Give w) (throwing program context nodes s known store world call k frames w);
        acts = refl;
        level = refl;
        paid = omega arith;
        around = r.around;
      }));
    };
  }

pub answers : (program : Core) (context : Context) (nodes : ℕ) (s : Surroundings) → AnswersFollow program context nodes s
answers program context nodes s known store world call l held k frames around worlds few =
    let r : Less program.groups known context.globals nodes true l k frames = less program.groups known context.globals nodes true l held k frames around in
    (goes_with program context nodes s known store world call l k frames r worlds few, throws_with program context nodes s known store world call l k frames r worlds few)
