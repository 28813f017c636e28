-- Executions of well-typed programs are as elaboration asks.
use Rattle.std.proofs.Common.{◌≡◌, ℕ, suc, ◌+◌, ◌*◌, ◌≤◌, [], ◌∷◌, refl, sym, ap, subst, arith}
use Rattle.std.proofs.Math.Nat.{mul-le-mul_right}
use Rattle.typed_tree.specs.ProgramView.{program}
use Rattle.mo_meaning.specs.Configurations.{Surroundings}
use Rattle.mo_meaning.specs.Saving.{alone}
use Rattle.mo_machine.specs.Configurations.{Configuration, Run, Still, Ended}
use Rattle.mo_machine.specs.Frames.{Operands, Labelled, Trying, Joining, Stack}
use Rattle.mo_machine.specs.Starting.{saving_from, start_from}
use Rattle.mo_machine.specs.Turns.{steps}
use Rattle.machine_nesting.specs.Actors.{LightActor}
use Rattle.machine_nesting.specs.Stacks.{labels_on, ends_on, IsLight}
use Rattle.machine_nesting.specs.Stacks as nesting
use Rattle.machine_nesting.proofs.Actors.{actors_are_light}
use Rattle.elaboration_actors.specs.Bodies.{Sound, reached}
use Rattle.elaboration_premises.specs.Serving.{Served}
use Rattle.elaboration_premises.proofs.Starts.{starts_serve, saves_serve}
use Rattle.elaboration_runs.specs.Resuming.{endings}
use Rattle.elaboration_steps.specs.Follows.{owed}
use Rattle.elaboration_sound.specs.Events.{ServedActor}
use Rattle.elaboration_sound.specs.Starts.{SaveHolds}
use Rattle.elaboration_sound.specs.Typed.{CommittedTyped}
use Rattle.elaboration_sound.proofs.Events.{actors_serve}
use Rattle.elaboration_sound.proofs.Starts.{starts_stay_inside, saves_hold}
use Rattle.elaboration_kept.specs.Premises.{ActorsAreSound, StartsAreSound, SavesAreSound}

-- ---- what stands open

owed_is : (k : Stack) → owed k ≡ labels_on k
owed_is [] = refl
owed_is (Labelled ∷ k) = ap suc (owed_is k)
owed_is (Trying p b env ∷ k) = ap suc (owed_is k)
owed_is (Operands a done rest env ∷ k) = owed_is k
owed_is (_ ∷ k) = owed_is k

endings_are : (k : Stack) → endings k ≡ ends_on k
endings_are [] = refl
endings_are (Joining ∷ k) = ap suc (endings_are k)
endings_are (Operands a done rest env ∷ k) = endings_are k
endings_are (_ ∷ k) = endings_are k

reached_is : (r : Run) → reached r ≡ nesting.reached r
reached_is (Still c) = refl
reached_is (Ended c end) = refl

-- where it is no more than the weight, three times the weight pay for it
light : (times : ℕ) → 3 ≤ times → (s : Surroundings) (c : Configuration) → IsLight (λ j. steps s j c) → (j : ℕ) → 2 * (reached (steps s j c)).weight + owed (reached (steps s j c)).stack ≤ times * (reached (steps s j c)).weight
light times three s c h j =
    let r = reached (steps s j c) in
    let l : labels_on r.stack ≤ r.weight = subst (λ x. labels_on x.stack ≤ x.weight) (sym (reached_is (steps s j c))) (h j) in
    let o : owed r.stack ≡ labels_on r.stack = owed_is r.stack in
    let m : 3 * r.weight ≤ times * r.weight = mul-le-mul_right r.weight three in
    omega (arith, l, o, m)

sound : (times : ℕ) → 3 ≤ times → (s : Surroundings) (c : Configuration) → Served (λ j. steps s j c) → IsLight (λ j. steps s j c) → Sound times s c
sound times three s c h l = record { serves = λ j c' q. h.serves j c' q; whole = λ j c' q. h.whole j c' q; light = light times three s c l }

-- ---- all

pub actors_are_sound : ActorsAreSound
actors_are_sound times three coding faithful p w sized first own short =
    let serves : ServedActor coding p.types (program p) first own (CommittedTyped p.types (program p)) = actors_serve coding faithful p w first own short in
    let lights : LightActor coding p.types (program p) first own = actors_are_light coding p.types (program p) sized first own in
    record {
      enters = λ a safe query called name caller argument entry found proper vs read.
          let e = serves.enters a safe.0 query called name caller argument entry found proper vs read in
          (sound times three _ _ e.0 (lights.enters a safe.1 entry caller argument vs read), e.1);
      resumes = λ a safe number c there received proper value is v waits future focus.
          let l = lights.resumes a safe.1 number c there.0 there.1 received value is v waits in (
            sound times three _ _ (serves.resumes a safe.0 number c there received proper value is v waits future focus) l.0,
            let h : ends_on v.stack ≤ v.nodes + labels_on v.stack = l.1 in let e : endings v.stack ≡ ends_on v.stack = endings_are v.stack in let o : owed v.stack ≡ labels_on v.stack = owed_is v.stack in omega (arith, h, e, o),
          );
      begun = λ kept prints weight store has made. (serves.begun kept prints weight store has made, lights.begun kept prints weight store has made);
      called = λ a safe name caller argument entry found proper prints weight effects has.
          (serves.called a safe.0 name caller argument entry found proper prints weight effects has, lights.called a safe.1 entry caller argument prints weight effects has);
      answered = λ a safe number c there received proper prints weight effects has.
          (serves.answered a safe.0 number c there received proper prints weight effects has, lights.answered a safe.1 number c there.0 there.1 received prints weight effects has);
      trapped = λ a safe number c there. (serves.trapped a safe.0 number c there, lights.trapped a safe.1 number c.owner);
      saved = λ number proper a safe prints weight kept has. tt;
    }

pub starts_are_sound : StartsAreSound
starts_are_sound times three coding faithful p w sized own short kept =
    let lights : LightActor coding p.types (program p) 0 own = actors_are_light coding p.types (program p) sized 0 own in
    record {
      sound = sound times three (alone coding p.types own) (start_from coding p.types (program p) own kept) (starts_serve coding faithful p w own short kept) (lights.starts kept);
      inside = starts_stay_inside coding faithful p w own short kept;
    }

pub saves_are_sound : SavesAreSound
saves_are_sound times three coding p w sized own answers kinds fields fit good =
    let lights : LightActor coding p.types (program p) 0 own = actors_are_light coding p.types (program p) sized 0 own in
    let holds : SaveHolds coding p.types p own fields = saves_hold coding p w own answers kinds fields fit in
    record {
      start = record {
        sound = sound times three (alone coding p.types own) (saving_from (program p) fields) (saves_serve coding p w own answers kinds fields fit) (lights.saves fields good);
        inside = holds.inside;
      };
      holds = λ j c v q. holds.holds j c v q;
      saves = λ j c v q. holds.saves j c v q;
    }
