-- What elaborated programs do over a list of events, the typed programs do.
use Rattle.std.proofs.Common.{◌≡◌, ℕ, ◌+◌, ◌*◌, ◌≤◌, Bool, true, List, [], ◌∷◌, map, refl, sym, ap, subst, arith}
use Rattle.std.proofs.Math.Nat.{mul-add, mul-le-mul_right, le_of_mul-le-mul_left, mul_left_comm}
use Rattle.std.specs.List.{AllByRecursion}
use Rattle.play_script.specs.declared.event.Event.{Event}
use Rattle.play_script.specs.declared.item.Word.TheVariants as word
use Rattle.mo_actor.specs.Measures.{Measure, Spent, Unmeasured}
use Rattle.mo_actor.specs.Passes.{CommittedState}
use Rattle.mo_actor.specs.Steps.{ActorRun}
use Rattle.core_ir.specs.Actor.{core_language}
use Rattle.core_ir.specs.CoreMachine.{Waiting}
use Rattle.core_laws.proofs.ComesOut.{Covers}
use Rattle.core_actors.proofs.OneOfEach.{carry_each}
use Rattle.mo_meaning.specs.Coding.{Coding}
use Rattle.mo_meaning.specs.Kernel.{Kept}
use Rattle.mo_machine.specs.ActorLanguage.{machine}
use Rattle.mo_machine.specs.States.{by_states}
use Rattle.mo_machine.proofs.ActorRuns.{run_alike}
use Rattle.elaboration_actors.specs.Actors.{Related, Weighs}
use Rattle.elaboration_actors.specs.Runs.{Version, elaborated_actor, typed_actor, Qualifies, RunsBy, RunsKeep, MeasuredRunsKeep}
use Rattle.elaboration_actors.proofs.Actors.{keeps}

-- ---- exhaustions

-- with a common factor
scaled : (times a b c : ℕ) → 1 ≤ times → times * a ≤ b → b ≤ times * c → a ≤ c
scaled times a b c one h i = le_of_mul-le-mul_left (let z : times * a ≤ times * c = omega (arith, h, i) in z) one

steps_cover : (times steps more w w' : ℕ) → 1 ≤ times → times * steps ≤ more → w' ≤ times * w → more ≤ 32768 * (w' + 1) → steps ≤ 32768 * (w + 1)
steps_cover times steps more w w' one a b h =
    scaled times steps more (32768 * (w + 1)) one a
    (let c : times * (32768 * (w + 1)) ≡ 32768 * (times * (w + 1)) = mul_left_comm times 32768 (w + 1) in
    let d : times * (w + 1) ≡ times * w + times * 1 = mul-add times w 1 in
    let e : 1 * 1 ≤ times * 1 = mul-le-mul_right 1 one in
    omega (arith, b, h, c, d, e))

pages_cover : (times pages more first memory w w' charged charged' : ℕ) → 1 ≤ times → times * pages ≤ more → memory ≤ times * first → w' ≤ times * w → charged' ≤ times * charged
    → 65536 * more ≤ memory + 256 * (w' + charged' + 1) → 65536 * pages ≤ first + 256 * (w + charged + 1)
pages_cover times pages more first memory w w' charged charged' one a m b g h =
    scaled times (65536 * pages) (65536 * more) (first + 256 * (w + charged + 1)) one
    (let c : times * (65536 * pages) ≡ 65536 * (times * pages) = mul_left_comm times 65536 pages in omega (arith, c, a))
    (let c : times * (first + 256 * (w + charged + 1)) ≡ times * first + times * (256 * (w + charged + 1)) = mul-add times first (256 * (w + charged + 1)) in
    let d : times * (256 * (w + charged + 1)) ≡ 256 * (times * (w + charged + 1)) = mul_left_comm times 256 (w + charged + 1) in
    let e : times * (w + charged + 1) ≡ times * (w + charged) + times * 1 = mul-add times (w + charged) 1 in
    let f : times * (w + charged) ≡ times * w + times * charged = mul-add times w charged in
    let i : 1 * 1 ≤ times * 1 = mul-le-mul_right 1 one in
    omega (arith, c, d, e, f, i, m, b, g, h))

pub spent_covers : (times : ℕ) → 1 ≤ times → (steps stack pages more_steps more_pages first memory : ℕ) → times * steps ≤ more_steps → times * pages ≤ more_pages → memory ≤ times * first → (c d : ℕ) → d ≤ times * c
    → Covers times (Spent steps stack pages) (Spent more_steps stack more_pages) first c memory d
spent_covers times one steps stack pages more_steps more_pages first memory a b m c d g word.Steps w dep w' dep' wl dl h = steps_cover times steps more_steps w w' one a wl h
spent_covers times one steps stack pages more_steps more_pages first memory a b m c d g word.Stack w dep w' dep' wl dl h = omega (arith, dl, h)
spent_covers times one steps stack pages more_steps more_pages first memory a b m c d g word.Heap w dep w' dep' wl dl h = pages_cover times pages more_pages first memory w w' c d one b m wl g h
spent_covers times one steps stack pages more_steps more_pages first memory a b m c d g _ w dep w' dep' wl dl h = absurd h

-- ---- runs

pub map_twice : {A B C : Type 0} (f : A → B) (g : B → C) (xs : List A) → map g (map f xs) ≡ map (λ x. g (f x)) xs
map_twice f g [] = refl
map_twice f g (x ∷ xs) = ap (λ ys. g (f x) ∷ ys) (map_twice f g xs)

module _ (times : ℕ) (one : 1 ≤ times) (coding : Coding) (own : List ℕ) (allowed : Event → Bool) (fits : Kept → Bool) where
  abbrev R : Version → CommittedState machine → CommittedState (core_language Waiting Kept) → Type 0
  R v s t = Related coding v.typed.types v.typed.program v.core v.messages own (λ s. v.safe s ≡ true) s t

  runs_by : (pays_old pays_new : Measure) → ((v : Version) → Qualifies times coding own allowed fits v → (c d : ℕ) → d ≤ times * c → Covers times pays_old pays_new v.typed.first c v.memory d) → (versions : List Version)
      → AllByRecursion (Qualifies times coding own allowed fits) versions → RunsBy times coding own allowed fits pays_old pays_new versions
  runs_by pays_old pays_new covers versions all events given items run =
      run_alike coding own (map typed_actor versions) pays_old events items
      (subst (λ ps. ActorRun pays_old ps own events items) (sym (map_twice typed_actor (by_states coding) versions))
      (carry_each Version (λ v. by_states coding v.typed) elaborated_actor R (Qualifies times coding own allowed fits) (λ k l. (l ≡ k) × (fits k ≡ true)) (Weighs times) (λ e. allowed e ≡ true) pays_old pays_new own
      (λ v q. keeps times one coding v.typed.types v.typed.program v.typed.first own (λ e. allowed e ≡ true) (λ s. v.safe s ≡ true) (λ k. fits k ≡ true) q.sound v.core v.messages v.memory q.messages q.head q.starting pays_old pays_new (covers v q))
      versions all events given items run))

pub runs_keep : RunsKeep
runs_keep times one coding own allowed fits versions all = runs_by times one coding own allowed fits Unmeasured Unmeasured (λ v q c d g cause w dep w' dep' wl dl h. tt) versions all

pub measured_runs_keep : MeasuredRunsKeep
measured_runs_keep times one coding own allowed fits versions all steps stack pages more_steps more_pages a b =
    runs_by times one coding own allowed fits (Spent steps stack pages) (Spent more_steps stack more_pages) (λ v q c d g. spent_covers times one steps stack pages more_steps more_pages v.typed.first v.memory a b q.memory c d g) versions all
