-- Installation and upgrade: IC interface specification, section Canister installation and upgrade; Motoko language manual,
-- section "Stable variables".
use Rattle.std.specs.Prelude.{ℕ, List, [], ◌∷◌, ◌++◌, Option, Some, None, cond, nat_eq, codes}
use Rattle.play_script.specs.declared.item.Item.TheVariants as item
use Rattle.play_script.specs.declared.item.Word.TheVariants as word
use Rattle.mo_types.specs.Calls.{no_calls, open_count, next_number}
use Rattle.mo_actor.specs.Languages.{Language}
use Rattle.mo_actor.specs.Executions.{Execution, trapping}
use Rattle.mo_actor.specs.Programs.{Program}
use Rattle.mo_actor.specs.Results.{Result, Completed, Trapped, Exhausted}
use Rattle.mo_actor.specs.States.{Activation, Actor, ActorState, NoActor, Running}
use Rattle.mo_actor.specs.Outcomes.{Outcome, outcome, print_items, trap_items}
use Rattle.mo_actor.specs.Courses.{Course, Over, Runs}

module _ {L : Language} where
  -- An actor whose program has begun. Calls that were made and came before keep their numbers.
  abbrev pub started : (made : ℕ) → List (Activation L) → L.store → (weight : ℕ) → Actor L
  started made activations store weight = record { store = store; table = no_calls made; activations = activations; charged = weight }

  -- A trap in the initialisers leaves no actor.
  abbrev pub installed : Program L → (made : ℕ) → List (Activation L) → Result L.store → Outcome (ActorState L)
  installed p made activations (Completed prints weight store) =
      outcome (print_items prints ++ item.Installed ∷ []) (Running p (started made activations store weight))
  installed p made activations (Trapped prints text) = outcome (trap_items prints (word.Text text)) (NoActor made activations)
  installed p made activations (Exhausted prints cause) = outcome (trap_items prints cause) (NoActor made activations)

  abbrev pub install_course : List ℕ → (made : ℕ) → List (Activation L) → Option (Program L) → Course (ActorState L)
  install_course own made activations None = Over (outcome (item.Ignored ∷ []) (NoActor made activations))
  install_course own made activations (Some p) = Runs L.store p.first_memory 0 (p.start own None) (λ r. Over (installed p made activations r))

  -- The old program first tests for open calls.
  abbrev pub saving : Program L → List ℕ → Actor L → Execution L.kept
  saving p own a = cond (nat_eq (open_count a.table) 0) (p.save own a.store) (trapping (codes "outstanding calls"))

  -- A trap in the new program gives back the old actor.
  abbrev pub upgraded : Program L → Actor L → Program L → (before : List (List ℕ)) → Result L.store → Outcome (ActorState L)
  upgraded old a p before (Completed prints weight store) =
      outcome (print_items before ++ (print_items prints ++ item.Upgraded ∷ [])) (Running p (started (next_number a.table) a.activations store weight))
  upgraded old a p before (Trapped prints text) = outcome (print_items before ++ trap_items prints (word.Text text)) (Running old a)
  upgraded old a p before (Exhausted prints cause) = outcome (print_items before ++ trap_items prints cause) (Running old a)

  -- And so does one in the old program.
  abbrev pub saved : List ℕ → Program L → Actor L → Program L → Result L.kept → Course (ActorState L)
  saved own old a p (Completed prints weight kept) = Runs L.store p.first_memory 0 (p.start own (Some kept)) (λ r. Over (upgraded old a p prints r))
  saved own old a p (Trapped prints text) = Over (outcome (trap_items prints (word.Text text)) (Running old a))
  saved own old a p (Exhausted prints cause) = Over (outcome (trap_items prints cause) (Running old a))

  -- An upgrade is two executions: the old program saves, and then the new one starts over what was saved.
  abbrev pub upgrade_course : List ℕ → Program L → Actor L → Option (Program L) → Course (ActorState L)
  upgrade_course own old a None = Over (outcome (item.Ignored ∷ []) (Running old a))
  upgrade_course own old a (Some p) = Runs L.kept old.first_memory a.charged (saving old own a) (λ r. saved own old a p r)
