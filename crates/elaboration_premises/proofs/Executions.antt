-- The states of typed executions are such as elaboration asks.
use Rattle.std.proofs.Common.{◌≡◌, ◌<◌, ◌^◌, ℕ, zero, suc, List, [], ◌∷◌, Bool, true, false, true≢false, nat_lt, Some, refl, sym, ap, ◌∙◌, subst, arith, ltb-true}
use Rattle.std.specs.Prelude.{◌&&◌, codes, None}
use Rattle.std.specs.Str.{is_utf8}
use Rattle.std.specs.Str.{is_utf8, IsAscii}
use Rattle.std.proofs.lemmas.Str.Ascii.{IsAscii-nil}
use Rattle.std.proofs.lemmas.Str.{IsUtf8-from_ascii, is_utf8-from_IsUtf8}
use Rattle.mo_types.specs.declared.node.TypeId.{TypeId}
use Rattle.mo_types.specs.Graph.{Slot, head_at}
use Rattle.typed_tree.specs.Basics.{HasBasics}
use Rattle.typed_tree.specs.Language.{Value, Exp}
use Rattle.typed_tree.specs.Types.{AreLawful}
use Rattle.typed_tree.specs.Wants.{Of}
use Rattle.mo_meaning.specs.Acts.{Given}
use Rattle.mo_meaning.specs.Configurations.{Surroundings}
use Rattle.mo_meaning.specs.Configurations as meaning
use Rattle.mo_meaning.specs.Reduce.{reduce}
use Rattle.mo_meaning.specs.Turns as reductions
use Rattle.mo_meaning.specs.Turns.{refused}
use Rattle.mo_soundness.specs.Answered.{IsAsking}
use Rattle.mo_soundness.specs.Keeps.{closed}
use Rattle.mo_soundness.specs.Keeps as soundness
use Rattle.mo_soundness.specs.Lawful.{IsLawful}
use Rattle.mo_soundness.specs.Running.{AnswerTypes, IsErrorValue}
use Rattle.mo_soundness.specs.Worlds.{World}
use Rattle.program_soundness.specs.Results.{GivesResults, AreResults}
use Rattle.program_soundness.specs.Runs.{Fitting, Further, IsKept, Begins, IsTypedState, table_now, EndFits, RunFits, Stands}
use Rattle.program_soundness.specs.Worlds.{running}
use Rattle.program_soundness.proofs.Given.{lawful_types}
use Rattle.program_soundness.proofs.Turns.{agrees_grow, turns_fit, turns_given_fit}
use Rattle.program_soundness.proofs.Typed.{results_kept}
use Rattle.mo_machine.specs.Acts.{Act, Goes, Prints, Asks, Awaits, Leaves, Throws}
use Rattle.mo_machine.specs.Acts as act
use Rattle.mo_machine.specs.Agrees.{Agrees, unload_act}
use Rattle.mo_machine.specs.Configurations.{Configuration, Breaks, Traps, Run, Still, Ended, moved, weighed}
use Rattle.mo_machine.specs.Moves.{Reduces, move}
use Rattle.mo_machine.specs.Reductions.{reduces}
use Rattle.mo_machine.specs.Runs.{unload_configuration, unload_run}
use Rattle.mo_machine.specs.Turns.{turn, then_steps, after, steps, steps_given}
use Rattle.mo_machine.specs.Unload.{unload, unload_list, unload_state, focused}
use Rattle.mo_machine.specs.Values.{load}
use Rattle.mo_machine.proofs.Simulation.{agrees}
use Rattle.mo_machine.proofs.Steps.{reaches, reaches_given}
use Rattle.elaboration_runs.specs.Whole.{Serves}
use Rattle.elaboration_premises.specs.Places.{Placed, InContext}
use Rattle.elaboration_premises.specs.Serving.{Served, ExecutionsServe, ResumptionsServe}
use Rattle.elaboration_premises.proofs.Serving.{suits, handler_meets}

-- the error of a call that is not let through is one
small : 2 < 2 ^ 32
small = omega arith

abbrev all_small : List ℕ → Bool
all_small [] = true
all_small (b ∷ bs) = nat_lt b 128 && all_small bs

ascii : (bs : List ℕ) → all_small bs ≡ true → IsAscii bs
ascii [] h i = IsAscii-nil i
ascii (b ∷ bs) h zero = by (nat_lt b 128) refl h
  where
    by : (t : Bool) → nat_lt b 128 ≡ t → (t && all_small bs) ≡ true → b < 128
    by true e k = ltb-true b 128 e
    by false e k = absurd (true≢false (sym k))
ascii (b ∷ bs) h (suc i) = ascii bs (rest (nat_lt b 128) h) i
  where
    rest : (t : Bool) → (t && all_small bs) ≡ true → all_small bs ≡ true
    rest true k = k
    rest false k = absurd (true≢false (sym k))

spelled : is_utf8 (codes "call refused") ≡ true
spelled = is_utf8-from_IsUtf8 (codes "call refused") (IsUtf8-from_ascii (codes "call refused") (ascii (codes "call refused") refl))

refused_is_error : IsErrorValue (unload (load refused))
refused_is_error = (small, spelled)

module _ (s : Surroundings) (graph : AreLawful s.types) (basics : HasBasics s.types) where
  abbrev W : World
  W = running s.types

  lawful : IsLawful W.head
  lawful = lawful_types s.types graph basics

  pub serves : (answers : AnswerTypes) (kinds : List TypeId) (c : Configuration) → Placed s.types answers kinds (unload_state c.focus c.stack) → Serves c
  serves answers kinds c h = record {
    suits = λ known. suits s.types lawful answers kinds known c.focus c.stack h;
    handles = λ known u b. handler_meets s.types lawful answers kinds known c.stack (focused c.focus) (load refused) u h refused_is_error b;
  }

  -- of executions that keep to expressions whose parts are placed
  module _ (P : Fitting Exp) (Q : Fitting Value) (kept : IsKept W P Q) (places : (answers : AnswerTypes) (kinds : List TypeId) (e : Exp) → P answers kinds e → Placed s.types answers kinds e) (answers : AnswerTypes) (kinds : List TypeId) where
    still_serves : (c : Configuration) (r : meaning.Run) → meaning.Still (unload_configuration c) ≡ r → RunFits s P Q answers kinds r → Serves c
    still_serves c r q h =
        let k : Further answers kinds (Stands s P Q (unload_configuration c)) = subst (RunFits s P Q answers kinds) (sym q) h in
        serves k.0 k.1 c (places k.0 k.1 (unload_state c.focus c.stack) k.4.1)

    still_whole : (c : Configuration) (r : meaning.Run) → meaning.Ended (unload_configuration c) meaning.Breaks ≡ r → RunFits s P Q answers kinds r → ⊥
    still_whole c r q h =
        let k : Further answers kinds (EndFits s P Q (unload_configuration c) meaning.Breaks) = subst (RunFits s P Q answers kinds) (sym q) h in k.4

    pub on_the_way : (c : Configuration) → Stands s P Q (unload_configuration c) answers kinds → Served (λ j. steps s j c)
    on_the_way c typed = record {
      serves = λ j c' q. still_serves c' (reductions.turns s (reaches s j c).0 (unload_configuration c)) (sym (ap unload_run q) ∙ (reaches s j c).2) (turns_fit s lawful graph P Q kept (reaches s j c).0 (unload_configuration c) answers kinds typed);
      whole = λ j c' q. still_whole c' (reductions.turns s (reaches s j c).0 (unload_configuration c)) (sym (ap unload_run q) ∙ (reaches s j c).2) (turns_fit s lawful graph P Q kept (reaches s j c).0 (unload_configuration c) answers kinds typed);
    }

    pub behind_answers : (c : Configuration) → Stands s P Q (unload_configuration c) answers kinds → (g : Given) → IsAsking (reduce (head_at s.types) None (unload_list c.store) (unload_state c.focus c.stack))
        → soundness.Suits W answers kinds (Some g) (reduce (head_at s.types) None (unload_list c.store) (unload_state c.focus c.stack)) → Served (λ j. steps_given s g j c)
    behind_answers c typed g asks fits = record {
      serves = λ j c' q. still_serves c' (reductions.turns_given s g (reaches_given s g j c).0 (unload_configuration c)) (sym (ap unload_run q) ∙ (reaches_given s g j c).2)
          (turns_given_fit s lawful graph P Q kept g (reaches_given s g j c).0 (unload_configuration c) answers kinds typed asks fits);
      whole = λ j c' q. still_whole c' (reductions.turns_given s g (reaches_given s g j c).0 (unload_configuration c)) (sym (ap unload_run q) ∙ (reaches_given s g j c).2)
          (turns_given_fit s lawful graph P Q kept g (reaches_given s g j c).0 (unload_configuration c) answers kinds typed asks fits);
    }

  -- of executions whose first reduction is a call that enters a body
  module _ (P : Fitting Exp) (Q : Fitting Value) (kept : IsKept W P Q) (places : (answers : AnswerTypes) (kinds : List TypeId) (e : Exp) → P answers kinds e → Placed s.types answers kinds e) (answers : AnswerTypes) (kinds : List TypeId)
      (c : Configuration) (due : move c.focus c.stack ≡ Reduces) (state : IsTypedState s answers kinds (unload_configuration c)) (begins : Begins W P answers kinds (reduce (head_at s.types) None (unload_list c.store) (unload_state c.focus c.stack))) (first : Serves c) where
    abbrev acts : Act
    acts = reduces (head_at s.types) None c.store c.focus c.stack

    agreed : reduce (head_at s.types) None (unload_list c.store) (unload_state c.focus c.stack) ≡ unload_act acts
    agreed = (subst (λ m. Agrees (head_at s.types) None c.store m c.focus c.stack) due (agrees (head_at s.types) None c.store c.focus c.stack)).1

    later : (n : ℕ) → steps s (suc n) c ≡ then_steps s (steps s n) (turn s c acts)
    later n = ap (λ m. then_steps s (steps s n) (after s c (turn s c acts) m)) due

    go_on : (n : ℕ) (a : Act) (r : Run) → Begins W P answers kinds (unload_act a) → then_steps s (steps s n) (turn s c a) ≡ r → ((c' : Configuration) → r ≡ Still c' → Serves c') × ((c' : Configuration) → r ≡ Ended c' Breaks → ⊥)
    go_on n (Goes cost store f k) r b q =
        let x = on_the_way P Q kept places answers b.0 (moved cost store f k c) ((b.2, (λ m. agrees_grow W answers kinds b.0 b.1 (table_now s (unload_configuration c)) (state.1 m)), state.2), b.3) in
        ((λ c' e. x.serves n c' (q ∙ e)), (λ c' e. x.whole n c' (q ∙ e)))
    go_on n (act.Traps cost text) r b q = ((λ c' e. absurd (let z : Ended (weighed cost c) (Traps text) ≡ Still c' = q ∙ e in cc)), (λ c' e. let z : Ended (weighed cost c) (Traps text) ≡ Ended c' Breaks = q ∙ e in cc))
    go_on n (Prints cost text f k) r b q = absurd b
    go_on n (Asks x) r b q = absurd b
    go_on n (Awaits m call) r b q = absurd b
    go_on n (Leaves l v) r b q = absurd b
    go_on n (Throws cost v) r b q = absurd b
    go_on n act.Stuck r b q = absurd b

    begun_serves : (j : ℕ) (c' : Configuration) → steps s j c ≡ Still c' → Serves c'
    begun_serves zero c' q = subst Serves (let z : Still c ≡ Still c' = q in let same : c ≡ c' = cc in same) first
    begun_serves (suc n) c' q = (go_on n acts (steps s (suc n) c) (subst (Begins W P answers kinds) agreed begins) (sym (later n))).0 c' q

    begun_whole : (j : ℕ) (c' : Configuration) → steps s j c ≡ Ended c' Breaks → ⊥
    begun_whole zero c' q = let z : Still c ≡ Ended c' Breaks = q in cc
    begun_whole (suc n) c' q = (go_on n acts (steps s (suc n) c) (subst (Begins W P answers kinds) agreed begins) (sym (later n))).1 c' q

    pub begun : Served (λ j. steps s j c)
    begun = record { serves = begun_serves; whole = begun_whole }

pub results_placed : (types : List Slot) (results : List TypeId) (answers : AnswerTypes) (kinds : List TypeId) (e : Exp) → GivesResults (running types) results answers kinds e → Placed types answers kinds e
results_placed types results answers kinds e h = InContext (closed []) (Of h.0) h.2

pub executions_serve : ExecutionsServe
executions_serve s graph basics results answers kinds c typed =
    on_the_way s graph basics (GivesResults (running s.types) results) (AreResults (running s.types) results) (results_kept (running s.types) results (lawful_types s.types graph basics)) (results_placed s.types results) answers kinds c typed

pub resumptions_serve : ResumptionsServe
resumptions_serve s graph basics results answers kinds c typed g asks fits =
    behind_answers s graph basics (GivesResults (running s.types) results) (AreResults (running s.types) results) (results_kept (running s.types) results (lawful_types s.types graph basics)) (results_placed s.types results) answers kinds c typed g asks fits
