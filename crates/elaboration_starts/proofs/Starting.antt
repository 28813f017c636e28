-- A start of the actor of an elaborated program, beside the execution of its declarations with a tuple of their names at the end.
use Rattle.std.proofs.Common.{◌≡◌, ◌⊎◌, ℕ, suc, ◌+◌, ◌*◌, ◌≤◌, Bool, true, false, List, [], ◌∷◌, ◌++◌, length, map, Option, Some, None, slice_get, refl, sym, ap, ◌∙◌, subst, arith}
use Rattle.std.specs.Prelude.{max, cond, nat_lt}
use Rattle.mo_types.specs.Calls.{no_calls}
use Rattle.mo_types.specs.Graph.{head_at}
use Rattle.mo_values.specs.Costs.{weighing}
use Rattle.mo_values.specs.Shapes.{Bytes, Error}
use Rattle.mo_actor.specs.Executions.{Progress, Completion}
use Rattle.mo_actor.specs.Programs.{Rejects}
use Rattle.mo_actor.specs.Results.{IsPrefix}
use Rattle.core_ir.specs.Actor as core_actor
use Rattle.core_ir.specs.Actor.{outer_names}
use Rattle.core_ir.specs.CoreMachine as core_machine
use Rattle.core_ir.specs.CoreMachine.{State, Waiting}
use Rattle.core_ir.specs.Executions as execution
use Rattle.core_ir.specs.Executions.{Machine, Stand, run}
use Rattle.core_ir.specs.Expressions as core
use Rattle.core_ir.specs.Expressions.{Body, Core}
use Rattle.core_ir.specs.Messages.{Messages}
use Rattle.core_ir.specs.Programs.{Group}
use Rattle.core_ir.specs.Values as core_value
use Rattle.core_ir.specs.Values.{flag_value}
use Rattle.core_ir.specs.Worlds.{World, Context}
use Rattle.typed_tree.specs.Language as source
use Rattle.typed_tree.specs.Language.{Exp}
use Rattle.typed_tree.specs.Programs.{Program}
use Rattle.mo_meaning.specs.Coding.{Types, Coding}
use Rattle.mo_meaning.specs.Configurations.{Surroundings}
use Rattle.mo_meaning.specs.Depth.{live}
use Rattle.mo_meaning.specs.Kernel.{Kept, Outgoing}
use Rattle.mo_meaning.specs.Saving.{alone}
use Rattle.mo_meaning.specs.Turns.{most_bytes, too_long}
use Rattle.mo_machine.specs.Values.{Value, Made, NoValue}
use Rattle.mo_machine.specs.Acts.{Store}
use Rattle.mo_machine.specs.ActorLanguage.{Fields}
use Rattle.mo_machine.specs.Configurations.{Configuration, Returns, Traps, Breaks, Run, Still, Ended, End, live_state}
use Rattle.mo_machine.specs.Configurations as configuration
use Rattle.mo_machine.specs.Environments.{Environment}
use Rattle.mo_machine.specs.Frames as machine
use Rattle.mo_machine.specs.Frames.{Returning, Stack}
use Rattle.mo_machine.specs.Starting.{kept_value, outer_values, fields_progress}
use Rattle.mo_machine.specs.Turns.{rejects, steps}
use Rattle.elaboration.specs.Playing.{messages_of}
use Rattle.elaboration.specs.Programs.{Actor, start_scope, elaborate_actor, elaborated}
use Rattle.elaboration_forms.specs.Elaborates.{HasGroups, Elaborates}
use Rattle.elaboration_values.specs.Belonging.{Known, EachBelongs, EnvironmentBelongs}
use Rattle.elaboration_steps.specs.Stacks.{no_labels, owed, Bottom, AtCode, Here}
use Rattle.elaboration_runs.specs.Calling.{Surrounded}
use Rattle.elaboration_runs.specs.Ending.{Finish, Covers}
use Rattle.elaboration_runs.specs.Together.{Together}
use Rattle.elaboration_runs.specs.Waiting.{Accounted}
use Rattle.elaboration_runs.specs.Whole.{Serves}
use Rattle.elaboration_runs.proofs.Whole.{no_end}
use Rattle.elaboration_actors.specs.Actors.{Begun}
use Rattle.elaboration_actors.specs.Bodies.{reached, CompletionsBelong, ShownWhole}
use Rattle.elaboration_actors.proofs.Messages.{messages_are_told}
use Rattle.elaboration_actors.proofs.Starts.{starts_begin}
use Rattle.elaboration_starts.specs.Declarations as declarations
use Rattle.elaboration_starts.specs.Declarations.{finish}
use Rattle.elaboration_starts.specs.Staying.{StaysAt}
use Rattle.elaboration_starts.specs.Starts.{ActorStands}
use Rattle.elaboration_starts.proofs.Alongside.{Bases, conf, Under, Lies, Between, Pair, Past, AtEnd, PastAt, locked}
use Rattle.elaboration_starts.proofs.SavedCode.{owned}
use Rattle.elaboration_starts.proofs.DeclaredCode.{is_code, IsCode}
use Rattle.elaboration_starts.proofs.Told.{Like, starts_same}
use Rattle.elaboration_starts.proofs.Evaluating.{steps_and}

pub no_more : {A : Type 0} (xs : List A) → xs ≡ xs ++ []
no_more [] = refl
no_more (x ∷ xs) = ap (λ r. x ∷ r) (no_more xs)

-- the groups of a table stand in it
all_there : (front gs : List (Group Body)) → HasGroups (front ++ gs) (length front) gs
all_there front [] = tt
all_there front (g ∷ gs) = (at front, subst (λ t. HasGroups t (suc (length front)) gs) (assoc front g gs) (subst (λ n. HasGroups ((front ++ g ∷ []) ++ gs) n gs) (longer front) (all_there (front ++ g ∷ []) gs)))
  where
    at : (front : List (Group Body)) → slice_get (front ++ g ∷ gs) (length front) ≡ Some g
    at [] = refl
    at (x ∷ front) = at front

    longer : (front : List (Group Body)) → length (front ++ g ∷ []) ≡ suc (length front)
    longer [] = refl
    longer (x ∷ front) = ap (λ n. suc n) (longer front)

    assoc : (xs : List (Group Body)) (y : Group Body) (zs : List (Group Body)) → (xs ++ y ∷ []) ++ zs ≡ xs ++ y ∷ zs
    assoc [] y zs = refl
    assoc (x ∷ xs) y zs = ap (λ r. x ∷ r) (assoc xs y zs)

-- how a rejection compares with where the error was thrown
pub rejection : (c : Configuration) (error : Value) → ((reached (rejects c error)).prints ≡ c.prints) × (c.weight ≤ (reached (rejects c error)).weight) × (c.depth ≤ (reached (rejects c error)).depth) × ((reached (rejects c error)).stack ≡ c.stack)
rejection c (Made (Error k text) NoValue) = by (nat_lt most_bytes (length text))
  where
    by : (long : Bool)
        → ((reached (cond long (Ended (configuration.weighed (weighing (length text)) c) (Traps too_long)) (Ended (configuration.weighed (weighing (length text)) c) (configuration.Responds (Rejects 4 text))))).prints ≡ c.prints)
        × (c.weight ≤ (reached (cond long (Ended (configuration.weighed (weighing (length text)) c) (Traps too_long)) (Ended (configuration.weighed (weighing (length text)) c) (configuration.Responds (Rejects 4 text))))).weight)
        × (c.depth ≤ (reached (cond long (Ended (configuration.weighed (weighing (length text)) c) (Traps too_long)) (Ended (configuration.weighed (weighing (length text)) c) (configuration.Responds (Rejects 4 text))))).depth)
        × ((reached (cond long (Ended (configuration.weighed (weighing (length text)) c) (Traps too_long)) (Ended (configuration.weighed (weighing (length text)) c) (configuration.Responds (Rejects 4 text))))).stack ≡ c.stack)
    by true = (refl, omega arith, omega arith, refl)
    by false = (refl, omega arith, omega arith, refl)
rejection c _ = (refl, omega arith, omega arith, refl)

pub no_still : (c : Configuration) (error : Value) (d : Configuration) → rejects c error ≡ Still d → ⊥
no_still c (Made (Error k text) NoValue) d e = by (nat_lt most_bytes (length text)) e
  where
    by : (long : Bool) → cond long (Ended (configuration.weighed (weighing (length text)) c) (Traps too_long)) (Ended (configuration.weighed (weighing (length text)) c) (configuration.Responds (Rejects 4 text))) ≡ Still d → ⊥
    by true e = let z : Ended (configuration.weighed (weighing (length text)) c) (Traps too_long) ≡ Still d = e in cc
    by false e = let z : Ended (configuration.weighed (weighing (length text)) c) (configuration.Responds (Rejects 4 text)) ≡ Still d = e in cc
no_still c _ d e = let z : Ended c Breaks ≡ Still d = e in cc

-- and it is no value
pub no_value : (c : Configuration) (error : Value) (last : Configuration) (v : Value) → rejects c error ≡ Ended last (Returns v) → ⊥
no_value c (Made (Error k text) NoValue) last v e = by (nat_lt most_bytes (length text)) e
  where
    by : (long : Bool) → cond long (Ended (configuration.weighed (weighing (length text)) c) (Traps too_long)) (Ended (configuration.weighed (weighing (length text)) c) (configuration.Responds (Rejects 4 text))) ≡ Ended last (Returns v) → ⊥
    by true e = let z : Ended (configuration.weighed (weighing (length text)) c) (Traps too_long) ≡ Ended last (Returns v) = e in cc
    by false e = let z : Ended (configuration.weighed (weighing (length text)) c) (configuration.Responds (Rejects 4 text)) ≡ Ended last (Returns v) = e in cc
no_value c _ last v e = let z : Ended c Breaks ≡ Ended last (Returns v) = e in cc

abbrev ServesIf : Run → Type 0
ServesIf (Still c) = Serves c
ServesIf (Ended c end) = Unit {0}

module _ (times : ℕ) (enough : 3 ≤ times) (coding : Coding) (types : Types) (p : Program) (own : Bytes) (head_is : (elaborated p).head ≡ head_at types) (a : ActorStands p) where
  abbrev pub code : Core
  code = elaborated p

  abbrev pub M : Machine State Waiting
  M = core_machine.core_machine code

  abbrev pub messages : Messages Kept
  messages = messages_of coding types p

  abbrev pub s : Surroundings
  s = alone coding types own

  abbrev pub context : Context
  context = core_actor.context_of M messages code own (no_calls 0) []

  abbrev pub world0 : World
  world0 = record { store = []; groups = []; requests = [] }

  abbrev pub few : List core_value.Value
  few = outer_names own code.methods

  abbrev pub n : ℕ
  n = p.nodes

  abbrev pub the_actor : Actor
  the_actor = elaborate_actor (length p.methods) (length p.stable) (start_scope (length p.methods) (length p.stable)) 0 p.body

  pub is_code_of : (upgraded : Bool) → IsCode code.groups (length p.methods) (length p.stable) a.last a.before a.after a.labels a.cells a.total upgraded (start_scope (length p.methods) (length p.stable)) (a.named upgraded) the_actor
  is_code_of upgraded =
      is_code code.groups (length p.methods) (length p.stable) a.last a.before a.after a.labels a.cells a.total upgraded a.parts.upgraded 0 p.body (a.named upgraded) (a.declares upgraded) (start_scope (length p.methods) (length p.stable)) [] refl refl a.stand
      (record { methods_stand = a.methods; hook_stands = a.hook; called = a.upgraded; cells_owned = owned (length p.methods) (length p.stable) a.total a.last a.cells a.parts.within a.declared }) 0 (all_there [] code.groups)

  pub surrounded : Surrounded code context n s
  surrounded = record { room = refl; next = refl; bytes = λ known ts vs ws al. (messages_are_told coding types p).spell known ts vs ws al }

  pub accounted : Accounted code context n s
  accounted = record { own = refl; states = λ number. tt }

  abbrev B : Fields → core_actor.Fields → Type 0
  B = Begun coding types p code messages own

  abbrev pub X : Run → Progress Fields
  X r = fields_progress r

  x_parts : (r : Run) → ((X r).prints ≡ (reached r).prints) × ((X r).weight ≡ (reached r).weight) × ((X r).depth ≡ (reached r).depth)
  x_parts (Still c) = (refl, refl, refl)
  x_parts (Ended c (Returns v)) = (refl, refl, refl)
  x_parts (Ended c (Traps text)) = (refl, refl, refl)
  x_parts (Ended c end) = (refl, refl, refl)

  abbrev pub Ends-so : Type 0
  Ends-so = Option (Completion core_actor.Fields)

  -- where the second has so much more in weight before it
  pub record Pays (extra floor : ℕ) (x : Progress Fields) (y : Progress core_actor.Fields) : Type 0 where
    pub begun : IsPrefix y.prints x.prints
    pub whole : ShownWhole times B x.prints y.prints y.completion
    pub weight : extra + y.weight ≤ times * x.weight
    pub depth : max floor y.depth ≤ x.depth
    pub completion : CompletionsBelong times B x.completion y.completion

  pub pays_with : (extra floor : ℕ) (r : Run) (w d : ℕ) (prints : List Bytes) (completion : Ends-so) → IsPrefix prints (reached r).prints → extra + w ≤ times * (reached r).weight → max floor d ≤ (reached r).depth → ShownWhole times B (reached r).prints prints completion
      → CompletionsBelong times B (X r).completion completion → Pays extra floor (X r) (core_actor.progress w d prints (weighing 0) completion)
  pays_with extra floor r w d prints completion b h i whole belongs = record {
    begun = subst (λ ps. IsPrefix prints ps) (sym ((x_parts r).0)) b;
    whole = subst (λ ps. ShownWhole times B ps prints completion) (sym ((x_parts r).0)) whole;
    weight = subst (λ m. extra + (w + 0) ≤ times * m) (sym ((x_parts r).1)) (let z : extra + w ≤ times * (reached r).weight = h in omega (arith, z));
    depth = let z : (X r).depth ≡ (reached r).depth = (x_parts r).2 in omega (arith, z, i);
    completion = belongs;
  }

  abbrev pub Y : Stand State Waiting → Progress core_actor.Fields
  Y y = core_actor.start_progress M messages code y

  abbrev pub Fin : List Known → ℕ → ℕ → List Bytes → World → Run → execution.End Waiting → Type 0
  Fin = Finish code context n

  pub nothing_left : (known : List Known) (w d : ℕ) (prints : List Bytes) (world : World) (r : Run) (end : execution.End Waiting) (c : Configuration) → Fin known w d prints world r end → r ≡ Still c → ⊥
  nothing_left known w d prints world r end c f e = no_end code context n s head_is surrounded accounted known w d prints world r end c f e

  abbrev pub end_or : End → Run → End
  end_or d (Still c) = d
  end_or d (Ended c end) = end

  pub end_is : (c c2 : Configuration) (x y : End) → Ended c x ≡ Ended c2 y → x ≡ y
  end_is c c2 x y e = ap (end_or x) e

  pub conf_is : (c c2 : Configuration) (x y : End) → Ended c x ≡ Ended c2 y → c ≡ c2
  conf_is c c2 x y e = ap reached e

  module _ (kept : List (Option source.Value)) (ws : List core_value.Value) (upgraded : Bool) (many : length kept ≡ length p.stable) (belongs : (known : List Known) → EachBelongs known (map kept_value kept) ws) where
    abbrev pub env0 : Environment
    env0 = outer_values own p.methods kept

    abbrev pub vals0 : List core_value.Value
    vals0 = ws ++ flag_value upgraded ∷ []

    pub names0 : (known : List Known) → EnvironmentBelongs known few (start_scope (length p.methods) (length p.stable)).places env0 vals0
    names0 known = starts_begin p code own known the_actor.methods kept ws (flag_value upgraded) refl many (belongs known)

    pub so_many : length vals0 ≡ suc (length p.stable)
    so_many = one_more (map kept_value kept) ws (belongs []) ∙ ap (λ n. suc n) (same_length kept ∙ many)
      where
        one_more : (vs : List Value) (ws : List core_value.Value) → EachBelongs [] vs ws → length (ws ++ flag_value upgraded ∷ []) ≡ suc (length vs)
        one_more [] [] b = refl
        one_more [] (w ∷ ws) b = absurd b
        one_more (v ∷ vs) [] b = absurd b
        one_more (v ∷ vs) (w ∷ ws) b = ap (λ n. suc n) (one_more vs ws (b.1))

        same_length : (kept : List (Option source.Value)) → length (map kept_value kept) ≡ length kept
        same_length [] = refl
        same_length (o ∷ kept) = ap (λ n. suc n) (same_length kept)

    -- of which so much has been paid
    abbrev pub c' : ℕ → Configuration
    c' w0 = conf w0 (live (a.named upgraded) + (16 + n + 0)) [] [] [] (machine.Eval (a.named upgraded) env0) (Returning n ∷ [])

    -- where it is told whether this is an upgrade
    abbrev pub start : core.Exp
    start = (is_code_of upgraded).told

    abbrev pub At : ℕ → Stand State Waiting
    At k = run M context k (1 + n) 0 [] world0 (core_machine.at code context n (core_machine.Eval start vals0) [])

    -- and where that is a name
    abbrev pub Started : ℕ → Stand State Waiting
    Started k = run M context k (1 + n) 0 [] world0 (core_machine.at code context n (core_machine.Eval the_actor.start vals0) [])

    pub same_shown : (k : ℕ) → Y (Started k) ≡ Y (At k)
    same_shown k = starts_same code context n upgraded messages k (1 + n) 0 [] world0 the_actor.start start vals0 (subst (λ m. Like code.groups upgraded m the_actor.start start) (sym so_many) (is_code_of upgraded).like) (ws, refl)

    pub together : (w0 : ℕ) → 1 + n ≤ 2 * w0 → Together code context n 0 [] (c' w0) (1 + n) 0 [] world0 (core_machine.Eval start vals0) []
    together w0 paid = record {
      prints_are = refl;
      light = omega (arith, paid);
      shallow = omega arith;
      within = omega arith;
      deep = omega arith;
      stands = Here [] (machine.Eval (a.named upgraded) env0) (Returning n ∷ []) (core_machine.Eval start vals0) []
          (record { cells = tt; groups = record { as_many = refl; each = λ i k e. absurd (let z : None ≡ Some k = e in cc) } })
          (AtCode false no_labels (a.named upgraded) env0 (Returning n ∷ []) start vals0 []
          (record {
            places = (start_scope (length p.methods) (length p.stable)).places;
            code = subst (λ m. Elaborates code.groups false (record { places = (start_scope (length p.methods) (length p.stable)).places; names = m; exits = []; labels = 0 }) (a.named upgraded) start) (sym so_many) (is_code_of upgraded).start;
            names = subst (λ gs. EnvironmentBelongs [] gs (start_scope (length p.methods) (length p.stable)).places env0 vals0) (no_more few) (names0 []);
          }) (Bottom false 0 [] tt));
    }

    -- what is asked of the execution from here on
    pub record SoundFrom (c : Configuration) : Type 0 where
      pub serves : (j : ℕ) (c1 : Configuration) → steps s j c ≡ Still c1 → Serves c1
      pub whole : (j : ℕ) (c1 : Configuration) → steps s j c ≡ Ended c1 Breaks → ⊥
      pub light : (j : ℕ) → 2 * (reached (steps s j c)).weight + owed (reached (steps s j c)).stack ≤ times * (reached (steps s j c)).weight
      pub inside : (j : ℕ) (c1 : Configuration) → steps s j c ≡ Still c1 → StaysAt (head_at s.types) c1.store c1.focus c1.stack

    -- the declarations have been evaluated
    pub record AtEnds (extra floor : ℕ) (c1 : Configuration) : Type 0 where
      pub so_far : ℕ
      pub x : ℕ
      pub w : ℕ
      pub d : ℕ
      pub d' : ℕ
      pub prints : List Bytes
      pub calls : List Outgoing
      pub store : Store
      pub env : Environment
      pub k : Stack
      pub l : Stack
      pub paid : extra + w ≤ suc x
      pub shallow : max floor d' ≤ d
      pub few_names : a.total + a.total ≤ w
      pub bases : Bases upgraded k l
      pub under : Under env0 a.total env
      pub first : steps s so_far c1 ≡ Still (conf x d prints calls store (machine.Eval (source.Group a.last (declarations.parts (length p.methods) a.last a.before a.after a.labels a.cells)) env) k)

    module _ (extra floor : ℕ) (c1 : Configuration) (t : AtEnds extra floor c1) where
      abbrev pub parts_at : Configuration
      parts_at = conf t.x t.d t.prints t.calls t.store (machine.Eval (source.Group a.last (declarations.parts (length p.methods) a.last a.before a.after a.labels a.cells)) t.env) t.k

      -- and beside these
      abbrev pub ends_at : Option ℕ → Configuration
      ends_at o = conf t.w t.d' t.prints t.calls t.store (machine.Eval (finish a.last upgraded o a.total) t.env) t.l

    -- from there on it is followed
    pub record Tail (extra floor : ℕ) (c1 c2 : Configuration) : Type 0 where
      pub serves : (i : ℕ) (c : Configuration) → steps s i c2 ≡ Still c → Serves c
      pub whole : (i : ℕ) (c : Configuration) → steps s i c2 ≡ Ended c Breaks → ⊥
      pub shown : (i : ℕ) (y : Stand State Waiting) → Covers code context n [] (steps s i c2) y → (m : ℕ) × Pays extra floor (X (steps s m c1)) (Y y)

    -- ---- the execution of the declarations with a tuple of their names

    module _ (one : 1 ≤ n) (extra floor x0 d0 : ℕ) (k0 : Stack) (base : Bases upgraded k0 (Returning n ∷ [])) (pays : x0 ≡ extra + n) (deep : max floor (live (a.named upgraded) + (16 + n + 0)) ≤ d0) (alive : live_state (machine.Eval p.body env0) k0 ≡ live (a.named upgraded) + (16 + n + 0))
        (serves : (j : ℕ) (c : Configuration) → steps s j (conf x0 d0 [] [] [] (machine.Eval p.body env0) k0) ≡ Still c → Serves c)
        (whole : (j : ℕ) (c : Configuration) → steps s j (conf x0 d0 [] [] [] (machine.Eval p.body env0) k0) ≡ Ended c Breaks → ⊥)
        (light : (j : ℕ) → 2 * (reached (steps s j (conf x0 d0 [] [] [] (machine.Eval p.body env0) k0))).weight + owed (reached (steps s j (conf x0 d0 [] [] [] (machine.Eval p.body env0) k0))).stack ≤ times * (reached (steps s j (conf x0 d0 [] [] [] (machine.Eval p.body env0) k0))).weight)
        (inside : (j : ℕ) (c : Configuration) → steps s j (conf x0 d0 [] [] [] (machine.Eval p.body env0) k0) ≡ Still c → StaysAt (head_at s.types) c.store c.focus c.stack) where
      abbrev pub c1 : Configuration
      c1 = conf x0 d0 [] [] [] (machine.Eval p.body env0) k0

      abbrev pub L : ℕ → machine.Focus → Stack → machine.Focus → Stack → Type 0
      L = Lies s env0 (length p.methods) a.last a.before a.after a.labels a.cells a.total upgraded extra floor

      abbrev pub P2 : Run → Run → Type 0
      P2 = Pair s env0 (length p.methods) a.last a.before a.after a.labels a.cells a.total upgraded extra floor

      abbrev pub PA : ℕ → Type 0
      PA j = PastAt s env0 (length p.methods) a.last a.before a.after a.labels a.cells a.total upgraded extra floor j c1 (c' n)

      abbrev pub Q2 : Run → Run → Type 0
      Q2 = Past s env0 (length p.methods) a.last a.before a.after a.labels a.cells a.total upgraded extra floor

      pub lock : (j : ℕ) → P2 (steps s j c1) (steps s j (c' n)) ⊎ PA j
      lock j = locked s env0 (length p.methods) a.last a.before a.after a.labels a.cells a.total upgraded extra floor j x0 n d0 (live (a.named upgraded) + (16 + n + 0)) [] [] [] (machine.Eval p.body env0) k0 (machine.Eval (a.named upgraded) env0) (Returning n ∷ []) pays deep (alive ∙ (let z : live (a.named upgraded) + (16 + n + 0) ≡ live (a.named upgraded) + (16 + n + 0) = refl in z))
          (Between 0 p.body (a.named upgraded) env0 k0 (Returning n ∷ []) base (a.declares upgraded) (record { values = []; many = refl; is = refl }) (let z : a.total ≤ p.nodes = a.names in omega (arith, z))) inside

      pub at_ends : (j : ℕ) → PA j → (t : AtEnds extra floor c1) × (rest : ℕ) × (steps s j (c' n) ≡ steps s rest (ends_at extra floor c1 t a.after))
      at_ends j r = by (steps s r.so_far c1) (steps s r.so_far (c' n)) refl refl r.past
        where
          by : (u v : Run) → steps s r.so_far c1 ≡ u → steps s r.so_far (c' n) ≡ v → Q2 u v → (t : AtEnds extra floor c1) × (rest : ℕ) × (steps s j (c' n) ≡ steps s rest (ends_at extra floor c1 t a.after))
          by u v e q (AtEnd x w d d' prints calls store env k l paid le small b under) = (
            record {
              so_far = r.so_far;
              x = x;
              w = w;
              d = d;
              d' = d';
              prints = prints;
              calls = calls;
              store = store;
              env = env;
              k = k;
              l = l;
              paid = omega (arith, paid);
              shallow = le;
              few_names = small;
              bases = b;
              under = under;
              first = e;
            },
            r.rest,
            ap (λ i. steps s i (c' n)) r.is ∙ steps_and s r.so_far r.rest (c' n) (conf w d' prints calls store (machine.Eval (finish a.last upgraded a.after a.total) env) l) q,
          )

      -- the same, after the steps until there
      pub at_past : (j : ℕ) (r : PA j) → (t : AtEnds extra floor c1) × (steps s r.so_far (c' n) ≡ Still (ends_at extra floor c1 t a.after))
      at_past j r = by (steps s r.so_far c1) (steps s r.so_far (c' n)) refl refl r.past
        where
          by : (u v : Run) → steps s r.so_far c1 ≡ u → steps s r.so_far (c' n) ≡ v → Q2 u v → (t : AtEnds extra floor c1) × (steps s r.so_far (c' n) ≡ Still (ends_at extra floor c1 t a.after))
          by u v e q (AtEnd x w d d' prints calls store env k l paid le small b under) = (
            record {
              so_far = r.so_far;
              x = x;
              w = w;
              d = d;
              d' = d';
              prints = prints;
              calls = calls;
              store = store;
              env = env;
              k = k;
              l = l;
              paid = omega (arith, paid);
              shallow = le;
              few_names = small;
              bases = b;
              under = under;
              first = e;
            },
            q,
          )
