-- What the entry for installation does around the call of the start.
use Rattle.std.proofs.Common.{◌≡◌, ◌⊎◌, inl, inr, ℕ, zero, suc, ◌+◌, ◌<◌, List, [], ◌∷◌, ◌++◌, length, replicate, reverse, Some, refl, sym, ap, ◌∙◌, subst, arith}
use Rattle.std.specs.Prelude.{pos}
use Rattle.std.proofs.lemmas.List.{append-nil}
use Rattle.wasm_tree.specs.declared.op.Conversion.TheVariants.{Wrap}
use Rattle.wasm_tree.specs.declared.trap.Trap.TheVariants as trap
use Rattle.wasm_tree.specs.Exec.{Store, State}
use Rattle.ic0_world.specs.declared.world.World.{World}
use Rattle.low_ir.specs.declared.op.Operand.{Operand}
use Rattle.low_ir.specs.declared.op.Operand.TheVariants.{Local, Word, Long}
use Rattle.low_ir.specs.declared.op.Operation.TheVariants.{Convert}
use Rattle.low_ir.specs.Tree.{Code, Stop, Module}
use Rattle.low_ir.specs.Tree as code
use Rattle.low_ir.specs.Meaning.{Called, Calls, Gave, Outcome, Ends, Jumps, Gives, Breaks, Astray, operands, on_return, result_to, run}
use Rattle.low_ir.specs.Meaning as low
use Rattle.low_ir.specs.Frames.{enter}
use Rattle.low_execution.specs.Host.{low_host}
use Rattle.low_rules.specs.Rule.{At, state, value_of, values_of}
use Rattle.code_sequences.specs.Laws.{Goes}
use Rattle.code_sequences.specs.Sequences.{seq, then_run}
use Rattle.code_sequences.proofs.Seq.{run_seq}
use Rattle.emitted_steps.specs.Operations.{given}
use Rattle.emitted_steps.specs.Shortage.{RunsOut}
use Rattle.emitted_steps.proofs.Calls.{in_order}
use Rattle.emitted_steps.proofs.Short.{goes_or}
use Rattle.limited_runs.specs.Shown.{told, fell, prints_of}
use Rattle.limited_runs.proofs.RunsOut.{runs_out}
use Rattle.installed_actors.specs.Entry.{start_arguments, keeps, begins}

module _ {W : Type 0} where
  abbrev at : ℕ → Store W → List ℕ → State W
  at n store locals = record { left = n; store = store; locals = locals }

  -- There are steps for operands, or not.
  abbrev Read : List Operand → ℕ → Store W → (locals before : List ℕ) → (State W → List ℕ → Outcome W) → Type 0
  Read args k store locals before next =
      ((n : ℕ) × (k ≡ length args + n) × (operands args (at k store locals) before next ≡ next (at n store locals) (values_of args locals before)))
      ⊎ ((k < length args) × (operands args (at k store locals) before next ≡ Breaks trap.Steps store))

  read : (args : List Operand) (k : ℕ) (store : Store W) (locals before : List ℕ) (next : State W → List ℕ → Outcome W) → Read args k store locals before next
  read [] k store locals before next = inl (k, omega arith, refl)
  read (Local x ∷ args) zero store locals before next = inr (omega arith, refl)
  read (Word x ∷ args) zero store locals before next = inr (omega arith, refl)
  read (Long x ∷ args) zero store locals before next = inr (omega arith, refl)
  read (Local x ∷ args) (suc k) store locals before next = by (read args k store locals (value_of (Local x) locals ∷ before) next)
    where
      by : Read args k store locals (value_of (Local x) locals ∷ before) next → Read (Local x ∷ args) (suc k) store locals before next
      by (inl q) = inl (q.0, (let e = q.1 in omega (arith, e)), q.2)
      by (inr q) = inr ((let lt = q.0 in omega (arith, lt)), q.1)
  read (Word x ∷ args) (suc k) store locals before next = by (read args k store locals (value_of (Word x) locals ∷ before) next)
    where
      by : Read args k store locals (value_of (Word x) locals ∷ before) next → Read (Word x ∷ args) (suc k) store locals before next
      by (inl q) = inl (q.0, (let e = q.1 in omega (arith, e)), q.2)
      by (inr q) = inr ((let lt = q.0 in omega (arith, lt)), q.1)
  read (Long x ∷ args) (suc k) store locals before next = by (read args k store locals (value_of (Long x) locals ∷ before) next)
    where
      by : Read args k store locals (value_of (Long x) locals ∷ before) next → Read (Long x ∷ args) (suc k) store locals before next
      by (inl q) = inl (q.0, (let e = q.1 in omega (arith, e)), q.2)
      by (inr q) = inr ((let lt = q.0 in omega (arith, lt)), q.1)

nulls_given : (n : ℕ) (locals : List ℕ) → given (replicate n (Long (pos 0)) ++ Long (pos 0) ∷ []) locals ≡ replicate n 0 ++ 0 ∷ []
nulls_given zero locals = refl
nulls_given (suc n) locals = ap (λ ws. 0 ∷ ws) (nulls_given n locals)

nulls_length : (n : ℕ) → length (replicate n (Long (pos 0)) ++ Long (pos 0) ∷ []) ≡ n + 1
nulls_length zero = refl
nulls_length (suc n) = let e = nulls_length n in omega (arith, e)

pub arguments_length : (n : ℕ) → length (start_arguments n) ≡ n + 2
arguments_length n = let e = nulls_length n in omega (arith, e)

abbrev pub start_words : ℕ → List ℕ
start_words stable = 0 ∷ (replicate stable 0 ++ 0 ∷ [])

module _ (pages : ℕ) (m : Module) (deep room start stable first own : ℕ) where
  abbrev pub calls : Calls World
  calls = enter deep pages m low_host room

  abbrev pub tail : Code
  tail = code.Set 1 (Convert Wrap (Local 0)) (keeps first 0 own)

  abbrev pub after : Called World → Outcome World
  after o = on_return (0 ∷ 0 ∷ 0 ∷ []) o (λ s v. result_to (Some 0) s v (run pages m calls tail))

  abbrev pub whole : ℕ → Store World → Outcome World
  whole left store = run pages m calls (begins start stable first own) (record { left = left; store = store; locals = 0 ∷ 0 ∷ 0 ∷ [] })

  abbrev went : Store World → ℕ → List ℕ → Outcome World
  went store n ws = after (calls start n store ws)

  abbrev next : State World → List ℕ → Outcome World
  next s values = low.tick s (λ s. on_return s.locals (calls start s.left s.store (reverse values)) (λ s v. result_to (Some 0) s v (run pages m calls tail)))

  abbrev pub IsCalled : ℕ → Store World → Type 0
  IsCalled left store = ((n : ℕ) × (left ≡ stable + 3 + n) × (whole left store ≡ after (calls start n store (start_words stable)))) ⊎ ((left < stable + 3) × (whole left store ≡ Breaks trap.Steps store))

  words_are : reverse (values_of (start_arguments stable) (0 ∷ 0 ∷ 0 ∷ []) []) ≡ start_words stable
  words_are = in_order (start_arguments stable) (0 ∷ 0 ∷ 0 ∷ []) ∙ ap (λ ws. 0 ∷ ws) (nulls_given stable (0 ∷ 0 ∷ 0 ∷ []))

  stepped : (left : ℕ) (store : Store World) (n : ℕ) → left ≡ length (start_arguments stable) + n → whole left store ≡ next (record { left = n; store = store; locals = 0 ∷ 0 ∷ 0 ∷ [] }) (values_of (start_arguments stable) (0 ∷ 0 ∷ 0 ∷ []) []) → IsCalled left store
  stepped left store zero e o = inr ((let l = arguments_length stable in omega (arith, e, l)), o)
  stepped left store (suc n) e o = inl (n, (let l = arguments_length stable in omega (arith, e, l)), o ∙ ap (went store n) words_are)

  by_read : (left : ℕ) (store : Store World) → Read (start_arguments stable) left store (0 ∷ 0 ∷ 0 ∷ []) [] next → IsCalled left store
  by_read left store (inl q) = stepped left store q.0 q.1 q.2
  by_read left store (inr q) = inr ((let lt = q.0 in let l = arguments_length stable in omega (arith, lt, l)), q.1)

  -- The start is called, or steps lack for that.
  pub called : (left : ℕ) (store : Store World) → IsCalled left store
  called left store = by_read left store (read (start_arguments stable) left store (0 ∷ 0 ∷ 0 ∷ []) [] next)

  then_stop : (o : Outcome World) → then_run o (run pages m calls Stop) ≡ o
  then_stop (Ends s) = refl
  then_stop (Jumps label s) = refl
  then_stop (Gives s value) = refl
  then_stop (Breaks cause store) = refl
  then_stop Astray = refl

  -- Code that goes on from what the start gave comes to its end, or steps lack for that.
  pub finished : (store : Store World) (word rest : ℕ) (P : At World → Type 0) (go : Goes pages m calls tail P (record { spent = 0; store = store; locals = word ∷ 0 ∷ 0 ∷ [] })) → go.to.store.world ≡ store.world
      → ((n : ℕ) × (after (Gave rest store (Some word)) ≡ Ends (state n go.to))) ⊎ ((rest < 1 + go.cost) × RunsOut prints_of (after (Gave rest store (Some word))) store.world)
  finished store word zero P go e = inr (omega arith, record { store = store; is = refl; part = record { more = []; is = sym (append-nil store.world.prints) } })
  finished store word (suc rest) P go e = by (goes_or pages m low_host told fell prints_of (runs_out pages m) deep room tail Stop (record { spent = 0; store = store; locals = word ∷ 0 ∷ 0 ∷ [] }) P go rest)
    where
      s : State World
      s = record { left = rest; store = store; locals = word ∷ 0 ∷ 0 ∷ [] }

      same : run pages m calls tail s ≡ run pages m calls (seq tail Stop) s
      same = sym (then_stop (run pages m calls tail s)) ∙ run_seq pages m calls Stop tail s

      by : ((n : ℕ) × (rest ≡ go.cost + n)) ⊎ ((rest < go.cost) × RunsOut prints_of (run pages m calls (seq tail Stop) s) go.to.store.world)
          → ((n : ℕ) × (run pages m calls tail s ≡ Ends (state n go.to))) ⊎ ((suc rest < 1 + go.cost) × RunsOut prints_of (run pages m calls tail s) store.world)
      by (inl q) = inl (q.0, same ∙ go.by Stop rest q.0 q.1)
      by (inr q) = inr ((let lt = q.0 in omega (arith, lt)), subst (λ w. RunsOut prints_of (run pages m calls tail s) w) e (subst (λ o. RunsOut prints_of o go.to.store.world) (sym same) q.1))
