-- Steps of arithmetic by the rule: a test that ends the execution, and the end of a routine.
use Rattle.std.proofs.Common.{◌≡◌, ◌≤◌, ℕ, ◌+◌, List, [], ◌∷◌, Bool, true, false, Option, Some, Result, Ok, Err, ℤ, refl, sym, ap, subst}
use Rattle.std.specs.Prelude.{slice_index}
use Rattle.mo_num.specs.declared.operator.NumTrap.{NumTrap}
use Rattle.wasm_tree.specs.declared.trap.Trap.{Trap}
use Rattle.wasm_tree.specs.declared.trap.Trap.TheVariants as trap
use Rattle.wasm_tree.specs.Numeric.{flag}
use Rattle.wasm_tree.specs.Exec.{Store, Host, HostAnswer, Answers as AnswersSo, Refuses, bits32, bits64}
use Rattle.low_ir.specs.Tree.{Code, Module}
use Rattle.low_ir.specs.Numbering.{host_trap}
use Rattle.low_rules.specs.Rule.{At, CodeEnd, Stops, CallEnd, Comes, Dies, Contracts, OnTest, is_zero, spend, after_call, after_block, Before}
use Rattle.low_rules.specs.Lines.{host_end}
use Rattle.low_rules.proofs.Steps.{on_flag}
use Rattle.heap_layout.specs.Endings.{trap_end}
use Rattle.number_routines.specs.declared.places.TrapPlaces.{TrapPlaces}
use Rattle.number_routines.specs.Codes.{place, size, fails, unless}
use Rattle.number_routines.specs.Lines.{Answers}

module _ {World : Type 0} (pages : ℕ) (m : Module) (host : Host World) (does : Contracts World) (traps : (store : Store World) (args : List ℕ) (q : CallEnd World → Type 0) → q (host_end store (host host_trap args store.memory store.world)) → does host_trap store args q) (at : TrapPlaces) where
  -- what the host answers to a trap
  abbrev pub told : NumTrap → Store World → HostAnswer World
  told t store = host host_trap (bits32 (place at t) ∷ size t ∷ []) store.memory store.world

  module _ (q : CallEnd World → Type 0) (p : CodeEnd World → Type 0) (stops : (cause : Trap) (spent : ℕ) (store : Store World) → q (Dies cause spent store) → p (Stops cause spent store)) where
    pub failing : (t : NumTrap) (h : At World) → q (trap_end h.store (h.spent + 3 + 0) (told t h.store)) → Before pages m does (fails at t) p h
    failing t h k = traps h.store (bits32 (place at t) ∷ size t ∷ []) _ (by (told t h.store) k)
      where
        by : (answer : HostAnswer World) → q (trap_end h.store (h.spent + 3 + 0) answer) → after_call (spend 3 h) (λ (k : At World) (value : Option ℕ). p (Stops trap.Unreachable (k.spent + 1) k.store)) p (host_end h.store answer)
        by (AnswersSo value memory world) k = stops trap.Unreachable _ _ k
        by (Refuses world) k = stops trap.Host _ _ k

    pub tested : (c : ℕ) (t : NumTrap) (rest : Code) (h : At World) (b : Bool) → slice_index h.locals c ≡ flag b → (b ≡ false → Before pages m does rest p (spend 2 h)) → (b ≡ true → q (trap_end h.store (h.spent + 2 + 3 + 0) (told t h.store))) → Before pages m does (unless at c t rest) p h
    tested c t rest h b e goes ends =
        subst (λ v. OnTest (is_zero v) (Before pages m does rest p (spend 2 h)) (Before pages m does (fails at t) (after_block (Before pages m does rest p) p) (spend 2 h))) (sym e)
        (on_flag _ _ b goes (λ k. inner (ends k)))
      where
        inner : q (trap_end h.store (h.spent + 2 + 3 + 0) (told t h.store)) → Before pages m does (fails at t) (after_block (Before pages m does rest p) p) (spend 2 h)
        inner k = traps h.store (bits32 (place at t) ∷ size t ∷ []) _ (by (told t h.store) k)
          where
            by : (answer : HostAnswer World) → q (trap_end h.store (h.spent + 2 + 3 + 0) answer)
                → after_call (spend 3 (spend 2 h)) (λ (k : At World) (value : Option ℕ). after_block (Before pages m does rest p) p (Stops trap.Unreachable (k.spent + 1) k.store)) (after_block (Before pages m does rest p) p) (host_end h.store answer)
            by (AnswersSo value memory world) k = stops trap.Unreachable _ _ k
            by (Refuses world) k = stops trap.Host _ _ k

  -- what a routine owes, of its answer
  module _ (store : Store World) (most : ℕ) (answer : Result ℤ NumTrap) (q : CallEnd World → Type 0) (then : (end : CallEnd World) → Answers host at store most answer end → q end) where
    pub gives : (n : ℤ) (w cost : ℕ) → answer ≡ Ok n → w ≡ bits64 n → cost ≤ most → q (Comes cost store (Some w))
    gives n w cost e is le = then (Comes cost store (Some w)) (subst (λ r. Answers host at store most r (Comes cost store (Some w))) (sym e) (cost, le, ap (λ w. Comes cost store (Some w)) is))

    pub dies : (t : NumTrap) (cost : ℕ) → answer ≡ Err t → cost ≤ most → q (trap_end store cost (told t store))
    dies t cost e le = then (trap_end store cost (told t store)) (subst (λ r. Answers host at store most r (trap_end store cost (told t store))) (sym e) (cost, le, refl))
