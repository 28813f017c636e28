-- Code before other code, by the rule.
use Rattle.std.proofs.Common.{◌≡◌, ◌⊎◌, inl, inr, ℕ, ◌+◌, true, sym, ap, ◌∙◌, subst}
use Rattle.wasm_tree.specs.declared.trap.Trap.{Trap}
use Rattle.wasm_tree.specs.Exec.{Store}
use Rattle.low_ir.specs.Tree.{Code, Module}
use Rattle.low_ir.specs.Meaning.{Calls, run}
use Rattle.low_rules.specs.Rule.{At, state, CodeEnd, Next, Leaps, Yields, Stops, spent_of, outcome_of, Contracts, ComesTo, Before, Meets}
use Rattle.low_rules.proofs.Sound.{sound}
use Rattle.code_sequences.specs.Sequences.{then_run}
use Rattle.code_sequences.specs.Laws.{Comes, Goes, Falls, CodeGoesBefore}
use Rattle.code_sequences.proofs.Seq.{run_seq}

module _ {World : Type 0} (pages : ℕ) (m : Module) (calls : Calls World) (does : Contracts World) (meets : Meets calls does) (a : Code) (P : At World → Type 0) (Q : Trap → ℕ → Store World → Type 0) (h : At World) where
  ended : (e : CodeEnd World) (cost : ℕ) → Comes P Q e → spent_of e ≡ h.spent + cost → ((left n : ℕ) → left ≡ cost + n → run pages m calls a (state left h) ≡ outcome_of n e) → Goes pages m calls a P h ⊎ Falls pages m calls a Q h
  ended (Next to) cost holds total by =
      inl (record { to = to; holds = holds; cost = cost; total = total; by = λ more left n e. sym (run_seq pages m calls more a (state left h)) ∙ ap (λ o. then_run o (run pages m calls more)) (by left n e) })
  ended (Leaps label to) cost holds total by = absurd holds
  ended (Yields to v) cost holds total by = absurd holds
  ended (Stops cause spent store) cost holds total by =
      inr (record { cause = cause; store = store; cost = cost; holds = at total; by = λ more left n e. sym (run_seq pages m calls more a (state left h)) ∙ ap (λ o. then_run o (run pages m calls more)) (by left n e) })
    where
      at : spent ≡ h.spent + cost → Q cause (h.spent + cost) store
      at e = subst (λ n. Q cause n store) e holds

  pub prefix : Before pages m does a (Comes P Q) h → Goes pages m calls a P h ⊎ Falls pages m calls a Q h
  prefix b = let r = sound pages m calls does meets a (Comes P Q) h b in ended r.end r.cost r.holds r.total r.by

abbrev pub Never : {World : Type 0} → Trap → ℕ → Store World → Type 0
Never cause spent store = ⊥

-- Code that cannot trap.
module _ {World : Type 0} (pages : ℕ) (m : Module) (calls : Calls World) (does : Contracts World) (meets : Meets calls does) (a : Code) (P : At World → Type 0) (h : At World) where
  only : Goes pages m calls a P h ⊎ Falls pages m calls a Never h → Goes pages m calls a P h
  only (inl g) = g
  only (inr t) = absurd t.holds

  pub straight : Before pages m does a (Comes P Never) h → Goes pages m calls a P h
  straight b = only (prefix pages m calls does meets a P Never h b)

pub goes_before : (World : Type 0) → CodeGoesBefore World
goes_before World pages m calls code p q h b =
    prefix pages m calls (λ f store args r. ComesTo calls f store args r) (λ f store args r c. c) code (λ to. p to ≡ true) (λ cause spent store. q cause spent store ≡ true) h b
