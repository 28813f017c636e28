-- One round of an activation's loop.
use Rattle.std.proofs.Common.{◌≡◌, ℕ, ◌+◌, ◌-◌, ◌*◌, ◌<◌, ◌≤◌, List, length, Option, Some, None, inl, inr, sym, ap, ◌∙◌, subst, arith, get_or}
use Rattle.std.specs.Prelude.{slice_get}
use Rattle.std.proofs.lemmas.Bool.{cases_lt}
use Rattle.std.proofs.lemmas.Option.{slice_get-get_or, slice_get_past}
use Rattle.wasm_tree.specs.Exec.{State, Calls}
use Rattle.wasm_steps.specs.declared.step.Step.{Step}
use Rattle.wasm_steps.specs.declared.step.Step.TheVariants as step
use Rattle.wasm_steps.specs.Moves.{Final, Next, On, move_by, move, Ready}
use Rattle.wasm_steps.specs.Follow.{Frugal, Stands, Good}
use Rattle.wasm_steps.proofs.Follows.{next_stands}
use Rattle.wasm_steps.proofs.Ready.{is_ready}
use Rattle.wasm_steps.proofs.Falls.{Falls, Spent, Goes_down, goes_down}
use Rattle.wasm_machine.specs.Operands.{tops}
use Rattle.wasm_machine.specs.Hosts.{Play}
use Rattle.wasm_machine.specs.Acts.{Given, Parts, page_bound, state_of}
use Rattle.wasm_machine.specs.Active.{Active}
use Rattle.wasm_machine.proofs.Tops.{length_tops}

in_range : (steps : List Step) (locals globals room place held : ℕ) → Ready steps locals globals room (slice_get steps place) place held → place < length steps
in_range steps locals globals room place held r =
    elim (cases_lt place (length steps)) [ inl lt ↦ lt | inr ge ↦ absurd (subst (λ o. Ready steps locals globals room o place held) (slice_get_past steps place ge) r) ]

plain_more : (locals globals less room held gone come : ℕ) → less ≤ room → held - gone + come ≤ less → held - gone + come ≤ room
plain_more locals globals less room held gone come le h = omega arith

-- more room serves as well
use_more : (steps : List Step) (o : Option Step) (locals globals less room place held : ℕ) → less ≤ room → Ready steps locals globals less o place held → Ready steps locals globals room o place held
use_more steps None locals globals less room place held le r = r
use_more steps (Some step.Nop) locals globals less room place held le r = (r.0, r.1, let h = r.2 in omega arith)
use_more steps (Some step.Drop) locals globals less room place held le r = (r.0, r.1, let h = r.2 in omega arith)
use_more steps (Some step.Select) locals globals less room place held le r = (r.0, r.1, let h = r.2 in omega arith)
use_more steps (Some (step.LocalGet x)) locals globals less room place held le r = (r.0, r.1, let h = r.2 in omega arith)
use_more steps (Some (step.LocalSet x)) locals globals less room place held le r = (r.0, r.1, let h = r.2 in omega arith)
use_more steps (Some (step.LocalTee x)) locals globals less room place held le r = (r.0, r.1, let h = r.2 in omega arith)
use_more steps (Some (step.GlobalGet x)) locals globals less room place held le r = (r.0, r.1, let h = r.2 in omega arith)
use_more steps (Some (step.GlobalSet x)) locals globals less room place held le r = (r.0, r.1, let h = r.2 in omega arith)
use_more steps (Some (step.Load kind offset)) locals globals less room place held le r = (r.0, r.1, let h = r.2 in omega arith)
use_more steps (Some (step.Store kind offset)) locals globals less room place held le r = (r.0, r.1, let h = r.2 in omega arith)
use_more steps (Some step.MemorySize) locals globals less room place held le r = (r.0, r.1, let h = r.2 in omega arith)
use_more steps (Some step.MemoryGrow) locals globals less room place held le r = (r.0, r.1, let h = r.2 in omega arith)
use_more steps (Some (step.I32Const z)) locals globals less room place held le r = (r.0, r.1, let h = r.2 in omega arith)
use_more steps (Some (step.I64Const z)) locals globals less room place held le r = (r.0, r.1, let h = r.2 in omega arith)
use_more steps (Some (step.EqualsZero kind)) locals globals less room place held le r = (r.0, r.1, let h = r.2 in omega arith)
use_more steps (Some (step.Compare kind c)) locals globals less room place held le r = (r.0, r.1, let h = r.2 in omega arith)
use_more steps (Some (step.Unary kind o)) locals globals less room place held le r = (r.0, r.1, let h = r.2 in omega arith)
use_more steps (Some (step.Binary kind o)) locals globals less room place held le r = (r.0, r.1, let h = r.2 in omega arith)
use_more steps (Some (step.Convert c)) locals globals less room place held le r = (r.0, r.1, let h = r.2 in omega arith)
use_more steps (Some step.Unreachable) locals globals less room place held le r = r
use_more steps (Some step.Enter) locals globals less room place held le r = r
use_more steps (Some (step.Test to)) locals globals less room place held le r = r
use_more steps (Some (step.Jump to)) locals globals less room place held le r = r
use_more steps (Some (step.Br x)) locals globals less room place held le r = r
use_more steps (Some (step.BrIf x)) locals globals less room place held le r = r
use_more steps (Some (step.BrTable count)) locals globals less room place held le r = r
use_more steps (Some (step.Entry x)) locals globals less room place held le r = r
use_more steps (Some (step.Return keep)) locals globals less room place held le r = r
use_more steps (Some (step.Call f)) locals globals less room place held le r = r
use_more steps (Some (step.CallIndirect x)) locals globals less room place held le r = r
use_more steps (Some step.Finish) locals globals less room place held le r = r

-- what the step at a place comes to
pub comes_to : (g : Given) (calls : Calls Play) (frugal : Frugal calls) (steps : List Step) (count height keep : ℕ) (whole : Final Play) (place : ℕ) (s : State Play) (operands : List ℕ) → Stands g.limits g.within calls steps count height keep whole place s operands → place < length steps → (d : Step) (next : Next Play) → move_by g.limits g.within steps (Some (get_or steps place d)) place s operands ≡ next → Good g.limits g.within calls steps count height keep whole next
comes_to g calls frugal steps count height keep whole place s operands stands within d next e =
    let good : Good g.limits g.within calls steps count height keep whole (move g.limits g.within steps place s operands) = next_stands g.limits g.within calls frugal steps count height keep whole place s operands stands in
    subst (λ x. Good g.limits g.within calls steps count height keep whole x) (ap (λ o. move_by g.limits g.within steps o place s operands) (slice_get-get_or steps place d within) ∙ e) good

module _ (steps : List Step) (room most place left : ℕ) (locals : List ℕ) (p : Parts) (cells : List ℕ) (held : ℕ) (a : Active steps room most place left locals p (tops cells held)) where
  ready_here : Ready steps (length locals) (length p.globals) room (slice_get steps place) place held
  ready_here =
      let r : Ready steps (length locals) (length a.g.within.globals) a.height (slice_get steps place) place (length (tops cells held)) = is_ready a.g.limits a.g.within a.calls a.frugal steps (length locals) a.height a.keep a.whole place (state_of a.g left locals p) (tops cells held) a.few a.stands in
      let n : Ready steps (length locals) (length p.globals) a.height (slice_get steps place) place (length (tops cells held)) = subst (λ i. Ready steps (length locals) i a.height (slice_get steps place) place (length (tops cells held))) a.named r in
      use_more steps (slice_get steps place) (length locals) (length p.globals) a.height room place held a.fits (subst (λ h. Ready steps (length locals) (length p.globals) a.height (slice_get steps place) place h) (length_tops cells held) n)

  pub active_within : place < length steps
  active_within = in_range steps (length locals) (length p.globals) room place held ready_here

  pub active_ready : (d : Step) → Ready steps (length locals) (length p.globals) room (Some (get_or steps place d)) place held
  active_ready d = subst (λ o. Ready steps (length locals) (length p.globals) room o place held) (slice_get-get_or steps place d active_within) ready_here

  down : (d : Step) → Goes_down (length steps) place left (move_by a.g.limits a.g.within steps (Some (get_or steps place d)) place (state_of a.g left locals p) (tops cells held))
  down d = goes_down a.g.limits a.g.within steps (length locals) (length p.globals) room (length steps) (get_or steps place d) place held (state_of a.g left locals p) (tops cells held) (active_ready d)

  pub active_on : (d : Step) (to rest : ℕ) (locals' : List ℕ) (p' : Parts) (operands' : List ℕ) → length locals' ≡ length locals → length p'.globals ≡ length p.globals → ((g : Given) → page_bound g ≡ most → move_by g.limits g.within steps (Some (get_or steps place d)) place (state_of g left locals p) (tops cells held) ≡ On to (state_of g rest locals' p') operands') → Active steps room most to rest locals' p' operands'
  active_on d to rest locals' p' operands' same names e = record {
    g = a.g;
    calls = a.calls;
    frugal = a.frugal;
    height = a.height;
    keep = a.keep;
    whole = a.whole;
    bound = a.bound;
    named = a.named ∙ sym names;
    fits = a.fits;
    few = a.few;
    stands = subst (λ n. Stands a.g.limits a.g.within a.calls steps n a.height a.keep a.whole to (state_of a.g rest locals' p') operands') (sym same) (comes_to a.g a.calls a.frugal steps (length locals) a.height a.keep a.whole place (state_of a.g left locals p) (tops cells held) a.stands active_within d _ (e a.g a.bound));
  }

  pub active_lower : (d : Step) (to rest : ℕ) (locals' : List ℕ) (p' : Parts) (operands' : List ℕ) → to ≤ length steps → ((g : Given) → page_bound g ≡ most → move_by g.limits g.within steps (Some (get_or steps place d)) place (state_of g left locals p) (tops cells held) ≡ On to (state_of g rest locals' p') operands') → rest * (length steps + 1) + (length steps - to) < left * (length steps + 1) + (length steps - place)
  active_lower d to rest locals' p' operands' le e =
      let f : Falls (length steps) place left (On to (state_of a.g rest locals' p') operands') = subst (λ x. Falls (length steps) place left x) (e a.g a.bound) (down d).falls in
      f le

  pub active_spent : (d : Step) (next : Given → Next Play) → ((g : Given) → page_bound g ≡ most → move_by g.limits g.within steps (Some (get_or steps place d)) place (state_of g left locals p) (tops cells held) ≡ next g) → Spent left (next a.g)
  active_spent d next e = subst (λ x. Spent left x) (e a.g a.bound) (down d).spent
