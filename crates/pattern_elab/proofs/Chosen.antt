-- The tests of a `switch` choose the first pattern that matches.
use Rattle.std.proofs.Common.{ℕ, suc, ◌+◌, ◌≤◌, List, [], ◌∷◌, length, Option, Some, None, refl, sym, subst, arith}
use Rattle.mo_values.specs.Shapes.{Shape}
use Rattle.typed_tree.specs.Patterns.{Pat, matches, pattern_nodes}
use Rattle.pattern_elab.specs.declared.decision.Place.TheVariants as place
use Rattle.pattern_elab.specs.declared.decision.Target.{Target}
use Rattle.pattern_elab.specs.declared.decision.Target.TheVariants as to
use Rattle.pattern_elab.specs.declared.decision.Tests.{Tests}
use Rattle.pattern_elab.specs.declared.making.State.{State}
use Rattle.pattern_elab.specs.Cases.{chosen, first_match, SuitEach, all_nodes, IsMade, Chooses, IsOrdered, IsSmall}
use Rattle.pattern_elab.specs.Deciding.{Lies, AtWhole, Leads, Here, IsBelow, AreOrdered}
use Rattle.pattern_elab.specs.Making.{Begun, made_of, all_made, started}
use Rattle.pattern_elab.proofs.Growing.{Extends, same, on, made_extends}
use Rattle.pattern_elab.proofs.Ordered.{Good, onward, made_good}
use Rattle.pattern_elab.proofs.Right.{by_match, further, right}
use Rattle.pattern_elab.proofs.Small.{made_adds}

all_extends : (ps : List Pat) (n : ℕ) (s : State) → Extends s (all_made ps n s).state
all_extends [] n s = same s
all_extends (p ∷ ps) n s =
    let b : Begun = all_made ps (suc n) s in
    on s b.state (made_of p 0 (to.Chosen n) b.entry b.state).state (all_extends ps (suc n) s) (made_extends p 0 (to.Chosen n) b.entry b.state)

module _ {F : Type 0} (z : State) (v : Shape F) where
  leads_on : (entry later : Target) (n : ℕ) (end : Target) (o : Option (List (Shape F))) → Leads z.places z.tests v entry (by_match o (to.Chosen n) later)
      → Leads z.places z.tests v later end → Leads z.places z.tests v entry (chosen n o end)
  leads_on entry later n end None a b = further z v entry later end a b
  leads_on entry later n end (Some vs) a b = a

  all_right : (ps : List Pat) (n : ℕ) (s : State) → Extends (all_made ps n s).state z → Lies z.places v 0 v → SuitEach ps v
      → Leads z.places z.tests v (all_made ps n s).entry (first_match n ps v)
  all_right [] n s x l h = Here to.Nothing
  all_right (p ∷ ps) n s x l h =
      let b : Begun = all_made ps (suc n) s in
      let m : Begun = made_of p 0 (to.Chosen n) b.entry b.state in
      let y : Extends b.state z = on b.state m.state z (made_extends p 0 (to.Chosen n) b.entry b.state) x in
      leads_on m.entry b.entry n (first_match (suc n) ps v) (matches p v) (right z v p 0 (to.Chosen n) b.entry b.state x v l h.0) (all_right ps (suc n) s y l h.1)

pub chooses : {F : Type 0} (ps : List Pat) (v : Shape F) → SuitEach ps v
    → let b : Begun = all_made ps 0 started in Leads b.state.places b.state.tests v b.entry (first_match 0 ps v)
chooses ps v h =
    let z : State = (all_made ps 0 started).state in
    all_right z v ps 0 started (same z) (AtWhole 0 ((all_extends ps 0 started).places 0 place.Whole refl)) h

all_good : (ps : List Pat) (n : ℕ) (s : State) → AreOrdered 0 s.tests → Good s (all_made ps n s)
all_good [] n s o = record { more = omega arith; ordered = o; entry = tt }
all_good (p ∷ ps) n s o =
    let b : Begun = all_made ps (suc n) s in
    let g : Good s b = all_good ps (suc n) s o in
    onward s b (made_of p 0 (to.Chosen n) b.entry b.state) g (made_good p 0 (to.Chosen n) b.entry b.state g.ordered tt g.entry)

pub ordered : (ps : List Pat) → let b : Begun = all_made ps 0 started in AreOrdered 0 b.state.tests × IsBelow (length b.state.tests) b.entry
ordered ps = let g : Good started (all_made ps 0 started) = all_good ps 0 started tt in (g.ordered, g.entry)

all_add : (ps : List Pat) (n : ℕ) (s : State) → length (all_made ps n s).state.tests ≤ length s.tests + all_nodes ps
all_add [] n s = omega arith
all_add (p ∷ ps) n s =
    let b : Begun = all_made ps (suc n) s in
    let h : length b.state.tests ≤ length s.tests + all_nodes ps = all_add ps (suc n) s in
    let i : length (made_of p 0 (to.Chosen n) b.entry b.state).state.tests ≤ length b.state.tests + pattern_nodes p = made_adds p 0 (to.Chosen n) b.entry b.state in
    omega (arith, h, i)

pub small : (ps : List Pat) → length (all_made ps 0 started).state.tests ≤ all_nodes ps
small ps = let h : length (all_made ps 0 started).state.tests ≤ 0 + all_nodes ps = all_add ps 0 started in omega (arith, h)

pub made_choose : {F : Type 0} (ps : List Pat) (made : Tests) → IsMade ps made → Chooses F ps made
made_choose ps made e v h = subst (λ b. Leads b.state.places b.state.tests v b.entry (first_match 0 ps v)) (sym e) (chooses ps v h)

pub made_ordered : (ps : List Pat) (made : Tests) → IsMade ps made → IsOrdered made
made_ordered ps made e = subst (λ b. AreOrdered 0 b.state.tests × IsBelow (length b.state.tests) b.entry) (sym e) (ordered ps)

pub made_small : (ps : List Pat) (made : Tests) → IsMade ps made → IsSmall ps made
made_small ps made e = subst (λ b. length b.state.tests ≤ all_nodes ps) (sym e) (small ps)
