-- What a well-typed program gives: lawful types, and types that go into messages and into stable memory.
use Rattle.std.proofs.Common.{◌≡◌, ◌<◌, ℕ, List, [], ◌∷◌, map, length, Bool, true, false, refl, sym, subst}
use Rattle.std.specs.Prelude.{nat_lt}
use Rattle.std.proofs.lemmas.Bool.{ltb-true, ltb-false}
use Rattle.std.proofs.lemmas.Option.{slice_get_past}
use Rattle.mo_types.specs.declared.node.Node.{Node}
use Rattle.mo_types.specs.declared.node.TypeId.{TypeId}
use Rattle.mo_types.specs.Graph.{Slot, node_of_slot, node_at, head_at}
use Rattle.mo_types.specs.Sub.{Each, IsSomething}
use Rattle.typed_tree.specs.declared.program.Method.{Method}
use Rattle.typed_tree.specs.declared.program.Program.{Program}
use Rattle.typed_tree.specs.declared.program.StableVariable.{StableVariable}
use Rattle.typed_tree.specs.ActionTypes.{Context, ResultOf}
use Rattle.typed_tree.specs.Basics.{HasBasics}
use Rattle.typed_tree.specs.Instances.{types_in}
use Rattle.typed_tree.specs.Programs as language
use Rattle.typed_tree.specs.ProgramView.{method, stable_variable, program}
use Rattle.typed_tree.specs.PatternTypes.{IsInScope}
use Rattle.typed_tree.specs.Shareable.{IsShareable}
use Rattle.typed_tree.specs.Types.{AreLawful}
use Rattle.typed_tree.specs.WellTyped.{WellTyped, IsPublic, IsStable, behind}
use Rattle.mo_soundness.specs.Lawful.{IsLawful}
use Rattle.closed_rules.proofs.Constants.{parts_within}
use Rattle.closed_trees.proofs.Lawful.{closed_lawful}
use Rattle.closed_trees.proofs.Trees.{signature_scoped}
use Rattle.program_soundness.specs.Bodies.{Shares}
use Rattle.program_soundness.specs.Worlds.{running, IsCarried}
use Rattle.program_soundness.proofs.Carried.{self_most}

pub lawful_types : (types : List Slot) → AreLawful types → HasBasics types → IsLawful (running types).head
lawful_types types h b = closed_lawful types (length types) (self_most (length types)) h b

module _ (types : List Slot) (graph : AreLawful types) where
  -- a type that is in the graph has one of its numbers
  there : (t : TypeId) → IsSomething (node_at types t) → t.index < length types
  there t h = by (nat_lt t.index (length types)) refl where
    by : (b : Bool) → nat_lt t.index (length types) ≡ b → t.index < length types
    by true e = ltb-true t.index (length types) e
    by false e = absurd (subst (λ s. IsSomething (node_of_slot s)) (slice_get_past types t.index (ltb-false t.index (length types) e)) h)

  carried : (vs : List ℕ) (ts : List TypeId) → Each (IsShareable (head_at types)) ts → Each (IsInScope types vs) ts → Each (IsCarried types) ts
  carried vs [] s h = tt
  carried vs (t ∷ ts) s h = ((s.0, there t h.0.0), carried vs ts s.1 h.1)

  in_range : (ts : List TypeId) → Each (IsShareable (head_at types)) ts → Each (λ t. t.index < length types) ts → Each (IsCarried types) ts
  in_range [] s h = tt
  in_range (t ∷ ts) s h = ((s.0, h.0), in_range ts s.1 h.1)

  -- the results are those of a type in the graph
  results_carried : (vs : List ℕ) (rs : List TypeId) (r : TypeId) → Each (IsShareable (head_at types)) rs → ResultOf (head_at types) rs r → IsInScope types vs r → Each (IsCarried types) rs
  results_carried vs [] r s e h = tt
  results_carried vs (t ∷ []) r s e h = ((s.0, subst (λ u. u.index < length types) (sym e) (there r h.0)), tt)
  results_carried vs (t ∷ u ∷ rs) r s e h =
      in_range (t ∷ u ∷ rs) s (subst (λ (x : Node TypeId). Each (λ (v : TypeId). v.index < length types) (types_in x)) e (parts_within types graph r))

  pub public_parameters : (c : Context) (m : Method) → IsPublic types c m → Each (IsCarried types) m.parameters
  public_parameters c m h = let b = h.body in carried _ m.parameters h.parameters (signature_scoped types m.function c _ b.4).1

  pub public_results : (c : Context) (m : Method) → IsPublic types c m → Each (IsCarried types) m.results
  public_results c m h = let b = h.body in results_carried _ m.results b.1 h.results b.3 (signature_scoped types m.function c _ b.4).0

  parameters_share : (c : Context) (ms : List Method) → Each (IsPublic types c) ms → Each (λ (m : language.Method). Each (IsCarried types) m.parameters) (map method ms)
  parameters_share c [] h = tt
  parameters_share c (m ∷ ms) h = (public_parameters c m h.0, parameters_share c ms h.1)

  results_share : (c : Context) (ms : List Method) → Each (IsPublic types c) ms → Each (λ (m : language.Method). Each (IsCarried types) m.results) (map method ms)
  results_share c [] h = tt
  results_share c (m ∷ ms) h = (public_results c m h.0, results_share c ms h.1)

  stable_share : (c : Context) (vs : List StableVariable) → Each (IsStable types c) vs → Each (λ (v : language.StableVariable). IsShareable (head_at types) v.of_type) (map stable_variable vs)
  stable_share c [] h = tt
  stable_share c (v ∷ vs) h = (h.0.0, stable_share c vs h.1)

pub variables_share : (types : List Slot) (c : Context) (vs : List StableVariable) → Each (IsStable types c) vs → Each (λ (v : StableVariable). IsShareable (head_at types) v.of_type) vs
variables_share types c [] h = tt
variables_share types c (v ∷ vs) h = (h.0.0, variables_share types c vs h.1)

pub program_shares : (p : Program) → WellTyped p → Shares p.types (program p)
program_shares p w = record {
  parameters = parameters_share p.types w.types (behind p w.end) p.methods w.public;
  results = results_share p.types w.types (behind p w.end) p.methods w.public;
  stable = stable_share p.types w.types w.end p.stable w.stable;
}
