-- What is written out of a judged program is the program of its tree.
use Rattle.std.proofs.Common.{◌≡◌, ◌∙◌, List, Ok, Err, sym, ap, subst}
use Rattle.std.specs.Prelude.{Result}
use Rattle.std.specs.Result.{IsErr, IsErrAnd}
use Rattle.mo_syntax.specs.declared.program.Tree.{Tree}
use Rattle.typed_tree.specs.declared.program.Program as typed
use Rattle.type_terms.specs.declared.form.Form.{Form}
use Rattle.type_terms.specs.Tables.{Founded, Distinct}
use Rattle.typing_rules.specs.AbstractSyntax.{Program}
use Rattle.typing_rules.specs.AbstractPrograms.{abstract}
use Rattle.typing_rules.specs.Gathered.{gathered}
use Rattle.typing_rules.specs.Terms.{Term}
use Rattle.mo_types.specs.Graph.{Slot}
use Rattle.mo_types.specs.declared.node.TypeId.{TypeId}
use Rattle.typing_rules.specs.Definitions.{Definitions}
use Rattle.typing_rules.specs.Programs.{Decides}
use Rattle.typing_rules.specs.TypedTrees.{Note}
use Rattle.abstract_tree.specs.declared.program.Program as value
use Rattle.abstract_tree.specs.TreeView.{program}
use Rattle.value_scopes.specs.declared.note.Note as value_note
use Rattle.value_scopes.specs.Values.{noted}
use Rattle.met_types.specs.States.{Kept, State}
use Rattle.kernel_types.specs.Numbers.{Holds, definitions, graph_terms, number}
use Rattle.kernel_types.proofs.Numbered.{kept_so}
use Rattle.program_rules.specs.declared.programs.TypedProgram.{TypedProgram}
use Rattle.program_rules.specs.Decided.{TypedIn, program_in}
use Rattle.mo_check.specs.declared.fault.TypeFault.{TypeFault}
use Rattle.mo_check.specs.declared.fault.TypeFault.TheVariants as type_fault
use Rattle.mo_check.specs.Checked.{fault_in, memory_fault}
use Rattle.desugaring.specs.Programs.{desugared}
use Rattle.graph_laws.specs.Laws.{IsGraph}
use Rattle.graph_laws.proofs.Kept.{graphs_are_kept}
use Rattle.tree_programs.specs.Programs.{IsProgramOf}
use Rattle.typed_programs.specs.Programs.{Makes}

-- ---- what is written out goes by the definitions of the program, and by its own types

swapped : (D : Definitions → List Slot → typed.Program) (p : typed.Program) (d e : Definitions) (a b : List Slot) → d ≡ e → b ≡ a → p ≡ D d a → p ≡ D e b
swapped D p d e a b same slots w = w ∙ ap (λ (x : Definitions). D x a) same ∙ ap (D e) (sym slots)

types_are : (d : Definitions) (n : Term → TypeId) (slots : List Slot) (judged : Program Note) (p : typed.Program) → p ≡ desugared d n slots judged → p.types ≡ slots
types_are d n slots judged p w = ap (λ (z : typed.Program). z.types) w

module _ (tree : Tree) (s : State) (judged : Program Note) (h : Holds s) (t : TypedIn (abstract tree) s judged) (p : typed.Program) where
  its_program : p.types ≡ s.slots → p ≡ desugared (definitions s) (number s) s.slots judged → IsProgramOf tree p
  its_program ts w = record {
    judged = judged;
    met = t.met;
    comes = t.comes;
    terms = graph_terms s;
    number = number s;
    graph =
        subst (λ (z : List Slot). IsGraph (gathered (abstract tree)) t.met z (graph_terms s) (number s)) (sym ts)
        (subst (λ (d : Definitions). IsGraph d t.met s.slots (graph_terms s) (number s)) t.definitions (graphs_are_kept s h t.met t.stands));
    written =
        swapped (λ (d : Definitions) (z : List Slot). desugared d (number s) z judged) p (definitions s) (gathered (abstract tree)) s.slots p.types t.definitions ts w;
  }

program_of : (tree : Tree) (s : State) (judged : Program Note) (fs : List Form) → Kept s → fs ≡ s.forms → Distinct fs → Founded fs → TypedIn (abstract tree) s judged → (p : typed.Program)
    → p ≡ desugared (definitions s) (number s) s.slots judged → IsProgramOf tree p
program_of tree s judged fs k e d f t p w = its_program tree s judged (kept_so s fs k e d f) t p (types_are (definitions s) (number s) s.slots judged p w) w

-- a judged program and its types
abbrev Judged : Type 0
Judged = value.Program value_note.Note × State

-- what they are written out to
abbrev written_of : Judged → typed.Program
written_of q = desugared (definitions q.1) (number q.1) q.1.slots (program (noted q.1.forms) q.0)

pub written_is : (tree : Tree) (made : TypedProgram) (parts : Judged) (fs : List Form) (p : typed.Program) → parts ≡ (made.program, made.types) → Kept made.types → fs ≡ made.types.forms → Distinct fs → Founded fs
    → TypedIn (abstract tree) made.types (program_in made) → p ≡ written_of parts → IsProgramOf tree p
written_is tree made parts fs p e k f d founded t w = program_of tree made.types (program_in made) fs k f d founded t p (w ∙ ap written_of e)

module _ (tree : Tree) where
  fault_is : (f : TypeFault) → Decides program_in tree (Err (fault_in f)) → Makes tree (Err f)
  fault_is (type_fault.False place c) d = d
  fault_is type_fault.Memory d = tt

  pub refused : (f : TypeFault) (r : Result typed.Program TypeFault) → IsErr r × IsErrAnd r (λ y. y ≡ f) → Decides program_in tree (Err (fault_in f)) → Makes tree r
  refused f (Ok p) g d = cc
  refused f (Err e) g d = subst (λ (z : TypeFault). Makes tree (Err z)) (sym g.1) (fault_is f d)

  pub without_memory : (r : Result typed.Program TypeFault) → IsErr r × IsErrAnd r (λ y. y ≡ memory_fault) → Makes tree r
  without_memory (Ok p) g = cc
  without_memory (Err e) g = subst (λ (z : TypeFault). Makes tree (Err z)) (sym g.1) tt
