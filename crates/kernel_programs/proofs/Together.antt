-- A program from its parts.
use Rattle.std.proofs.Common.{◌≡◌, ◌∙◌, ℕ, false, List, Option, ap}
use Rattle.std.specs.Prelude.{codes}
use Rattle.mo_types.specs.Graph.{Slot}
use Rattle.typed_tree.specs.declared.expression.Function.{Function}
use Rattle.typed_tree.specs.declared.expression.Step.{Step}
use Rattle.typed_tree.specs.declared.program.Method.{Method}
use Rattle.typed_tree.specs.declared.program.Program as typed
use Rattle.typed_tree.specs.declared.program.StableVariable.{StableVariable}
use Rattle.typing_rules.specs.AbstractSyntax.{Declarations}
use Rattle.typing_rules.specs.TypedTrees as trees
use Rattle.abstract_tree.specs.declared.declarations.Declaration.{Declaration}
use Rattle.abstract_tree.specs.declared.program.Program.{Program}
use Rattle.abstract_tree.specs.TreeView.{program}
use Rattle.value_scopes.specs.declared.note.Note.{Note}
use Rattle.value_scopes.specs.Values.{noted}
use Rattle.met_types.specs.States.{State}
use Rattle.desugaring.specs.Frames.{Frame}
use Rattle.desugaring.specs.Pieces.{Arranged}
use Rattle.desugaring.specs.Programs.{around, methods_of, own_nodes_of, stable_of, system_of}
use Rattle.kernel_types.specs.Numbers.{definitions, number}
use Rattle.kernel_parts.specs.Views.{list_in, list_of}
use Rattle.kernel_outside.specs.Parts.{with_functions}
use Rattle.kernel_programs.specs.Actors.{desugared_in}

abbrev as_program : List Slot → ℕ → List Step → List Method → Option Function → Option Function → List StableVariable → typed.Program
as_program types n steps ms b a vs = record { types = types; nodes = n; declarations = steps; methods = ms; before_upgrade = b; after_upgrade = a; stable = vs }

module _ (s : State) (x : Program Note) (types : List Slot) where
  abbrev fields_in : Declarations trees.Note
  fields_in = list_in s x.fields

  abbrev first : Frame
  first = around (program (noted s.forms) x)

  abbrev whole : Arranged
  whole = list_of s first false x.fields

  abbrev last : Frame
  last = with_functions fields_in whole.frame

  parts : (n : ℕ) (steps : List Step) (ms : List Method) (b a : Option Function) (vs : List StableVariable)
      → n ≡ own_nodes_of fields_in → steps ≡ whole.steps → ms ≡ methods_of (definitions s) (number s) last fields_in → b ≡ system_of (definitions s) (number s) last (codes "preupgrade") fields_in
      → a ≡ system_of (definitions s) (number s) last (codes "postupgrade") fields_in → vs ≡ stable_of (definitions s) (number s) whole.frame fields_in → as_program types n steps ms b a vs ≡ desugared_in s types x
  parts n steps ms b a vs e f g h i j =
      ap (λ (m : ℕ). as_program types m steps ms b a vs) e
      ∙ (ap (λ (l : List Step). as_program types (own_nodes_of fields_in) l ms b a vs) f
      ∙ (ap (λ (l : List Method). as_program types (own_nodes_of fields_in) whole.steps l b a vs) g
      ∙ (ap (λ (o : Option Function). as_program types (own_nodes_of fields_in) whole.steps (methods_of (definitions s) (number s) last fields_in) o a vs) h
      ∙ (ap (λ (o : Option Function). as_program types (own_nodes_of fields_in) whole.steps (methods_of (definitions s) (number s) last fields_in) (system_of (definitions s) (number s) last (codes "preupgrade") fields_in) o vs) i
      ∙ ap (λ (l : List StableVariable). as_program types (own_nodes_of fields_in) whole.steps (methods_of (definitions s) (number s) last fields_in) (system_of (definitions s) (number s) last (codes "preupgrade") fields_in) (system_of (definitions s) (number s) last (codes "postupgrade") fields_in) l) j))))

  module _ (ds : List (Declaration Note)) (e : ds ≡ x.fields) (f g h : Frame) (around_is : f ≡ first) (end_is : g ≡ (list_of s f false ds).frame) (behind_is : h ≡ with_functions (list_in s ds) g) where
    same_list : list_in s ds ≡ fields_in
    same_list = ap (λ (l : List (Declaration Note)). list_in s l) e

    same_whole : list_of s f false ds ≡ whole
    same_whole = ap (λ (z : Frame). list_of s z false ds) around_is ∙ ap (λ (l : List (Declaration Note)). list_of s first false l) e

    same_end : g ≡ whole.frame
    same_end = end_is ∙ ap (λ (w : Arranged). w.frame) same_whole

    same_last : h ≡ last
    same_last = behind_is ∙ (ap (λ (l : Declarations trees.Note). with_functions l g) same_list ∙ ap (λ (z : Frame). with_functions fields_in z) same_end)

    pub together : (n : ℕ) (steps : List Step) (ms : List Method) (b a : Option Function) (vs : List StableVariable)
        → n ≡ own_nodes_of (list_in s ds) → steps ≡ (list_of s f false ds).steps → ms ≡ methods_of (definitions s) (number s) h (list_in s ds) → b ≡ system_of (definitions s) (number s) h (codes "preupgrade") (list_in s ds)
        → a ≡ system_of (definitions s) (number s) h (codes "postupgrade") (list_in s ds) → vs ≡ stable_of (definitions s) (number s) g (list_in s ds) → as_program types n steps ms b a vs ≡ desugared_in s types x
    together n steps ms b a vs i j k l m o =
        parts n steps ms b a vs (i ∙ ap (λ (z : Declarations trees.Note). own_nodes_of z) same_list) (j ∙ ap (λ (w : Arranged). w.steps) same_whole)
        (k ∙ (ap (λ (z : Frame). methods_of (definitions s) (number s) z (list_in s ds)) same_last ∙ ap (λ (z : Declarations trees.Note). methods_of (definitions s) (number s) last z) same_list))
        (l ∙ (ap (λ (z : Frame). system_of (definitions s) (number s) z (codes "preupgrade") (list_in s ds)) same_last ∙ ap (λ (z : Declarations trees.Note). system_of (definitions s) (number s) last (codes "preupgrade") z) same_list))
        (m ∙ (ap (λ (z : Frame). system_of (definitions s) (number s) z (codes "postupgrade") (list_in s ds)) same_last ∙ ap (λ (z : Declarations trees.Note). system_of (definitions s) (number s) last (codes "postupgrade") z) same_list))
        (o ∙ (ap (λ (z : Frame). stable_of (definitions s) (number s) z (list_in s ds)) same_end ∙ ap (λ (z : Declarations trees.Note). stable_of (definitions s) (number s) whole.frame z) same_list))
