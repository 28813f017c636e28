-- Blocks, objects and classes as they are made.
use Rattle.std.proofs.Common.{◌≡◌, ◌∙◌, ℕ, suc, ◌+◌, Bool, List, [], ◌∷◌, ◌++◌, map, refl, sym, ap, subst, arith}
use Rattle.std.specs.Prelude.{Result, Ok, Err, IfOk, Option, Some, None}
use Rattle.mo_types.specs.declared.node.TypeId.{TypeId}
use Rattle.typed_tree.specs.declared.expression.TypedExpression.{TypedExpression}
use Rattle.typing_rules.specs.AbstractSyntax.{Bytes}
use Rattle.typing_rules.specs.Terms.{unit}
use Rattle.type_terms.specs.declared.form.TermId.{TermId}
use Rattle.abstract_tree.specs.declared.declarations.Declaration.{Declaration}
use Rattle.abstract_types.specs.declared.patterns.Signature.{Signature}
use Rattle.value_scopes.specs.declared.note.Note.{Note}
use Rattle.met_types.specs.States.{State}
use Rattle.desugaring.specs.Expressions.{pieces}
use Rattle.desugaring.specs.Frames.{Entry, Frame, in_function}
use Rattle.kernel_counts.specs.Counting.{Counts}
use Rattle.kernel_frames.specs.declared.names.Mark.{Mark}
use Rattle.kernel_frames.specs.Places.{Cuts, IsMark}
use Rattle.kernel_members.specs.Accesses.{IsFieldNumber, or_number}
use Rattle.kernel_types.specs.Numbers.{definitions, head_of, number}
use Rattle.kernel_parts.specs.Views.{list_in, list_of}
use Rattle.kernel_scopes.specs.Bound.{parameters_of}
use Rattle.kernel_scopes.proofs.Around.{same_frame}
use Rattle.kernel_functions.specs.Functions.{made_of}
use Rattle.kernel_objects.specs.Objects.{class_in, class_nodes, name_number_of, object_in, operand_in, operands_in}
use Rattle.kernel_objects.proofs.Growing.{Grown, list_grows}

-- a list was written out, and its names are taken away
module _ (s : State) (has_value : Bool) (ds : List (Declaration Note)) (old now : Frame) (h : now ≡ (list_of s old has_value ds).frame) where
  grown : Grown old now
  grown = subst (λ (g : Frame). Grown old g) (sym h) (list_grows has_value (pieces (definitions s) (number s) (list_in s ds)) old)

  pub cuts : (m : Mark) → IsMark m old.names → Cuts m now.names
  cuts m i = record { more = grown.more; before = old.names; whole = grown.names; mark = i }

  pub back : (m : Mark) (new : Frame) → IsMark m old.names → new.exits ≡ now.exits → ((more before : List Entry) → now.names ≡ more ++ before → IsMark m before → new.names ≡ before) → new ≡ old
  back m new i k c = same_frame new old (c grown.more old.names grown.names i) (k ∙ grown.exits)

module _ (s : State) where
  pub number_found : (kind : TermId) (x : Bytes) (o : Option TypeId) (id : TypeId) → IsFieldNumber s (head_of s kind) x o → o ≡ Some id → id ≡ name_number_of s kind x
  number_found kind x o id h e = ap (or_number (number s unit)) (sym e) ∙ sym (h unit)

  pub unit_found : (kind : TermId) (x : Bytes) (o : Option TypeId) → IsFieldNumber s (head_of s kind) x o → o ≡ None → number s unit ≡ name_number_of s kind x
  unit_found kind x o h e = ap (or_number (number s unit)) (sym e) ∙ sym (h unit)

  pub operands_are : (f : Frame) (kind : TermId) (xs : List Bytes) → map (operand_in s f kind) xs ≡ operands_in s f kind xs
  operands_are f kind [] = refl
  operands_are f kind (x ∷ xs) = ap (λ (l : List TypedExpression). operand_in s f kind x ∷ l) (operands_are f kind xs)

  pub class_is : (f : Frame) (kind : TermId) (g : Signature Note) (ds : List (Declaration Note)) (n : ℕ) (e : TypedExpression) → n ≡ class_nodes s g ds → e ≡ object_in s (in_function (parameters_of s g.parameters) f) kind ds → made_of s g n e ≡ class_in s f kind g ds
  class_is f kind g ds n e h k = ap (λ (m : ℕ). made_of s g m e) h ∙ ap (λ (z : TypedExpression). made_of s g (class_nodes s g ds) z) k

pub both_counted : {E : Type 0} (r : Result ℕ E) (a b m : ℕ) → Counts a 1 m → IfOk r (Counts b m) → IfOk r (λ n. n ≡ suc (a + b))
both_counted (Ok n) a b m h k = let e : m ≡ 1 + a = h.is in let g : n ≡ m + b = k.is in omega (arith, e, g)
both_counted (Err x) a b m h k = tt
