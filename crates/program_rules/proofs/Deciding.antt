-- What the judging of the fields comes to is what the program comes to, where its nodes are few.
use Rattle.std.proofs.Common.{◌≡◌, ℕ, Bool, true, List, [], Ok, Err, nat_le, sym, subst}
use Rattle.std.specs.Prelude.{Result}
use Rattle.std.specs.Result.{IsErr, IsErrAnd}
use Rattle.typing_rules.specs.declared.condition.Condition.TheVariants as condition
use Rattle.typing_rules.specs.AbstractSyntax.{Program}
use Rattle.typing_rules.specs.Answers.{answer, fault, Comes, Fault}
use Rattle.typing_rules.specs.Gathered.{gathered}
use Rattle.typing_rules.specs.Judgements.{Tests}
use Rattle.typing_rules.specs.Nodes.{nodes}
use Rattle.typing_rules.specs.Programs.{Checks, JudgeFieldsOf, JudgeProgram}
use Rattle.typing_rules.specs.Terms.{Term}
use Rattle.typing_rules.specs.TypedTrees.{Note}
use Rattle.met_types.specs.States.{State}
use Rattle.type_judgements.specs.declared.refusal.Refusal.{Refusal}
use Rattle.type_judgements.specs.declared.refusal.Refusal.TheVariants as refusal
use Rattle.abstract_tree.specs.declared.declarations.Declaration.{Declaration}
use Rattle.abstract_tree.specs.declared.program.Program as value
use Rattle.abstract_tree.specs.TreeView.{plain_program}
use Rattle.value_scopes.specs.declared.note.Note as value_note
use Rattle.program_rules.specs.declared.programs.TypedFields.{TypedFields}
use Rattle.program_fields.specs.Fields.{FieldsCome}
use Rattle.program_rules.specs.Decided.{FieldsDecided, TypedIn, fields_in}

module _ (x : value.Program ℕ) (few : nat_le (nodes (plain_program x)) 50000 ≡ true) where
  counted : (r : Result (Program Note) Fault) (met : List Term) → Comes (gathered (plain_program x)) (JudgeFieldsOf (plain_program x)) [] (answer r met)
      → Comes (gathered (plain_program x)) (JudgeProgram (plain_program x)) [] (answer r met)
  counted r met h = subst (λ (b : Bool). Comes (gathered (plain_program x)) (Tests condition.TooManyNodes 0 b (JudgeFieldsOf (plain_program x))) [] (answer r met)) (sym few) h

  checks : (r : Result (Program Note) Fault) (met : List Term) → Comes (gathered (plain_program x)) (JudgeFieldsOf (plain_program x)) [] (answer r met) → Checks (plain_program x) r
  checks r met h = record { met = met; by = counted r met h }

  module _ (s : State) where
    pub typed : (made : List (Declaration value_note.Note)) (types : State) → types ≡ s → FieldsCome x s (Ok made) → Checks (plain_program x) (Ok (fields_in x (record { fields = made; types = types })))
    typed made types e h =
        subst (λ (z : State). Checks (plain_program x) (Ok (fields_in x (record { fields = made; types = z })))) (sym e)
        (checks (Ok (fields_in x (record { fields = made; types = s }))) h.met h.comes)

    pub typed_in : (made : List (Declaration value_note.Note)) (types : State) → types ≡ s → FieldsCome x s (Ok made) → TypedIn (plain_program x) types (fields_in x (record { fields = made; types = types }))
    typed_in made types e h =
        subst (λ (z : State). TypedIn (plain_program x) z (fields_in x (record { fields = made; types = z }))) (sym e) (record {
          met = h.met;
          comes = counted (Ok (fields_in x (record { fields = made; types = s }))) h.met h.comes;
          stands = h.stands;
          definitions = h.definitions;
        })

    decided : (q : Refusal) → FieldsCome x s (Err q) → FieldsDecided x (Err q)
    decided (refusal.False place c) h = checks (Err (fault c place)) h.0 h.1
    decided refusal.Memory h = tt

    pub refused : (q : Refusal) (r : Result TypedFields Refusal) → IsErr r × IsErrAnd r (λ y. y ≡ q) → FieldsCome x s (Err q) → FieldsDecided x r
    refused q (Ok made) g h = cc
    refused q (Err e) g h = subst (λ (z : Refusal). FieldsDecided x (Err z)) (sym g.1) (decided q h)
