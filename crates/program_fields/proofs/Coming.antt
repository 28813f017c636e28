-- What the judging of a list comes to, with the types that are met around it, is what the rule of the program's fields comes to.
use Rattle.std.proofs.Common.{◌≡◌, ◌∙◌, ℕ, false, List, [], ◌∷◌, None, Ok, Err, ap, refl, subst, sym}
use Rattle.std.specs.Prelude.{Result, OnOk}
use Rattle.std.specs.Result.{IsErr, IsErrAnd}
use Rattle.type_terms.specs.declared.form.Form.{Form}
use Rattle.type_terms.specs.Tables.{Distinct, Founded}
use Rattle.typing_rules.specs.AbstractSyntax.{Declarations, Program}
use Rattle.typing_rules.specs.Answers.{Answer, answer, fault, Comes}
use Rattle.typing_rules.specs.Contexts.{Context}
use Rattle.typing_rules.specs.Definitions.{Definitions}
use Rattle.typing_rules.specs.Gathered.{gathered}
use Rattle.typing_rules.specs.Judgements.{Fine, Judgement, Gives, Meets, MeetsEach, Part}
use Rattle.typing_rules.specs.Programs.{JudgeFieldsOf, actor_type, basics, first_context, made_program}
use Rattle.typing_rules.specs.Terms.{Term}
use Rattle.typing_rules.specs.TypedTrees.{Note}
use Rattle.type_definitions.specs.Definitions.{Listed, rules_in}
use Rattle.type_definitions.specs.Tables.{Later}
use Rattle.type_definitions.proofs.Meanings.{grows_not, later_on}
use Rattle.definition_rules.specs.Bounds.{Same}
use Rattle.met_types.specs.States.{Kept, State, Stands}
use Rattle.type_judgements.specs.declared.refusal.Refusal.{Refusal}
use Rattle.type_judgements.specs.declared.refusal.Refusal.TheVariants as refusal
use Rattle.abstract_tree.specs.declared.declarations.Declaration.{Declaration}
use Rattle.abstract_tree.specs.declared.program.Program as value
use Rattle.abstract_tree.specs.TreeView.{plain_program}
use Rattle.value_scopes.specs.declared.note.Note as value_note
use Rattle.value_scopes.specs.declared.scopes.Scopes.{Scopes}
use Rattle.value_scopes.specs.Places.{context_in}
use Rattle.judging.specs.declared.checker.Checker.{Checker}
use Rattle.judging.specs.declared.site.Site.{Site}
use Rattle.judging.specs.Answers.{Answers}
use Rattle.judging.specs.Parts.{Ready}
use Rattle.judging.specs.Views.{View, nothing, no_more, view}
use Rattle.judging.proofs.Chains.{given, goes_on, seen_as, stops}
use Rattle.list_judging.specs.declared.part.MadeList.{MadeList}
use Rattle.list_judging.specs.Lists.{judge_list, list_in, list_of, list_reached, seen_list}
use Rattle.first_scopes.specs.Beginning.{first_place}
use Rattle.program_fields.specs.Fields.{FieldsCome, all_fields, first_site, found_type, in_program, listed_fields, own_in, type_in, whatever}
use Rattle.program_fields.proofs.MetTypes.{AreMet}
use Rattle.program_fields.proofs.Own.{own_seen}

-- ---- the list, once the types of every program are met

module _ (c d : Scopes) (k l : Checker) (xs : List (Declaration ℕ)) where
  pub ready_first : (y : Site) → y ≡ first_site → AreMet basics c k l (Ok tt) → Ready l c y
  ready_first y e h =
      subst (λ (z : Site). Ready l c z) (sym e)
      (record { sound = h.outcome.sound; returns = tt; wanting = record { kept = h.outcome.sound.known.kept; wanted = tt } })

  pub listed_then : (m : Checker) (y : Site) (r : Result MadeList Refusal) → y ≡ first_site → AreMet basics c k l (Ok tt) → Answers list_in list_reached (judge_list y false xs) c l d m r
      → Answers list_in list_reached (listed_fields xs) c k d m r
  listed_then m y r e f h =
      goes_on list_in list_reached nothing no_more (λ v. MeetsEach basics Fine) (λ v u. judge_list first_site false xs v) c c d k l m tt r f
      (subst (λ (z : Site). Answers list_in list_reached (judge_list z false xs) c l d m r) e h)

  pub not_listed : (e : Refusal) (r : Result MadeList Refusal) → IsErr r × IsErrAnd r (λ z. z ≡ e) → AreMet basics c k l (Err e) → Answers list_in list_reached (listed_fields xs) c k c l r
  not_listed e r g h = stops list_in list_reached nothing no_more (λ v. MeetsEach basics Fine) (λ v u. judge_list first_site false xs v) c c k l e r g h

-- ---- the type of the program's name behind it

module _ (x : value.Program ℕ) (xs : List (Declaration ℕ)) (exs : xs ≡ x.fields) (c d : Scopes) (k l : Checker) where
  abbrev Fields : Scopes → Checker → Result (List (Declaration value_note.Note)) Refusal → Type 0
  Fields e m r = Answers (in_program x) whatever (all_fields x) c k e m r

  abbrev ListOf : List (Declaration ℕ) → Result MadeList Refusal → Type 0
  ListOf ys r = Answers list_in list_reached (listed_fields ys) c k d l r

  abbrev behind : View → Term × Declarations Note → Judgement (Program Note)
  behind v q = MeetsEach (own_in x.name v) (Gives (made_program (plain_program x) q.1))

  there : (r : Result MadeList Refusal) → ListOf xs r → ListOf x.fields r
  there r h = subst (λ (ys : List (Declaration ℕ)). ListOf ys r) exs h

  pub no_list : (e : Refusal) (r : Result (List (Declaration value_note.Note)) Refusal) → IsErr r × IsErrAnd r (λ y. y ≡ e) → ListOf xs (Err e) → Fields d l r
  no_list e r g h = stops (in_program x) whatever list_in list_reached (listed_fields x.fields) behind c d k l e r g (there (Err e) h)

  module _ (made : MadeList) (h : ListOf xs (Ok made)) (m : Checker) where
    abbrev own_first : View → Judgement (Unit {0})
    own_first v = MeetsEach (own_in x.name v) Fine

    abbrev rest : View → Judgement (Program Note)
    rest v = Part (own_first v) (λ one. Gives (in_program x made.declarations v.later))

    same_rest : (ts : List Term) (q : Program Note) → MeetsEach ts (Gives q) ≡ Part (MeetsEach ts Fine) (λ one. Gives q)
    same_rest [] q = refl
    same_rest (t ∷ ts) q = ap (Meets t) (same_rest ts q)

    after_list : (r : Result (List (Declaration value_note.Note)) Refusal) → Answers (in_program x) whatever rest d l d m r → Fields d m r
    after_list r g =
        goes_on (in_program x) whatever list_in list_reached (listed_fields x.fields) behind c d d k l m made r (there (Ok made) h)
        (seen_as (in_program x) whatever (λ v. behind v (list_in made v.later)) rest d d l m r (λ later w. same_rest (own_in x.name (view later l.types.listed d)) (in_program x made.declarations later)) g)

    pub own_not_met : (e : Refusal) (r : Result (List (Declaration value_note.Note)) Refusal) → IsErr r × IsErrAnd r (λ y. y ≡ e) → Answers nothing no_more own_first d l d m (Err e) → Fields d m r
    own_not_met e r i g = after_list r (stops (in_program x) whatever nothing no_more own_first (λ v one. Gives (in_program x made.declarations v.later)) d d l m e r i g)

    pub all_there : Answers nothing no_more own_first d l d m (Ok tt) → Fields d m (Ok made.declarations)
    all_there g =
        after_list (Ok made.declarations)
        (goes_on (in_program x) whatever nothing no_more own_first (λ v one. Gives (in_program x made.declarations v.later)) d d d l m m tt (Ok made.declarations) g
        (given (in_program x) whatever (λ v. Gives (in_program x made.declarations v.later)) d m made.declarations g.outcome.sound tt (λ later w. refl)))

-- ---- by the rule of programs

-- the definitions are as they were
pub still_gathered : (j k : State) (p : Program ℕ) → Same j k → ((later : List Form) → Later j.forms later → rules_in later j.listed ≡ gathered p) → (later : List Form) → Later k.forms later → rules_in later k.listed ≡ gathered p
still_gathered j k p s g later w = ap (λ (y : Listed). rules_in later y) s.goes.listed ∙ g later (later_on j.forms k.forms later s.goes.forms w)

module _ (x : value.Program ℕ) (k l : Checker) (c d : Scopes) (forms : List Form) (ef : forms ≡ l.types.forms) (founded : Founded forms) (distinct : Distinct forms) (stands : Stands [] k.types)
    (g : (later : List Form) → Later k.types.forms later → rules_in later k.types.listed ≡ gathered (plain_program x))
    (e : (later : List Form) → Later k.types.forms later → context_in later c first_place ≡ first_context (plain_program x)) where
  last : Later l.types.forms l.types.forms
  last = record { grows = grows_not l.types.forms; founded = subst Founded ef founded; distinct = subst Distinct ef distinct }

  abbrev by_rules : Definitions → Context → List Term → Judgement (Program Note)
  by_rules defs context own = MeetsEach basics (Part (list_of defs context 0 false (seen_list x.fields) None) (λ q. MeetsEach own (Gives (made_program (plain_program x) q.1))))

  same : (later : List Form) → Later k.types.forms later → all_fields x (view later k.types.listed c) ≡ JudgeFieldsOf (plain_program x)
  same later w =
      ap (λ (defs : Definitions). by_rules defs (context_in later c first_place) (type_in later (found_type c.values x.name))) (g later w)
      ∙ ap (λ (q : Context). by_rules (gathered (plain_program x)) q (type_in later (found_type c.values x.name))) (e later w)
      ∙ ap (by_rules (gathered (plain_program x)) (first_context (plain_program x))) (own_seen later c.values x.name (actor_type (plain_program x)) (ap (λ (q : Context). q.values) (e later w)))

  as_gathered : Later k.types.forms l.types.forms → l.types.listed ≡ k.types.listed → rules_in l.types.forms l.types.listed ≡ gathered (plain_program x)
  as_gathered w q = ap (λ (y : Listed). rules_in l.types.forms y) q ∙ g l.types.forms w

  moved : Later k.types.forms l.types.forms → l.types.listed ≡ k.types.listed → (z : Answer (Program Note)) → Comes (rules_in l.types.forms l.types.listed) (all_fields x (view l.types.forms k.types.listed c)) [] z
      → Comes (gathered (plain_program x)) (JudgeFieldsOf (plain_program x)) [] z
  moved w q z h =
      subst (λ (y : Definitions). Comes y (JudgeFieldsOf (plain_program x)) [] z) (as_gathered w q)
      (subst (λ (y : Judgement (Program Note)). Comes (rules_in l.types.forms l.types.listed) y [] z) (same l.types.forms w) h)

  pub comes : (r : Result (List (Declaration value_note.Note)) Refusal) → Answers (in_program x) whatever (all_fields x) c k d l r → FieldsCome x l.types r
  comes (Ok made) h =
      let y = h.outcome.gave.by [] stands l.types.forms last in
      let w = later_on k.types.forms l.types.forms l.types.forms h.outcome.goes.forms last in record {
        met = y.0;
        comes = moved w h.outcome.goes.listed (answer (Ok (in_program x made l.types.forms)) y.0) y.2;
        stands = y.1;
        definitions = as_gathered w h.outcome.goes.listed;
      }
  comes (Err (refusal.False place q)) h =
      let y = h.outcome.names.by [] stands l.types.forms last in
      (y.0, moved (later_on k.types.forms l.types.forms l.types.forms h.outcome.left.forms last) h.outcome.left.listed (answer (Err (fault q place)) y.0) y.1)
  comes (Err refusal.Memory) h = tt

pub kept_of : (x : value.Program ℕ) (k l : Checker) (c d : Scopes) (r : Result (List (Declaration value_note.Note)) Refusal) → Answers (in_program x) whatever (all_fields x) c k d l r → OnOk r (Kept l.types)
kept_of x k l c d (Ok made) h = h.outcome.sound.known.kept
kept_of x k l c d (Err e) h = tt
