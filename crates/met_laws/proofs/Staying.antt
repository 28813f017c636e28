-- What was met stays among the types that are met.
use Rattle.std.proofs.Common.{◌≡◌, inl, inr, ℕ, Bool, true, false, List, [], ◌∷◌, ◌++◌, None, Ok, Err, refl, sym, ap, subst}
use Rattle.std.specs.Prelude.{nat_le}
use Rattle.std.specs.Str.{chars, is_utf8}
use Rattle.mo_types.specs.Layout.{layout}
use Rattle.mo_types.specs.Sub.{Each}
use Rattle.mo_subtype.specs.Questions.{questions}
use Rattle.subtype_laws.specs.Reached.{Among}
use Rattle.typing_rules.specs.declared.condition.Condition.{Condition}
use Rattle.typing_rules.specs.declared.condition.Condition.TheVariants as condition
use Rattle.typing_rules.specs.AbstractSyntax.{Declarations, Program, TypeParameter}
use Rattle.typing_rules.specs.Answers.{Fault, Answer, answer, fault, Comes}
use Rattle.typing_rules.specs.Definitions.{Definitions}
use Rattle.typing_rules.specs.Gathered.{gathered}
use Rattle.typing_rules.specs.Heads.{head, members_head}
use Rattle.typing_rules.specs.Expressions.{JudgeOrder, JudgeBodies}
use Rattle.typing_rules.specs.Lists.{Listed}
use Rattle.typing_rules.specs.Judgements.{Judgement, Gives, Fails, Asks, Meets, MeetsEach, Part, Tests}
use Rattle.typing_rules.specs.Nodes.{nodes}
use Rattle.typing_rules.specs.Parted.{Parted}
use Rattle.typing_rules.specs.Programs.{Checks, JudgeFieldsOf, JudgeProgram, basics, first_context, made_program, own_types}
use Rattle.typing_rules.specs.Rows.{IsAnswer, accepted}
use Rattle.typing_rules.specs.Terms.{Term, Any}
use Rattle.typing_rules.specs.Terms as t
use Rattle.typing_rules.specs.TypedTrees.{Note}
use Rattle.typing_rules.specs.TypeScopes.{TypeScope}
use Rattle.typing_rules.specs.Types.{Generics, ReadsOr, ends}
use Rattle.typing_rules.proofs.Asked.{ask, fuel, says}
use Rattle.typing_rules.proofs.Closed.{few_are}
use Rattle.typing_rules.proofs.Confirmed.{all_answered, came}
use Rattle.typing_rules.proofs.Evaluated.{comes}
use Rattle.typing_rules.proofs.OneAnswer.{one}
use Rattle.typing_rules.proofs.Parts.{part_to}
use Rattle.met_laws.specs.Laws.{BasicsAreTypes, OwnTypesAreTypes, ParametersAreTypes, UnusedIsAType, unused}

apart : {A : Type 0} (a : A) (f : Fault) (ts us : List Term) → answer (Ok a) ts ≡ answer (Err f) us → ⊥
apart a f ts us e = let h : Ok a ≡ Err f = ap (λ z. z.is) e in cc

among_first : (u : Term) (ts us : List Term) → Among u ts → Among u (ts ++ us)
among_first u [] us m = absurd m
among_first u (v ∷ ts) us (inl e) = inl e
among_first u (v ∷ ts) us (inr m) = inr (among_first u ts us m)

among_last : (u : Term) (ts : List Term) → Among u (ts ++ u ∷ [])
among_last u [] = inl refl
among_last u (v ∷ ts) = inr (among_last u ts)

module _ (defs : Definitions) {A : Type 0} where
  stays : (j : Judgement A) (a : A) (met now : List Term) → Comes defs j met (answer (Ok a) now) → (u : Term) → Among u met → Among u now
  stays (Gives b) a met now h u m = subst (λ ts. Among u ts) (sym (ap (λ z. z.met) h)) m
  stays (Fails c place) a met now h u m = absurd (apart a (fault c place) now met h)
  stays (Asks q next) a met now (inl h) u m = stays (next true) a met now h.1 u m
  stays (Asks q next) a met now (inr h) u m = stays (next false) a met now h.1 u m
  stays (Meets v next) a met now (inl h) u m = stays next a (met ++ v ∷ []) now h.1 u (among_first u met (v ∷ []) m)
  stays (Meets v next) a met now (inr h) u m = absurd (apart a (fault condition.TooManyTypes 0) now (met ++ v ∷ []) h.1)

  -- what follows a condition that was tested
  tested : (c : Condition) (place : ℕ) (b : Bool) (j : Judgement A) (a : A) (met now : List Term) → Comes defs (Tests c place b j) met (answer (Ok a) now) → Comes defs j met (answer (Ok a) now)
  tested c place true j a met now h = h
  tested c place false j a met now h = absurd (apart a (fault c place) now met h)

  -- what follows a type that is met
  met_then : (u : Term) (j : Judgement A) (a : A) (met now : List Term) → Comes defs (Meets u j) met (answer (Ok a) now) → Comes defs j (met ++ u ∷ []) (answer (Ok a) now)
  met_then u j a met now (inl h) = h.1
  met_then u j a met now (inr h) = absurd (apart a (fault condition.TooManyTypes 0) now (met ++ u ∷ []) h.1)

  is_met : (u : Term) (j : Judgement A) (a : A) (met now : List Term) → Comes defs (Meets u j) met (answer (Ok a) now) → Among u now
  is_met u j a met now h = stays j a (met ++ u ∷ []) now (met_then u j a met now h) u (among_last u met)

  -- and of several types
  each_then : (us : List Term) (j : Judgement A) (a : A) (met now : List Term) → Comes defs (MeetsEach us j) met (answer (Ok a) now) → Each (λ u. Among u now) us × ((later : List Term) × Comes defs j later (answer (Ok a) now))
  each_then [] j a met now h = (tt, (met, h))
  each_then (u ∷ us) j a met now h =
      let r = each_then us j a (met ++ u ∷ []) now (met_then u (MeetsEach us j) a met now h) in
      ((is_met u (MeetsEach us j) a met now h, r.0), r.1)

-- what the list of a program's fields is judged to be
abbrev list_of_fields : Program ℕ → Judgement (Term × Declarations Note)
list_of_fields program =
    Listed (gathered program) (first_context program) program.fields
    (λ known. JudgeOrder (gathered program) known 0 false program.fields None None) (λ known made. JudgeBodies (gathered program) known program.fields made)

module _ (program : Program ℕ) (made : Program Note) (c : Checks program (Ok made)) where
  abbrev Behind : Term × Declarations Note → Judgement (Program Note)
  Behind q = MeetsEach (own_types program) (Gives (made_program program q.1))

  whole_met : Each (λ u. Among u c.met) basics × ((later : List Term) × Comes (gathered program) (Part (list_of_fields program) Behind) later (answer (Ok made) c.met))
  whole_met =
      let h = tested (gathered program) condition.TooManyNodes 0 (nat_le (nodes program) 50000) (JudgeFieldsOf program) made [] c.met c.by in
      each_then (gathered program) basics _ made [] c.met h

  behind_met : Parted (gathered program) (list_of_fields program) Behind whole_met.1.0 (answer (Ok made) c.met) → Each (λ u. Among u c.met) (own_types program)
  behind_met (inl x) = (each_then (gathered program) (own_types program) (Gives (made_program program x.0.1)) made x.1 c.met x.3).0
  behind_met (inr x) = let e : Ok made ≡ Err x.0 = x.2 in cc

  own_met : Each (λ u. Among u c.met) (own_types program)
  own_met = behind_met (part_to (gathered program) Behind (list_of_fields program) whole_met.1.0 (answer (Ok made) c.met) whole_met.1.1)

pub basics_are_met : BasicsAreTypes
basics_are_met program made c = (whole_met program made c).0

pub own_are_met : OwnTypesAreTypes
own_are_met program made c = own_met program made c

module _ (defs : Definitions) (s : TypeScope) where
  abbrev rest_of : TypeParameter → List TypeParameter → Term → Judgement (Unit {0})
  rest_of g gs u = Tests condition.BadDefinition g.name.at (ends defs g.name.at) (Meets (t.Parameter g.name.at) (Generics defs s gs))

  first_met : (g : TypeParameter) (gs : List TypeParameter) (met now : List Term)
      → ((later : List Term) → Comes defs (Generics defs s gs) later (answer (Ok tt) now) → Each (λ g. Among (t.Parameter g.name.at) now) gs)
      → Parted defs (ReadsOr defs s g.bound Any) (rest_of g gs) met (answer (Ok tt) now) → Each (λ g. Among (t.Parameter g.name.at) now) (g ∷ gs)
  first_met g gs met now rest (inl x) =
      let h = tested defs condition.BadDefinition g.name.at (ends defs g.name.at) (Meets (t.Parameter g.name.at) (Generics defs s gs)) tt (x.1) now (x.3) in
      (is_met defs (t.Parameter g.name.at) (Generics defs s gs) tt (x.1) now h, rest (x.1 ++ t.Parameter g.name.at ∷ []) (met_then defs (t.Parameter g.name.at) (Generics defs s gs) tt (x.1) now h))
  first_met g gs met now rest (inr x) = let e : Ok tt ≡ Err (x.0) = x.2 in cc

  each_met : (gs : List TypeParameter) (met now : List Term) → Comes defs (Generics defs s gs) met (answer (Ok tt) now) → Each (λ g. Among (t.Parameter g.name.at) now) gs
  each_met [] met now h = tt
  each_met (g ∷ gs) met now h =
      first_met g gs met now (λ later. each_met gs later now) (part_to defs (rest_of g gs) (ReadsOr defs s g.bound Any) met (answer (Ok tt) now) h)

pub parameters_are_met : ParametersAreTypes
parameters_are_met defs s gs met now h = each_met defs s gs met now h

-- ---- a row

pub unused_typed : IsAnswer unused None
unfolding head members_head questions chars is_utf8 layout lib.Utf8.encode
unused_typed = (all_answered (accepted unused ∷ []) refl refl).0

comes_so : Comes (gathered unused) (JudgeProgram unused) [] (came unused)
unfolding head members_head questions chars is_utf8 layout lib.Utf8.encode
comes_so = comes (ask (gathered unused)) (gathered unused) (says (gathered unused)) (JudgeProgram unused) [] refl (few_are (gathered unused) fuel (came unused).met refl)

met_there : Each (λ u. Among u (came unused).met) (t.Parameter 5 ∷ [])
unfolding head members_head questions chars is_utf8 layout lib.Utf8.encode
met_there = (inr (inr (inr (inl refl))), tt)

pub unused_is_met : UnusedIsAType
unused_is_met made c =
    subst (λ (z : Answer (Program Note)). Each (λ u. Among u z.met) (t.Parameter 5 ∷ []))
    (one (gathered unused) (JudgeProgram unused) [] (came unused) (answer (Ok made) c.met) comes_so c.by) met_there
