-- The steps by which an operand that is a literal is judged.
use Rattle.std.specs.Prelude.{Bool, false, List}
use Rattle.type_terms.specs.declared.form.Form.{Form}
use Rattle.type_terms.specs.declared.form.TermId.{TermId}
use Rattle.typing_rules.specs.Terms.{Term}
use Rattle.typing_rules.specs.Judgements.{Judgement, Gives, Meets, If, AsksEither, IsBelow}
use Rattle.typing_rules.specs.Literals.{Written, own_type, has_own}
use Rattle.type_definitions.specs.Meanings.{term}
use Rattle.met_types.specs.States.{State}

-- whether one of both types is below the other
abbrev pub EitherBelow : Term → Term → Judgement Bool
EitherBelow t u = AsksEither (IsBelow t u) (IsBelow u t) (λ yes. Gives yes)

abbrev pub either_below : TermId → TermId → List Form → Judgement Bool
either_below a b later = EitherBelow (term later a) (term later b)

-- whether a literal has its own type beside one of type u
abbrev pub TakesOwn : Written → Term → Judgement Bool
TakesOwn l u = If (has_own l) (λ _. Meets (own_type l) (EitherBelow (own_type l) u)) (λ _. Gives false)

abbrev pub flag_in : Bool → List Form → Bool
flag_in b later = b

abbrev pub any_flag : State → Bool → Type 0
any_flag s b = Unit {0}
