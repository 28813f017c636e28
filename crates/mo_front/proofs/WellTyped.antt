-- The program of an accepted source is well typed.
use Rattle.std.proofs.Common.{◌≡◌, ℕ, List, Ok, Err, subst, sym}
use Rattle.std.specs.Prelude.{IfOk, Result}
use Rattle.mo_syntax.specs.declared.token.Token.{Token}
use Rattle.typed_tree.specs.declared.program.Program.{Program}
use Rattle.typed_tree.specs.WellTyped.{WellTyped}
use Rattle.accepted_programs.proofs.Programs.{programs_of_sources_are_well_typed}
use Rattle.mo_front.specs.declared.fault.FrontFault.{FrontFault}
use Rattle.mo_front.specs.Fronts.{AcceptedAreWellTyped, HasTokens}
use Rattle.mo_front.specs.Layers.{OfTokens}

pub accepted_well_typed : AcceptedAreWellTyped
accepted_well_typed source p h = programs_of_sources_are_well_typed source h.tokens h.tree p h.lexed.lexed h.parsed.spelled h.bound h.typed

-- so is what is given, if a program is, where these are the tokens
pub given_well_typed : (source : List ℕ) (tokens seen : List Token) (r : Result Program FrontFault) → seen ≡ tokens → HasTokens source tokens → OfTokens seen r → IfOk r WellTyped
given_well_typed source tokens seen (Ok p) e l (tree, t, b, i) =
    accepted_well_typed source p (record { tokens = seen; tree = tree; lexed = subst (λ (ts : List Token). HasTokens source ts) (sym e) l; parsed = t; bound = b; typed = i })
given_well_typed source tokens seen (Err f) e l h = tt
