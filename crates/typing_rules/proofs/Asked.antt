-- What rules ask of types and texts, with the answers that are known.
use Rattle.std.proofs.Common.{◌≡◌, ℕ, Bool, true, false, Option, Some, None, refl}
use Rattle.subtype_laws.specs.Decided.{is_below}
use Rattle.typing_rules.specs.Definitions.{Definitions}
use Rattle.typing_rules.specs.Heads.{head}
use Rattle.typing_rules.specs.Judgements.{Question, IsBelow, IsShareable, IsComparable, IsPrincipal}
use Rattle.typing_rules.specs.SameTerms.{same}
use Rattle.typing_rules.specs.Answers.{Holds}
use Rattle.typing_rules.proofs.Decided.{surely_below, is_subtype, is_no_subtype, shares, surely_shareable, is_shareable, is_not_shareable, compares, surely_comparable, is_comparable, is_not_comparable}
use Rattle.typing_rules.proofs.SameTerms.{same_is}
use Rattle.typing_rules.proofs.PrincipalTexts.{Truth, known_texts, text_answer, answers_right}
use Rattle.typing_rules.proofs.Evaluated.{Says}

-- yes where the first is so, and no where the second is not
abbrev pub told : Bool → Bool → Option Bool
told true b = Some true
told false true = None
told false false = Some false

abbrev pub depth : ℕ
depth = 8

-- how many types, or pairs of types, are looked at
abbrev pub fuel : ℕ
fuel = 300

module _ (defs : Definitions) where
  abbrev pub ask : Question → Option Bool
  ask (IsBelow t u) = told (surely_below same (head defs) fuel t u) (is_below (head defs) depth t u)
  ask (IsShareable t) = told (surely_shareable (head defs) same fuel t) (shares (head defs) depth t)
  ask (IsComparable t) = told (surely_comparable (head defs) same fuel t) (compares (head defs) depth t)
  ask (IsPrincipal x) = text_answer known_texts x

  right : (P : Type 0) (x y : Bool) → (x ≡ true → P) → (y ≡ false → P → ⊥) → (b : Bool) → told x y ≡ Some b → Truth b P
  right P true y f g true e = f refl
  right P true y f g false e = cc
  right P false true f g b e = cc
  right P false false f g true e = cc
  right P false false f g false e = g refl

  pub says : Says defs (ask)
  says (IsBelow t u) b e = right (Holds defs (IsBelow t u)) _ _ (is_subtype same (head defs) same_is fuel t u) (is_no_subtype (head defs) depth t u) b e
  says (IsShareable t) b e = right (Holds defs (IsShareable t)) _ _ (is_shareable (head defs) same same_is fuel t) (is_not_shareable (head defs) depth t) b e
  says (IsComparable t) b e = right (Holds defs (IsComparable t)) _ _ (is_comparable (head defs) same same_is fuel t) (is_not_comparable (head defs) depth t) b e
  says (IsPrincipal x) b e = answers_right x b e
