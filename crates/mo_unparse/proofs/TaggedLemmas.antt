-- Writings in which each mark `#` of a tag has its identifier behind it, whatever such writing follows.
use Rattle.std.proofs.Common.{Bool, true, false, List, [], ◌∷◌, ◌++◌, Option, Some, None, sym, subst, append_assoc, map, option_map}
use Rattle.std.specs.List.{flat_map}
use Rattle.mo_syntax.specs.declared.name.Name.{Name}
use Rattle.mo_syntax.specs.declared.mark.Mark.{Mark}
use Rattle.mo_syntax.specs.declared.mark.Mark.TheVariants as m
use Rattle.mo_syntax.specs.declared.token.TokenKind.{TokenKind}
use Rattle.mo_syntax.specs.declared.token.TokenKind.TheVariants as t
use Rattle.mo_syntax.specs.declared.literal.Literal.{Literal}
use Rattle.mo_syntax.specs.declared.literal.Literal.TheVariants as lit
use Rattle.mo_syntax.specs.Writing.{Writing, marked, led, optional, separated, commas, semicolons, parens, brackets, braces, angles, literal_token}
use Rattle.mo_syntax.specs.Parts.{Each, Within, EachWithin}
use Rattle.mo_unparse.specs.Writable.{MarkGoesOn, GoesOn, AreTagged}

pub record Closed (xs : Writing) : Type 0 where
  pub keeps : (ys : Writing) → AreTagged ys → AreTagged (xs ++ ys)

-- a token that is no mark of a tag
abbrev pub PlainMark : Mark → Type 0
PlainMark m.Tag = ⊥
PlainMark _ = Unit {0}

abbrev pub PlainKind : TokenKind → Type 0
PlainKind (t.Mark mark) = PlainMark mark
PlainKind _ = Unit {0}

plain_mark : (mark : Mark) (kinds : Writing) → PlainMark mark → MarkGoesOn mark kinds
plain_mark m.Tag kinds h = absurd h
plain_mark _ kinds h = tt

plain_kind : (kind : TokenKind) (kinds : Writing) → PlainKind kind → GoesOn kind kinds
plain_kind (t.Mark mark) kinds h = plain_mark mark kinds h
plain_kind _ kinds h = tt

pub none : Closed []
none = record { keeps = λ ys h. h }

pub one : (kind : TokenKind) (xs : Writing) → PlainKind kind → Closed xs → Closed (kind ∷ xs)
one kind xs p c = record { keeps = λ ys h. (plain_kind kind (xs ++ ys) p, c.keeps ys h) }

pub tagged : (name : Name) (xs : Writing) → Closed xs → Closed (t.Mark m.Tag ∷ t.Identifier name ∷ xs)
tagged name xs c = record { keeps = λ ys h. (tt, (tt, c.keeps ys h)) }

pub both : (xs ys : Writing) → Closed xs → Closed ys → Closed (xs ++ ys)
both xs ys c d = record { keeps = λ zs h. subst AreTagged (sym (append_assoc xs ys zs)) (c.keeps (ys ++ zs) (d.keeps zs h)) }

pub if_marked : (b : Bool) (kind : TokenKind) → PlainKind kind → Closed (marked b kind)
if_marked true kind p = one kind [] p none
if_marked false kind p = none

pub if_led : (kind : TokenKind) (o : Option Writing) → PlainKind kind → Within Closed o → Closed (led kind o)
if_led kind None p c = none
if_led kind (Some x) p c = one kind x p c

pub if_some : (o : Option Writing) → Within Closed o → Closed (optional o)
if_some None c = none
if_some (Some x) c = c

behind : (kind : TokenKind) (xs : List Writing) → PlainKind kind → Each Closed xs → Closed (flat_map (λ y. kind ∷ y) xs)
behind kind [] p c = none
behind kind (x ∷ xs) p c = both (kind ∷ x) (flat_map (λ y. kind ∷ y) xs) (one kind x p c.0) (behind kind xs p c.1)

pub all_separated : (kind : TokenKind) (xs : List Writing) → PlainKind kind → Each Closed xs → Closed (separated kind xs)
all_separated kind [] p c = none
all_separated kind (x ∷ xs) p c = both x (flat_map (λ y. kind ∷ y) xs) c.0 (behind kind xs p c.1)

pub all_commas : (xs : List Writing) → Each Closed xs → Closed (commas xs)
all_commas xs c = all_separated (t.Mark m.Comma) xs tt c

pub all_semicolons : (xs : List Writing) (last : Bool) → Each Closed xs → Closed (semicolons xs last)
all_semicolons xs last c = both (separated (t.Mark m.Semicolon) xs) (marked last (t.Mark m.Semicolon)) (all_separated (t.Mark m.Semicolon) xs tt c) (if_marked last (t.Mark m.Semicolon) tt)

framed : (first last : TokenKind) (x : Writing) → PlainKind first → PlainKind last → Closed x → Closed (first ∷ x ++ last ∷ [])
framed first last x p q c = one first (x ++ last ∷ []) p (both x (last ∷ []) c (one last [] q none))

pub in_parens : (x : Writing) → Closed x → Closed (parens x)
in_parens x c = framed (t.Mark m.ParenOpen) (t.Mark m.ParenClose) x tt tt c

pub in_brackets : (x : Writing) → Closed x → Closed (brackets x)
in_brackets x c = framed (t.Mark m.BracketOpen) (t.Mark m.BracketClose) x tt tt c

pub in_braces : (x : Writing) → Closed x → Closed (braces x)
in_braces x c = framed (t.Mark m.BraceOpen) (t.Mark m.BraceClose) x tt tt c

pub in_angles : (o : Option (List Writing)) → EachWithin Closed o → Closed (angles o)
in_angles None c = none
in_angles (Some xs) c = framed (t.Mark m.AngleOpen) (t.Mark m.AngleClose) (commas xs) tt tt (all_commas xs c)

pub a_literal : (literal : Literal) → Closed (literal_token literal ∷ [])
a_literal (lit.Number n) = one (t.Number n) [] tt none
a_literal (lit.Character c) = one (t.Character c) [] tt none
a_literal (lit.Text text) = one (t.Text text) [] tt none
a_literal lit.True = one (literal_token lit.True) [] tt none
a_literal lit.False = one (literal_token lit.False) [] tt none
a_literal lit.Null = one (literal_token lit.Null) [] tt none

-- ---- what is mapped

pub each_mapped : {A : Type 0} (f : A → Writing) (xs : List A) → Each (λ x. Closed (f x)) xs → Each Closed (map f xs)
each_mapped f [] c = tt
each_mapped f (x ∷ xs) c = (c.0, each_mapped f xs c.1)

pub within_mapped : {A : Type 0} (f : A → Writing) (o : Option A) → Within (λ x. Closed (f x)) o → Within Closed (option_map f o)
within_mapped f None c = tt
within_mapped f (Some x) c = c

pub each_within_mapped : {A : Type 0} (f : A → Writing) (o : Option (List A)) → EachWithin (λ x. Closed (f x)) o → EachWithin Closed (option_map (map f) o)
each_within_mapped f None c = tt
each_within_mapped f (Some xs) c = each_mapped f xs c

-- what holds of each tree
pub each_of : {A : Type 0} (P : A → Type 0) → ((x : A) → P x) → (xs : List A) → Each P xs
each_of P h [] = tt
each_of P h (x ∷ xs) = (h x, each_of P h xs)

pub within_of : {A : Type 0} (P : A → Type 0) → ((x : A) → P x) → (o : Option A) → Within P o
within_of P h None = tt
within_of P h (Some x) = h x

pub each_within_of : {A : Type 0} (P : A → Type 0) → ((x : A) → P x) → (o : Option (List A)) → EachWithin P o
each_within_of P h None = tt
each_within_of P h (Some xs) = each_of P h xs
