-- Reading from left to right: a parser takes a value off the front of a list of tokens, or refuses. The steps that every rule is made of.
use Rattle.std.specs.Prelude.{◌≡◌, ◌≢◌, ℕ, zero, suc, Bool, true, false, if◌then◌else◌, List, [], ◌∷◌, ◌++◌, length, map, Option, Some, None, Result, Ok, Err}
use denote.Enum.Bare.{sameb}
use Rattle.mo_syntax.specs.declared.name.Name.{Name}
use Rattle.mo_syntax.specs.declared.text.Text.{Text}
use Rattle.mo_syntax.specs.declared.token.Token.{Token}
use Rattle.mo_syntax.specs.declared.token.TokenKind.{TokenKind}
use Rattle.mo_syntax.specs.declared.token.TokenKind.TheVariants as t
use Rattle.mo_syntax.specs.declared.word.Word.{Word}
use Rattle.mo_syntax.specs.declared.word.Word.TheVariants as w
use Rattle.mo_syntax.specs.declared.mark.Mark.{Mark}
use Rattle.mo_syntax.specs.declared.mark.Mark.TheVariants as m
use Rattle.mo_syntax.specs.declared.literal.Literal.{Literal}
use Rattle.mo_syntax.specs.declared.literal.Literal.TheVariants as lit
use Rattle.mo_syntax.specs.contracts.mark.Mark as a_mark
use Rattle.mo_syntax.specs.contracts.word.Word as a_word
use Rattle.mo_parser_base.specs.declared.look.Look.{Look}
use Rattle.mo_parser_base.specs.declared.look.Look.TheVariants as l
use Rattle.mo_parser_base.specs.declared.stop.Stop.{Stop}
use Rattle.mo_parser_base.specs.declared.stop.Stop.TheVariants as stops

abbrev pub Input : Type 0
Input = List TokenKind

abbrev pub Outcome : Type 0 → Type 0
Outcome A = Option (A × Input)

abbrev pub Parser : Type 0 → Type 0
Parser A = Input → Outcome A

-- what the tokens are, without their places but for those of names and texts
abbrev pub kinds : List Token → Input
kinds tokens = map (λ x. x.kind) tokens

abbrev pub and_then : {A B : Type 0} → Outcome A → (A → Parser B) → Outcome B
and_then (Some p) f = f p.0 p.1
and_then None f = None

infixl 10 ◌>>=◌
abbrev pub ◌>>=◌ : {A B : Type 0} → Parser A → (A → Parser B) → Parser B
p >>= f = λ i. and_then (p i) f

infixl 10 ◌>>◌
abbrev pub ◌>>◌ : {A B : Type 0} → Parser A → Parser B → Parser B
p >> q = p >>= (λ _. q)

abbrev pub pure : {A : Type 0} → A → Parser A
pure a = λ i. Some (a, i)

abbrev pub refuse : {A : Type 0} → Parser A
refuse = λ i. None

infixr 11 ◌<$>◌
abbrev pub ◌<$>◌ : {A B : Type 0} → (A → B) → Parser A → Parser B
f <$> p = p >>= (λ x. pure (f x))

-- one after the other
infixr 12 ◌&◌
abbrev pub ◌&◌ : {A B : Type 0} → Parser A → Parser B → Parser (A × B)
p & q = p >>= (λ x. q >>= (λ y. pure (x, y)))

-- ---- one token

abbrev pub look_of : TokenKind → Look
look_of (t.Identifier x) = l.Identifier
look_of (t.Number n) = l.Number
look_of (t.Character c) = l.Character
look_of (t.Text x) = l.Text
look_of (t.Reserved word) = l.Reserved word
look_of (t.Mark mark) = l.Mark mark

abbrev pub look : Input → Look
look [] = l.End
look (x ∷ i) = look_of x

abbrev pub next : Input → Input
next [] = []
next (x ∷ i) = i

abbrev pub peek : Parser Look
peek = λ i. Some (look i, i)

abbrev pub skip : Parser (Unit {0})
skip = λ i. Some (tt, next i)

-- `==`
unfoldable pub same_mark : Mark → Mark → Bool
same_mark = sameb a_mark.the_type

unfoldable pub same_word : Word → Word → Bool
same_word = sameb a_word.the_type

-- whether a token is this word or mark
abbrev pub is_sign : TokenKind → TokenKind → Bool
is_sign (t.Reserved a) (t.Reserved b) = same_word b a
is_sign (t.Mark a) (t.Mark b) = same_mark b a
is_sign _ _ = false

abbrev pub sees : TokenKind → Input → Bool
sees sign [] = false
sees sign (x ∷ i) = is_sign sign x

unfoldable pub after : TokenKind → Input → Input
after sign i = if sees sign i then next i else i

-- takes the word or mark, if it comes next
abbrev pub eat : TokenKind → Parser Bool
eat sign = λ i. Some (sees sign i, after sign i)

unfoldable pub expect : TokenKind → Parser (Unit {0})
expect sign = λ i. if sees sign i then Some (tt, next i) else None

unfoldable pub identifier : Parser Name
identifier (t.Identifier x ∷ i) = Some (x, i)
identifier i = None

-- `[id ":"]`
unfoldable pub label : Parser (Option Name)
label (t.Identifier x ∷ t.Mark m.Colon ∷ i) = Some (Some x, i)
label i = Some (None, i)

unfoldable pub number : Parser ℕ
number (t.Number n ∷ i) = Some (n, i)
number i = None

unfoldable pub text : Parser Text
text (t.Text x ∷ i) = Some (x, i)
text i = None

abbrev pub literal_of : TokenKind → Option Literal
literal_of (t.Number n) = Some (lit.Number n)
literal_of (t.Character c) = Some (lit.Character c)
literal_of (t.Text x) = Some (lit.Text x)
literal_of (t.Reserved w.True) = Some lit.True
literal_of (t.Reserved w.False) = Some lit.False
literal_of (t.Reserved w.Null) = Some lit.Null
literal_of _ = None

abbrev pub taken : {A : Type 0} → Option A → Parser A
taken (Some x) i = Some (x, i)
taken None i = None

unfoldable pub literal : Parser Literal
literal [] = None
literal (x ∷ i) = taken (literal_of x) i

-- What a function returned and left is what reading gives, unless there was no memory.
abbrev pub Reads : {A : Type 0} → Outcome A → Result A Stop → Input → Type 0
Reads outcome (Ok a) new = outcome ≡ Some (a, new)
Reads outcome (Err stop) new = stop ≢ stops.Memory → outcome ≡ None

-- ---- what rules are made of

infixr 13 ◌▸◌
abbrev pub ◌▸◌ : {A : Type 0} → TokenKind → Parser A → Parser A
sign ▸ p = expect sign >> p

infixl 13 ◌◂◌
abbrev pub ◌◂◌ : {A : Type 0} → Parser A → TokenKind → Parser A
p ◂ sign = p >>= (λ x. expect sign >> pure x)

-- what follows the word or mark, where that comes next
abbrev pub behind : {A : Type 0} → TokenKind → Parser A → Parser (Option A)
behind sign p = eat sign >>= (λ found. if found then Some <$> p else pure None)

abbrev pub comma : TokenKind
comma = t.Mark m.Comma

abbrev pub semicolon : TokenKind
semicolon = t.Mark m.Semicolon

abbrev pub brace : TokenKind
brace = t.Mark m.BraceClose

module _ {A : Type 0} (p : Parser A) where
  -- Items with `,` between them up to the closing mark, which is taken. The number bounds the turns, and the list has the items before.
  unfoldable pub commas_from : TokenKind → ℕ → List A → Parser (List A)
  commas_from close zero found = refuse
  commas_from close (suc n) found = do
    x ← p
    more ← eat comma
    if more then commas_from close n (found ++ x ∷ []) else (do expect close; pure (found ++ x ∷ []))

  unfoldable pub commas : TokenKind → Parser (List A)
  commas close = do
    is_empty ← eat close
    if is_empty then pure [] else (λ i. commas_from close (length i) [] i)

  -- Items with `;` between them up to the closing brace, which is taken, and whether a `;` ends them.
  unfoldable pub semicolons_from : ℕ → List A → Parser (List A × Bool)
  semicolons_from zero found = refuse
  semicolons_from (suc n) found = do
    x ← p
    more ← eat semicolon
    if more then (do is_last ← eat brace; if is_last then pure (found ++ x ∷ [], true) else semicolons_from n (found ++ x ∷ [])) else (do expect brace; pure (found ++ x ∷ [], false))

  unfoldable pub semicolons : Parser (List A × Bool)
  semicolons = do
    is_empty ← eat brace
    if is_empty then pure ([], false) else (λ i. semicolons_from (length i) [] i)

  -- the same where there is an item
  unfoldable pub some_semicolons : Parser (List A × Bool)
  some_semicolons = λ i. semicolons_from (length i) [] i
