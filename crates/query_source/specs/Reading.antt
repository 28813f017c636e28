-- How a text is read from its front on.
use Rattle.std.specs.Prelude.{ℕ, List, [], ◌∷◌, ◌++◌, Bool, false, not, cond, codes}
use Rattle.query_source.specs.declared.query.Method.{Method}
use Rattle.query_source.specs.declared.token.Token.{Token}
use Rattle.query_source.specs.declared.token.Token.TheVariants.{Actor, Public, Query, Func, Async, Nat, OpenBrace, CloseBrace, OpenParenthesis, CloseParenthesis, Colon, Semicolon}
use Rattle.query_source.specs.Tokens.{is_blank, is_word_byte, Next, Reads, IsText}
use Rattle.query_source.specs.Words.{IsNumeral}
use Rattle.query_source.specs.Source.{IsMethod, AreMethods}

-- the text without the blanks at its begin
abbrev pub after_blanks : List ℕ → List ℕ
after_blanks [] = []
after_blanks (b ∷ bs) = cond (is_blank b) (after_blanks bs) (b ∷ bs)

-- the letters and digits at its begin, and what follows them
abbrev pub word_of : List ℕ → List ℕ
word_of [] = []
word_of (b ∷ bs) = cond (is_word_byte b) (b ∷ word_of bs) []

abbrev pub after_word : List ℕ → List ℕ
after_word [] = []
after_word (b ∷ bs) = cond (is_word_byte b) (after_word bs) (b ∷ bs)

-- It begins with a byte that is no blank.
abbrev pub is_solid : List ℕ → Bool
is_solid [] = false
is_solid (b ∷ bs) = not (is_blank b)

abbrev pub token_text : Token → List ℕ
token_text Actor = codes "actor"
token_text Public = codes "public"
token_text Query = codes "query"
token_text Func = codes "func"
token_text Async = codes "async"
token_text Nat = codes "Nat"
token_text OpenBrace = codes "{"
token_text CloseBrace = codes "}"
token_text OpenParenthesis = codes "("
token_text CloseParenthesis = codes ")"
token_text Colon = codes ":"
token_text Semicolon = codes ";"

-- The text goes on with digits that stand for the number, and then with the rest.
abbrev pub BeginsNumber : ℕ → List ℕ → List ℕ → Type 0
BeginsNumber number text rest = (digits : List ℕ) × IsNumeral digits number × Next digits text rest

-- The text goes on with the method, and then with the rest.
pub record BeginsMethod (method : Method) (text rest : List ℕ) : Type 0 where
  pub tokens : List (List ℕ)
  pub is_method : IsMethod method tokens
  pub reads : Reads tokens text rest

-- The text is the methods, the last brace and blanks.
pub record EndsMethods (methods : List Method) (text : List ℕ) : Type 0 where
  pub tokens : List (List ℕ)
  pub are_methods : AreMethods methods tokens
  pub spelled : IsText (tokens ++ codes "}" ∷ []) text
